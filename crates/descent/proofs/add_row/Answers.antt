-- First that the column attains the largest sum, then that the image keeps to the zone.
use Prim.Native.Nat.{ℕ}
use mathlib.Core.Path.{refl}
use mathlib.Core.Bool.{true}
use mathlib.Core.List.{List}
use lib.IntN.{ℤ}
use Rattle.model.specs.Network.{Time}
use Rattle.model.proofs.Selections.{chosen_at}
use Rattle.decisions.specs.Decide.{lead, attains_first, first_constraints}
use Rattle.decisions.proofs.FirstColumn.{first_fits}
use Rattle.memory.specs.Wide.{bounds_in, times_in, Stored}
use Rattle.memory.proofs.Toward.{Toward, Parts, toward_start, first_of}
use Rattle.memory.proofs.Leaving.{given_up, onward, at_last}
use Rattle.zones.specs.declared.Choice.{Choice}
use Rattle.zones.specs.declared.Target.{Target}
use Rattle.zones.specs.Inner.{Adding, led, attains_by, images}
use Rattle.descent.specs.Rows.{added_by, RowReady}
use Rattle.descent.proofs.add_row.Goals as goal

module _ {t : Target ℤ} {part : List ℤ} {cols : List ℕ} {c : Choice} (r : RowReady t part cols c) where
  abbrev a : List Time
  a = times_in t.times.now

  adds : Adding t.n t.times.now a c.row c.column
  adds = record { table = t.times_in; row = r.to_n; column = chosen_at r.from_one r.column }

  whole : Toward t.n Stored (bounds_in part) (added_by t cols c) (bounds_in part) (added_by t cols c)
  whole = toward_start (record {
    few = t.zone_in.few;
    closed = r.set;
    fits = first_fits t.n a (bounds_in t.zone.now) cols c.row c.column r.columns adds.column;
    fitting = r.fitting;
  }) refl

  two : Parts (added_by t cols c) (attains_by true t.n a c.row c.column) (images t.n a (bounds_in t.zone.now) cols c.row c.column)
  unfolding first_constraints attains_first lead led
  two = record { is = refl }

pub attain-requires : goal.attain-requires
attain-requires c = let r = c.requires in record { taking = first_of (two r) (whole r); adds = adds r; from_one = r.from_one }

pub keep_images-requires : goal.keep_images-requires
keep_images-requires c =
    let r = c.requires in
    let attained = onward (two r) (whole r) c.attain.ensures c.if-attain.true in
    record { taking = attained.taking; adds = adds r; cols_size = r.cols_size; columns = r.columns }

pub returns-then-attain : goal.returns-then-attain
returns-then-attain c =
    let r = c.requires in
    at_last (onward (two r) (whole r) c.attain.ensures c.if-attain.true) c.keep_images.ensures

pub returns-else-attain : goal.returns-else-attain
returns-else-attain c =
    let r = c.requires in
    rw c.if-attain.false (given_up (two r) (whole r) c.attain.ensures c.if-attain.false)
