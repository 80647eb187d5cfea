-- First that the column attains the largest sum, then that the image keeps to the zone.
use Prim.Native.Nat.{ℕ}
use mathlib.Core.Path.{refl}
use mathlib.Core.Bool.{false}
use mathlib.Core.List.{List}
use Rattle.model.specs.Matrix.{Matrix}
use Rattle.model.specs.Network.{Time}
use Rattle.model.specs.Search.{attains, row_constraints}
use Rattle.model.proofs.Selections.{chosen_at}
use Rattle.model.proofs.Rows.{of_row}
use Rattle.model.proofs.Preimage.{row_fits}
use Rattle.memory.specs.Conditions.{TableIn}
use Rattle.memory.proofs.Toward.{Toward, Parts, toward_start, first_of}
use Rattle.memory.proofs.Leaving.{given_up, onward, at_last}
use Rattle.zones.specs.Conditions.{RowsReady}
use Rattle.zones.specs.Inner.{Adding, led, attains_by, images}
use Rattle.zones.proofs.add_row.Goals as goal

module _ {X : Type 0} {L n : ℕ} {part : List X} {p d : Matrix} {a : List Time} {cols : List ℕ} {i s : ℕ}
    (r : RowsReady L n part p a d cols i s) where
  adds : {times : List X} → TableIn n times → Adding n times a i s
  adds table = record { table = table; row = r.to_n; column = chosen_at r.from_one r.column }

  whole : Toward n L p (row_constraints n a d cols i s) p (row_constraints n a d cols i s)
  whole = toward_start (record {
    few = r.set.zone.few;
    closed = r.set.closed;
    fits = of_row _ n a d cols i s (row_fits n a d r.columns (chosen_at r.from_one r.column));
    fitting = r.fitting;
  }) refl

  two : Parts (row_constraints n a d cols i s) (attains_by false n a i s) (images n a d cols i s)
  unfolding row_constraints attains led
  two = record { is = refl }

pub attain-requires : goal.attain-requires
attain-requires g c = let r = c.requires in record { taking = first_of (two r) (whole r); adds = adds r c.args.target.times_in; from_one = r.from_one }

pub keep_images-requires : goal.keep_images-requires
keep_images-requires g c =
    let r = c.requires in
    let attained = onward (two r) (whole r) c.attain.ensures c.if-attain.true in
    record { taking = attained.taking; adds = adds r c.args.target.times_in; cols_size = r.cols_size; columns = r.columns }

pub returns-then-attain : goal.returns-then-attain
returns-then-attain g c =
    let r = c.requires in
    at_last (onward (two r) (whole r) c.attain.ensures c.if-attain.true) c.keep_images.ensures

pub returns-else-attain : goal.returns-else-attain
returns-else-attain g c =
    let r = c.requires in
    rw c.if-attain.false (given_up (two r) (whole r) c.attain.ensures c.if-attain.false)
