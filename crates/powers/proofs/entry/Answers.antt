-- The sums are small, and each is the next of the definition.
use borrow.Author.Rules.{rules}
use native.Mathlib.Omega.{arith}
use Prim.Native.Nat.{◌+◌, ◌*◌}
use mathlib.Core.Path.{◌≡◌, refl, sym, ap₂, ◌∙◌}
use lib.IntN.{pos}
use lib.ListN.{get_or}
use mir.Syntax.{w32}
use mir.Val.{SFits}
use mir.ValLaws.{to_z-of_z}
use Rattle.ints.proofs.Integers.{sized_fits}
use Rattle.model.specs.Lists.{tabulate}
use Rattle.model.specs.Network.{blank, latest, later, product}
use Rattle.model.specs.Faults.{time_of}
use Rattle.model.proofs.Places.{time_at}
use Rattle.model.proofs.Powers.{time_product}
use Rattle.model.proofs.Sums.{latest_of_more}
use Rattle.memory.specs.Numbers.{times_in}
use Rattle.powers.proofs.Bounded.{sum_small, product_entry}
use Rattle.powers.proofs.Places.{entry_inside}
use Rattle.powers.proofs.Times.{read}
use Rattle.powers.proofs.entry.Goals as goal

pub loop-l-init : goal.loop-l-init
unfolding time_of latest tabulate
loop-l-init c = refl

-- the two entries that are read
first_is : (c : goal.After-time-in-loop-l) → let a = c.args in time_of c.time.result ≡ get_or (times_in a.first.now) (a.i * a.n + c.loop-l.l) blank
first_is c =
    let a = c.args in
    let p = a.i * a.n + c.loop-l.l in
    let first_fits : SFits w32 (get_or a.first.now p (pos 0)) = search rules in
    c.time.ensures.is ∙ read a.first.now p (entry_inside c.requires.factors.first_in c.requires.row c.loop-l-test.true) first_fits

second_is : (c : goal.After-time-in-loop-l) → let a = c.args in time_of c.time-in-loop-l.result ≡ get_or (times_in a.second.now) (c.loop-l.l * a.n + a.j) blank
second_is c =
    let a = c.args in
    let q = c.loop-l.l * a.n + a.j in
    let second_fits : SFits w32 (get_or a.second.now q (pos 0)) = search rules in
    c.time-in-loop-l.ensures.is ∙ read a.second.now q (entry_inside c.requires.factors.second_in c.loop-l-test.true c.requires.column) second_fits

pub later_sum-latest-requires : goal.later_sum-latest-requires
later_sum-latest-requires c =
    let a = c.args in
    let f = c.requires.factors in
    rw (first_is c, second_is c) (sized_fits _ (omega (arith, sum_small f.first_small f.second_small (a.i * a.n + c.loop-l.l) (c.loop-l.l * a.n + a.j))))

pub loop-l-preserved : goal.loop-l-preserved
loop-l-preserved c =
    let a = c.args in
    let l = c.loop-l.l in
    let looked = rw (
      first_is c.before,
      second_is c.before,
      ← time_at a.n (times_in a.first.now) a.i l,
      ← time_at a.n (times_in a.second.now) l a.j,
    ) at c.later_sum-latest.ensures in
    looked ∙ ap₂ later c.loop-l.invariant refl ∙ sym (latest_of_more l _)

-- the last is the entry of the product
entry_is : (c : goal.After-loop-l) → let a = c.args in
    time_of c.loop-l.latest ≡ get_or (product a.n (times_in a.first.now) (times_in a.second.now)) (a.i * a.n + a.j) blank
entry_is c =
    let l = c.loop-l in
    let a = c.args in
    let e : l.l ≡ a.n = omega arith in
    (rw e at l.invariant)
    ∙ sym (time_product a.n _ _ (a.i + 1) (a.j + 1) (omega arith) (omega arith) (omega arith) (omega arith))
    ∙ time_at a.n _ a.i a.j

pub raw_time-requires : goal.raw_time-requires
raw_time-requires c =
    let a = c.args in
    let f = c.requires.factors in
    rw (entry_is c) (product_entry a.n f.first_small f.second_small (a.i * a.n + a.j))

pub returns : goal.returns
returns c =
    let result_fits : SFits w32 c.raw_time.result = search rules in
    rw (to_z-of_z w32 _ result_fits) (c.raw_time.ensures ∙ entry_is c.before)
