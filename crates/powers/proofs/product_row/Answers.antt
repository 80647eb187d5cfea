-- Entry by entry.
use borrow.Author.Rules.{rules}
use native.Mathlib.Omega.{arith}
use native.Mathlib.Nat.{add-mul, mul-le-mul_right}
use Prim.Native.Nat.{◌+◌, ◌*◌, ◌≤◌}
use mathlib.Core.Path.{refl, sym, ap, ◌∙◌}
use lib.Arith.{digits_lt}
use lib.ListN.{drop, length-set, length-drop}
use lib.Seq.{get_or-drop, take-set-le}
use mir.Syntax.{w32}
use mir.Val.{SFits}
use mir.ValLaws.{to_z-of_z}
use Rattle.model.specs.Sizes.{table_size}
use Rattle.model.specs.Network as network
use Rattle.model.proofs.Powers.{length_product}
use Rattle.memory.specs.Numbers.{time_in, times_in}
use Rattle.powers.specs.Readings.{table_at}
use Rattle.powers.proofs.Places.{lent_same, next_entry}
use Rattle.powers.proofs.product_row.Goals as goal

pub loop-j-init : goal.loop-j-init
unfolding times_in
loop-j-init c = (refl, refl, refl)

pub entry-requires : goal.entry-requires
entry-requires c =
    let a = c.args in
    let size = table_size a.n in
    let (p, front, long) = c.loop-j.invariant in
    let room = c.requires.0.room.inside in
    let e = add-mul a.r 1 size in
    let few : a.i ≤ a.n = omega (arith, c.requires.1) in
    let rows = mul-le-mul_right a.n few in
    rw (lent_same a.n a.r (a.r * size + size + a.i * a.n) c.loop-j.powers a.powers.now front long (omega arith) (omega arith))
    (record { factors = c.requires.0.factors; row = c.requires.1; column = c.loop-j-test.true })

pub loop-j-preserved : goal.loop-j-preserved
loop-j-preserved c =
    let a = c.args in
    let size = table_size a.n in
    let at = a.r * size + size + a.i * a.n in
    let table = network.product a.n (times_in a.times.now) (table_at a.n a.powers.now a.r) in
    let l = c.loop-j in
    let (p, front, long) = l.invariant in
    let room = c.requires.0.room.inside in
    let e = add-mul a.r 1 size in
    let inside = digits_lt c.requires.1 c.loop-j-test.true in
    let same = lent_same a.n a.r at l.powers a.powers.now front long (omega arith) (omega arith) in
    let entry_fits : SFits w32 c.entry.result = search rules in
    let is = ap time_in (to_z-of_z w32 _ entry_fits) ∙ (rw same at c.entry.ensures) ∙ sym (get_or-drop (a.i * a.n) table l.j _) in (
      next_entry at l.j l.powers (drop (a.i * a.n) table) _ (omega arith)
          (omega (arith, length-drop (a.i * a.n) table, length_product a.n (times_in a.times.now) (table_at a.n a.powers.now a.r))) is p,
      take-set-le at l.powers (at + l.j) _ (omega arith) ∙ front,
      length-set l.powers (at + l.j) _ ∙ long,
    )
