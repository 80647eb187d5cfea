-- The limit is that of the definition, where there is one.
use native.Mathlib.Omega.{arith}
use Prim.Native.Nat.{ℕ, suc, ◌+◌}
use mathlib.Core.Path.{◌≡◌, refl, sym, ap, ap₂, ◌∙◌}
use mathlib.Core.List.{List}
use lib.IntN.{◌-ℤ◌}
use Rattle.ints.specs.declared.Seconds.{Seconds}
use Rattle.model.specs.Bound.{most, plus}
use Rattle.model.specs.Matrix.{Matrix, entry, constrain, within}
use Rattle.model.specs.Network.{Time}
use Rattle.model.specs.Search.{chosen, keeps}
use Rattle.model.specs.Conditions.{Small, sized}
use Rattle.model.proofs.Size.{small_mono, small_sum, minus_small}
use Rattle.memory.specs.declared.Number.{Number}
use Rattle.memory.specs.Numbers.{as_bound}
use Rattle.memory.specs.Conditions.{ReadWithin}
use Rattle.memory.specs.Matrices.{kept}
use Rattle.memory.proofs.Numbers.{blank_is}
use Rattle.zones.specs.declared.Choice.{Choice}
use Rattle.zones.specs.Inner.{AddedWithin}
use Rattle.zones.proofs.keep_one.Goals as goal

pub returns-then-is_none : goal.returns-then-is_none
unfolding keeps plus constrain within
returns-then-is_none g c =
    let e = sym c.bound_at-near.ensures.is ∙ blank_is c.bound_at-near.result c.if-is_none.true c.is_none.ensures in
    rw e (kept refl)

-- what is near, what is added in the two rows, how far that is apart, and the limit
module _ {S n : ℕ} {a : List Time} (d : Matrix) {c e : Choice} {near : Number} (apart : Number) {added other : Seconds}
    (q : ReadWithin S (entry (suc n) d c.row e.row) near) (p : AddedWithin S n a e.row e.column added) (r : AddedWithin S n a c.row c.column other)
    (by : as_bound apart ≡ most (added.0 -ℤ other.0)) where
  small : Small (S + (S + S)) (plus (as_bound near) (as_bound apart))
  small = rw by (small_sum {C = S + S} q.small (sized (minus_small added.0 other.0 p.small r.small)))

  limit_is : plus (as_bound near) (as_bound apart) ≡ plus (entry (suc n) d c.row e.row) (most (chosen n a e.row e.column -ℤ chosen n a c.row c.column))
  limit_is = ap₂ plus q.is (by ∙ ap most (ap₂ ◌-ℤ◌ p.is r.is))

pub add-requires : goal.add-requires
add-requires g c =
    small_mono (omega (arith, g.met.T.Stored.room))
    (small _ c.difference-apart.result c.bound_at-near.ensures c.chosen.ensures c.chosen-2.ensures c.difference-apart.ensures)

pub take_in-requires : goal.take_in-requires
unfolding keeps
take_in-requires g c =
    let s = small _ c.difference-apart.result c.bound_at-near.ensures c.chosen.ensures c.chosen-2.ensures c.difference-apart.ensures in
    let e = limit_is _ c.difference-apart.result c.bound_at-near.ensures c.chosen.ensures c.chosen-2.ensures c.difference-apart.ensures in
    record { taking = rw (c.add.ensures ∙ e) c.requires.taking; small = rw c.add.ensures (small_mono (omega (arith, g.met.T.Stored.room)) s) }

pub returns : goal.returns
unfolding keeps
returns g c =
    let e = limit_is _ c.difference-apart.result c.bound_at-near.ensures c.chosen.ensures c.chosen-2.ensures c.difference-apart.ensures in
    rw (c.add.ensures ∙ e) at c.take_in.ensures
