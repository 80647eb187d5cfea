-- Where the number of row b stands for none, nothing follows; else the sum is that of the definition, in 32 bits or in 64.
use Prim.Native.Nat.{◌≤◌}
use native.Mathlib.Omega.{arith}
use mathlib.Core.Path.{◌≡◌, sym, ap, ◌∙◌}
use mathlib.Core.Bool.{Bool, true}
use lib.IntN.{ℤ, nat_abs}
use mir.Syntax.{w32, w64}
use mir.Val.{SFits, to_z, of_z}
use mir.ValLaws.{to_z-of_z}
use Rattle.ints.proofs.Integers.{sized_fits}
use Rattle.model.specs.Bound.{any, plus, tighter}
use Rattle.model.specs.Conditions.{Small}
use Rattle.model.proofs.Bounds.{plus_none, tighter_of_le}
use Rattle.model.proofs.Size.{small_mono, small_sum}
use Rattle.memory.specs.Numbers.{of_halves, bound_in, none_in, Limit}
use Rattle.memory.proofs.InHalves.{not_none, size_halves}
use Rattle.memory.proofs.Numbers.{test_none, test_other, small_read, widened}
use Rattle.zones.specs.Inner.{narrow_most, EntryReady}
use Rattle.zones.proofs.Step.{read_wide}
use Rattle.zones.proofs.relaxed.Goals as goal

pub returns-then-rest-eq-NONE : goal.returns-then-rest-eq-NONE
unfolding bound_in
returns-then-rest-eq-NONE c =
    rw (to_z-of_z w32 c.args.old c.ranges.old, test_none c.args.rest c.ranges.rest c.if-rest-eq-NONE.true, plus_none (of_halves c.args.way.0))
    (sym (tighter_of_le any))

-- the number of row b is a bound
module _ {old rest way : ℤ} {narrow : Bool} (r : EntryReady old rest way narrow) (other : of_z w32 rest ≡ none_in → ⊥) where
  bound : bound_in rest ≡ of_halves rest
  unfolding bound_in
  bound = rw (test_other rest other)

  new_small : Small Limit (tighter (bound_in old) (plus (of_halves way) (bound_in rest)))
  new_small = r.new_small (λ e. not_none _ (sym bound ∙ e))

  -- the way and that number are narrow
  module _ (n : narrow ≡ true) where
    both : (nat_abs way ≤ narrow_most) × (nat_abs rest ≤ narrow_most)
    both = let h = r.narrow_sum n in (h.0, h.1 (λ e. other (ap (of_z w32) e)))

    way_fits : SFits w32 way
    way_fits = sized_fits _ (let h = both.0 in omega arith)

    way_told : to_z w64 (of_z w64 way) ≡ way
    way_told = to_z-of_z w64 _ (widened way way_fits)

  module _ (f : SFits w32 rest) where
    -- the sum in 32 bits
    narrow_is : narrow ≡ true → (sum : ℤ)
        → of_halves sum ≡ plus (of_halves (to_z w32 (of_z w32 (to_z w64 (of_z w64 way))))) (of_halves (to_z w32 (of_z w32 rest)))
        → of_halves sum ≡ plus (of_halves way) (bound_in rest)
    narrow_is n sum e = rw bound (rw (way_told n, to_z-of_z w32 way (way_fits n), to_z-of_z w32 rest f) at e)

    -- in 64
    wide_is : (sum : ℤ) → of_halves sum ≡ plus (of_halves way) (of_halves (to_z w64 (of_z w64 (to_z w32 (of_z w32 rest)))))
        → of_halves sum ≡ plus (of_halves way) (bound_in rest)
    wide_is sum e = rw bound (rw (read_wide rest f) at e)

pub tighter-requires : goal.tighter-requires
tighter-requires c =
    let r = c.requires in
    let other = c.if-rest-eq-NONE.false in
    let fits : SFits w32 c.narrow_sum-sum.result = record { sfits = c.narrow_sum-sum.type_inv } in
    rw (to_z-of_z w32 c.args.old c.ranges.old, read_wide _ fits, narrow_is r other c.ranges.rest c.if-narrow.true _ c.narrow_sum-sum.ensures)
    (new_small r other)

pub returns-then-narrow : goal.returns-then-narrow
returns-then-narrow c =
    let fits : SFits w32 c.narrow_sum-sum.result = record { sfits = c.narrow_sum-sum.type_inv } in
    let sum = narrow_is c.requires c.if-rest-eq-NONE.false c.ranges.rest c.if-narrow.true _ c.narrow_sum-sum.ensures in
    rw (to_z-of_z w32 _ (record { sfits = c.tighter.type_inv })) (rw (to_z-of_z w32 c.args.old c.ranges.old, read_wide _ fits, sum) at c.tighter.ensures)

pub add-requires : goal.add-requires
add-requires c =
    let z = c.args.rest in
    rw (read_wide z c.ranges.rest) (small_mono (omega arith) (small_sum c.requires.way_small (size_halves z (small_read z c.ranges.rest))))

pub tighter-requires-2 : goal.tighter-requires-2
tighter-requires-2 c =
    let r = c.requires in
    let other = c.if-rest-eq-NONE.false in
    rw (to_z-of_z w32 c.args.old c.ranges.old, wide_is r other c.ranges.rest _ c.add.ensures) (new_small r other)

pub returns : goal.returns
returns c =
    let sum = wide_is c.requires c.if-rest-eq-NONE.false c.ranges.rest _ c.add.ensures in
    rw (to_z-of_z w32 _ (record { sfits = c.tighter-2.type_inv })) (rw (to_z-of_z w32 c.args.old c.ranges.old, sum) at c.tighter-2.ensures)
