-- By the number.
use native.Mathlib.Omega.{arith}
use native.Mathlib.Nat.{mul-le-mul_left}
use Prim.Native.Nat.{ℕ, suc, ◌≤◌}
use mathlib.Core.Path.{◌≡◌, sym, ◌∙◌}
use lib.IntN.{ℤ}
use mir.Syntax.{w32, w64}
use mir.ValLaws.{to_z-of_z}
use Rattle.model.specs.Sizes.{most_departures}
use Rattle.model.specs.Bound.{most, scale, whole}
use Rattle.model.specs.Conditions.{Small}
use Rattle.model.proofs.Size.{small_mono, small_size}
use Rattle.model.proofs.Runs.{small_scale, small_whole}
use Rattle.memory.specs.Numbers.{of_halves, InMemory}
use Rattle.starts.specs.Numbers.{bound_in, Stored}
use Rattle.starts.proofs.part_of.Goals as goal

-- it is small in parts too
small : {parts : ℕ} (z : ℤ) {y : ℤ} → parts ≤ suc most_departures → most y ≡ whole (scale parts (of_halves z))
    → Small InMemory (of_halves z) → Small Stored (most y)
small {parts} z few e s = rw e (small_mono (omega (arith, mul-le-mul_left InMemory few)) (small_whole (small_scale parts s)))

pub returns-in_default : goal.returns-in_default
unfolding bound_in scale whole
returns-in_default c =
    let read = rw (to_z-of_z w32 c.args.raw c.ranges.raw) at c.bound.ensures.is in
    rw (sym read, c.in_default.is)

pub upto-requires : goal.upto-requires
upto-requires c =
    let h = small_size (small c.in-Some.halves.0 c.requires c.part.ensures (rw c.in-Some.is at c.bound.ensures.small)) in
    omega arith

pub of_bound-requires : goal.of_bound-requires
of_bound-requires c = rw c.upto.ensures (small c.in-Some.halves.0 c.requires c.part.ensures (rw c.in-Some.is at c.bound.ensures.small))

pub returns : goal.returns
returns c =
    let read = rw (to_z-of_z w32 c.args.raw c.ranges.raw) at c.bound.ensures.is in
    rw (to_z-of_z w64 c.of_bound.result (record { sfits = c.of_bound.type_inv }), sym read, c.in-Some.is)
    (c.of_bound.ensures ∙ c.upto.ensures ∙ c.part.ensures)
