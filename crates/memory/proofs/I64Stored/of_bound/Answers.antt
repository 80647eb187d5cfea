-- The halves of a bound within the limit are not large.
use native.Mathlib.Omega.{arith}
use mathlib.Core.Path.{◌≡◌, refl}
use lib.IntN.{ℤ, nat_abs}
use mir.Syntax.{w64}
use mir.Val.{of_z, to_z}
use mir.ValLaws.{to_z-of_z}
use borrow.Author.Tests.{le-ltb}
use Prim.Native.Nat.{◌≤◌}
use Rattle.ints.proofs.Integers.{fits, ints, abs_ud}
use Rattle.model.specs.Conditions.{Small}
use Rattle.memory.specs.Numbers.{of_halves}
use Rattle.memory.specs.Wide.{bound_in, Stored, Largest}
use Rattle.memory.proofs.InHalves.{halves_size}
use Rattle.memory.proofs.I64Stored.of_bound.Goals as goal

stored : (z : ℤ) → Small Stored (of_halves z) → bound_in (to_z w64 (of_z w64 z)) ≡ of_halves z
unfolding bound_in
stored z s =
    let size : nat_abs z ≤ Largest = omega (ints, halves_size z s, abs_ud z) in
    rw (to_z-of_z w64 z (fits (omega (arith, halves_size z s))), le-ltb Largest (nat_abs z) size)

pub returns-in-None : goal.returns-in-None
unfolding bound_in
returns-in-None c = rw c.in-None.is refl

pub returns-in-Some : goal.returns-in-Some
returns-in-Some c = rw c.in-Some.is (stored c.in-Some.c.0 (rw c.in-Some.is at c.requires))
