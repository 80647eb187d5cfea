-- The halves of a bound within the limit fit an i32 and do not stand for none.
use native.Mathlib.Omega.{arith}
use mathlib.Core.Path.{◌≡◌, refl}
use lib.IntN.{ℤ}
use mir.Syntax.{w32, w64}
use mir.Val.{SFits, of_z, to_z}
use mir.ValLaws.{to_z-of_z}
use Rattle.ints.proofs.Integers.{fits}
use Rattle.model.specs.Bound.{same_z}
use Rattle.model.specs.Conditions.{Small}
use Rattle.memory.specs.Numbers.{of_halves, bound_in, Limit}
use Rattle.memory.proofs.InHalves.{halves_size}
use Rattle.memory.proofs.Numbers.{bound_stored, narrow}
use Rattle.memory.proofs.I32Stored.of_bound.Goals as goal

module _ (z : ℤ) (s : Small Limit (of_halves z)) where
  fits_narrow : SFits w32 z
  fits_narrow = narrow z (omega (arith, halves_size z s)) (omega (arith, halves_size z s))

  -- the number is read back from its bits
  back : to_z w64 (of_z w64 z) ≡ z
  back = to_z-of_z w64 z (fits (omega (arith, halves_size z s)))

  stored : bound_in (to_z w32 (of_z w32 (to_z w64 (of_z w64 z)))) ≡ of_halves z
  stored = rw (back, to_z-of_z w32 z fits_narrow) (bound_stored z (omega (arith, halves_size z s)))

pub overflow_cast-result : goal.overflow_cast-result
overflow_cast-result c = let s = rw c.in-Some.is at c.requires in rw (back c.in-Some.c.0 s) (fits_narrow c.in-Some.c.0 s)

pub returns-in-None : goal.returns-in-None
unfolding bound_in same_z
returns-in-None c = rw c.in-None.is refl

pub returns-in-Some : goal.returns-in-Some
returns-in-Some c = rw c.in-Some.is (stored c.in-Some.c.0 (rw c.in-Some.is at c.requires))
