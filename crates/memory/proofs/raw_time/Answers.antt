-- A time that is small fits an i32 and does not stand for a blank.
use native.Mathlib.Omega.{arith}
use Prim.Native.Nat.{◌<◌}
use mathlib.Core.Path.{◌≡◌, refl}
use lib.IntN.{ℤ, nat_abs}
use mir.Syntax.{w32, w64}
use mir.Val.{SFits, of_z, to_z}
use mir.ValLaws.{to_z-of_z}
use Rattle.std.proofs.Common.{Some}
use Rattle.ints.specs.declared.Seconds.{Seconds}
use Rattle.ints.proofs.Integers.{sized_fits, abs_ud}
use Rattle.model.specs.Bound.{same_z}
use Rattle.model.specs.Network.{secs, secs_of}
use Rattle.model.specs.Faults.{Entry, time_of}
use Rattle.memory.specs.Numbers.{none_in, time_in}
use Rattle.memory.proofs.Numbers.{time_stored}
use Rattle.memory.proofs.raw_time.Goals as goal

small : {r : Entry Seconds} {x : Seconds} → nat_abs (secs_of (time_of r)) < none_in → r ≡ Some x → nat_abs x.0 < none_in
unfolding secs_of time_of
small h e = rw e at h

module _ (z : ℤ) (h : nat_abs z < none_in) where
  fits_narrow : SFits w32 z
  fits_narrow = sized_fits z (omega (arith, h))

  -- the number is read back from its bits
  back : to_z w64 (of_z w64 z) ≡ z
  back = to_z-of_z w64 z (sized_fits z (omega (arith, h)))

  stored : time_in (to_z w32 (of_z w32 (to_z w64 (of_z w64 z)))) ≡ secs z
  stored = rw (back, to_z-of_z w32 z fits_narrow) (time_stored z (omega (arith, h, abs_ud z)))

pub overflow_cast-result : goal.overflow_cast-result
overflow_cast-result c = let h = small c.requires c.in-Some.is in rw (back c.in-Some.time.0 h) (fits_narrow c.in-Some.time.0 h)

pub returns : goal.returns
unfolding time_of
returns c = rw c.in-Some.is (stored c.in-Some.time.0 (small c.requires c.in-Some.is))

pub returns-in_default : goal.returns-in_default
unfolding time_of time_in same_z
returns-in_default c = rw c.in_default.is refl
