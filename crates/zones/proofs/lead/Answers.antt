-- By the test of the columns.
use native.Mathlib.Omega.{arith}
use Prim.Native.Nat.{suc, ◌≤◌}
use mathlib.Core.Path.{◌≡◌, refl}
use lib.IntN.{ℤ, pos, nat_abs, ◌-ℤ◌}
use mir.Syntax.{w64}
use mir.Val.{SFits, to_z, of_z}
use mir.ValLaws.{to_z-of_z}
use borrow.Author.Tests.{lt-ltb, le-ltb}
use Rattle.ints.proofs.Integers.{ints, fits, sub_ud, pos_ud, abs_ud}
use Rattle.memory.specs.Numbers.{Widest}
use Rattle.zones.specs.Inner.{led}
use Rattle.zones.proofs.lead.Goals as goal
use Rattle.zones.proofs.lead.Goals.{else-first-via-then-first+else-earlier, else-first-via-else-first}

module _ (z : ℤ) (h : nat_abs z ≤ Widest) where
  told : to_z w64 (of_z w64 z) ≡ z
  told = to_z-of_z w64 z (fits (omega (ints, abs_ud z)))

  less_fits : SFits w64 (z -ℤ pos 1)
  less_fits = fits (omega (ints, abs_ud z, sub_ud z (pos 1), pos_ud 1))

  less_small : nat_abs (z -ℤ pos 1) ≤ suc (nat_abs z)
  less_small = omega (ints, abs_ud z, abs_ud (z -ℤ pos 1), sub_ud z (pos 1), pos_ud 1)

pub returns-then-earlier : goal.returns-then-earlier
unfolding led
returns-then-earlier c =
    let z = c.args.c.0 in
    rw (told z c.requires, to_z-of_z w64 _ (less_fits z c.requires), c.if-first.true, lt-ltb _ _ c.if-earlier.true) (refl, less_small z c.requires)

pub returns : goal.returns
unfolding led
returns c = elim c.else-first.branch [
  | else-first-via-then-first+else-earlier w ↦ rw (w.if-first.true, le-ltb _ _ w.if-earlier.false) (refl, omega arith)
  | else-first-via-else-first w ↦ rw w.if-first.false (refl, omega arith)
]
