-- Twice the number, less 1 where the mark says so.
use mathlib.Core.Path.{◌≡◌}
use mathlib.Core.Bool.{true, false}
use Prim.Native.Nat.{◌≤◌}
use lib.IntN.{ℤ, pos, nat_abs, ◌+ℤ◌, ◌-ℤ◌}
use mir.Syntax.{w64}
use mir.Val.{SFits, of_z, to_z}
use mir.ValLaws.{to_z-of_z}
use Rattle.ints.proofs.Integers.{ints, fits, add_ud, sub_ud, pos_ud, abs_ud}
use Rattle.model.specs.Bound.{halves, bit}
use Rattle.memory.specs.Numbers.{Widest}
use Rattle.memory.proofs.InHalves.{of_halves_lem}
use Rattle.memory.proofs.Numbers.{wide}
use Rattle.memory.proofs.Halves.of.Goals as goal

module _ (z : ℤ) (h : nat_abs z ≤ Widest) where
  told : to_z w64 (of_z w64 z) ≡ z
  told = to_z-of_z w64 z (wide z h)

  twice : SFits w64 (z +ℤ z)
  twice = fits (omega (ints, abs_ud z, add_ud z z))

  less_one : SFits w64 ((z +ℤ z) -ℤ pos 1)
  less_one = fits (omega (ints, abs_ud z, add_ud z z, sub_ud (z +ℤ z) (pos 1), pos_ud 1))

plain : (z : ℤ) → z +ℤ z ≡ halves false z
unfolding halves bit
plain z = omega (ints, add_ud z z, sub_ud (z +ℤ z) (pos 0), pos_ud 0)

pub returns-then-strict : goal.returns-then-strict
unfolding halves bit
returns-then-strict c =
    let z = c.args.value.0 in
    rw (told z c.requires, to_z-of_z w64 (z +ℤ z) (twice z c.requires), to_z-of_z w64 ((z +ℤ z) -ℤ pos 1) (less_one z c.requires), c.if-strict.true)
    (of_halves_lem true z)

pub returns : goal.returns
returns c =
    let z = c.args.value.0 in
    rw (told z c.requires, to_z-of_z w64 (z +ℤ z) (twice z c.requires), c.if-strict.false, plain z) (of_halves_lem false z)
