-- Twice the number, halved.
use lib.IntN.{ℤ, ◌+ℤ◌}
use lib.Bits.{bit_and}
use mathlib.Core.Path.{◌≡◌}
use mir.Syntax.{w64}
use mir.Val.{to_z, of_z}
use mir.ValLaws.{to_z-of_z}
use Rattle.model.specs.Conditions.{Small}
use Rattle.memory.specs.Numbers.{of_halves, Widest}
use Rattle.starts.proofs.Parted.{last, last_is, number_is, halves_fit, sum_fits, number_fits}
use Rattle.starts.proofs.number.Goals as goal

-- the halves and their last bit, read back
module _ (z : ℤ) (s : Small Widest (of_halves z)) where
  told : to_z w64 (of_z w64 z) ≡ z
  told = to_z-of_z w64 z (halves_fit z s)

  bit_told : to_z w64 (bit_and (of_z w64 z) 1) ≡ last z
  bit_told = last_is z (halves_fit z s)

  sum_told : to_z w64 (of_z w64 (z +ℤ last z)) ≡ z +ℤ last z
  sum_told = to_z-of_z w64 _ (sum_fits z s)

pub overflow_add-result : goal.overflow_add-result
overflow_add-result c = let z = c.args.halves.0 in let s = c.requires in rw (told z s, bit_told z s) (sum_fits z s)

pub returns : goal.returns
returns c =
    let z = c.args.halves.0 in
    let s = c.requires in
    rw (told z s, bit_told z s, sum_told z s, to_z-of_z w64 _ (number_fits z s)) (number_is z)
