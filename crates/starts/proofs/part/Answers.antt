-- The product, less 1 if the bound is strict.
use native.Mathlib.Omega.{arith}
use Prim.Native.Nat.{ℕ, suc, ◌≤◌}
use mathlib.Core.Path.{◌≡◌}
use lib.Bits.{bit_and}
use lib.IntN.{ℤ, pos, ◌*ℤ◌}
use mir.Syntax.{w64}
use mir.Val.{SFits, to_z, of_z}
use mir.ValLaws.{to_z-of_z, to_z_pos}
use Rattle.model.specs.Sizes.{most_departures}
use Rattle.model.specs.Bound.{upto}
use Rattle.model.specs.Conditions.{Small}
use Rattle.model.proofs.Size.{small_mono}
use Rattle.memory.specs.Numbers.{of_halves, InMemory}
use Rattle.starts.specs.Numbers.{odd}
use Rattle.starts.proofs.Parted.{last, last_is, halves_fit, number_fit, product_fits, part_fits, part_is}
use Rattle.starts.proofs.part.Goals as goal

pub number-number-requires : goal.number-number-requires
number-number-requires c = small_mono (omega arith) c.requires.0

-- the number, the parts and the last bit, read back
module _ (z : ℤ) (parts : ℕ) {q : ℤ} (e : of_halves z ≡ upto (odd z) q) (s : Small InMemory (of_halves z)) (few : parts ≤ suc most_departures) where
  told : to_z w64 (of_z w64 q) ≡ q
  told = to_z-of_z w64 _ (number_fit z parts e s few)

  many : to_z w64 parts ≡ pos parts
  many = to_z_pos w64 parts (omega arith)

  bit_told : to_z w64 (bit_and (of_z w64 z) 1) ≡ last z
  bit_told = last_is z (halves_fit z (small_mono (omega arith) s))

  product : SFits w64 (q *ℤ pos parts)
  product = product_fits z parts e s few

pub overflow_mul-result : goal.overflow_mul-result
overflow_mul-result c =
    let z = c.args.halves.0 in
    let n = c.args.parts in
    let e = c.number-number.ensures in
    let (s, few) = c.requires in
    rw (told z n e s few, many z n e s few) (product z n e s few)

pub overflow_sub-result : goal.overflow_sub-result
overflow_sub-result c =
    let z = c.args.halves.0 in
    let n = c.args.parts in
    let e = c.number-number.ensures in
    let (s, few) = c.requires in
    rw (told z n e s few, many z n e s few, bit_told z n e s few, to_z-of_z w64 _ (product z n e s few)) (part_fits z n e s few)

pub returns : goal.returns
returns c =
    let z = c.args.halves.0 in
    let n = c.args.parts in
    let e = c.number-number.ensures in
    let (s, few) = c.requires in
    rw (
      told z n e s few,
      many z n e s few,
      bit_told z n e s few,
      to_z-of_z w64 _ (product z n e s few),
      to_z-of_z w64 _ (part_fits z n e s few),
    )
    (part_is z n e)
