-- The number of a bound in halves, and what it allows in whole parts.
use Prim.Native.Nat.{ℕ, suc, ◌+◌, ◌*◌, ◌/◌, ◌%◌, ◌≤◌}
use native.Mathlib.Omega.{arith}
use native.Mathlib.Nat.{div-add-mod', mod-lt, add-mul, mul-le-mul}
use mathlib.Core.Path.{◌≡◌, refl, ap, ap₂, sym, ◌∙◌}
use mathlib.Core.Bool.{Bool, true, false}
use lib.Bits.{bit_and}
use lib.Dec.{eqb}
use lib.IntN.{ℤ, pos, negsuc, neg_ℤ, nat_abs, ◌+ℤ◌, ◌-ℤ◌, ◌*ℤ◌}
use lib.Signed.{quot_z}
use mir.Syntax.{w64}
use mir.Val.{SFits, to_z, of_z}
use mir.ValLaws.{to_z_pos}
use Rattle.ints.proofs.Integers.{up, dn, ints, fits, add_ud, sub_ud, pos_ud, abs_ud}
use Rattle.model.specs.Sizes.{most_departures}
use Rattle.model.specs.Bound.{upto, most, bit, scale, whole}
use Rattle.model.specs.Conditions.{Small}
use Rattle.model.proofs.Bounds.{halves_ud}
use Rattle.model.proofs.Scale.{mul_ud}
use Rattle.model.proofs.Size.{small_at}
use Rattle.memory.specs.Numbers.{of_halves, InMemory, Widest}
use Rattle.memory.proofs.InHalves.{halved, halves_size, odd_mark, last_bit}
use Rattle.memory.proofs.Numbers.{wide}
use Rattle.starts.specs.Numbers.{odd}

two : (n : ℕ) → (n / 2 * 2 + n % 2 ≡ n) × (n % 2 ≤ 1)
two n = (div-add-mod' n 2, let h = mod-lt n {m = 2} (omega arith) in omega arith)

quot_double : (b : ℤ) → quot_z (b +ℤ b) (pos 2) ≡ b
quot_double (pos n) = ap pos (let (a, b) = two (n + n) in omega arith)
quot_double (negsuc n) = ap (λ (k : ℕ). neg_ℤ (pos k)) (let (a, b) = two (suc (suc (n + n))) in let e : suc (suc (n + n)) / 2 ≡ suc n = omega arith in e)

marked : (m : Bool) → eqb (bit m) 1 ≡ m
unfolding bit
marked true = refl
marked false = refl

module _ (z : ℤ) where
  -- the last bit
  abbrev pub last : ℤ
  last = pos (nat_abs z % 2)

  pub last_is : SFits w64 z → to_z w64 (bit_and (of_z w64 z) 1) ≡ last
  last_is f = rw (last_bit z f) (to_z_pos w64 (nat_abs z % 2) (omega (arith, two (nat_abs z))))

  odd_is : (halved z).mark ≡ odd z
  unfolding odd
  odd_is = sym (marked (halved z).mark) ∙ ap (λ (k : ℕ). eqb k 1) (sym (odd_mark z))

  bit_is : bit (odd z) ≡ nat_abs z % 2
  bit_is = ap bit (sym odd_is) ∙ sym (odd_mark z)

  -- with it the halves are twice the number
  twice : z +ℤ last ≡ (halved z).number +ℤ (halved z).number
  twice =
      let h = halved z in
      let b = h.number in
      omega (ints, halves_ud h.mark b, odd_mark z, add_ud b b, add_ud z last, pos_ud (nat_abs z % 2), h.up_is, h.dn_is)

  half : quot_z (z +ℤ last) (pos 2) ≡ (halved z).number
  half = ap (λ (y : ℤ). quot_z y (pos 2)) twice ∙ quot_double (halved z).number

  pub number_is : of_halves z ≡ upto (odd z) (quot_z (z +ℤ last) (pos 2))
  number_is = (halved z).is ∙ ap₂ upto odd_is (sym half)

  module _ (s : Small Widest (of_halves z)) where
    pub halves_fit : SFits w64 z
    halves_fit = fits (omega (arith, halves_size z s))

    pub sum_fits : SFits w64 (z +ℤ last)
    sum_fits = fits (omega (ints, halves_size z s, add_ud z last, pos_ud (nat_abs z % 2), abs_ud z, two (nat_abs z)))

    pub number_fits : SFits w64 (quot_z (z +ℤ last) (pos 2))
    number_fits = wide _ (small_at s number_is)

  -- in whole parts
  module _ (parts : ℕ) {q : ℤ} (e : of_halves z ≡ upto (odd z) q) where
    pub part_is : most ((q *ℤ pos parts) -ℤ last) ≡ whole (scale parts (of_halves z))
    unfolding whole scale
    part_is = rw (e, bit_is)

    module _ (s : Small InMemory (of_halves z)) (few : parts ≤ suc most_departures) where
      pub number_fit : SFits w64 q
      number_fit = wide q (let h = small_at s e in omega arith)

      abbrev p : ℤ
      p = q *ℤ pos parts

      product_small : up p + dn p ≤ InMemory * suc most_departures
      product_small =
          let h = small_at s e in
          let m : (up q + dn q) * parts ≤ InMemory * suc most_departures = mul-le-mul {n₂ = InMemory} (omega (arith, abs_ud q)) few in
          omega (arith, mul_ud q parts, add-mul (up q) (dn q) parts)

      pub product_fits : SFits w64 p
      product_fits = fits (omega (arith, product_small))

      pub part_fits : SFits w64 (p -ℤ last)
      part_fits = fits (omega (ints, product_small, sub_ud p last, pos_ud (nat_abs z % 2), two (nat_abs z)))
