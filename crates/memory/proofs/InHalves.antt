-- Bounds in halves: each number stands for one bound, the order is that of the numbers, and a sum is theirs, with 1 more if both are odd.
use Prim.Native.Nat.{ℕ, zero, suc, ◌+◌, ◌*◌, ◌/◌, ◌%◌, ◌^◌, ◌≤◌, min}
use native.Mathlib.Omega.{arith}
use native.Mathlib.Nat.{div-add-mod', mod-lt}
use mathlib.Core.Path.{◌≡◌, refl, ap, ap₂, sym, ◌∙◌}
use mathlib.Core.Bool.{Bool, true, false, cond, ◌||◌}
use lib.Bits.{bit_and, and_step, and_mask}
use lib.Dec.{T, eqb, ltb, ltb→lt}
use lib.IntN.{ℤ, pos, negsuc, neg_ℤ, nat_abs, ◌+ℤ◌}
use lib.Signed.{le_z, lt_z}
use mir.Syntax.{Width, w8, w16, w32, w64, w128}
use mir.Val.{SFits, bits, hbits, of_z, to_z}
use mir.ValLaws.{to_z-of_z, to_z_pos}
use Rattle.ints.proofs.Integers.{impossible, up, dn, ints, add_ud, neg_ud, pos_ud, abs_ud}
use Rattle.model.specs.Bound as B
use Rattle.model.specs.Bound.{upto, LeB, bit, halves, plus, tighter, negative}
use Rattle.model.specs.Conditions.{Small, sized}
use Rattle.model.proofs.Bounds.{bounds, halves_ud, same_halves}
use Rattle.model.proofs.Size.{small_size}
use Rattle.memory.specs.Numbers.{of_halves}

two : (n : ℕ) → (n / 2 * 2 + n % 2 ≡ n) × (n % 2 ≤ 1)
two n = (div-add-mod' n 2, let h = mod-lt n {m = 2} (omega arith) in omega arith)

bit_is : (k : ℕ) → k ≤ 1 → bit (eqb k 1) ≡ k
unfolding bit
bit_is zero h = refl
bit_is (suc zero) h = refl
bit_is (suc (suc k)) h = absurd (omega arith)

bit_not : (k : ℕ) → k ≤ 1 → bit (eqb k 0) + k ≡ 1
unfolding bit
bit_not zero h = refl
bit_not (suc zero) h = refl
bit_not (suc (suc k)) h = absurd (omega arith)

-- a number is the halves of one bound, a strict one if it is odd
pub record Halved (z : ℤ) : Type 0 where
  pub mark : Bool
  pub number : ℤ
  pub is : of_halves z ≡ upto mark number
  pub back : halves mark number ≡ z
  pub up_is : up (halves mark number) ≡ up z
  pub dn_is : dn (halves mark number) ≡ dn z

pub halved : (z : ℤ) → Halved z
unfolding of_halves up dn
halved (pos n) =
    let s = eqb (n % 2) 1 in
    let b = pos ((n + 1) / 2) in
    let e : halves s b ≡ pos n = omega (ints, halves_ud s b, bit_is (n % 2) (two n).1, two n, two (n + 1)) in
    record { mark = s; number = b; is = refl; back = e; up_is = ap up e; dn_is = ap dn e }
halved (negsuc n) =
    let s = eqb (n % 2) 0 in
    let q = (n + 1) / 2 in
    let b = neg_ℤ (pos q) in
    let e : halves s b ≡ negsuc n = omega (ints, halves_ud s b, neg_ud (pos q), bit_not (n % 2) (two n).1, two n, two (n + 1)) in
    record { mark = s; number = b; is = refl; back = e; up_is = ap up e; dn_is = ap dn e }

pub of_halves_lem : (s : Bool) (b : ℤ) → of_halves (halves s b) ≡ upto s b
of_halves_lem s b = let h = halved (halves s b) in h.is ∙ same_halves h.back

-- ---- one number for each bound
pub not_none : (z : ℤ) → of_halves z ≡ B.Bound.none → ⊥
not_none z e = let q = (halved z).is in impossible cc

pub same_number : (u v : ℤ) → of_halves u ≡ of_halves v → u ≡ v
same_number u v e =
    let h = halved u in
    let k = halved v in
    let q : upto h.mark h.number ≡ upto k.mark k.number = sym h.is ∙ e ∙ k.is in
    let m : h.mark ≡ k.mark = cc in
    let n : h.number ≡ k.number = cc in
    sym h.back ∙ ap₂ halves m n ∙ k.back

-- ---- the order
pub tighter_halves : (u v : ℤ) → tighter (of_halves u) (of_halves v) ≡ cond (le_z u v) (of_halves u) (of_halves v)
unfolding tighter
tighter_halves u v = let h = halved u in let k = halved v in rw (h.is, k.is, h.back, k.back)

pub tighter_none : (z : ℤ) → tighter (of_halves z) B.Bound.none ≡ of_halves z
unfolding tighter
tighter_none z = rw (halved z).is

pub negative_halves : (z : ℤ) → negative (of_halves z) ≡ lt_z z (pos 0)
unfolding negative
negative_halves z = let h = halved z in rw (h.is, h.back)

pub halves_le : (u v : ℤ) → le_z u v ≡ true → LeB (of_halves u) (of_halves v)
halves_le u v e =
    let h = halved u in
    let k = halved v in
    rw (h.is, k.is) (fin_le h.mark k.mark h.number k.number (rw (h.back, k.back) e))
  where
    fin_le : (s t : Bool) (b c : ℤ) → le_z (halves s b) (halves t c) ≡ true → LeB (upto s b) (upto t c)
    fin_le s t b c e = omega (bounds, halves_ud s b, halves_ud t c)

-- ---- sizes
-- the halves of a bound of at most S in size
pub record HalvesWithin (S : ℕ) (z : ℤ) : Type 0 where
  pub up_le : up z ≤ S + S
  pub dn_le : dn z ≤ suc (S + S)

pub halves_size : {S : ℕ} (z : ℤ) → Small S (of_halves z) → HalvesWithin S z
halves_size {S} z s =
    let h = halved z in
    let l : nat_abs h.number ≤ S = small_size (rw h.is at s) in
    omega (ints, halves_ud h.mark h.number, h.up_is, h.dn_is, abs_ud z, abs_ud h.number)

pub size_halves : {S : ℕ} (z : ℤ) → nat_abs z ≤ S → Small S (of_halves z)
size_halves {S} z l =
    let h = halved z in
    rw h.is (sized {z = h.number} (omega (ints, halves_ud h.mark h.number, h.up_is, h.dn_is, abs_ud z, abs_ud h.number)))

-- ---- the sum
pub plus_blank : (z : ℤ) → plus (of_halves z) B.Bound.none ≡ B.Bound.none
unfolding plus
plus_blank z = rw (halved z).is

-- 1 if both are odd
abbrev pub both_odd : ℤ → ℤ → ℕ
both_odd u v = min (nat_abs u % 2) (nat_abs v % 2)

pub odd_one : (u v : ℤ) → both_odd u v ≤ 1
odd_one u v = omega (arith, two (nat_abs u))

pub odd_mark : (z : ℤ) → nat_abs z % 2 ≡ bit (halved z).mark
odd_mark z = let h = halved z in omega (ints, halves_ud h.mark h.number, h.up_is, h.dn_is, abs_ud z, two (nat_abs z))

min_bit : (s t : Bool) → min (bit s) (bit t) + bit (s || t) ≡ bit s + bit t
unfolding bit
min_bit true true = refl
min_bit true false = refl
min_bit false true = refl
min_bit false false = refl

pub plus_halves : (u v : ℤ) → plus (of_halves u) (of_halves v) ≡ of_halves ((u +ℤ v) +ℤ pos (both_odd u v))
unfolding plus
plus_halves u v =
    let h = halved u in
    let k = halved v in
    let s = h.mark in
    let t = k.mark in
    let b = h.number in
    let c = k.number in
    let o = both_odd u v in
    let e : (u +ℤ v) +ℤ pos o ≡ halves (s || t) (b +ℤ c)
    = omega (
      ints,
      halves_ud s b,
      halves_ud t c,
      halves_ud (s || t) (b +ℤ c),
      add_ud b c,
      add_ud u v,
      add_ud (u +ℤ v) (pos o),
      pos_ud o,
      odd_mark u,
      odd_mark v,
      min_bit s t,
      h.up_is,
      h.dn_is,
      k.up_is,
      k.dn_is,
    ) in
    rw (h.is, k.is, e) (sym (of_halves_lem (s || t) (b +ℤ c)))

-- ---- of the bits, at any width
twice : (w : Width) → (2 ^ bits w ≡ 2 * 2 ^ hbits w) × T (ltb 1 (2 ^ hbits w))
twice w8 = (refl, tt)
twice w16 = (refl, tt)
twice w32 = (refl, tt)
twice w64 = (refl, tt)
twice w128 = (refl, tt)

odd_bits : {w : Width} (z : ℤ) → SFits w z → of_z w z % 2 ≡ nat_abs z % 2
odd_bits (pos n) f = refl
odd_bits {w} (negsuc n) f = omega (arith, f.sfits, (twice w).0)

pub last_bit : {w : Width} (z : ℤ) → SFits w z → bit_and (of_z w z) 1 ≡ nat_abs z % 2
last_bit {w} z f = omega (arith, and_mask (of_z w z) 1, odd_bits z f)

module _ {w : Width} (u v : ℤ) (f : SFits w u) (g : SFits w v) where
  one : to_z w (bit_and (bit_and (of_z w u) (of_z w v)) 1) ≡ pos (both_odd u v)
  one =
      let a = of_z w u in
      let b = of_z w v in
      let e : bit_and (bit_and a b) 1 ≡ both_odd u v = omega (arith, and_mask (bit_and a b) 1, and_step a b, odd_bits u f, odd_bits v g) in
      rw e (to_z_pos w (both_odd u v) (omega (arith, odd_one u v, ltb→lt 1 (2 ^ hbits w) (twice w).1)))

  -- the code's sum: each step fits if the numbers do, and it stands for the sum of the bounds
  module _ (s : SFits w (u +ℤ v)) (t : SFits w ((u +ℤ v) +ℤ pos (both_odd u v))) where
    abbrev first : ℤ
    first = to_z w (of_z w u) +ℤ to_z w (of_z w v)

    abbrev second : ℤ
    second = to_z w (of_z w first) +ℤ to_z w (bit_and (bit_and (of_z w u) (of_z w v)) 1)

    pub first_fits : SFits w first
    first_fits = rw (to_z-of_z w u f, to_z-of_z w v g) s

    second_is : second ≡ (u +ℤ v) +ℤ pos (both_odd u v)
    second_is = rw (to_z-of_z w u f, to_z-of_z w v g, to_z-of_z w (u +ℤ v) s, one)

    pub second_fits : SFits w second
    second_fits = rw second_is t

    pub sum_told : of_halves (to_z w (of_z w second)) ≡ plus (of_halves u) (of_halves v)
    sum_told = rw (second_is, to_z-of_z w ((u +ℤ v) +ℤ pos (both_odd u v)) t) (sym (plus_halves u v))
