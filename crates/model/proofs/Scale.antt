-- Bounds in parts: multiplied by a number of parts that is not 0, they keep their order, sums and signs.
use Prim.Native.Nat.{ℕ, suc, ◌+◌, ◌*◌, ◌≤◌}
use native.Mathlib.Omega.{arith}
use native.Mathlib.Nat.{add-mul, mul_assoc, mul-le-mul_right}
use native.Mathlib.Decide.{dec_lt}
use mathlib.Core.Path.{◌≡◌, refl, ap, ◌∙◌}
use mathlib.Core.Logic.{◌↔◌}
use mathlib.Core.Bool.{Bool, ◌||◌}
use lib.IntN.{ℤ, pos, negsuc, neg_ℤ, ◌+ℤ◌, ◌-ℤ◌, ◌*ℤ◌}
use Rattle.ints.proofs.Integers.{up, dn, ints, add_ud, neg_ud, pos_ud}
use Rattle.model.specs.Bound as B
use Rattle.model.specs.Bound.{Bound, upto, most, bit, LeB, any, fin, plus, scale}
use Rattle.model.proofs.Bounds.{bounds, le_b_nat, bit_le}

-- ---- a product with a natural number, for omega
pub record Product (z : ℤ) (k : ℕ) : Type 0 where
  pub up_is : up (z *ℤ pos k) ≡ up z * k
  pub dn_is : dn (z *ℤ pos k) ≡ dn z * k

pub mul_ud : (z : ℤ) (k : ℕ) → Product z k
unfolding up dn
mul_ud (pos n) k = omega arith
mul_ud (negsuc n) k = omega (arith, neg_ud (pos (suc n * k)), pos_ud (suc n * k))

pub mul_neg : (z : ℤ) (k : ℕ) → neg_ℤ z *ℤ pos k ≡ neg_ℤ (z *ℤ pos k)
mul_neg z k =
    let u : up (neg_ℤ z) * k ≡ dn z * k = ap (λ (n : ℕ). n * k) (neg_ud z).up_is in
    let d : dn (neg_ℤ z) * k ≡ up z * k = ap (λ (n : ℕ). n * k) (neg_ud z).dn_is in
    omega (ints, mul_ud z k, mul_ud (neg_ℤ z) k, neg_ud (z *ℤ pos k))

pub mul_add : (y z : ℤ) (k : ℕ) → (y +ℤ z) *ℤ pos k ≡ (y *ℤ pos k) +ℤ (z *ℤ pos k)
mul_add y z k = omega (ints, mul_ud y k, mul_ud z k, mul_ud (y +ℤ z) k, add_ud y z, add_ud (y *ℤ pos k) (z *ℤ pos k), sums)
  where
    sums : up (y +ℤ z) * k + (dn y * k + dn z * k) ≡ up y * k + up z * k + dn (y +ℤ z) * k
    sums = simp (← add-mul) (ap (λ (n : ℕ). n * k) (omega (arith, add_ud y z)))

pub mul_sub : (y z : ℤ) (k : ℕ) → (y -ℤ z) *ℤ pos k ≡ (y *ℤ pos k) -ℤ (z *ℤ pos k)
mul_sub y z k = mul_add y (neg_ℤ z) k ∙ ap (◌+ℤ◌ (y *ℤ pos k)) (mul_neg z k)

pub mul_zero : (k : ℕ) → pos 0 *ℤ pos k ≡ pos 0
unfolding up dn
mul_zero k = omega (ints, mul_ud (pos 0) k)

-- P - Q in seconds and in parts, at half a part's exactness
parts_order : (P Q s t k : ℕ) → s ≤ 1 → t ≤ 1 → 1 ≤ k → (P + P + t ≤ Q + Q + s) ↔ (P * k + P * k + t ≤ Q * k + Q * k + s)
parts_order P Q s t k hs ht hk = elim (dec_lt P Q) [
  | yes l ↦ let m = mul-le-mul_right {m = suc P} {n = Q} k l in (λ h. omega (arith, add-mul 1 P k), λ h. omega arith)
  | no g ↦ elim (dec_lt Q P) [
    | yes l ↦ let m = mul-le-mul_right {m = suc Q} {n = P} k l in (λ h. absurd (omega arith), λ h. absurd (omega (arith, add-mul 1 Q k)))
    | no g' ↦ let e : P ≡ Q = omega arith in rw e (λ h. omega arith, λ h. omega arith)
  ]
]

module _ (k : ℕ) where
  pub scale_plus : (b c : Bound) → scale k (plus b c) ≡ plus (scale k b) (scale k c)
  unfolding scale plus
  scale_plus B.Bound.none c = refl
  scale_plus (upto s b) B.Bound.none = refl
  scale_plus (upto s b) (upto t c) = ap (upto (s || t)) (mul_add b c k)

  pub scale_zero : scale k (most (pos 0)) ≡ most (pos 0)
  unfolding scale
  scale_zero = ap most (mul_zero k)

-- the order, both ways
module _ (k : ℕ) (some : 1 ≤ k) where
  ordered : (s t : Bool) (b c : ℤ) → LeB (upto s b) (upto t c) ↔ LeB (upto s (b *ℤ pos k)) (upto t (c *ℤ pos k))
  ordered s t b c =
      let o = parts_order (up b + dn c) (up c + dn b) (bit s) (bit t) k (bit_le s) (bit_le t) some in
      let l = add-mul (up b) (dn c) k in
      let r = add-mul (up c) (dn b) k in (
        λ h. let p = o.0 (omega (arith, le_b_nat h)) in omega (bounds, mul_ud b k, mul_ud c k),
        λ h. let p = le_b_nat h in let q = o.1 (omega (arith, mul_ud b k, mul_ud c k)) in omega bounds,
      )

  pub scale_le : {b c : Bound} → LeB b c → LeB (scale k b) (scale k c)
  unfolding scale
  scale_le any = any
  scale_le (fin {s} {t} {b} {c} h) = (ordered s t b c).0 (fin h)

  pub le_scale : (b c : Bound) → LeB (scale k b) (scale k c) → LeB b c
  unfolding scale
  le_scale b B.Bound.none h = any
  le_scale B.Bound.none (upto t c) h = elim h [ ]
  le_scale (upto s b) (upto t c) h = (ordered s t b c).1 h

pub scale_scale : (j k : ℕ) (b : Bound) → scale k (scale j b) ≡ scale (j * k) b
unfolding scale
scale_scale j k B.Bound.none = refl
scale_scale j k (upto s b) =
    ap (upto s) (omega (ints, mul_ud b j, mul_ud (b *ℤ pos j) k, mul_ud b (j * k), mul_assoc (up b) j k, mul_assoc (dn b) j k, ups, dns))
  where
    ups : up (b *ℤ pos j) * k ≡ up b * j * k
    ups = ap (λ (n : ℕ). n * k) (mul_ud b j).up_is

    dns : dn (b *ℤ pos j) * k ≡ dn b * j * k
    dns = ap (λ (n : ℕ). n * k) (mul_ud b j).dn_is

pub scale_one : (b : Bound) → scale 1 b ≡ b
unfolding scale
scale_one B.Bound.none = refl
scale_one (upto s b) = ap (upto s) (omega (ints, mul_ud b 1))
