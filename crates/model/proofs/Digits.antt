-- Bits and the number that they spell, the most significant first: each is recovered from the other, for every width.
use Prim.Native.Nat.{ℕ, zero, suc, ◌+◌, ◌-◌, ◌*◌, ◌/◌, ◌%◌, ◌^◌, ◌≤◌, ◌<◌}
use native.Mathlib.Omega.{arith}
use native.Mathlib.Decide.{ℕ_discrete}
use native.Mathlib.Nat.{pow-suc, pow-succ', div-div-eq-div-mul, div-one}
use mathlib.Core.Path.{◌≡◌, refl, sym}
use mathlib.Core.List.{List}
use Rattle.model.specs.Packed.{bit_at, num_of}

-- the same bits spell the same number
pub num_same : (f g : ℕ → ℕ) (p q w : ℕ) → ((i : ℕ) → i < w → f (p + i) ≡ g (q + i)) → num_of f p w ≡ num_of g q w
unfolding num_of
num_same f g p q zero same = refl
num_same f g p q (suc w) same = rw (num_same f g p q w (λ i l. same i (omega arith)), same w (omega arith))

-- digit j of w digits of v is digit j of one digit less of v / 2
upper : (v w j : ℕ) → j < w → v / 2 ^ (suc w - 1 - j) ≡ v / 2 / 2 ^ (w - 1 - j)
upper v w j h =
    let e : suc w - 1 - j ≡ suc (w - 1 - j) = omega arith in
    rw (e, pow-succ') (sym (div-div-eq-div-mul v 2 (2 ^ (w - 1 - j))))

-- the last one is the remainder
lowest : (v w j : ℕ) → j ≡ w → v / 2 ^ (suc w - 1 - j) ≡ v
lowest v w j h = let e : suc w - 1 - j ≡ 0 = omega arith in rw e (div-one v)

-- the w digits of v spell v
pub spelled : (w v : ℕ) → v < 2 ^ w → num_of (λ j. v / 2 ^ (w - 1 - j) % 2) 0 w ≡ v
unfolding num_of
spelled zero v h = omega arith
spelled (suc w) v h =
    let front = num_same (λ j. v / 2 ^ (suc w - 1 - j) % 2) (λ j. v / 2 / 2 ^ (w - 1 - j) % 2) 0 0 w (λ i l. rw (upper v w (0 + i) (omega arith))) in
    rw (front, spelled w (v / 2) (omega (arith, pow-suc 2 w)), lowest v w (0 + w) (omega arith)) (omega arith)

-- a bit is 0 or 1
pub bit_small : (s : List ℕ) (p : ℕ) → bit_at s p ≤ 1
unfolding bit_at
bit_small s p = omega arith

module _ (f : ℕ → ℕ) (bit : (i : ℕ) → f i ≤ 1) where
  -- w bits spell a number below 2 ^ w
  pub num_below : (p w : ℕ) → num_of f p w < 2 ^ w
  unfolding num_of
  num_below p zero = omega arith
  num_below p (suc w) = omega (arith, num_below p w, bit (p + w), pow-suc 2 w)

  -- its digit j is bit j
  pub digit : (p w j : ℕ) → j < w → num_of f p w / 2 ^ (w - 1 - j) % 2 ≡ f (p + j)
  unfolding num_of
  digit p zero j h = absurd (omega arith)
  digit p (suc w) j h =
      let v = num_of f p w * 2 + f (p + w) in
      elim (ℕ_discrete j w) [
        | yes e ↦ rw (lowest v w j e, e) (omega (arith, bit (p + w)))
        | no ne ↦
            let half : v / 2 ≡ num_of f p w = omega (arith, bit (p + w)) in
            rw (upper v w j (omega arith), half) (digit p w j (omega arith))
      ]
