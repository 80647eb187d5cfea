-- Of m + 1 natural numbers, one of them 0 and one greater than m * B, none lies in some interval (c, c + B] below the greater one.
-- The pigeonhole principle: for r from 0 to m, the count of those that are at most r * B is between 1 and m, so some step of r adds none.
use Prim.Native.Nat.{ℕ, zero, suc, ◌+◌, ◌*◌, ◌-◌, ◌≤◌, ◌<◌}
use native.Mathlib.Nat.{suc-mul, mul-le-mul_right}
use native.Mathlib.Omega.{arith}
use native.Mathlib.Decide.{ℕ_discrete, dec_le}
use mathlib.Core.Path.{◌≡◌}

-- f 0 + .. + f (n - 1)
pub total : (ℕ → ℕ) → ℕ → ℕ
total f zero = 0
total f (suc n) = total f n + f n

-- n equal terms
pub total_constant : (c n : ℕ) → total (λ t. c) n ≡ n * c
unfolding total
total_constant c zero = omega arith
total_constant c (suc n) = omega (arith, total_constant c n, suc-mul n c)

-- if no term falls, the sum does not
pub total_mono : (f g : ℕ → ℕ) (n : ℕ) → ((t : ℕ) → t < n → f t ≤ g t) → total f n ≤ total g n
unfolding total
total_mono f g zero h = omega arith
total_mono f g (suc n) h = omega (arith, h n (omega arith), total_mono f g n (λ t l. h t (omega arith)))

-- and it rises by at least what any one term does
pub total_rises : (f g : ℕ → ℕ) (n : ℕ) → ((t : ℕ) → t < n → f t ≤ g t) → (t : ℕ) → t < n → total f n + g t ≤ total g n + f t
unfolding total
total_rises f g zero h t l = absurd (omega arith)
total_rises f g (suc n) h t l = elim (ℕ_discrete t n) [
  | yes e ↦ rw e (omega (arith, total_mono f g n (λ s k. h s (omega arith))))
  | no ne ↦ omega (arith, total_rises f g n (λ s k. h s (omega arith)) t (omega arith), h n (omega arith))
]

-- a sequence that rises by less than m in m steps has a step at which it does not rise
no_rise : (f : ℕ → ℕ) (m : ℕ) → f m < f 0 + m → (r : ℕ) × r < m × f (suc r) ≤ f r
no_rise f zero h = absurd (omega arith)
no_rise f (suc m) h = elim (dec_le (f (suc m)) (f m)) [
  | yes e ↦ (m, omega arith, e)
  | no ne ↦ let (r, l, e) = no_rise f m (omega arith) in (r, omega arith, e)
]

-- the numbers y 0, .., y m
module _ (m B : ℕ) (y : ℕ → ℕ) where
  -- 1 where y t is at most r * B, and 0 where it is not
  abbrev at_most : ℕ → ℕ → ℕ
  at_most r t = 1 - (y t - r * B)

  -- how many are at most r * B
  count : ℕ → ℕ
  count r = total (at_most r) (suc m)

  -- where the count does not rise, none lies in (r * B, r * B + B]
  none_between : (r : ℕ) → count (suc r) ≤ count r → (t : ℕ) → t < suc m → r * B < y t → r * B + B < y t
  unfolding count
  none_between r e t l h =
      let next : suc r * B ≡ r * B + B = suc-mul r B in
      omega (arith, total_rises (at_most r) (at_most (suc r)) (suc m) (λ s k. omega arith) t l)

  -- the count is at least 1 at 0, since y p is counted, and at most m at m, since y q is not
  count_rises_less : (p q : ℕ) → p < suc m → q < suc m → y p ≡ 0 → m * B < y q → count m < count 0 + m
  unfolding count
  count_rises_less p q hp hq least large =
      let first = total_rises (λ t. 0) (at_most 0) (suc m) (λ t l. omega arith) p hp in
      let last = total_rises (at_most m) (λ t. 1) (suc m) (λ t l. omega arith) q hq in
      omega (arith, total_constant 0 (suc m), total_constant 1 (suc m))

  -- none lies in (c, c + B], and y q is greater
  pub interval : (p q : ℕ) → p < suc m → q < suc m → y p ≡ 0 → m * B < y q
      → (c : ℕ) × c + B < y q × ((t : ℕ) → t < suc m → c < y t → c + B < y t)
  interval p q hp hq least large =
      let (r, l, e) = no_rise count m (count_rises_less p q hp hq least large) in
      (r * B, omega (arith, mul-le-mul_right {m = suc r} {n = m} B l, suc-mul r B), none_between r e)
