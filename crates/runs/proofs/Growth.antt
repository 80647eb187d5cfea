-- How large the times of a run can be: each cycle adds at most the limit of the table's times, in parts, to their size.
use Prim.Native.Nat.{ℕ, zero, suc, ◌+◌, ◌*◌, ◌≤◌}
use native.Mathlib.Nat.{add-mul, mul-le-mul_right}
use native.Mathlib.Omega.{arith}
use mathlib.Core.Path.{◌≡◌}
use mathlib.Core.List.{List, map}
use lib.IntN.{ℤ, pos, nat_abs, ◌*ℤ◌}
use Rattle.ints.proofs.Integers.{up, dn, ints, abs_ud}
use Rattle.model.specs.Sizes.{time_limit}
use Rattle.model.specs.Network.{Time, blank, secs, scale_time, time, secs_of, clocked, next, cycle, cycles}
use Rattle.model.specs.Lists.{Every}
use Rattle.model.specs.Conditions.{TimesSmall}
use Rattle.model.proofs.Listed.{every_tabulate, at_get_d}
use Rattle.model.proofs.Scale.{mul_ud}
use Rattle.model.proofs.Parts.{time_parts}
use Rattle.model.proofs.Sums.{after_small, latest_small, time_small}
use Rattle.runs.specs.Steps.{most_parts}

-- the times of a list, with the clock's zero
pub clocked_small : {B : ℕ} {xs : List ℤ} → Every (λ x. nat_abs x ≤ B) xs → (j : ℕ) → nat_abs (clocked xs j) ≤ B
unfolding clocked
clocked_small h zero = omega arith
clocked_small {B} h (suc j) = at_get_d {P = λ x. nat_abs x ≤ B} (pos 0) (omega arith) h j

module _ (n : ℕ) (a : List Time) (limit : ℕ) (small : (i j : ℕ) → nat_abs (secs_of (time n a i j)) ≤ limit) where
  -- one cycle, and k cycles
  next_small : (B : ℕ) (x : ℕ → ℤ) → ((j : ℕ) → nat_abs (x j) ≤ B) → (i : ℕ) → nat_abs (next n a x i) ≤ B + limit
  unfolding next secs_of
  next_small B x h i = latest_small (every_tabulate n 1 _ (λ j l. after_small (secs (x (1 + j))) (time n a i (1 + j)) (h (1 + j)) (small i (1 + j))))

  pub cycles_small : {B : ℕ} (k : ℕ) {xs : List ℤ} → Every (λ x. nat_abs x ≤ B) xs → (j : ℕ) → nat_abs (clocked (cycles n a k xs) j) ≤ B + limit * k
  unfolding cycles cycle
  cycles_small zero h j = omega (arith, clocked_small h j)
  cycles_small {B} (suc k) {xs} h j =
      let x = clocked (cycles n a k xs) in
      let more : limit * suc k ≡ limit * k + limit = omega arith in
      omega (arith, clocked_small {B = B + limit * k + limit} (every_tabulate n 1 (next n a x) (λ i l. next_small _ x (cycles_small k h) (1 + i))) j)

-- ---- in parts
-- a time
pub scaled_small : (factor : ℕ) {limit : ℕ} (t : Time) → nat_abs (secs_of t) ≤ limit → nat_abs (secs_of (scale_time factor t)) ≤ limit * factor
unfolding scale_time secs_of
scaled_small factor blank h = omega arith
scaled_small factor {limit} (secs v) h =
    let more = mul-le-mul_right {m = up v + dn v} {n = limit} factor (omega (arith, abs_ud v)) in
    omega (ints, abs_ud v, abs_ud (v *ℤ pos factor), mul_ud v factor, add-mul (up v) (dn v) factor)

-- and a table of which factor parts make a second
module _ (n factor : ℕ) (a : List Time) (small : TimesSmall n a) (few : factor ≤ most_parts) where
  pub table_small : (i j : ℕ) → nat_abs (secs_of (time n (map (scale_time factor) a) i j)) ≤ time_limit * most_parts
  table_small i j =
      let one = scaled_small factor (time n a i j) (time_small n a small i j) in
      rw (time_parts factor n a i j) (omega arith)
