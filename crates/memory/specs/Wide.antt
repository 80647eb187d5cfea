-- Zones and tables of 64-bit numbers: one that is large in size stands for no bound, and for a blank. Any other is a bound in halves, or a time.
use lib.Dec.{leb→le}
use Rattle.std.specs.Prelude.{ℕ, ◌*◌, ◌≤◌, ◌≡◌, refl, ℤ, nat_abs, ltb, List, map, cond}
use Rattle.model.specs.Bound as B
use Rattle.model.specs.Bound.{Bound}
use Rattle.model.specs.Network.{Time, blank, secs}
use Rattle.memory.specs.Numbers.{of_halves, Widest}

-- the most that such a number is in size, and that a bound is whose halves are one
abbrev pub Largest : ℕ
Largest = 1000000000000000

abbrev pub Stored : ℕ
Stored = 499999999999999

unfoldable pub bound_in : ℤ → Bound
bound_in z = cond (ltb Largest (nat_abs z)) B.Bound.none (of_halves z)

unfoldable pub bounds_in : List ℤ → List Bound
bounds_in z = map bound_in z

unfoldable pub time_in : ℤ → Time
time_in z = cond (ltb Largest (nat_abs z)) blank (secs z)

unfoldable pub times_in : List ℤ → List Time
times_in a = map time_in a

-- ---- of many numbers one by one
pub bounds_mapped : (z : List ℤ) → bounds_in z ≡ map bound_in z
unfolding bounds_in
bounds_mapped z = refl

pub times_mapped : (a : List ℤ) → times_in a ≡ map time_in a
unfolding times_in
times_mapped a = refl

pub room : (2 ≤ Largest) × (5 * Largest ≤ Widest)
room = (leb→le 2 Largest tt, leb→le (5 * Largest) Widest tt)
