-- Zones, patterns and the table in memory: 32-bit numbers, of which one stands for no bound, and for a blank. Any other is a bound in halves, or a time.
use lib.Dec.{leb→le}
use Rattle.std.specs.Prelude.{Some, None, refl, ◌≡◌, ◌*◌, ◌≤◌, ℕ, ◌+◌, ◌/◌, ◌%◌, eqb, ℤ, pos, negsuc, neg_ℤ, List, map, cond}
use Rattle.model.specs.Bound as B
use Rattle.model.specs.Bound.{Bound, upto, same_z}
use Rattle.model.specs.Network.{Time, blank, secs}
use Rattle.memory.specs.declared.Number.{Number}

-- the bound with these halves: at most b for 2b, less than b for 2b - 1
unfoldable pub of_halves : ℤ → Bound
of_halves (pos n) = upto (eqb (n % 2) 1) (pos ((n + 1) / 2))
of_halves (negsuc n) = upto (eqb (n % 2) 0) (neg_ℤ (pos ((n + 1) / 2)))

-- the number that stands for none
abbrev pub none_in : ℕ
none_in = 2147483647

unfoldable pub bound_in : ℤ → Bound
bound_in z = cond (same_z z (pos none_in)) B.Bound.none (of_halves z)

unfoldable pub time_in : ℤ → Time
time_in z = cond (same_z z (pos none_in)) blank (secs z)

-- a zone, or a pattern
unfoldable pub bounds_in : List ℤ → List Bound
bounds_in z = map bound_in z

-- the table
unfoldable pub times_in : List ℤ → List Time
times_in a = map time_in a

-- a bound that was read
abbrev pub as_bound : Number → Bound
as_bound r = elim r.0 [ Some c ↦ of_halves c.0 | None ↦ B.Bound.none ]

-- the most that a stored bound is in size: twice that is less than none_in
abbrev pub Limit : ℕ
Limit = 1073741823

-- the most that a number in memory is in size
abbrev pub InMemory : ℕ
InMemory = 2147483648

-- the most that a bound is in size if its halves fit an i64
abbrev pub Widest : ℕ
Widest = 4611686018427387903

-- ---- of many numbers one by one
pub bounds_mapped : (z : List ℤ) → bounds_in z ≡ map bound_in z
unfolding bounds_in
bounds_mapped z = refl

pub times_mapped : (a : List ℤ) → times_in a ≡ map time_in a
unfolding times_in
times_mapped a = refl

pub narrow_room : (2 ≤ InMemory) × (5 * InMemory ≤ Widest)
narrow_room = (leb→le 2 InMemory tt, leb→le (5 * InMemory) Widest tt)
