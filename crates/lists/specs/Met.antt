-- The sets met, in a table with a part for each row.
use Rattle.std.specs.Prelude.{ℕ, suc, ◌+◌, ◌*◌, ◌-◌, ◌≤◌, ◌<◌, ◌≡◌, cond, List, ℤ, ltb, length, get_or, set}
use Rattle.std.proofs.Math.Option.{Option, none, some}
use Rattle.model.specs.Sizes.{most_departures, zone_size}
use Rattle.model.specs.Lists.{tabulate, any_of, Every, Some}
use Rattle.model.specs.Matrix.{Matrix, same_matrix}
use Rattle.model.specs.Network.{Time}
use Rattle.model.specs.Conditions.{Before}
use Rattle.memory.specs.Numbers.{bounds_in, times_in}
use Rattle.lists.specs.Lists.{sets_met, places_met, size_seen, zone_at}
use Rattle.lists.specs.Selecting.{extensions}

-- the free place of row i: behind the sets noted after it, as many as counts says
abbrev pub free_at : ℕ → List ℕ → ℕ → ℕ
free_at n counts i = i * places_met n + get_or counts i 0

-- those sets
abbrev pub met_in : ℕ → List ℤ → List ℕ → ℕ → List Matrix
met_in n seen counts i = tabulate (get_or counts i 0) (i * places_met n) (zone_at (zone_size n) seen)

pub record Counts (n : ℕ) (counts : List ℕ) : Type 0 where
  pub size : length counts ≡ suc most_departures
  pub few : (i : ℕ) → get_or counts i 0 ≤ sets_met n

pub record Tables (n : ℕ) (seen : List ℤ) (counts : List ℕ) : Type 0 where
  pub seen_size : size_seen n ≤ length seen
  pub counted : Counts n counts

-- one more in row i, if there is room
unfoldable pub noted_in : ℕ → List ℕ → ℕ → List ℕ
noted_in n counts i = cond (ltb (get_or counts i 0) (sets_met n)) (set counts i (get_or counts i 0 + 1)) counts

-- a set, if it is none of zs
unfoldable pub unmet : List Matrix → Option Matrix → Option Matrix
unmet zs none = none
unmet zs (some z) = cond (any_of (same_matrix z) zs) none (some z)

-- ---- what is known of a set noted
-- a set that is in kept, or none
abbrev pub Old : List Matrix → Option Matrix → Type 0
Old kept o = (z : Matrix) → o ≡ some z → Some (λ y. y ≡ z) kept

-- all that the rows from row i on make of p, with some columns in the rows before, is in kept
pub record Covered (n : ℕ) (a : List Time) (d : Matrix) (kept : List Matrix) (i : ℕ) (p : Matrix) : Type 0 where
  pub cols : List ℕ
  pub before : Before n a p cols i
  pub listed : Every (Old kept) (extensions n a d (some p) cols i (suc n - i))

-- so it is for each set noted
pub record Noted (n : ℕ) (times zone : List ℤ) (kept : List Matrix) (seen : List ℤ) (counts : List ℕ) : Type 0 where
  pub tables : Tables n seen counts
  pub covered : (i c : ℕ) → c < get_or counts i 0 → Covered n (times_in times) (bounds_in zone) kept (suc i) (zone_at (zone_size n) seen (i * places_met n + c))
