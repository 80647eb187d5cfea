-- The times of a run as the code holds them, and the limits within which the code's sums fit.
use Rattle.std.specs.Prelude.{ℕ, suc, ◌+◌, ◌*◌, ◌≤◌, List, length, map, ℤ, nat_abs, take}
use Rattle.ints.specs.declared.Seconds.{Seconds}
use Rattle.model.specs.Sizes.{most_departures, most_cycles, time_limit, start_limit, table_size}
use Rattle.model.specs.Network.{Time, scale_time, clocked}
use Rattle.model.specs.Faults.{Entry, table_of}
use Rattle.model.specs.Conditions.{TableLimits}

-- times as numbers, and those of the first n departures
abbrev pub values : List Seconds → List ℤ
values xs = map (λ x. x.0) xs

abbrev pub times_of : ℕ → List Seconds → List ℤ
times_of n xs = values (take n xs)

-- a table in parts
abbrev pub table_in : ℕ → ℕ → List (Entry Seconds) → List Time
table_in factor n table = map (scale_time factor) (table_of n table)

-- the most parts of a second that a start is in
abbrev pub most_parts : ℕ
most_parts = suc most_departures

-- the most that a time of a run is in size, in parts
abbrev pub run_limit : ℕ
run_limit = start_limit + time_limit * most_parts * most_cycles

-- a table, parts and departure times all of whose sums fit
pub record StepFits (n factor : ℕ) (table : List (Entry Seconds)) (xs : List ℤ) : Type 0 where
  pub long : table_size n ≤ length table
  pub limits : TableLimits n (table_of n table)
  pub few_parts : factor ≤ most_parts
  pub times_small : (j : ℕ) → nat_abs (clocked xs j) ≤ run_limit
