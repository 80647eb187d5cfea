-- The powers in memory: the last one at the front of two tables, one earlier power kept beside.
use Rattle.std.specs.Prelude.{ℕ, ◌+◌, ◌≤◌, ◌≡◌, Bool, List, ℤ, take}
use Rattle.model.specs.Sizes.{table_size}
use Rattle.model.specs.Network.{Time, product}
use Rattle.memory.specs.Numbers.{times_in}
use Rattle.memory.specs.Conditions.{TableIn}
use Rattle.powers.specs.Readings.{AtMost, power_limit}
use Rattle.decisions.specs.Decide.{most_far, again, Kept, kept_from, renewed}
use Rattle.decide.specs.declared.LastPowers.{LastPowers}

-- the table of n departures at the front
abbrev pub front : ℕ → List ℤ → List Time
front n tables = times_in (take (table_size n) tables)

-- the kept power, and that which replaces it
abbrev pub kept_by : ℕ → LastPowers → Kept
kept_by n p = record { table = front n p.kept; until = p.until }

-- the last power is the table, and is kept
pub record FirstPower (n : ℕ) (times : List ℤ) (p : LastPowers) : Type 0 where
  pub power : front n p.tables ≡ times_in times
  pub keeps : kept_by n p ≡ kept_from 1 (times_in times)

-- power k can be made from the last one
pub record Following (n : ℕ) (times : List ℤ) (p : LastPowers) (k : ℕ) : Type 0 where
  pub table : TableIn n times
  pub table_small : AtMost power_limit (times_in times)
  pub last_small : AtMost power_limit (front n p.tables)
  pub few : k ≤ most_far + 1

-- it is the last one; whether it is the kept one with a number added; what is kept then
pub record Followed (n : ℕ) (times : List ℤ) (p : LastPowers) (k : ℕ) (r : Bool) (p' : LastPowers) : Type 0 where
  pub power : front n p'.tables ≡ product n (times_in times) (front n p.tables)
  pub repeats : r ≡ again (front n p.kept) (front n p'.tables)
  pub keeps : kept_by n p' ≡ renewed k (front n p'.tables) (kept_by n p)
