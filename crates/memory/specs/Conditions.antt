-- What is asked and promised of those who read and store numbers.
use Rattle.std.specs.Prelude.{ℕ, suc, ◌+◌, ◌*◌, ◌≤◌, ◌<◌, ◌≡◌, List, nat_abs, length}
use Rattle.ints.specs.declared.Seconds.{Seconds}
use Rattle.model.specs.Sizes.{table_size, pattern_size, zone_size, most_times_at_once}
use Rattle.model.specs.Bound.{Bound}
use Rattle.model.specs.Network.{Time, secs_of}
use Rattle.model.specs.Faults.{Entry, time_of}
use Rattle.model.specs.Conditions.{Departures, Small}
use Rattle.memory.specs.declared.Number.{Number}
use Rattle.memory.specs.Numbers.{as_bound, InMemory}

-- ---- a zone of n times beside the clock, few enough to be tightened at once
pub record ZoneIn {A : Type 0} (n : ℕ) (z : List A) : Type 0 where
  pub few : n ≤ most_times_at_once
  pub size : length z ≡ zone_size n

-- ---- the table and a pattern of n departures
pub record TableIn {A : Type 0} (n : ℕ) (times : List A) : Type 0 where
  pub departures : Departures n
  pub size : length times ≡ table_size n

pub record PatternIn {A : Type 0} (n : ℕ) (p : List A) : Type 0 where
  pub departures : Departures n
  pub size : length p ≡ pattern_size n

-- ---- places
-- r is the place of (i, j) in rows of m
pub record PlaceOf (m i j r : ℕ) : Type 0 where
  pub is : r ≡ i * m + j
  pub below : (k : ℕ) → i < k → r < k * m
  pub few : r < zone_size most_times_at_once

-- they have a place (i, j)
pub record ZoneCell {A : Type 0} (n : ℕ) (z : List A) (i j : ℕ) : Type 0 where
  pub zone : ZoneIn n z
  pub row : i < suc n
  pub col : j < suc n

pub record TimeCell {A : Type 0} (n : ℕ) (times : List A) (i j : ℕ) : Type 0 where
  pub table : TableIn n times
  pub row_from : 1 ≤ i
  pub row_to : i ≤ n
  pub col_from : 1 ≤ j
  pub col_to : j ≤ n

pub record PairCell {A : Type 0} (n : ℕ) (p : List A) (i j : ℕ) : Type 0 where
  pub pattern : PatternIn n p
  pub row : i < suc n
  pub col : j < suc n

-- ---- numbers that were read
-- r stands for b, and is at most S in size
pub record ReadWithin (S : ℕ) (b : Bound) (r : Number) : Type 0 where
  pub is : as_bound r ≡ b
  pub small : Small S (as_bound r)

abbrev pub BoundRead : Bound → Number → Type 0
BoundRead b r = ReadWithin InMemory b r

pub record TimeWithin (S : ℕ) (t : Time) (r : Entry Seconds) : Type 0 where
  pub is : time_of r ≡ t
  pub small : nat_abs (secs_of t) ≤ S

abbrev pub TimeRead : Time → Entry Seconds → Type 0
TimeRead t r = TimeWithin InMemory t r
