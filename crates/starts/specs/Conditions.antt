-- What the functions require and ensure.
use Rattle.std.specs.Prelude.{ℕ, suc, ◌≤◌, ◌≡◌, List, map, ℤ, length, take}
use Rattle.std.proofs.Math.Option.{some}
use Rattle.model.specs.Sizes.{zone_size, most_departures, most_numbers}
use Rattle.model.specs.Bound.{scale, whole}
use Rattle.model.specs.Matrix.{Matrix, everything, Constraint}
use Rattle.model.specs.Search.{bounds_of, wholes}
use Rattle.model.specs.Conditions.{Departures, Bounded, Fitting}
use Rattle.memory.specs.Conditions.{ZoneIn}
use Rattle.memory.specs.Matrices.{SomeLeft, Takes}
use Rattle.memory.specs.Numbers as Memory
use Rattle.memory.specs.Numbers.{InMemory}
use Rattle.starts.specs.Numbers.{bounds_in, Stored}

-- z can take in constraints, which leave some times, that the numbers of bounds say
pub record Ready (n : ℕ) (z bounds : List ℤ) (ks : List Constraint) : Type 0 where
  pub taking : Takes n Stored (bounds_in z) ks
  pub times : SomeLeft n (bounds_in z) ks
  pub source : ZoneIn n bounds

abbrev pub AllReady : ℕ → List ℤ → List ℤ → Type 0
AllReady n z bounds = Ready n z bounds (bounds_of (suc n) (bounds_in bounds))

-- the bounds leave some times, and no set on the way has a finite bound beyond Stored
pub record BoundsReady (n : ℕ) (bounds : List ℤ) : Type 0 where
  pub departures : Departures n
  pub source : ZoneIn n bounds
  pub times : SomeLeft n (everything (suc n)) (bounds_of (suc n) (bounds_in bounds))
  pub fitting : Fitting (suc n) Stored (some (everything (suc n))) (bounds_of (suc n) (bounds_in bounds))

-- the front of r is the zone's bounds in whole parts
pub record PartsOf (zone : List ℤ) (parts : ℕ) (r : List ℤ) : Type 0 where
  pub is : bounds_in (take (length zone) r) ≡ map whole (map (scale parts) (Memory.bounds_in zone))
  pub long : length r ≡ most_numbers

-- a start can be picked in the zone in so many parts: it has one, and its bounds are no larger than numbers in memory are
pub record StartReady (n : ℕ) (zone : List ℤ) (parts : ℕ) : Type 0 where
  pub departures : Departures n
  pub source : ZoneIn n zone
  pub few_parts : parts ≤ suc most_departures
  pub small : Bounded (suc n) InMemory (Memory.bounds_in zone)
  pub left : Matrix
  pub some_left : wholes (suc n) parts (Memory.bounds_in zone) ≡ some left

-- the front of r is the zone in whole parts, with its tightest bounds
pub record WholesOf (n : ℕ) (zone : List ℤ) (parts : ℕ) (r : List ℤ) : Type 0 where
  pub is : wholes (suc n) parts (Memory.bounds_in zone) ≡ some (bounds_in (take (zone_size n) r))
  pub long : length r ≡ most_numbers
