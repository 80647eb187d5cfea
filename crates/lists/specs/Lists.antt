-- Lists of zones in memory, and how a list that is made anew is handed back.
use Rattle.std.specs.Prelude.{ℕ, suc, ◌+◌, ◌*◌, ◌≤◌, ◌<◌, ◌≡◌, ◌⊎◌, Bool, cond, List, [], ◌∷◌, ℤ, ltb, length, take, drop}
use Rattle.std.specs.Prelude as std
use Rattle.std.specs.Int.{from_bool}
use Rattle.std.proofs.Math.Option.{Option, none, some}
use Rattle.model.specs.Sizes.{few_departures, most_departures, most_numbers, zone_size, workspace_size}
use Rattle.model.specs.Lists.{tabulate, Every}
use Rattle.model.specs.Bound.{Bound}
use Rattle.model.specs.Matrix.{Matrix, everything, tighten}
use Rattle.model.specs.Pattern.{pattern_constraints}
use Rattle.model.specs.Search.{keep, previous, first_common, wholes, start_in}
use Rattle.model.specs.Answers.{all_times}
use Rattle.model.specs.Conditions.{Regular, Closed, Buildable, Meetable}
use Rattle.memory.specs.Numbers.{bounds_in, times_in, Limit}
use Rattle.memory.specs.Side.{numbers_at}
use Rattle.memory.specs.Conditions.{TableIn, PatternIn}
use Rattle.starts.specs.Numbers as Starts
use Rattle.ints.specs.declared.Seconds.{Seconds}

-- ---- the table of the sets met
-- the departures of a small and of a middling network, at most; any other is large
abbrev pub small_network : ℕ
small_network = 5

abbrev pub middle_network : ℕ
middle_network = few_departures

-- how many sets can be noted after each row: fewer in a large network, where a set has more numbers
abbrev pub many_sets : ℕ
many_sets = 128

abbrev pub few_sets : ℕ
few_sets = 32

unfoldable pub sets_met : ℕ → ℕ
sets_met n = cond (ltb middle_network n) few_sets many_sets

-- the places of a row, and the numbers that a table needs
abbrev pub places_met : ℕ → ℕ
places_met n = suc (sets_met n)

abbrev pub size_seen : ℕ → ℕ
size_seen n = suc n * places_met n * zone_size n

-- ---- lists
-- the zone at place k, of size numbers
unfoldable pub zone_at : ℕ → List ℤ → ℕ → Matrix
zone_at size work k = bounds_in (numbers_at size work k)

-- the first count zones
unfoldable pub list_in : ℕ → ℕ → List ℤ → List Matrix
list_in size count work = tabulate count 0 (zone_at size work)

-- a list of count zones, with room for as many as the capacity
pub record ListRoom (size capacity count : ℕ) (work : List ℤ) : Type 0 where
  pub inside : count ≤ capacity
  pub long : capacity * size ≤ length work

-- the list zs, by its length; where it is longer than the capacity, its first zones, as many as that, and no length. What lies beyond the
-- capacity's zones is not touched. Free: the numbers of the capacity's zones behind the list
pub record ListHeld (size capacity : ℕ) (zs : List Matrix) (r : std.Option ℕ) (before after : List ℤ) : Type 0 where
  pub beyond : drop (capacity * size) after ≡ drop (capacity * size) before
  pub fits : length zs ≤ capacity → (r ≡ std.Some (length zs)) × (list_in size (length zs) after ≡ zs)
  pub full : capacity < length zs → (r ≡ std.None) × (list_in size capacity after ≡ take capacity zs)

-- ---- the next list
-- the zones of a list can be pulled back: no set on the way has a finite bound beyond Limit
pub record Sources (n : ℕ) (times : List ℤ) (zs : List Matrix) : Type 0 where
  pub table : TableIn n times
  pub regular : Regular n (times_in times)
  pub closed : Every (Closed (suc n)) zs
  pub each : Every (Buildable n (times_in times) Limit) zs

-- the halves of the workspace: a list is at one, and the next list is made at the other
pub record Halves (n capacity source goal : ℕ) (work : List ℤ) : Type 0 where
  pub long : workspace_size capacity n ≤ length work
  pub apart : ((source ≡ 0) × (goal ≡ capacity * zone_size n)) ⊎ ((source ≡ capacity * zone_size n) × (goal ≡ 0))

-- a list at source can be made from
pub record Building (n capacity source goal count : ℕ) (work times seen : List ℤ) : Type 0 where
  pub halves : Halves n capacity source goal work
  pub inside : count ≤ capacity
  pub sources : Sources n times (list_in (zone_size n) count (drop source work))
  pub seen_size : size_seen n ≤ length seen

-- the list made from the list at source. Free: what seen holds; its length is unchanged
pub record NextList (n capacity source goal count : ℕ) (times work seen : List ℤ) (r : std.Option ℕ) (work' seen' : List ℤ) : Type 0 where
  pub list : ListHeld (zone_size n) capacity (previous n (times_in times) (list_in (zone_size n) count (drop source work))) r (drop goal work) (drop goal work')
  pub front : take goal work' ≡ take goal work
  pub seen_size : length seen' ≡ length seen

-- ---- what zones have in common with a pattern
-- it can be built for d
pub record Joins (n : ℕ) (b : List Bound) (d : Matrix) : Type 0 where
  pub closed : Closed (suc n) d
  pub meetable : Meetable n b Limit d

-- and for each zone of a list
pub record Meets (n : ℕ) (pattern : List ℤ) (zs : List Matrix) : Type 0 where
  pub limits : PatternIn n pattern
  pub each : Every (Joins n (bounds_in pattern)) zs

-- list 0: the target, or nothing, and then r is false. Free: the numbers of the first zone, where there is nothing
pub record FirstList (n : ℕ) (pattern work work' : List ℤ) (r : Bool) : Type 0 where
  pub list : list_in (zone_size n) (from_bool r) work' ≡ keep [] (tighten (suc n) (pattern_constraints n (bounds_in pattern)))
  pub beyond : drop (zone_size n) work' ≡ drop (zone_size n) work

-- what the first zone of a list that meets the pattern has in common with it has times in so many parts
pub record Startable (n parts : ℕ) (pattern : List ℤ) (zs : List Matrix) : Type 0 where
  pub few : parts ≤ suc most_departures
  pub times : (c : Matrix) → first_common n (bounds_in pattern) zs ≡ some c → (d : Matrix) × (wholes (suc n) parts c ≡ some d)

-- a list of zones of the workspace, to be looked through
pub record Meeting (n parts base count : ℕ) (work pattern : List ℤ) : Type 0 where
  pub meets : Meets n pattern (list_in (zone_size n) count (drop base work))
  pub startable : Startable n parts pattern (list_in (zone_size n) count (drop base work))
  pub long : base + count * zone_size n ≤ length work

-- what is found of a list: nothing, or the start picked in c, in parts
unfoldable pub found_by : ℕ → ℕ → Option Matrix → std.Option (List Seconds)
found_by n parts none = std.None
found_by n parts (some c) = std.Some (all_times (start_in n parts c))

-- ---- the zone of a pattern in whole parts
-- it can be made, and if there are times in it there are some in so many parts
pub record Wholable (n : ℕ) (pattern : List ℤ) (parts : ℕ) : Type 0 where
  pub meets : Meets n pattern (everything (suc n) ∷ [])
  pub few : parts ≤ suc most_departures
  pub times : (z : Matrix) → tighten (suc n) (pattern_constraints n (bounds_in pattern)) ≡ some z → (d : Matrix) × (wholes (suc n) parts z ≡ some d)

-- the front of r is the zone, in whole parts
pub record PatternWhole (n : ℕ) (pattern : List ℤ) (parts : ℕ) (r : List ℤ) : Type 0 where
  pub zone : Matrix
  pub is : tighten (suc n) (pattern_constraints n (bounds_in pattern)) ≡ some zone
  pub whole : wholes (suc n) parts zone ≡ some (Starts.bounds_in (take (zone_size n) r))
  pub long : length r ≡ most_numbers

-- by the answer. None: there are no times in the pattern
abbrev pub WholeOf : ℕ → List ℤ → ℕ → std.Option (List ℤ) → Type 0
WholeOf n pattern parts std.None = tighten (suc n) (pattern_constraints n (bounds_in pattern)) ≡ none
WholeOf n pattern parts (std.Some r) = PatternWhole n pattern parts r
