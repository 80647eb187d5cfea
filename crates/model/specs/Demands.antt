-- The three demands and request [9]'s limits, as types over the definitions.
use Rattle.std.specs.Prelude.{Result, Ok, Err, ℕ, suc, ◌-◌, ◌<◌, ◌≤◌, ◌≡◌, ◌↔◌, ◌⊎◌, true, ◌||◌, List, [], map, ℤ, pos, length, take, replicate}
use Rattle.std.proofs.Math.Option.{none, some}
use Rattle.model.specs.declared.Case.{Case}
use Rattle.model.specs.declared.Fault.{Fault}
use Rattle.model.specs.declared.Fault.TheVariants as fault
use Rattle.model.specs.declared.Verdict.TheVariants as verdict
use Rattle.model.specs.declared.Verdict.{Verdict}
use Rattle.model.specs.declared.StartTimes.{StartTimes}
use Rattle.model.specs.declared.Numbers.{Numbers}
use Rattle.model.specs.Sizes.{few_departures, most_departures, most_cycles, list_limit}
use Rattle.model.specs.Lists.{Every}
use Rattle.model.specs.Matrix.{Matrix}
use Rattle.model.specs.Pattern.{InPattern, only_differences}
use Rattle.model.specs.Network.{Network, in_parts, clocked, cycles, power, added, Repeat}
use Rattle.model.specs.Search.{lists, parts_of, plan}
use Rattle.model.specs.Conditions.{Small}
use Rattle.model.specs.Faults.{number, network, call_fault, room_fault}
use Rattle.model.specs.Packed.{got, refused, parse}
use Rattle.model.specs.Answers.{cycle_number, numbers_of, answer, workspace_after, answer_packed, workspace_after_packed}

-- a case is within the limits if the call meets none of faults 1 to 10
abbrev pub InLimits : Case → ℕ → ℕ → Type 0
InLimits c capacity size = call_fault c capacity size ≡ none

-- how a case within the limits ends
pub data Ended : Numbers → Type 0 where
  reached : (k : ℕ) → Ended (record { kind = 1; fault = 0; value = k })
  clear : (k : ℕ) → Ended (record { kind = 2; fault = 0; value = k })
  never : Ended (record { kind = 3; fault = 0; value = 0 })
  is_table_full : (k : ℕ) → Ended (record { kind = 0; fault = 11; value = k })

-- of the answer r to a call with this workspace, and the workspace afterwards
pub record Demand1 (c : Case) (capacity : ℕ) (work : List ℤ) (r : Result Verdict Fault) (after : List ℤ) : Type 0 where
  pub ends : InLimits c capacity (length work) → Ended (numbers_of r) × (after ≡ replicate (length work) (pos 0))
  pub refuses : (f : Fault) → call_fault c capacity (length work) ≡ some f → (r ≡ Err f) × (after ≡ work)

-- xs is a start in the start pattern whose k-step image is in the target
pub record Witness (w : Network) (k : ℕ) (xs : List ℤ) : Type 0 where
  pub size : length xs ≡ w.n
  pub started : InPattern w.n w.start (clocked xs)
  pub arrived : InPattern w.n w.target (clocked (cycles w.n w.times k xs))

-- the target is met at cycle k: for some number of parts from 1 up, from start times in these parts of a second
abbrev pub Met : Network → ℕ → Type 0
Met w k = (parts : ℕ) × (1 ≤ parts) × (xs : List ℤ) × Witness (in_parts parts w) k xs

-- it is met at no cycle from 1 to k - 1
abbrev pub NotBefore : Network → ℕ → Type 0
NotBefore w k = (j : ℕ) → 1 ≤ j → j < k → Met w j → ⊥

-- k is the first cycle from 1 to the horizon at which it is met
pub record First (w : Network) (k : ℕ) : Type 0 where
  pub from_one : 1 ≤ k
  pub to_horizon : k ≤ w.horizon
  pub not_before : NotBefore w k
  pub met : Met w k

-- the search ends early: a list that is searched has more zones than the capacity, and the target is not met before
pub record EndsEarly (w : Network) (capacity : ℕ) : Type 0 where
  pub at : ℕ
  pub from_one : 1 ≤ at
  pub searched : at ≤ (plan w).cycles
  pub longer : capacity < length (lists w at)
  pub unmet : NotBefore w at

-- list k is searched, the lists before it fit, and the target is not met before
pub record EndsAt (w : Network) (capacity k : ℕ) : Type 0 where
  pub from_one : 1 ≤ k
  pub searched : k ≤ (plan w).cycles
  pub unmet : NotBefore w k
  pub fit_before : (j : ℕ) → 1 ≤ j → j < k → length (lists w j) ≤ capacity

-- list k ends the search as table full
abbrev pub FullAt : Network → ℕ → ℕ → Type 0
FullAt w capacity k = EndsAt w capacity k × (capacity < length (lists w k))

-- the answer is reached at k, with some start
abbrev pub Reaches : ℕ → Result Verdict Fault → Type 0
Reaches k r = (s : StartTimes) × (r ≡ Ok (verdict.Reached (cycle_number k) s))

-- of the answer r, for a case within the limits
pub record Demand2 (c : Case) (capacity : ℕ) (r : Result Verdict Fault) : Type 0 where
  pub first : (k : ℕ) → Reaches k r → First (network c) k
  pub exactly : (EndsEarly (network c) capacity → ⊥) → (k : ℕ) → Reaches k r ↔ First (network c) k
  pub start : (k : ℕ) (s : StartTimes) → r ≡ Ok (verdict.Reached (cycle_number k) s)
      → (s.parts ≡ parts_of (network c)) × Witness (in_parts s.parts (network c)) k (map (λ x. x.0) (take c.n s.times))
  pub otherwise : (EndsEarly (network c) capacity → ⊥) → NotBefore (network c) (suc c.horizon.0)
      → (r ≡ Ok (verdict.Clear c.horizon)) ⊎ (r ≡ Ok verdict.Never)
  pub full : (k : ℕ) → (r ≡ Err (fault.TableFull (cycle_number k))) ↔ FullAt (network c) capacity k

-- start or target bounds only differences
abbrev pub Differences : Network → Type 0
Differences w = (only_differences w.n w.start || only_differences w.n w.target) ≡ true

-- power q is power p with one number added to every time, blanks in the same places. Powers are counted from 1
pub record Repeated (w : Network) (q p : ℕ) (number : ℤ) : Type 0 where
  pub from_one : 1 ≤ p
  pub earlier : p < q
  pub again : power w.n w.times (q - 1) ≡ added number (power w.n w.times (p - 1))

-- the first repeated power: the least q from 2 to most_cycles that repeats some p from 1 to q - 1
pub record LeastRepeat (w : Network) (r : Repeat) : Type 0 where
  pub among : r.q ≤ most_cycles
  pub repeated : Repeated w r.q r.p r.number
  pub first : (q p : ℕ) (number : ℤ) → q < r.q → Repeated w q p number → ⊥

-- a cause of never: a first repeated power within the horizon, start or target bounds only differences, and nothing is met before it
pub record Repeats (w : Network) : Type 0 where
  pub again : Repeat
  pub first : LeastRepeat w again
  pub proviso : Differences w
  pub long_enough : again.q - 1 ≤ w.horizon
  pub unmet : NotBefore w again.q

-- another: a list from 0 to M is empty, and nothing is met before it
pub record RunsDry (w : Network) : Type 0 where
  pub at : ℕ
  pub searched : at ≤ (plan w).cycles
  pub empty : lists w at ≡ []
  pub unmet : NotBefore w at

-- the condition of never
pub record NeverHolds (w : Network) (capacity : ℕ) : Type 0 where
  pub cause : Repeats w ⊎ RunsDry w
  pub not_early : EndsEarly w capacity → ⊥

-- of the answer r, for a case within the limits
pub record Demand3 (c : Case) (capacity : ℕ) (r : Result Verdict Fault) : Type 0 where
  pub beyond : (again : Repeat) → LeastRepeat (network c) again → Differences (network c) → NotBefore (network c) again.q
      → (k : ℕ) → 1 ≤ k → Met (network c) k → ⊥
  pub dry_beyond : RunsDry (network c) → (k : ℕ) → 1 ≤ k → Met (network c) k → ⊥
  pub exactly : (r ≡ Ok verdict.Never) ↔ NeverHolds (network c) capacity
  pub clear : r ≡ Ok (verdict.Clear c.horizon) → (Repeats (network c) → ⊥) × (RunsDry (network c) → ⊥)
  pub without_end : r ≡ Ok verdict.Never → (k : ℕ) → 1 ≤ k → Met (network c) k → ⊥

pub record Demands (c : Case) (capacity : ℕ) (work : List ℤ) (r : Result Verdict Fault) (after : List ℤ) : Type 0 where
  pub one : Demand1 c capacity work r after
  pub two : InLimits c capacity (length work) → Demand2 c capacity r
  pub three : InLimits c capacity (length work) → Demand3 c capacity r

-- a packed case: refused with its first fault, or answered as the case that it holds, which has none of the faults 2 to 6
pub record PackedDemands (s : List ℕ) (capacity : ℕ) (work : List ℤ) (r : Result Verdict Fault) (after : List ℤ) : Type 0 where
  pub refuses : (f : Fault) → parse s ≡ refused f → (r ≡ Err f) × (after ≡ work)
  pub reads : (c : Case) (q : ℕ) → parse s ≡ got c q
      → (call_fault c capacity (length work) ≡ room_fault c.n capacity (length work)) × Demands c capacity work r after

-- what a call for a verdict gives
pub record Given (c : Case) (capacity : ℕ) (work : List ℤ) (r : Result Verdict Fault) (after : List ℤ) : Type 0 where
  pub answer : r ≡ answer c capacity (length work)
  pub workspace : after ≡ workspace_after c capacity work
  pub demands : Demands c capacity work r after

pub record PackedGiven (s : List ℕ) (capacity : ℕ) (work : List ℤ) (r : Result Verdict Fault) (after : List ℤ) : Type 0 where
  pub answer : r ≡ answer_packed s capacity (length work)
  pub workspace : after ≡ workspace_after_packed s capacity work
  pub demands : PackedDemands s capacity work r after

-- ---- request [9]
-- every finite bound of these zones is at most limit in size, whether strict or not
abbrev pub AllWithin : ℕ → List Matrix → Type 0
AllWithin limit zs = Every (Every (Small limit)) zs

-- no finite bound in list k passes n * (k + 1) * 1,000,000 in size, for any k; so much for few departures and for the most, to the last cycle
pub record ListLimits (w : Network) : Type 0 where
  pub each : (k : ℕ) → AllWithin (list_limit w.n k) (lists w k)
  pub seven : w.n ≤ few_departures → (k : ℕ) → k ≤ most_cycles → AllWithin 455000000 (lists w k)
  pub fifteen : w.n ≤ most_departures → (k : ℕ) → k ≤ most_cycles → AllWithin 975000000 (lists w k)

-- number 12, once of a bound that is too large, is reserved: no fault has it
abbrev pub Reserved : Type 0
Reserved = (f : Fault) → ¬ (number f ≡ 12)
