-- The search over the lists of zones in the workspace.
use Rattle.std.specs.Prelude.{Result, ℕ, zero, suc, ◌+◌, ◌*◌, ◌-◌, ◌≤◌, ◌≡◌, ◌⊎◌, List, map, ℤ, nat_abs, length, drop}
use Rattle.std.specs.Prelude as std
use Rattle.std.specs.declared.ops.ControlFlow.{ControlFlow}
use Rattle.std.specs.declared.ops.ControlFlow.TheVariants.{Continue, Break}
use Rattle.std.proofs.Math.Option
use Rattle.std.proofs.Math.Option.{Option, none}
use Rattle.model.specs.declared.Fault.{Fault}
use Rattle.model.specs.declared.Verdict.{Verdict}
use Rattle.model.specs.Sizes.{zone_size, workspace_size}
use Rattle.model.specs.Bound.{Bound}
use Rattle.model.specs.Matrix.{Matrix}
use Rattle.model.specs.Network.{Network}
use Rattle.model.specs.Search.{Outcome, clear, never, first_common, parts_of, start_in, reached, lists, search_by, search_from}
use Rattle.model.specs.Answers.{answered}
use Rattle.model.specs.Conditions.{Limits}
use Rattle.memory.specs.Numbers.{bounds_in, InMemory}
use Rattle.memory.specs.Networks.{network_in}
use Rattle.memory.specs.Conditions.{TableIn, PatternIn}
use Rattle.lists.specs.Lists.{list_in, Meets, Startable, NextList}
use Rattle.lists.specs.declared.ZoneList.{ZoneList}
use Rattle.moves.specs.Moving.{moved}
use Rattle.search.specs.declared.End.{End}
use Rattle.search.specs.declared.End.TheVariants as end

-- a network in memory within the limits, the parts of its starts, cycles within its horizon, and room for the lists
pub record Searchable (n parts capacity cycles size : ℕ) (times start target : List ℤ) : Type 0 where
  pub horizon : ℕ
  pub limits : Limits (network_in n horizon times start target)
  pub parts_told : parts ≡ parts_of (network_in n horizon times start target)
  pub within : cycles ≤ horizon
  pub table : TableIn n times
  pub start_held : PatternIn n start
  pub target_held : PatternIn n target
  pub some_zones : 1 ≤ capacity
  pub long : workspace_size capacity n ≤ size

-- the zones of a list can be looked through
pub record Lookable (n parts : ℕ) (start : List ℤ) (zs : List Matrix) : Type 0 where
  pub meets : Meets n start zs
  pub startable : Startable n parts start zs

-- ---- the next list, in the other half of the workspace
-- so it is made, or it has no room
abbrev pub NextMade : (n capacity source count : ℕ) → (times work seen : List ℤ) → std.Option ZoneList → (work' seen' : List ℤ) → Type 0
NextMade n capacity source count times work seen std.None work' seen' =
    NextList n capacity source (capacity * zone_size n - source) count times work seen std.None work' seen'
NextMade n capacity source count times work seen (std.Some next) work' seen' =
    (next.base ≡ capacity * zone_size n - source)
    × NextList n capacity source (capacity * zone_size n - source) count times work seen (std.Some next.count) work' seen'

-- ---- lists that are made by moving the clock
-- how list k ends the search, if it does, where there is room for it
unfoldable pub met_by_cycle : ℕ → ℕ → List Bound → ℕ → List Matrix → Option Outcome
met_by_cycle n parts start k zs = Option.map (λ c. reached k parts (start_in n parts c)) (first_common n start zs)

-- a search of r cycles from cycle k on, the list before it being zs, where each list is the one before it with the clock c later
unfoldable pub moved_search : ℕ → ℕ → ℤ → List Bound → ℕ → ℕ → List Matrix → Outcome → Outcome
moved_search n parts c start r k zs end = search_by (map (moved n c)) (met_by_cycle n parts start) r k zs end

-- the clock is moved j times
unfoldable pub moved_on : ℕ → ℤ → ℕ → List Matrix → List Matrix
moved_on n c zero zs = zs
moved_on n c (suc j) zs = moved_on n c j (map (moved n c) zs)

-- the list at base does not meet the start, and it can be moved and looked through for so many cycles
pub record MovingOn (n parts base count cycles : ℕ) (c : ℤ) (work start : List ℤ) : Type 0 where
  pub small : nat_abs c ≤ InMemory
  pub some_zone : 1 ≤ count
  pub inside : base + count * zone_size n ≤ length work
  pub apart : first_common n (bounds_in start) (list_in (zone_size n) count (drop base work)) ≡ none
  pub each : (j : ℕ) → j ≤ cycles → Lookable n parts start (moved_on n c j (list_in (zone_size n) count (drop base work)))

-- ---- the answer
-- the outcome of getting past the last cycle
abbrev pub past_by : End → Outcome
past_by (end.Clear horizon) = clear horizon.0
past_by end.Never = never

-- the answer of a search over so many cycles. Free: what the workspace holds afterwards; its length is unchanged
abbrev pub Searched : Network → ℕ → ℕ → End → Result Verdict Fault → Type 0
Searched w capacity cycles end r = r ≡ answered (search_from w capacity cycles 1 (lists w 0) (past_by end))

-- past the last cycle, with so many zones in its list
abbrev pub past_list : ℕ → Outcome → Outcome
past_list zero e = never
past_list (suc count) e = e

-- list k stands at source, and what is left of the search is the search from cycle k + 1 on
pub record Reached (n capacity cycles size : ℕ) (times start target work : List ℤ) (count source k : ℕ) : Type 0 where
  pub upto : k ≤ cycles
  pub inside : count ≤ capacity
  pub long : length work ≡ size
  pub at : (source ≡ 0) ⊎ (source ≡ capacity * zone_size n)
  pub list : list_in (zone_size n) count (drop source work) ≡ lists (network_in n cycles times start target) k
  pub rest : (e : Outcome) → let w = network_in n cycles times start target in
      search_from w capacity cycles 1 (lists w 0) e ≡ search_from w capacity (cycles - k) (suc k) (lists w k) e

-- the answer, where a cycle up to the last of these gives it; or the list of that cycle
abbrev pub SearchedTo : (n capacity cycles size : ℕ) → (times start target : List ℤ) → End → ℕ → ControlFlow (Result Verdict Fault) ZoneList → List ℤ → Type 0
SearchedTo n capacity cycles size times start target end last (Break r) work =
    Searched (network_in n cycles times start target) capacity cycles end r
SearchedTo n capacity cycles size times start target end last (Continue list) work =
    Reached n capacity cycles size times start target work list.count list.base last
