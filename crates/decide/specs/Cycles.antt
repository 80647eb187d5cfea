-- The cycles of a decision: what is asked of the functions and what they promise.
use Rattle.std.specs.Prelude.{Ok, ℕ, suc, ◌*◌, ◌≤◌, ◌<◌, ◌≡◌, List, [], ◌∷◌, ℤ, length}
use Rattle.std.specs.declared.ops.ControlFlow.{ControlFlow}
use Rattle.model.specs.Sizes.{most_departures, zone_size}
use Rattle.model.specs.Matrix.{Matrix}
use Rattle.model.specs.Network.{Network, power}
use Rattle.model.specs.Conditions.{Departures, Closed, TimesSmall}
use Rattle.memory.specs.Numbers.{times_in}
use Rattle.memory.specs.Wide.{bounds_in, Stored}
use Rattle.memory.specs.Conditions.{ZoneIn, TableIn}
use Rattle.decisions.specs.declared.Finding.{Finding}
use Rattle.decisions.specs.Decide.{most_far, meeting, Decision, kept_from, told}
use Rattle.decisions.specs.Conditions.{table_in, from_seconds, Tryable}
use Rattle.descent.specs.declared.Stop.{Stop}
use Rattle.descent.specs.Trying.{set_at, ended_by}
use Rattle.decide.specs.declared.Task.{Task}

-- a set for each row
pub record SetsIn (n : ℕ) (sets : List ℤ) : Type 0 where
  pub departures : Departures n
  pub size : suc n * zone_size n ≤ length sets

-- ---- one cycle, by a power in seconds
-- no set on the way passes what can be stored
pub record CycleReady (task : Task) (power sets : List ℤ) : Type 0 where
  pub table : TableIn task.n power
  pub few_parts : task.parts ≤ suc most_departures
  pub source : ZoneIn task.n task.goal.now
  pub sets_size : suc task.n * zone_size task.n ≤ length sets
  pub closed : Closed (suc task.n) (set_at task.n sets 0)
  pub fits : Tryable task.n (table_in task.parts (times_in power)) (bounds_in task.goal.now) Stored task.n 1 (0 ∷ []) (set_at task.n sets 0)

pub record CycleEnds (task : Task) (power : List ℤ) (t : ℕ) (sets : List ℤ) (r : ControlFlow Stop ℕ) (sets' : List ℤ) : Type 0 where
  pub ends : ended_by r (set_at task.n sets' task.n)
      ≡ meeting task.n (table_in task.parts (times_in power)) (set_at task.n sets 0) (bounds_in task.goal.now) t
  pub first_same : set_at task.n sets' 0 ≡ set_at task.n sets 0

-- ---- all cycles
-- a network of the table alone: a decision between two zones looks at nothing else
abbrev pub table_alone : Task → Network
table_alone task = record { n = task.n; horizon = 0; times = times_in task.times.now; start = []; target = [] }

-- the decision from the zone z to the target, power by power from power 1 on
abbrev pub searched : Task → Matrix → Decision
searched task z =
    let a = times_in task.times.now in
    from_seconds (table_alone task) task.parts task.may z (bounds_in task.goal.now) task.horizon task.horizon 1 a (kept_from 1 a) task.steps

-- the finding is what it decides
pub record SearchEnds (task : Task) (z : Matrix) (r : Finding) : Type 0 where
  pub is : Ok r ≡ told task.parts (searched task z)

-- from z on: no set on the way of any cycle passes what can be stored
pub record ZonesReady (task : Task) (z : Matrix) : Type 0 where
  pub table : TableIn task.n task.times.now
  pub times_small : TimesSmall task.n (times_in task.times.now)
  pub target : ZoneIn task.n task.goal.now
  pub some_parts : 1 ≤ task.parts
  pub few_parts : task.parts ≤ suc most_departures
  pub far : task.horizon ≤ most_far
  pub closed : Closed (suc task.n) z
  pub fits : (r : ℕ) → r < most_far
      → Tryable task.n (table_in task.parts (power task.n (times_in task.times.now) r)) (bounds_in task.goal.now) Stored task.n 1 (0 ∷ []) z

pub record SearchReady (task : Task) (from : List ℤ) : Type 0 where
  pub zones : ZonesReady task (bounds_in from)
  pub start : ZoneIn task.n from
