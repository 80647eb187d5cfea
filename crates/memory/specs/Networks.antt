-- A network in memory, and a case.
use Rattle.std.specs.Prelude.{ℕ, ◌≡◌, List, ℤ}
use Rattle.model.specs.declared.Case.{Case}
use Rattle.model.specs.Network.{Network}
use Rattle.model.specs.Faults.{network}
use Rattle.memory.specs.Numbers.{bounds_in, times_in}
use Rattle.memory.specs.Conditions.{TableIn, PatternIn}

abbrev pub network_in : ℕ → ℕ → List ℤ → List ℤ → List ℤ → Network
network_in n horizon times start target = record {
  n = n;
  horizon = horizon;
  times = times_in times;
  start = bounds_in start;
  target = bounds_in target;
}

-- ---- a case
-- the numbers of its table and of its patterns
pub record CaseNumbers : Type 0 where
  pub times : List ℤ
  pub start : List ℤ
  pub target : List ℤ

-- these are the numbers of a case: they are its network's
pub record CaseIn (c : Case) (times start target : List ℤ) : Type 0 where
  pub table : TableIn c.n times
  pub start_held : PatternIn c.n start
  pub target_held : PatternIn c.n target
  pub is : network_in c.n c.horizon.0 times start target ≡ network c
