-- What one row adds to a set, over numbers of 64 bits: what is asked of the functions and what they promise.
use Rattle.std.specs.Prelude.{ℕ, suc, ◌≤◌, List, ℤ, length}
use Rattle.std.proofs.Math.Option.{some}
use Rattle.model.specs.Matrix.{Constraint}
use Rattle.model.specs.Conditions.{Column, Cols, Closed, Fitting}
use Rattle.memory.specs.Wide.{bounds_in, Stored}
use Rattle.zones.specs.declared.Choice.{Choice}
use Rattle.zones.specs.declared.Target.{Target}
use Rattle.decisions.specs.Decide.{first_constraints}
use Rattle.descent.specs.Numbers.{times_in}

-- what row c.row adds with its column; cols holds the columns of the rows before
abbrev pub added_by : Target ℤ → List ℕ → Choice → List Constraint
added_by t cols c = first_constraints t.n (times_in t.times.now) (bounds_in t.zone.now) cols c.row c.column

-- part can take in what is added: no set on the way has a finite bound beyond Stored
pub record RowReady (t : Target ℤ) (part : List ℤ) (cols : List ℕ) (c : Choice) : Type 0 where
  pub set : Closed (suc t.n) (bounds_in part)
  pub from_one : 1 ≤ c.row
  pub to_n : c.row ≤ t.n
  pub cols_size : c.row ≤ length cols
  pub columns : Cols t.n (times_in t.times.now) cols c.row
  pub column : Column t.n (times_in t.times.now) c.row c.column
  pub fitting : Fitting (suc t.n) Stored (some (bounds_in part)) (added_by t cols c)
