-- The selections of a table, row by row: the sets that they leave.
use Rattle.std.specs.Prelude.{ℕ, suc, ◌-◌, ◌≤◌, ℤ}
use mathlib.Core.List.{List, map, foldl}
use Rattle.std.proofs.Math.Option.{Option, some}
use Rattle.model.specs.Matrix.{Matrix, constrain}
use Rattle.model.specs.Network.{Time}
use Rattle.model.specs.Search.{selections, row_constraints, rows_constraints}
use Rattle.model.specs.Conditions.{Regular, Closed, Selection, Fitting, Before}
use Rattle.memory.specs.Numbers.{bounds_in, times_in, Limit}
use Rattle.memory.specs.Conditions.{TableIn, ZoneIn}
use Rattle.ahead.specs.Outlook.{Kept}

-- the sets of the selections of r rows from row i on, from the set so far and the columns of the rows before
unfoldable pub extensions : ℕ → List Time → Matrix → Option Matrix → List ℕ → ℕ → ℕ → List (Option Matrix)
extensions n a d part cols i r = map (λ rest. foldl (constrain (suc n)) part (rows_constraints n a d cols i rest)) (selections n a r i)

-- what column s of row i leaves of a set
abbrev pub with_column : ℕ → List Time → Matrix → Matrix → List ℕ → ℕ → ℕ → Option Matrix
with_column n a d part cols i s = foldl (constrain (suc n)) (some part) (row_constraints n a d cols i s)

-- a table, and a zone whose preimages are sought
pub record Backward (n : ℕ) (times zone : List ℤ) : Type 0 where
  pub table : TableIn n times
  pub regular : Regular n (times_in times)
  pub source : ZoneIn n zone
  pub closed : Closed (suc n) (bounds_in zone)

-- the set that the columns of rows 0 to i - 1 leave. Whatever columns the rows from row i on pick, no set on the way has a finite
-- bound beyond Limit
pub record Selecting (n : ℕ) (times zone : List ℤ) (part : Matrix) (cols : List ℕ) (i : ℕ) : Type 0 where
  pub backward : Backward n times zone
  pub to_end : i ≤ suc n
  pub before : Before n (times_in times) part cols i
  pub kept : Kept n (times_in times) (bounds_in zone) part i
  pub fitting : (rest : List ℕ) → Selection n (times_in times) (suc n - i) i rest
      → Fitting (suc n) Limit (some part) (rows_constraints n (times_in times) (bounds_in zone) cols i rest)
