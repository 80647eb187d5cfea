-- One try, by recursion over the rows: what is asked of the functions and what they promise. There is one set for each row, side by side; that of row 0 is the
-- set in which the times are looked for.
use Rattle.std.specs.Prelude.{ℕ, zero, suc, ◌*◌, ◌-◌, ◌≤◌, ◌≡◌, Bool, true, false, List, [], ◌∷◌, ℤ, length, take}
use Rattle.std.proofs.Math.Option.{Option}
use Rattle.std.specs.declared.ops.ControlFlow.{ControlFlow}
use Rattle.std.specs.declared.ops.ControlFlow.TheVariants.{Continue, Break}
use Rattle.model.specs.Sizes.{zone_size}
use Rattle.model.specs.Matrix.{Matrix}
use Rattle.model.specs.Network.{time, is_time}
use Rattle.model.specs.Conditions.{Column, Cols, Closed}
use Rattle.memory.specs.Matrices.{leaves, Left}
use Rattle.memory.specs.Side.{numbers_at, Elsewhere}
use Rattle.memory.specs.Wide.{bounds_in, Stored}
use Rattle.zones.specs.declared.Choice.{Choice}
use Rattle.zones.specs.declared.Target.{Target}
use Rattle.decisions.specs.Decide.{Tried, found, missed, spent, descend, meeting}
use Rattle.decisions.specs.Conditions.{try_column, Tryable}
use Rattle.descent.specs.declared.Stop.{Stop}
use Rattle.descent.specs.declared.Stop.TheVariants as stop
use Rattle.descent.specs.Numbers.{times_in}
use Rattle.descent.specs.Rows.{added_by}

-- the set of row k
unfoldable pub set_at : ℕ → List ℤ → ℕ → Matrix
set_at n sets k = bounds_in (numbers_at (zone_size n) sets k)

-- ---- how a try ends
-- by the answer, and the set of the last row
abbrev pub ended_by : ControlFlow Stop ℕ → Matrix → Tried
ended_by (Break stop.Found) z = found z
ended_by (Break stop.Spent) z = spent
ended_by (Continue u) z = missed u

-- a column takes a step if it holds a time
unfoldable pub try_one : Bool → (ℕ → Tried) → ℕ → Tried
try_one false f t = missed t
try_one true f zero = spent
try_one true f (suc t) = f t

module _ (t : Target ℤ) (sets : List ℤ) (cols : List ℕ) where
  -- what a column leaves of the set of the row before
  abbrev pub left_of : Choice → Option Matrix
  left_of c = leaves t.n (set_at t.n sets (c.row - 1)) (added_by t (take c.row cols) c)

  -- the try of a column, and of row i and those below it
  abbrev pub column_ends : Choice → ℕ → Tried
  column_ends c steps =
      let b = times_in t.times.now in
      try_one (is_time (time t.n b c.row c.column))
      (try_column t.n b (bounds_in t.zone.now) (t.n - c.row) c.row (take c.row cols) (set_at t.n sets (c.row - 1)) c.column) steps

  abbrev pub end_of_rows : ℕ → ℕ → Tried
  end_of_rows i steps = descend t.n (times_in t.times.now) (bounds_in t.zone.now) (suc (t.n - i)) i (take i cols) (set_at t.n sets (i - 1)) steps

-- ---- what is asked
-- row i can be tried
pub record DescendReady (t : Target ℤ) (sets : List ℤ) (cols : List ℕ) (i : ℕ) : Type 0 where
  pub from_one : 1 ≤ i
  pub to_n : i ≤ t.n
  pub sets_size : suc t.n * zone_size t.n ≤ length sets
  pub cols_size : suc t.n ≤ length cols
  pub columns : Cols t.n (times_in t.times.now) (take i cols) i
  pub closed : Closed (suc t.n) (set_at t.n sets (i - 1))
  pub fits : Tryable t.n (times_in t.times.now) (bounds_in t.zone.now) Stored (suc (t.n - i)) i (take i cols) (set_at t.n sets (i - 1))

pub record TryReady (t : Target ℤ) (sets : List ℤ) (cols : List ℕ) (c : Choice) : Type 0 where
  pub row : DescendReady t sets cols c.row
  pub from_one : 1 ≤ c.column
  pub to_n : c.column ≤ t.n

pub record BuildReady (t : Target ℤ) (sets : List ℤ) (cols : List ℕ) (c : Choice) : Type 0 where
  pub row : DescendReady t sets cols c.row
  pub column : Column t.n (times_in t.times.now) c.row c.column

-- all rows can be tried, from the set of row 0 on
pub record MeetingReady (t : Target ℤ) (sets : List ℤ) : Type 0 where
  pub sets_size : suc t.n * zone_size t.n ≤ length sets
  pub closed : Closed (suc t.n) (set_at t.n sets 0)
  pub fits : Tryable t.n (times_in t.times.now) (bounds_in t.zone.now) Stored t.n 1 (0 ∷ []) (set_at t.n sets 0)

-- ---- what is promised
-- the set o is that of row k, by the answer; the sets of other rows are as they were. Free: the set of row k where there is none
pub record PlacedIn (n k : ℕ) (o : Option Matrix) (before : List ℤ) (r : Bool) (after : List ℤ) : Type 0 where
  pub elsewhere : Elsewhere (zone_size n) k before after
  pub left : Left o r (set_at n after k)

-- the try ends so; the sets and the columns of the rows before row i are as they were. Free: those of the others
pub record Descended (n i : ℕ) (o : Tried) (sets : List ℤ) (cols : List ℕ) (r : ControlFlow Stop ℕ) (sets' : List ℤ) (cols' : List ℕ) : Type 0 where
  pub ends : ended_by r (set_at n sets' n) ≡ o
  pub sets_same : take (i * zone_size n) sets' ≡ take (i * zone_size n) sets
  pub cols_same : take i cols' ≡ take i cols

-- all rows: how the try ends; the set of row 0 is as it was. Free: the sets of the other rows, but that of row n where one is found
pub record MeetingEnds (t : Target ℤ) (steps : ℕ) (sets : List ℤ) (r : ControlFlow Stop ℕ) (sets' : List ℤ) : Type 0 where
  pub ends : ended_by r (set_at t.n sets' t.n) ≡ meeting t.n (times_in t.times.now) (set_at t.n sets 0) (bounds_in t.zone.now) steps
  pub first_same : set_at t.n sets' 0 ≡ set_at t.n sets 0
