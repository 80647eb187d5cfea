-- What the functions inside this crate require and ensure.
use Rattle.std.specs.Prelude.{ℕ, suc, ◌+◌, ◌*◌, ◌≤◌, ◌<◌, ◌≡◌, Bool, true, ◌&&◌, cond, ltb, ℤ, pos, ◌-ℤ◌, nat_abs, length, get_or}
use mathlib.Core.List.{List, [], ◌∷◌, flatten}
use Rattle.ints.specs.declared.Seconds.{Seconds}
use Rattle.model.specs.Sizes.{most_times_at_once}
use Rattle.model.specs.Lists.{tabulate}
use Rattle.model.specs.Bound as B
use Rattle.model.specs.Bound.{Bound, plus, tighter}
use Rattle.model.specs.Matrix.{Matrix, entry, Constraint}
use Rattle.model.specs.Network.{Time, time}
use Rattle.model.specs.Search.{chosen, slack, keeps}
use Rattle.model.specs.Conditions.{Chosen, Cols, Small}
use Rattle.memory.specs.Numbers.{of_halves, none_in, bound_in, bounds_in, times_in, Limit, InMemory}
use Rattle.memory.specs.Conditions.{ZoneIn, TableIn}
use Rattle.memory.specs.Matrices.{RowFilled, Relaxable, Takes}
use Rattle.zones.specs.declared.Choice.{Choice}

-- ---- the conditions on matrices, of a zone in memory
-- row i of z' is f, and all else is as in z
abbrev pub RowMade : ℕ → List ℤ → List ℤ → (ℕ → Bound) → ℕ → Type 0
RowMade n z z' f i = RowFilled n (bounds_in z) (bounds_in z') f i (suc n)

-- ---- a row of numbers, and another row that takes in the way by it
-- the most that two numbers are in size if their sum is taken in 32 bits
abbrev pub narrow_most : ℕ
narrow_most = 1073741823

-- a number that stands for none, or is so small
abbrev pub Narrow : ℤ → Type 0
Narrow z = (z ≡ pos none_in → ⊥) → nat_abs z ≤ narrow_most

-- the first m numbers are
abbrev pub RowNarrow : ℕ → List ℤ → Type 0
RowNarrow m row = (j : ℕ) → j < m → Narrow (get_or row j (pos 0))

-- the numbers that a row has room for
abbrev pub room_of_row : ℕ
room_of_row = 32

-- row b of the matrix d, with blanks beyond it
pub record RowIn (n : ℕ) (d : Matrix) (b : ℕ) (row : List ℤ) : Type 0 where
  pub size : length row ≡ room_of_row
  pub is : (j : ℕ) → j < suc n → bound_in (get_or row j (pos 0)) ≡ entry (suc n) d b j
  pub blank : (j : ℕ) → suc n ≤ j → j < room_of_row → bound_in (get_or row j (pos 0)) ≡ B.Bound.none

-- so many columns: all of a row, and in its room
pub record WidthOf (n width : ℕ) : Type 0 where
  pub times : n ≤ most_times_at_once
  pub whole : suc n ≤ width
  pub few : width ≤ room_of_row

-- no more of them in row i than a zone of so many numbers has
pub record ColumnsOf (n i width size columns : ℕ) : Type 0 where
  pub whole : suc n ≤ columns
  pub few : columns ≤ width
  pub room : i * suc n + columns ≤ size

-- entry (i, j), or the way by the row where that is tighter
abbrev pub beside : ℕ → List ℤ → List ℤ → ℕ → Bound → ℕ → Bound
beside n z row i way j = tighter (entry (suc n) (bounds_in z) i j) (plus way (bound_in (get_or row j (pos 0))))

-- the most that a way is in size: a number in memory and a limit, which is a bound and two times
abbrev pub WayMost : ℕ
WayMost = 4 * InMemory

-- one number can take in the way by another
pub record EntryReady (old rest way : ℤ) (narrow : Bool) : Type 0 where
  pub way_small : Small WayMost (of_halves way)
  pub new_small : (bound_in rest ≡ B.Bound.none → ⊥) → Small Limit (tighter (bound_in old) (plus (of_halves way) (bound_in rest)))
  pub narrow_sum : narrow ≡ true → (nat_abs way ≤ narrow_most) × Narrow rest

-- row i can, number by number
pub record EntriesReady (n : ℕ) (z row : List ℤ) (i columns : ℕ) (way : ℤ) (narrow : Bool) : Type 0 where
  pub zone : ZoneIn n z
  pub at : i < suc n
  pub passed : ColumnsOf n i room_of_row (length z) columns
  pub long : length row ≡ room_of_row
  pub way_small : Small WayMost (of_halves way)
  pub new_small : (j : ℕ) → j < suc n → Small Limit (beside n z row i (of_halves way) j)
  pub blank : (j : ℕ) → suc n ≤ j → j < room_of_row → bound_in (get_or row j (pos 0)) ≡ B.Bound.none
  pub narrow_sums : narrow ≡ true → (nat_abs way ≤ narrow_most) × RowNarrow columns row

-- row i can take in the way by row b, which is in row
pub record RelaxReady (n : ℕ) (z row : List ℤ) (i b width : ℕ) (narrow : Bool) (way : Bound) : Type 0 where
  pub relaxable : Relaxable n Limit WayMost z (bounds_in z) i b way
  pub base : RowIn n (bounds_in z) b row
  pub wide : WidthOf n width
  pub narrow_row : narrow ≡ true → RowNarrow width row

-- ---- constraints
-- that the image keeps to d in two rows, with the columns chosen: one way, and both ways
abbrev pub keep_one : ℕ → List Time → Matrix → Choice → Choice → List Constraint
keep_one n a d c e = keeps n a d c.row c.column e.row e.column ∷ []

abbrev pub keep_both : ℕ → List Time → Matrix → Choice → Choice → List Constraint
keep_both n a d c e = keeps n a d c.row c.column e.row e.column ∷ keeps n a d e.row e.column c.row c.column ∷ []

abbrev pub choice : ℕ → ℕ → Choice
choice i s = record { row = i; column = s }

-- in row i and a row before, and in row i and each row before
abbrev pub image_pairs : ℕ → List Time → Matrix → List ℕ → ℕ → ℕ → ℕ → List Constraint
image_pairs n a d cols i s l = keep_both n a d (choice i s) (choice l (get_or cols l 0))

abbrev pub images : ℕ → List Time → Matrix → List ℕ → ℕ → ℕ → List Constraint
images n a d cols i s = flatten (tabulate i 0 (image_pairs n a d cols i s))

-- what column s adds in row i; a is what the table stands for
pub record Adding {A : Type 0} (n : ℕ) (times : List A) (a : List Time) (i s : ℕ) : Type 0 where
  pub table : TableIn n times
  pub row : i ≤ n
  pub column : Chosen n a i s

abbrev pub Adds : ℕ → List ℤ → ℕ → ℕ → Type 0
Adds n times i s = Adding n times (times_in times) i s

pub record AddedWithin (S n : ℕ) (a : List Time) (i s : ℕ) (r : Seconds) : Type 0 where
  pub is : r.0 ≡ chosen n a i s
  pub small : nat_abs r.0 ≤ S

-- c for column s; where the first column counts, one less against an earlier column j
unfoldable pub led : Bool → ℕ → ℕ → ℤ → ℤ
led first j s c = cond (first && ltb j s) (c -ℤ pos 1) c

-- in row i column s attains the largest sum, with others or as the first that does
abbrev pub attained_by : Bool → ℕ → List Time → ℕ → ℕ → ℕ → Constraint
attained_by first n a i s j = record { row = j; col = s; limit = slack (led first j s (chosen n a i s)) (time n a i j) }

abbrev pub attains_by : Bool → ℕ → List Time → ℕ → ℕ → List Constraint
attains_by first n a i s = tabulate n 1 (attained_by first n a i s)

-- part, which stands for p, can take in what a function adds
pub record AttainsReady {A : Type 0} (L n : ℕ) (p : Matrix) (times : List A) (a : List Time) (i s : ℕ) (first : Bool) : Type 0 where
  pub taking : Takes n L p (attains_by first n a i s)
  pub adds : Adding n times a i s
  pub from_one : 1 ≤ i

pub record Keeping {A : Type 0} (L n : ℕ) (p : Matrix) (times : List A) (a : List Time) (c e : Choice) (ks : List Constraint) : Type 0 where
  pub taking : Takes n L p ks
  pub adds : Adding n times a c.row c.column
  pub adds_other : Adding n times a e.row e.column

pub record KeepsImages {A : Type 0} (L n : ℕ) (p : Matrix) (times : List A) (a : List Time) (d : Matrix) (cols : List ℕ) (i s : ℕ) : Type 0 where
  pub taking : Takes n L p (images n a d cols i s)
  pub adds : Adding n times a i s
  pub cols_size : i ≤ length cols
  pub columns : Cols n a cols i
