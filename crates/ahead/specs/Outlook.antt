-- What the rows of a selection that have no column yet can still leave of a set.
use Rattle.std.specs.Prelude.{ℕ, suc, ◌-◌, ◌≤◌, ◌<◌, ◌≡◌, ℤ, ◌-ℤ◌, length, get_or}
use mathlib.Core.List.{List, ◌++◌, map, foldl}
use Rattle.std.proofs.Math.Option.{none, some}
use Rattle.model.specs.Bound.{Holds, scale}
use Rattle.model.specs.Matrix.{Matrix, entry, constrain, Member}
use Rattle.model.specs.Network.{Time, scale_time}
use Rattle.model.specs.Search.{rows_constraints}
use Rattle.model.specs.Conditions.{Closed, Cols, Selection, Before, image}
use Rattle.memory.specs.Numbers.{times_in}
use Rattle.memory.specs.Conditions.{ZoneIn}
use Rattle.zones.specs.declared.Choice.{Choice}
use Rattle.zones.specs.Inner.{Adds}

-- ---- what is lost
-- no selection that goes on from part, the columns of rows 0 to i - 1 being cols, leaves anything of it for the zone d
abbrev pub Shut : ℕ → List Time → Matrix → Matrix → List ℕ → ℕ → Type 0
Shut n a d part cols i = (rest : List ℕ) → Selection n a (suc n - i) i rest → foldl (constrain (suc n)) (some part) (rows_constraints n a d cols i rest) ≡ none

-- none with this column in its row
abbrev pub Lost : ℕ → List Time → Matrix → Matrix → List ℕ → ℕ → Choice → Type 0
Lost n a d part cols i c =
    (rest : List ℕ) → Selection n a (suc n - i) i rest → get_or (cols ++ rest) c.row 0 ≡ c.column
    → foldl (constrain (suc n)) (some part) (rows_constraints n a d cols i rest) ≡ none

-- at all times of part, in all parts, the images in the rows before i keep to d
abbrev pub Kept : ℕ → List Time → Matrix → Matrix → ℕ → Type 0
Kept n a d part i =
    (parts : ℕ) → 1 ≤ parts → (x : ℕ → ℤ) → Member (suc n) (map (scale parts) part) x → (k l : ℕ) → k < i → l < i
    → let b = map (scale_time parts) a in Holds (image n b x k -ℤ image n b x l) (entry (suc n) (map (scale parts) d) k l)

-- a set that the columns of rows 0 to i - 1 leave, and the zone whose preimages are sought
pub record Outlook (n : ℕ) (a : List Time) (d part : Matrix) (cols : List ℕ) (i : ℕ) : Type 0 where
  pub closed : Closed (suc n) d
  pub before : Before n a part cols i
  pub kept : Kept n a d part i

-- ---- the conditions
-- a set and a column, or the columns of rows 0 to i - 1
pub record LookingAt (n : ℕ) (part times : List ℤ) (c : Choice) : Type 0 where
  pub set : ZoneIn n part
  pub adds : Adds n times c.row c.column
  pub column : c.column ≤ n

pub record KnownRows (n : ℕ) (times : List ℤ) (cols : List ℕ) (i : ℕ) : Type 0 where
  pub from_one : 1 ≤ i
  pub to_end : i ≤ suc n
  pub long : length cols ≡ i
  pub columns : Cols n (times_in times) cols i
