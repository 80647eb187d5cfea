-- Conditions and short names that the contracts of code may use: tables in seconds beside the network in parts, a try in the middle, and sizes. The
-- demands do not rest on them.
use Rattle.std.specs.Prelude.{ℕ, zero, suc, ◌-◌, ◌≤◌, ◌≡◌, Bool, ℤ, nat_abs, length}
use mathlib.Core.List.{List, [], ◌∷◌, ◌++◌, map, foldl}
use Rattle.std.proofs.Math.Option.{some}
use Rattle.model.specs.Matrix.{Matrix, constrain, tighten}
use Rattle.model.specs.Pattern.{pattern_constraints}
use Rattle.model.specs.Network.{Time, secs, Network, scale_time, time}
use Rattle.model.specs.Search.{columns, parts_of, wholes}
use Rattle.model.specs.Conditions.{Column, Cols, Bounded, Fitting}
use Rattle.decisions.specs.Decide.{first_constraints, Tried, entered, descend, Decision, Kept, decide_from, wholly}

-- ---- zones
-- z is the start as a zone and d the target, neither empty
pub record Posed (w : Network) (z d : Matrix) : Type 0 where
  pub start : tighten (suc w.n) (pattern_constraints w.n w.start) ≡ some z
  pub target : tighten (suc w.n) (pattern_constraints w.n w.target) ≡ some d

-- z' and d' are those in whole parts
pub record Parted (w : Network) (z d z' d' : Matrix) : Type 0 where
  pub start_is : wholes (suc w.n) (parts_of w) z ≡ some z'
  pub target_is : wholes (suc w.n) (parts_of w) d ≡ some d'
  pub posed : Posed (wholly (parts_of w) w) z' d'

-- ---- tables in seconds
abbrev pub table_in : ℕ → List Time → List Time
table_in parts b = map (scale_time parts) b

abbrev pub kept_in : ℕ → Kept → Kept
kept_in parts c = record { table = table_in parts c.table; until = c.until }

-- r cycles from cycle k on of the network in parts, b being power k in seconds and c the kept one
abbrev pub from_seconds : Network → ℕ → Bool → Matrix → Matrix → ℕ → ℕ → ℕ → List Time → Kept → ℕ → Decision
from_seconds w parts may z d horizon r k b c t = decide_from (wholly parts w) may z d horizon r k (table_in parts b) (kept_in parts c) t

-- ---- a try
-- the columns of row i from column j on
abbrev pub columns_from : ℕ → List Time → ℕ → ℕ → List ℕ
columns_from n b i j = columns n b i (suc n - j) j

-- what column s leaves of z in row i, and the r rows below it, with some steps
abbrev pub try_column : ℕ → List Time → Matrix → ℕ → ℕ → List ℕ → Matrix → ℕ → ℕ → Tried
try_column n b d r i sel z s = entered (descend n b d r (suc i) (sel ++ (s ∷ []))) (foldl (constrain (suc n)) (some z) (first_constraints n b d sel i s))

-- the columns of rows 0 to i - 1
pub record Rowed (n : ℕ) (b : List Time) (cols : List ℕ) (i : ℕ) : Type 0 where
  pub from_one : 1 ≤ i
  pub long : length cols ≡ i
  pub columns : Cols n b cols i

-- ---- sizes
-- the times of a table are at most T in size
abbrev pub TimesTo : ℕ → ℕ → List Time → Type 0
TimesTo T n a = (i j : ℕ) (v : ℤ) → time n a i j ≡ secs v → nat_abs v ≤ T

-- no set on the way of r rows from row i on has a finite bound beyond L
pub data Tryable (n : ℕ) (b : List Time) (d : Matrix) (L : ℕ) : ℕ → ℕ → List ℕ → Matrix → Type 0 where
  last : {i : ℕ} {sel : List ℕ} {z : Matrix} → Bounded (suc n) L z → Tryable n b d L zero i sel z
  more : {r i : ℕ} {sel : List ℕ} {z : Matrix} → Bounded (suc n) L z
      → ((s : ℕ) → Column n b i s → Fitting (suc n) L (some z) (first_constraints n b d sel i s))
      → ((s : ℕ) → Column n b i s → (y : Matrix) → foldl (constrain (suc n)) (some z) (first_constraints n b d sel i s) ≡ some y
      → Tryable n b d L r (suc i) (sel ++ (s ∷ [])) y)
      → Tryable n b d L (suc r) i sel z

-- the largest time in seconds, bound in parts and picked time in parts: fifteen departures, sixteen parts a second, powers to one beyond the farthest horizon
abbrev pub most_time : ℕ
most_time = 353980800

abbrev pub most_bound : ℕ
most_bound = 173510784240

abbrev pub most_picked : ℕ
most_picked = 2602661763600
