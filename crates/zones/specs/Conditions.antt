-- What the public functions require and ensure.
use Rattle.std.specs.Prelude.{ℕ, suc, ◌≤◌, List, Bool, ℤ, length}
use Rattle.std.proofs.Math.Option.{some}
use Rattle.model.specs.Matrix.{Matrix, Constraint}
use Rattle.model.specs.Network.{Time}
use Rattle.model.specs.Search.{row_constraints}
use Rattle.model.specs.Conditions.{Column, Cols, Closed, Fitting, Meetable}
use Rattle.memory.specs.Numbers.{bounds_in, times_in, Limit}
use Rattle.memory.specs.Conditions.{ZoneIn, PatternIn}
use Rattle.memory.specs.Matrices.{leaves, Left}

-- a zone with its tightest bounds, which are d
pub record ClosedAs {A : Type 0} (n : ℕ) (z : List A) (d : Matrix) : Type 0 where
  pub zone : ZoneIn n z
  pub closed : Closed (suc n) d

abbrev pub ClosedIn : ℕ → List ℤ → Type 0
ClosedIn n z = ClosedAs n z (bounds_in z)

-- r and z' are what the constraints ks leave of z
abbrev pub Taken : ℕ → List ℤ → List Constraint → Bool → List ℤ → Type 0
Taken n z ks r z' = Left (leaves n (bounds_in z) ks) r (bounds_in z')

-- part can take in what row i adds with column s for the preimage of zone: no set on the way has a finite bound beyond L. cols holds the columns of the
-- rows before; p, a and d are what the numbers stand for
pub record RowsReady {A : Type 0} (L n : ℕ) (part : List A) (p : Matrix) (a : List Time) (d : Matrix) (cols : List ℕ) (i s : ℕ) : Type 0 where
  pub set : ClosedAs n part p
  pub from_one : 1 ≤ i
  pub to_n : i ≤ n
  pub cols_size : i ≤ length cols
  pub columns : Cols n a cols i
  pub column : Column n a i s
  pub fitting : Fitting (suc n) L (some p) (row_constraints n a d cols i s)

-- in numbers of 32 bits
abbrev pub RowReady : ℕ → List ℤ → List ℤ → List ℤ → List ℕ → ℕ → ℕ → Type 0
RowReady n part times zone cols i s = RowsReady Limit n part (bounds_in part) (times_in times) (bounds_in zone) cols i s

-- zone can take in the constraints of a pattern
pub record CommonReady (n : ℕ) (zone pattern : List ℤ) : Type 0 where
  pub set : ClosedIn n zone
  pub limits : PatternIn n pattern
  pub fitting : Meetable n (bounds_in pattern) Limit (bounds_in zone)
