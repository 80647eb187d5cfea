-- Difference-bound matrices, flat and by rows: entry (i, j) of m rows bounds x(i) - x(j).
use Rattle.std.specs.Prelude.{ℕ, ◌+◌, ◌*◌, ◌<◌, ℤ, pos, ◌-ℤ◌, Bool, cond, get_or, eqb}
use mathlib.Core.List.{List, flatten, foldl}
use Rattle.std.proofs.Math.Option.{Option, none, some}
use Rattle.model.specs.Lists.{tabulate, same_lists}
use Rattle.model.specs.Bound as B
use Rattle.model.specs.Bound.{Bound, upto, most, Holds, plus, tighter, negative, same_bound}

abbrev pub Matrix : Type 0
Matrix = List Bound

unfoldable pub entry : ℕ → Matrix → ℕ → ℕ → Bound
entry m d i j = get_or d (i * m + j) B.Bound.none

-- the times x keep to each bound of d
abbrev pub Member : ℕ → Matrix → (ℕ → ℤ) → Type 0
Member m d x = (i j : ℕ) → i < m → j < m → Holds (x i -ℤ x j) (entry m d i j)

unfoldable pub matrix : ℕ → (ℕ → ℕ → Bound) → Matrix
matrix m f = flatten (tabulate m 0 (λ i. tabulate m 0 (λ j. f i j)))

-- all times
unfoldable pub diagonal : ℕ → ℕ → Bound
diagonal i j = cond (eqb i j) (most (pos 0)) B.Bound.none

unfoldable pub everything : ℕ → Matrix
everything m = matrix m diagonal

-- x(row) - x(col) is within limit
pub record Constraint : Type 0 where
  pub row : ℕ
  pub col : ℕ
  pub limit : Bound

-- that x(a) - x(b) is within c, taken in
unfoldable pub relaxed : ℕ → Matrix → ℕ → ℕ → Bound → Matrix
relaxed m d a b c = matrix m (λ i j. tighter (entry m d i j) (plus (plus (entry m d i a) c) (entry m d b j)))

unfoldable pub within : ℕ → Matrix → ℕ → ℕ → Bound → Option Matrix
within m d a b B.Bound.none = some d
within m d a b (upto s c) = cond (negative (plus (entry m d b a) (upto s c))) none (some (relaxed m d a b (upto s c)))

-- one more constraint: the tightest bounds of the times of d that meet it too, or none where there are none
unfoldable pub constrain : ℕ → Option Matrix → Constraint → Option Matrix
constrain m none k = none
constrain m (some d) k = within m d k.row k.col k.limit

-- the tightest bounds of the times that meet all
unfoldable pub tighten : ℕ → List Constraint → Option Matrix
tighten m ks = foldl (constrain m) (some (everything m)) ks

unfoldable pub same_matrix : Matrix → Matrix → Bool
same_matrix d e = same_lists same_bound d e
