-- A try as code makes it: column after column, row after row.
use Prim.Native.Nat.{ℕ, suc, ◌+◌, ◌-◌, ◌≤◌, ◌<◌}
use native.Mathlib.Omega.{arith}
use mathlib.Core.Path.{◌≡◌, refl, ◌∙◌}
use mathlib.Core.Bool.{true, false, cond}
use mathlib.Core.List.{List, [], ◌∷◌, ◌++◌, foldl}
use mathlib.Core.Option.{none, some}
use Rattle.model.specs.Matrix.{Matrix, constrain}
use Rattle.model.specs.Network.{Time, time, is_time}
use Rattle.model.specs.Search.{columns}
use Rattle.decisions.specs.Decide.{first_constraints, found, missed, first_of, entered, descend}
use Rattle.decisions.specs.Conditions.{columns_from, try_column}

-- ---- column after column
module _ (n : ℕ) (b : List Time) (i j : ℕ) where
  from_time : j ≤ n → columns_from n b i j ≡ cond (is_time (time n b i j)) (j ∷ columns_from n b i (j + 1)) (columns_from n b i (j + 1))
  unfolding columns
  from_time h =
      let e : suc n - j ≡ suc (n - j) = omega arith in
      let f : suc n - (j + 1) ≡ n - j = omega arith in
      let g : j + 1 ≡ suc j = omega arith in
      rw (e, f, g)

  pub column_next : j ≤ n → is_time (time n b i j) ≡ true → columns_from n b i j ≡ j ∷ columns_from n b i (j + 1)
  column_next h e = from_time h ∙ rw e

  pub column_blank : j ≤ n → is_time (time n b i j) ≡ false → columns_from n b i j ≡ columns_from n b i (j + 1)
  column_blank h e = from_time h ∙ rw e

  pub column_end : n < j → columns_from n b i j ≡ []
  unfolding columns
  column_end h = let e : suc n - j ≡ 0 = omega arith in rw e

-- ---- row after row
module _ (n : ℕ) (b : List Time) (d : Matrix) (r i : ℕ) (sel : List ℕ) (z : Matrix) where
  pub descend_row : (t : ℕ) → descend n b d (suc r) i sel z t ≡ first_of (try_column n b d r i sel z) (columns_from n b i 1) t
  unfolding descend
  descend_row t = let e : suc n - 1 ≡ n = omega arith in rw e

  pub try_empty : (s t : ℕ) → foldl (constrain (suc n)) (some z) (first_constraints n b d sel i s) ≡ none → try_column n b d r i sel z s t ≡ missed t
  unfolding entered
  try_empty s t e = rw e

  pub try_left : (s t : ℕ) {y : Matrix} → foldl (constrain (suc n)) (some z) (first_constraints n b d sel i s) ≡ some y
      → try_column n b d r i sel z s t ≡ descend n b d r (suc i) (sel ++ (s ∷ [])) y t
  unfolding entered
  try_left s t e = rw e

pub descend_end : (n : ℕ) (b : List Time) (d : Matrix) (i : ℕ) (sel : List ℕ) (z : Matrix) (t : ℕ) → descend n b d 0 i sel z t ≡ found z
unfolding descend
descend_end n b d i sel z t = refl
