-- Document 01's patterns: a bound or none for each ordered pair i, j from 0 to n, i not j, by i, then j. x(0) is the clock's zero.
use Rattle.std.specs.Prelude.{ℕ, suc, ◌+◌, ◌*◌, ◌-◌, ◌<◌, ℤ, ◌-ℤ◌, Bool, true, false, ◌&&◌, cond, get_or, eqb, ltb}
use mathlib.Core.List.{List, flatten}
use Rattle.model.specs.Lists.{tabulate, all_of}
use Rattle.model.specs.Bound as B
use Rattle.model.specs.Bound.{Bound, upto, Holds}
use Rattle.model.specs.Matrix.{Constraint}

-- the place of the pair i, j, i not j
unfoldable pub pair_place : ℕ → ℕ → ℕ → ℕ
pair_place n i j = i * n + cond (ltb j i) j (j - 1)

unfoldable pub pair_bound : ℕ → List Bound → ℕ → ℕ → Bound
pair_bound n b i j = cond (eqb i j) B.Bound.none (get_or b (pair_place n i j) B.Bound.none)

unfoldable pub pattern_constraints : ℕ → List Bound → List Constraint
pattern_constraints n b =
    flatten (tabulate (suc n) 0 (λ i. tabulate (suc n) 0 (λ j. record { row = i; col = j; limit = pair_bound n b i j })))

unfoldable pub is_none : Bound → Bool
is_none B.Bound.none = true
is_none (upto s b) = false

-- bounds only differences: no stated bound names x(0)
unfoldable pub only_differences : ℕ → List Bound → Bool
only_differences n b = all_of (λ j. is_none (pair_bound n b 0 j) && is_none (pair_bound n b j 0)) (tabulate n 1 (λ j. j))

-- the times, x(0) first, are within the pattern
pub record InPattern (n : ℕ) (b : List Bound) (x : ℕ → ℤ) : Type 0 where
  pub keeps : (i j : ℕ) → i < suc n → j < suc n → Holds (x i -ℤ x j) (pair_bound n b i j)
