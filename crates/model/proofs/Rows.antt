-- What the constraints of a selection say, row by row.
use Prim.Native.Nat.{ℕ, suc, ◌+◌, ◌<◌}
use native.Mathlib.Omega.{arith}
use native.Mathlib.Nat.{zero-add}
use mathlib.Core.Path.{◌≡◌, refl, sym, ap, ap₂, ◌∙◌}
use mathlib.Core.List.{List, [], ◌∷◌, ◌++◌, append-nil, append_assoc, flatten}
use lib.ListN.{length, get_or, length-append, get_or-append}
use lib.Seq.{get_or_at}
use Rattle.model.specs.Lists.{tabulate, Every, done, both}
use Rattle.model.specs.Matrix.{Matrix, Constraint}
use Rattle.model.specs.Network.{Time, time}
use Rattle.model.specs.Search.{chosen, slack, attains, keeps, row_constraints, rows_constraints}
use Rattle.model.proofs.Listed.{every_append, every_split, every_tabulate, at_tabulate, every_flatten, in_flatten}
use Rattle.model.proofs.Tabulated.{tabulate_ext}

-- column j of row i, against the column s
abbrev pub behind : ℕ → List Time → ℕ → ℕ → ℕ → Constraint
behind n a i s j = record { row = j; col = s; limit = slack (chosen n a i s) (time n a i j) }

-- every constraint of row i with column s has P; cols holds the columns of the rows before
pub record Row (P : Constraint → Type 0) (n : ℕ) (a : List Time) (d : Matrix) (cols : List ℕ) (i s : ℕ) : Type 0 where
  pub attained : (j : ℕ) → j < n → P (behind n a i s (1 + j))
  pub ahead : (l : ℕ) → l < i → P (keeps n a d i s l (get_or cols l 0))
  pub back : (l : ℕ) → l < i → P (keeps n a d l (get_or cols l 0) i s)

module _ (P : Constraint → Type 0) (n : ℕ) (a : List Time) (d : Matrix) where
  -- the two that row i and row l make
  pairs : List ℕ → ℕ → ℕ → ℕ → List Constraint
  pairs cols i s l = keeps n a d i s l (get_or cols l 0) ∷ keeps n a d l (get_or cols l 0) i s ∷ []

  of_pair : {j k : Constraint} → Every P (j ∷ k ∷ []) → P j × P k
  of_pair (both h (both k done)) = (h, k)

  pub row_of_lem : (cols : List ℕ) (i s : ℕ) → Every P (row_constraints n a d cols i s) → Row P n a d cols i s
  unfolding row_constraints attains pairs
  row_of_lem cols i s e =
      let (p, q) = every_split (attains n a i s) (flatten (tabulate i 0 (pairs cols i s))) e in
      let two = at_tabulate i 0 (pairs cols i s) (in_flatten _ q) in
      record {
        attained = at_tabulate n 1 (behind n a i s) p;
        ahead = λ l h. rw (zero-add l) at (of_pair (two l h)).0;
        back = λ l h. rw (zero-add l) at (of_pair (two l h)).1;
      }

  pub of_row : (cols : List ℕ) (i s : ℕ) → Row P n a d cols i s → Every P (row_constraints n a d cols i s)
  unfolding row_constraints attains pairs
  of_row cols i s r =
      every_append (every_tabulate n 1 (behind n a i s) r.attained)
      (every_flatten (every_tabulate i 0 (pairs cols i s) (λ l h. rw (zero-add l) (both (r.ahead l h) (both (r.back l h) done)))))

-- of cols a row looks at the first ones alone
row_first : (n : ℕ) (a : List Time) (d : Matrix) (cols more : List ℕ) (i s : ℕ) → length cols ≡ i
    → row_constraints n a d cols i s ≡ row_constraints n a d (cols ++ more) i s
unfolding row_constraints
row_first n a d cols more i s e =
    ap (λ kss. attains n a i s ++ flatten kss) (tabulate_ext i 0 _ _ (λ l u k. rw (get_or-append cols more 0 l (omega arith))))

-- the constraints of all rows from row i on, row by row: cols holds the columns before, rest theirs
pub by_rows : (n : ℕ) (a : List Time) (d : Matrix) (cols : List ℕ) (i : ℕ) (rest : List ℕ) → length cols ≡ i
    → let all = cols ++ rest in rows_constraints n a d cols i rest ≡ flatten (tabulate (length rest) i (λ l. row_constraints n a d all l (get_or all l 0)))
unfolding rows_constraints tabulate flatten
by_rows n a d cols i [] e = refl
by_rows n a d cols i (s ∷ rest) e =
    rw (get_or_at cols s rest 0 i e) (ap₂ ◌++◌ (row_first n a d cols (s ∷ rest) i s e)
    (rw (append_assoc cols (s ∷ []) rest) at (by_rows n a d (cols ++ (s ∷ [])) (suc i) rest (omega (arith, length-append cols (s ∷ []))))))

-- one list more
pub flatten_snoc : {X : Type 0} (xss : List (List X)) (xs : List X) → flatten (xss ++ (xs ∷ [])) ≡ flatten xss ++ xs
unfolding flatten
flatten_snoc [] xs = append-nil xs
flatten_snoc (ys ∷ xss) xs = ap (◌++◌ ys) (flatten_snoc xss xs) ∙ sym (append_assoc ys (flatten xss) xs)
