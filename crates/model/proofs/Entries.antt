-- A matrix is its entries.
use Prim.Native.Nat.{ℕ, zero, suc, ◌+◌, ◌*◌, ◌/◌, ◌%◌, ◌<◌}
use native.Mathlib.Omega.{arith}
use native.Mathlib.Nat.{zero-add, div-add-mod', mod-lt, div-lt_iff_lt-mul}
use mathlib.Core.Path.{◌≡◌, refl, ap, sym, ◌∙◌}
use mathlib.Core.List.{List, ◌++◌, flatten}
use lib.ListN.{length, get_or, length-append, get_or-append}
use lib.Seq.{ext_get_or, get_or-append-add}
use Rattle.model.specs.Lists.{tabulate, Every}
use Rattle.model.specs.Bound as B
use Rattle.model.specs.Bound.{Bound}
use Rattle.model.specs.Matrix.{Matrix, entry, matrix, Constraint}
use Rattle.model.specs.Search.{bounds_of}
use Rattle.model.proofs.Listed.{every_get_d, every_tabulate, at_tabulate, every_flatten, in_flatten}

module _ {ℓ} {X : Type ℓ} where
  pub length_tabulate : (n k : ℕ) (f : ℕ → X) → length (tabulate n k f) ≡ n
  unfolding tabulate
  length_tabulate zero k f = refl
  length_tabulate (suc n) k f = ap suc (length_tabulate n (suc k) f)

  pub get_d_tabulate : (n k i : ℕ) (f : ℕ → X) (z : X) → i < n → get_or (tabulate n k f) i z ≡ f (k + i)
  unfolding tabulate
  get_d_tabulate zero k i f z h = absurd (omega arith)
  get_d_tabulate (suc n) k zero f z h = ap f (omega arith)
  get_d_tabulate (suc n) k (suc i) f z h = get_d_tabulate n (suc k) i f z (omega arith) ∙ ap f (omega arith)

  -- where a place of two lists in a row lies
  in_first : (xs ys : List X) (n p j : ℕ) (z : X) → length xs ≡ n → p ≡ j → j < n → get_or (xs ++ ys) p z ≡ get_or xs j z
  in_first xs ys n p j z l e h = rw e (get_or-append xs ys z j (omega arith))

  in_second : (xs ys : List X) (n p q : ℕ) (z : X) → length xs ≡ n → p ≡ n + q → get_or (xs ++ ys) p z ≡ get_or ys q z
  in_second xs ys n p q z l e = rw (e, ← l) (get_or-append-add xs ys q z)

  -- a table by rows: n of them, from row k on, with m places each
  abbrev pub rows : ℕ → ℕ → ℕ → (ℕ → ℕ → X) → List X
  rows m n k f = flatten (tabulate n k (λ i. tabulate m 0 (λ j. f i j)))

  pub length_rows : (m n k : ℕ) (f : ℕ → ℕ → X) → length (rows m n k f) ≡ n * m
  unfolding tabulate flatten
  length_rows m zero k f = omega arith
  length_rows m (suc n) k f = simp (length-append, length_tabulate) (omega (arith, length_rows m n (suc k) f))

  pub get_d_rows : (m n k i j : ℕ) (f : ℕ → ℕ → X) (z : X) → i < n → j < m → get_or (rows m n k f) (i * m + j) z ≡ f (k + i) j
  unfolding tabulate flatten
  get_d_rows m zero k i j f z h l = absurd (omega arith)
  get_d_rows m (suc n) k zero j f z h l =
      in_first (tabulate m 0 (f k)) (rows m n (suc k) f) m (0 * m + j) j z (length_tabulate m 0 (f k)) (omega arith) l
      ∙ get_d_tabulate m 0 j (f k) z l
      ∙ ap (f k) (omega arith) ∙ ap (λ (r : ℕ). f r j) (omega arith)
  get_d_rows m (suc n) k (suc i) j f z h l =
      in_second (tabulate m 0 (f k)) (rows m n (suc k) f) m (suc i * m + j) (i * m + j) z (length_tabulate m 0 (f k)) (omega arith)
      ∙ get_d_rows m n (suc k) i j f z (omega arith) l
      ∙ ap (λ (r : ℕ). f r j) (omega arith)

pub length_matrix : (m : ℕ) (f : ℕ → ℕ → Bound) → length (matrix m f) ≡ m * m
unfolding matrix
length_matrix m f = length_rows m m 0 f

pub entry_matrix : (m i j : ℕ) (f : ℕ → ℕ → Bound) → i < m → j < m → entry m (matrix m f) i j ≡ f i j
unfolding matrix entry
entry_matrix m i j f h k = get_d_rows m m 0 i j f B.Bound.none h k ∙ rw zero-add

-- a place of a matrix is that of an entry
module _ (m : ℕ) (P : ℕ → Type 0) where
  pub each_place : ((i j : ℕ) → i < m → j < m → P (i * m + j)) → (p : ℕ) → p < m * m → P p
  each_place h p l = go m refl
    where
      go : (k : ℕ) → m ≡ k → P p
      go zero e = absurd (let z : m * m ≡ 0 = rw e in omega arith)
      go (suc k) e =
          let pos : 0 < m = omega arith in
          rw (div-add-mod' p m) at (h (p / m) (p % m) ((div-lt_iff_lt-mul {k = m} {x = p} {y = m} pos).1 l) (mod-lt p pos))

-- equal entries, equal matrices
pub ext_entry : (m : ℕ) (d e : Matrix) → length d ≡ m * m → length e ≡ m * m
    → ((i j : ℕ) → i < m → j < m → entry m d i j ≡ entry m e i j) → d ≡ e
unfolding entry
ext_entry m d e ld le h =
    ext_get_or B.Bound.none d e (ld ∙ sym le) (λ p k. each_place m (λ p. get_or d p B.Bound.none ≡ get_or e p B.Bound.none) h p (omega arith))

-- what holds of every entry holds of every element
pub every_entry : (m : ℕ) (P : Bound → Type 0) (d : Matrix) → length d ≡ m * m → ((i j : ℕ) → i < m → j < m → P (entry m d i j)) → Every P d
unfolding entry
every_entry m P d e h = every_get_d B.Bound.none d (λ p k. each_place m (λ p. P (get_or d p B.Bound.none)) h p (omega arith))

-- what holds of each bound of a matrix, as a constraint
module _ (P : Constraint → Type 0) (m : ℕ) (d : Matrix) where
  pub every_bound : ((i j : ℕ) → i < m → j < m → P (record { row = i; col = j; limit = entry m d i j })) → Every P (bounds_of m d)
  unfolding bounds_of
  every_bound h = every_flatten (every_tabulate m 0 _ (λ i hi. every_tabulate m 0 _ (λ j hj. h _ _ (omega arith) (omega arith))))

  pub at_bound : Every P (bounds_of m d) → (i j : ℕ) → i < m → j < m → P (record { row = i; col = j; limit = entry m d i j })
  unfolding bounds_of
  at_bound h i j hi hj = simp zero-add at (at_tabulate m 0 _ (at_tabulate m 0 _ (in_flatten _ h) i hi) j hj)
