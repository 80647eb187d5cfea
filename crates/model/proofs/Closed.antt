-- Closed matrices: no entry is wider than a way round by a third row; all times have one, and a new constraint keeps it.
use Prim.Native.Nat.{ℕ, ◌<◌}
use mathlib.Core.Path.{◌≡◌, refl, ◌∙◌}
use mathlib.Core.Bool.{Bool, true, false, cond}
use mathlib.Core.Option.{Option, none, some}
use lib.IntN.{pos}
use lib.Dec.{eqb, eqb→eq, eqb_refl, T}
use Rattle.model.specs.Bound as B
use Rattle.model.specs.Bound.{Bound, upto, most, LeB, any, plus, tighter, negative}
use Rattle.model.proofs.Bounds.{le_b_refl, le_b_trans, plus_mono, plus_assoc, plus_comm, plus_zero}
use Rattle.model.proofs.Bounds.{tighter_either, tighter_of_le, tighter_left, tighter_right, negative_false, negative_true}
use Rattle.model.specs.Matrix.{Matrix, entry, matrix, diagonal, everything, relaxed, within}
use Rattle.model.specs.Conditions.{Closed}
use Rattle.model.proofs.Entries.{length_matrix, entry_matrix}

-- a matrix is closed if the function that makes it is
pub matrix_closed : (m : ℕ) (f : ℕ → ℕ → Bound) → ((i : ℕ) → i < m → f i i ≡ most (pos 0))
    → ((i j k : ℕ) → i < m → j < m → k < m → LeB (f i j) (plus (f i k) (f k j))) → Closed m (matrix m f)
matrix_closed m f dg tr = record {
  size = length_matrix m f;
  diag = λ i h. entry_matrix m i i f h h ∙ dg i h;
  triangle = λ i j k hi hj hk. rw (entry_matrix m i j f hi hj, entry_matrix m i k f hi hk, entry_matrix m k j f hk hj) (tr i j k hi hj hk);
}

-- all times
diagonal_same : (i : ℕ) → diagonal i i ≡ most (pos 0)
unfolding diagonal
diagonal_same i = go (eqb i i) (eqb_refl i)
  where
    go : (t : Bool) → T t → cond t (most (pos 0)) B.Bound.none ≡ most (pos 0)
    go true e = refl
    go false e = absurd e

diagonal_triangle : (i j k : ℕ) → LeB (diagonal i j) (plus (diagonal i k) (diagonal k j))
unfolding diagonal plus
diagonal_triangle i j k = go (eqb i k) (eqb k j) refl refl
  where
    go : (s t : Bool) → eqb i k ≡ s → eqb k j ≡ t
        → LeB (diagonal i j) (plus (cond s (most (pos 0)) B.Bound.none) (cond t (most (pos 0)) B.Bound.none))
    go true true e f =
        let p = eqb→eq i k (rw e tt) in
        let q = eqb→eq k j (rw f tt) in
        rw (p, q, diagonal_same j) (le_b_refl (most (pos 0)))
    go true false e f = any
    go false t e f = any

pub everything_closed : (m : ℕ) → Closed m (everything m)
unfolding everything
everything_closed m = matrix_closed m diagonal (λ i h. diagonal_same i) (λ i j k hi hj hk. diagonal_triangle i j k)

-- ways that use the new constraint c once or twice are no tighter than one that uses it once
old_then_new : (x p p' c q : Bound) → LeB p' (plus x p) → LeB (plus (plus p' c) q) (plus x (plus (plus p c) q))
old_then_new x p p' c q h = simp plus_assoc (simp plus_assoc at (plus_mono h (le_b_refl (plus c q))))

new_then_old : (p c q q' x : Bound) → LeB q' (plus q x) → LeB (plus (plus p c) q') (plus (plus (plus p c) q) x)
new_then_old p c q q' x h = simp plus_assoc (simp plus_assoc at (plus_mono (le_b_refl (plus p c)) h))

new_then_new : (p c q p' q' r : Bound) → LeB r (plus q p') → LeB (most (pos 0)) (plus r c)
    → LeB (plus (plus p c) q') (plus (plus (plus p c) q) (plus (plus p' c) q'))
new_then_new p c q p' q' r h ok =
    let around : LeB (most (pos 0)) (plus (plus q p') c) = le_b_trans ok (plus_mono h (le_b_refl c)) in
    simp plus_assoc (simp (plus_assoc, plus_zero) at (plus_mono (le_b_refl (plus p c)) (plus_mono around (le_b_refl q'))))

new_around : (p c q r : Bound) → LeB r (plus q p) → LeB (most (pos 0)) (plus r c) → LeB (most (pos 0)) (plus (plus p c) q)
new_around p c q r h ok =
    let swap : plus (plus q p) c ≡ plus (plus p c) q = plus_assoc q p c ∙ plus_comm q (plus p c) in
    rw swap at (le_b_trans ok (plus_mono h (le_b_refl c)))

-- one more constraint, that x(a) - x(b) is within c, that the matrix does not rule out
module _ (m : ℕ) (d : Matrix) (cl : Closed m d) (a b : ℕ) (c : Bound) (ha : a < m) (hb : b < m)
    (ok : LeB (most (pos 0)) (plus (entry m d b a) c)) where
  abbrev D : ℕ → ℕ → Bound
  D = entry m d

  -- the way from i to j by the new constraint
  abbrev via : ℕ → ℕ → Bound
  via i j = plus (plus (D i a) c) (D b j)

  relaxed_triangle : (i j k : ℕ) → i < m → j < m → k < m
      → LeB (tighter (D i j) (via i j)) (plus (tighter (D i k) (via i k)) (tighter (D k j) (via k j)))
  relaxed_triangle i j k hi hj hk =
      tighter_either (λ u. LeB least (plus u (tighter (D k j) (via k j)))) (D i k) (via i k)
      (tighter_either (λ u. LeB least (plus (D i k) u)) (D k j) (via k j)
      (le_b_trans (tighter_left _ _) (cl.triangle i j k hi hj hk))
      (le_b_trans (tighter_right _ _) (old_then_new (D i k) (D k a) (D i a) c (D b j) (cl.triangle i a k hi ha hk))))
      (tighter_either (λ u. LeB least (plus (via i k) u)) (D k j) (via k j)
      (le_b_trans (tighter_right _ _) (new_then_old (D i a) c (D b k) (D b j) (D k j) (cl.triangle b j k hb hj hk)))
      (le_b_trans (tighter_right _ _) (new_then_new (D i a) c (D b k) (D k a) (D b j) (D b a) (cl.triangle b a k hb ha hk) ok)))
    where
      least : Bound
      least = tighter (D i j) (via i j)

  relaxed_diagonal : (i : ℕ) → i < m → tighter (D i i) (via i i) ≡ most (pos 0)
  relaxed_diagonal i h = tighter_of_le around ∙ cl.diag i h
    where
      around : LeB (D i i) (via i i)
      around = rw (cl.diag i h) (new_around (D i a) c (D b i) (D b a) (cl.triangle b a i hb ha h) ok)

  pub relaxed_closed : Closed m (relaxed m d a b c)
  unfolding relaxed
  relaxed_closed = matrix_closed m (λ i j. tighter (D i j) (via i j)) relaxed_diagonal relaxed_triangle

-- the three ways that `within` goes
pub data Within (m : ℕ) (d : Matrix) (a b : ℕ) : Bound → Option Matrix → Type 0 where
  free : Within m d a b B.Bound.none (some d)
  ruled_out : {c : Bound} → (LeB (most (pos 0)) (plus (entry m d b a) c) → ⊥) → Within m d a b c none
  kept : {c : Bound} → LeB (most (pos 0)) (plus (entry m d b a) c) → Within m d a b c (some (relaxed m d a b c))

by_test : (m : ℕ) (d : Matrix) (a b : ℕ) (c : Bound) → Within m d a b c (cond (negative (plus (entry m d b a) c)) none (some (relaxed m d a b c)))
by_test m d a b c = go (negative (plus (entry m d b a) c)) refl
  where
    go : (t : Bool) → negative (plus (entry m d b a) c) ≡ t → Within m d a b c (cond t none (some (relaxed m d a b c)))
    go true e = ruled_out (negative_true _ e)
    go false e = kept (negative_false _ e)

pub within_is : (m : ℕ) (d : Matrix) (a b : ℕ) (limit : Bound) → Within m d a b limit (within m d a b limit)
unfolding within
within_is m d a b B.Bound.none = free
within_is m d a b (upto s c) = by_test m d a b (upto s c)

pub within_closed : {m : ℕ} {d : Matrix} {a b : ℕ} {limit : Bound} {d' : Matrix}
    → Closed m d → a < m → b < m → Within m d a b limit (some d') → Closed m d'
within_closed cl ha hb free = cl
within_closed {m} {d} {a} {b} cl ha hb (kept {c} ok) = relaxed_closed m d cl a b c ha hb ok
