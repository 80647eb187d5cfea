-- A matrix that is stored place by place, row by row.
use Prim.Native.Nat.{ℕ, suc, ◌+◌, ◌*◌, ◌≤◌, ◌<◌}
use native.Mathlib.Omega.{arith}
use native.Mathlib.Decide.{dec_lt, ℕ_discrete}
use mathlib.Core.Path.{◌≡◌, refl, sym, ◌∙◌}
use lib.ListN.{length, set}
use lib.Seq.{get_or-set_same, get_or-set_other}
use Rattle.model.specs.Sizes.{zone_size}
use Rattle.model.specs.Bound as B
use Rattle.model.specs.Bound.{Bound}
use Rattle.model.specs.Matrix.{Matrix, entry, matrix}
use Rattle.model.proofs.Entries.{length_matrix, entry_matrix, ext_entry}
use Rattle.memory.specs.Matrices.{RowFilled}
use Rattle.memory.proofs.Places.{in_rows}

-- two entries at one place are one
pub same_row : (m i j k l : ℕ) → j < m → l < m → k * m + l ≡ i * m + j → k ≡ i
same_row m i j k l hj hl e = go (dec_lt k i) (dec_lt i k)
  where
    go : Dec (k < i) → Dec (i < k) → k ≡ i
    go (yes h) q = absurd (omega (arith, in_rows m k l i h hl))
    go (no p) (yes h) = absurd (omega (arith, in_rows m i j k h hj))
    go (no p) (no q) = omega arith

-- a store at (i, j)
module _ (m : ℕ) (d : Matrix) (i j : ℕ) (b : Bound) (hj : j < m) where
  entry_stored : i < m → length d ≡ m * m → entry m (set d (i * m + j) b) i j ≡ b
  unfolding entry
  entry_stored hi size = get_or-set_same d (i * m + j) b B.Bound.none (omega (arith, in_rows m i j m hi hj))

  entry_kept : (k l : ℕ) → l < m → (k ≡ i → l ≡ j → ⊥) → entry m (set d (i * m + j) b) k l ≡ entry m d k l
  unfolding entry
  entry_kept k l hl ne = get_or-set_other d (i * m + j) (k * m + l) b B.Bound.none (λ e.
      let row = same_row m i j k l hj hl e in
      ne row (let place : i * m + l ≡ i * m + j = rw row at e in omega arith))

-- a row that is f as it stands
pub row_kept : (n : ℕ) (d : Matrix) (f : ℕ → Bound) (i : ℕ) → ((l : ℕ) → l < suc n → entry (suc n) d i l ≡ f l) → RowFilled n d d f i (suc n)
row_kept n d f i e = record { done = λ l h k. e l h; left = λ l h k. refl; others = λ k l h g ne. refl }

pub row_step : {n : ℕ} {d₀ d : Matrix} {f : ℕ → Bound} {i j : ℕ} (b : Bound) → RowFilled n d₀ d f i j → length d ≡ zone_size n → i < suc n → j < suc n
    → b ≡ f j → RowFilled n d₀ (set d (i * suc n + j) b) f i (j + 1)
row_step {n} {d} {f} {i} {j} b p size hi hj e = record {
  done = λ l h k. elim (ℕ_discrete l j) [
    | yes q ↦ rw (q, ← e) (entry_stored (suc n) d i j b hj hi size)
    | no ne ↦ other i l h (λ r. ne) ∙ p.done l h (omega arith)
  ];
  left = λ l h k. other i l h (λ r q. omega arith) ∙ p.left l h (omega arith);
  others = λ k l g h ne. other k l h (λ r q. ne r) ∙ p.others k l g h ne;
}
  where
    other : (k l : ℕ) → l < suc n → (k ≡ i → l ≡ j → ⊥) → entry (suc n) (set d (i * suc n + j) b) k l ≡ entry (suc n) d k l
    other = entry_kept (suc n) d i j b hj

-- the first i rows of d are those of f; all else is as in d₀
pub record Filled (n : ℕ) (d₀ d : Matrix) (f : ℕ → ℕ → Bound) (i : ℕ) : Type 0 where
  pub done : (k l : ℕ) → k < suc n → l < suc n → k < i → entry (suc n) d k l ≡ f k l
  pub left : (k l : ℕ) → k < suc n → l < suc n → i ≤ k → entry (suc n) d k l ≡ entry (suc n) d₀ k l

-- one more row, g, which is row i of f
pub rows_step : {n : ℕ} {d₀ d d' : Matrix} {f : ℕ → ℕ → Bound} {g : ℕ → Bound} {i : ℕ} → Filled n d₀ d f i → RowFilled n d d' g i (suc n)
    → ((l : ℕ) → l < suc n → g l ≡ f i l) → Filled n d₀ d' f (i + 1)
rows_step {i} p q e = record {
  done = λ k l g h r. elim (ℕ_discrete k i) [
    | yes s ↦ rw s (q.done l h h ∙ e l h)
    | no ne ↦ q.others k l g h ne ∙ p.done k l g h (omega arith)
  ];
  left = λ k l g h r. q.others k l g h (λ s. omega arith) ∙ p.left k l g h (omega arith);
}

-- all rows
pub rows_done : {n : ℕ} {d₀ d : Matrix} {f : ℕ → ℕ → Bound} {i : ℕ} → Filled n d₀ d f i → length d ≡ zone_size n → suc n ≤ i → d ≡ matrix (suc n) f
rows_done {n} {d} {f} p size h =
    ext_entry (suc n) d (matrix (suc n) f) size (length_matrix (suc n) f)
    (λ k l g r. p.done k l g r (omega arith) ∙ sym (entry_matrix (suc n) k l f g r))
