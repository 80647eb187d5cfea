-- One more constraint, that x(a) - x(b) is within a limit, taken in row by row.
use Prim.Native.Nat.{ℕ, suc, ◌+◌, ◌*◌, ◌≤◌, ◌<◌}
use native.Mathlib.Omega.{arith}
use native.Mathlib.Decide.{dec_lt, ℕ_discrete}
use mathlib.Core.Path.{◌≡◌, refl, sym, ap, ◌∙◌}
use mathlib.Core.Option.{Option, none, some}
use mathlib.Core.Bool.{Bool, true, false}
use mathlib.Core.List.{List}
use lib.ListN.{length, set}
use Rattle.ints.proofs.Integers.{impossible}
use Rattle.model.specs.Sizes.{zone_size}
use Rattle.model.specs.Bound as B
use Rattle.model.specs.Bound.{Bound, LeB, any, plus, tighter, negative}
use Rattle.model.specs.Matrix.{Matrix, entry, relaxed, constrain}
use Rattle.model.specs.Conditions.{Closed, Fits, Small}
use Rattle.model.proofs.Bounds.{le_b_refl, le_b_trans, plus_mono, plus_comm, plus_none, plus_zero, tighter_of_le, negative_true, negative_false}
use Rattle.model.proofs.Closed.{Within, free, ruled_out, kept, within_is}
use Rattle.model.proofs.Entries.{length_matrix, entry_matrix, ext_entry}
use Rattle.model.proofs.Fitted.{fitting_bounded, fitting_step}
use Rattle.model.proofs.Listed.{of_both}
use Rattle.model.proofs.Zones.{constrain_implied}
use Rattle.memory.specs.Matrices.{RowFilled, across, Relaxable, leaves, SomeLeft, limited, Takes}
use Rattle.memory.proofs.Fills.{Filled, row_kept, row_step, rows_step, rows_done}

-- no way, or one that is not negative and comes back, leaves a bound
no_way : (x y : Bound) → tighter x (plus B.Bound.none y) ≡ x
no_way x y = rw (plus_comm B.Bound.none y, plus_none y) (tighter_of_le any)

round : (x y : Bound) → negative x ≡ false → tighter y (plus x y) ≡ y
round x y e = tighter_of_le (rw (plus_zero y) at (plus_mono (negative_false x e) (le_b_refl y)))

-- ---- one row
-- where there is no way the row stays
pub row_left : (n : ℕ) (d : Matrix) (i b : ℕ) → RowFilled n d d (across n d i b B.Bound.none) i (suc n)
row_left n d i b = row_kept n d _ i (λ l h. sym (no_way _ _))

-- and where the bound there is as tight as the way
pub row_implied : {X : Type 0} {n L W : ℕ} {z : List X} {d : Matrix} {i b : ℕ} {way : Bound} → Relaxable n L W z d i b way → LeB (entry (suc n) d i b) way
    → RowFilled n d d (across n d i b way) i (suc n)
row_implied {n} {d} {i} r le = row_kept n d _ i (λ l h. sym (tighter_of_le (le_b_trans (r.closed l h) (plus_mono le (le_b_refl _)))))

module _ {n : ℕ} {d₀ d : Matrix} {i b j : ℕ} (way : Bound) (p : RowFilled n d₀ d (across n d₀ i b way) i j) (hb : b < suc n) (hj : j < suc n) where
  -- row b is as it was where it is read, also where it is row i itself
  base : entry (suc n) d b j ≡ entry (suc n) d₀ b j
  base = elim (ℕ_discrete b i) [ yes e ↦ rw e (p.left j hj (omega arith)) | no ne ↦ p.others b j hb hj ne ]

  -- so the new entry is the one that is wanted
  pub new_is : across n d i b way j ≡ across n d₀ i b way j
  new_is = rw (base, p.left j hj (omega arith))

  pub row_relaxed : (new : Bound) → length d ≡ zone_size n → i < suc n → new ≡ across n d i b way j
      → RowFilled n d₀ (set d (i * suc n + j) new) (across n d₀ i b way) i (j + 1)
  row_relaxed new size hi e = row_step new p size hi hj (e ∙ new_is)

-- ---- all rows
-- entry (i, j), with the way by the new constraint
abbrev pub via : ℕ → Matrix → ℕ → ℕ → Bound → ℕ → ℕ → Bound
via n d a b limit i j = across n d i b (plus (entry (suc n) d i a) limit) j

module _ {n : ℕ} {d : Matrix} {a b : ℕ} {limit : Bound} (cl : Closed (suc n) d) (f : Fits (suc n) (record { row = a; col = b; limit = limit })) where
  -- d implies it
  pub all_left : LeB (entry (suc n) d a b) limit → leaves n d (limited a b limit) ≡ some d
  all_left le = constrain_implied (suc n) cl f le

  abbrev around : Bound
  around = plus (entry (suc n) d b a) limit

  -- no times are left
  pub none_left : negative around ≡ true → leaves n d (limited a b limit) ≡ none
  unfolding constrain
  none_left e = go (within_is (suc n) d a b limit) e
    where
      go : {c : Bound} {o : Option Matrix} → Within (suc n) d a b c o → negative (plus (entry (suc n) d b a) c) ≡ true → o ≡ none
      go free e = absurd (negative_true _ e (rw (plus_none (entry (suc n) d b a)) any))
      go (ruled_out out) e = refl
      go (kept ok) e = absurd (negative_true _ e ok)

  -- with no limit all is as it was
  relaxed_free : d ≡ relaxed (suc n) d a b B.Bound.none
  unfolding relaxed
  relaxed_free = ext_entry (suc n) d _ cl.size (length_matrix (suc n) _) (λ i j hi hj.
      sym (entry_matrix (suc n) i j _ hi hj ∙ rw (plus_none (entry (suc n) d i a)) (no_way _ _)))

  -- some are left
  pub some_left : negative around ≡ false → leaves n d (limited a b limit) ≡ some (relaxed (suc n) d a b limit)
  unfolding constrain
  some_left e = go (within_is (suc n) d a b limit) e
    where
      go : {c : Bound} {o : Option Matrix} → Within (suc n) d a b c o → negative (plus (entry (suc n) d b a) c) ≡ false → o ≡ some (relaxed (suc n) d a b c)
      go free e = ap some relaxed_free
      go (ruled_out out) e = absurd (out (negative_false _ e))
      go (kept ok) e = refl

  -- if some are left, the way round is not negative
  pub not_around : SomeLeft n d (limited a b limit) → negative around ≡ false
  not_around s = go (negative around) refl
    where
      go : (t : Bool) → negative around ≡ t → t ≡ false
      go true e = let both = sym (none_left e) ∙ s.is in impossible cc
      go false e = refl

module _ {n L : ℕ} {d : Matrix} {a b : ℕ} {limit : Bound} (t : Takes n L d (limited a b limit)) where
  pub inside : Fits (suc n) (record { row = a; col = b; limit = limit })
  inside = (of_both t.fits).0

  module _ (ok : negative (plus (entry (suc n) d b a) limit) ≡ false) where
    -- every entry stays small
    via_small : (i j : ℕ) → i < suc n → j < suc n → Small L (via n d a b limit i j)
    unfolding relaxed
    via_small i j hi hj =
        rw (entry_matrix (suc n) i j _ hi hj) at (fitting_bounded (rw (some_left t.closed inside ok) at (fitting_step t.fitting)) i j hi hj)

    module _ {d' : Matrix} {i : ℕ} (inv : Filled n d d' (via n d a b limit) i) (hi : i < suc n)
        {way : Bound} (e : way ≡ plus (entry (suc n) d' i a) limit) where
      -- row b does not change
      pub base_same : (j : ℕ) → j < suc n → entry (suc n) d' b j ≡ entry (suc n) d b j
      base_same j hj = elim (dec_lt b i) [
        | yes l ↦ inv.done b j inside.col_fits hj l ∙ round _ _ ok
        | no l ↦ inv.left b j inside.col_fits hj (omega arith)
      ]

      row_same : (j : ℕ) → j < suc n → entry (suc n) d' i j ≡ entry (suc n) d i j
      row_same j hj = inv.left i j hi hj (omega arith)

      via_here : (j : ℕ) → j < suc n → across n d' i b way j ≡ via n d a b limit i j
      via_here j hj = rw (e, row_same a inside.row_fits, row_same j hj, base_same j hj)

      pub next_closed : (j : ℕ) → j < suc n → LeB (entry (suc n) d' i j) (plus (entry (suc n) d' i b) (entry (suc n) d' b j))
      next_closed j hj =
          rw (row_same b inside.col_fits, row_same j hj, base_same j hj) (t.closed.triangle i j b hi hj inside.col_fits)

      pub next_small : (j : ℕ) → j < suc n → Small L (across n d' i b way j)
      next_small j hj = rw (via_here j hj) (via_small i j hi hj)

      pub row_taken : {d'' : Matrix} → RowFilled n d' d'' (across n d' i b way) i (suc n) → Filled n d d'' (via n d a b limit) (i + 1)
      row_taken q = rows_step inv q via_here

    pub all_taken : {d' : Matrix} {i : ℕ} → Filled n d d' (via n d a b limit) i → length d' ≡ zone_size n → suc n ≤ i → leaves n d (limited a b limit) ≡ some d'
    unfolding relaxed
    all_taken inv size h = some_left t.closed inside ok ∙ ap some (sym (rows_done inv size h))
