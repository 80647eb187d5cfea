-- The times of a matrix, and what a constraint leaves of them.
use Prim.Native.Nat.{ℕ, ◌<◌}
use mathlib.Core.Path.{◌≡◌, refl}
use mathlib.Core.Option.{none, some}
use lib.IntN.{ℤ, pos, ◌-ℤ◌}
use lib.Dec.{eqb, eqb→eq}
use mathlib.Core.Bool.{Bool, true, false, cond}
use Rattle.ints.proofs.Integers.{up, dn, ints, add_ud, sub_ud}
use Rattle.model.specs.Bound as B
use Rattle.model.specs.Bound.{Bound, most, LeB, any, Holds, plus, tighter}
use Rattle.model.proofs.Bounds.{holds_none, holds_sum, le_b_trans, plus_comm, plus_zero, tighter_either, tighter_left, tighter_right}
use Rattle.model.specs.Matrix.{Matrix, entry, relaxed, everything, diagonal, Member}
use Rattle.model.specs.Conditions.{Closed}
use Rattle.model.proofs.Entries.{entry_matrix}
use Rattle.model.proofs.Closed.{Within, free, ruled_out, kept}

-- x(i) - x(j) by way of x(k)
pub holds_by : (x : ℕ → ℤ) (i j k : ℕ) {b c : Bound} → Holds (x i -ℤ x k) b → Holds (x k -ℤ x j) c → Holds (x i -ℤ x j) (plus b c)
holds_by x i j k h l =
    holds_sum (x i -ℤ x k) (x k -ℤ x j) (x i -ℤ x j) h l
    (omega (ints, sub_ud (x i) (x k), sub_ud (x k) (x j), sub_ud (x i) (x j), add_ud (x i -ℤ x k) (x k -ℤ x j)))

pub entry_relaxed : (m : ℕ) (d : Matrix) (a b : ℕ) (c : Bound) (i j : ℕ) → i < m → j < m
    → entry m (relaxed m d a b c) i j ≡ tighter (entry m d i j) (plus (plus (entry m d i a) c) (entry m d b j))
unfolding relaxed
entry_relaxed m d a b c i j hi hj = entry_matrix m i j _ hi hj

module _ {m : ℕ} {d : Matrix} {a b : ℕ} (ha : a < m) (hb : b < m) (x : ℕ → ℤ) where
  -- where the constraint is taken in, the members that keep to it stay
  pub within_sound : {limit : Bound} {d' : Matrix} → Closed m d → Within m d a b limit (some d') → Member m d' x
      → Member m d x × Holds (x a -ℤ x b) limit
  within_sound cl free mem = (mem, any)
  within_sound cl (kept {c} ok) mem = (λ i j hi hj. le_b_trans (tight i j hi hj) (tighter_left _ _), le_b_trans (tight a b ha hb) at_limit)
    where
      tight : (i j : ℕ) → i < m → j < m → Holds (x i -ℤ x j) (tighter (entry m d i j) (plus (plus (entry m d i a) c) (entry m d b j)))
      tight i j hi hj = rw (entry_relaxed m d a b c i j hi hj) at (mem i j hi hj)

      at_limit : LeB (tighter (entry m d a b) (plus (plus (entry m d a a) c) (entry m d b b))) c
      at_limit =
          let e : plus (plus (entry m d a a) c) (entry m d b b) ≡ c
          = rw (cl.diag a ha, cl.diag b hb, plus_zero, plus_comm, plus_zero) in
          rw e (tighter_right (entry m d a b) c)

  pub within_complete : {limit : Bound} {d' : Matrix} → Within m d a b limit (some d') → Member m d x → Holds (x a -ℤ x b) limit → Member m d' x
  within_complete free mem h = mem
  within_complete (kept {c} ok) mem h = λ i j hi hj.
      rw (entry_relaxed m d a b c i j hi hj)
      (tighter_either (Holds (x i -ℤ x j)) _ _ (mem i j hi hj)
      (holds_by x i j b (holds_by x i b a (mem i a hi ha) h) (mem b j hb hj)))

  -- where it is ruled out, none does
  pub within_none : {limit : Bound} → Within m d a b limit none → Member m d x → Holds (x a -ℤ x b) limit → ⊥
  unfolding up dn
  within_none (ruled_out {c} no_way) mem h =
      no_way (holds_sum (x b -ℤ x a) (x a -ℤ x b) (pos 0) (mem b a hb ha) h
      (omega (ints, sub_ud (x b) (x a), sub_ud (x a) (x b), add_ud (x b -ℤ x a) (x a -ℤ x b))))

-- all times are times of `everything`
pub everything_member : (m : ℕ) (x : ℕ → ℤ) → Member m (everything m) x
unfolding everything diagonal
everything_member m x i j hi hj = rw (entry_matrix m i j diagonal hi hj) (go (eqb i j) refl)
  where
    go : (t : Bool) → eqb i j ≡ t → Holds (x i -ℤ x j) (cond t (most (pos 0)) B.Bound.none)
    go true e = rw (eqb→eq i j (rw e tt)) (holds_none (x j))
    go false e = any
