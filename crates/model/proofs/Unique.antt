-- A closed matrix is determined, marks included, by its members in all parts.
use Prim.Native.Nat.{ℕ, ◌*◌, ◌≤◌, ◌<◌}
use native.Mathlib.Omega.{arith}
use mathlib.Core.Path.{◌≡◌, ap, ◌∙◌, fun_ext}
use mathlib.Core.Logic.{◌↔◌}
use mathlib.Core.List.{map, map-map}
use mathlib.Core.Option.{some}
use lib.IntN.{ℤ, pos, neg_ℤ, ◌+ℤ◌, ◌-ℤ◌, ◌*ℤ◌}
use lib.Signed.{◌≤ℤ◌}
use Rattle.ints.proofs.Integers.{up, dn, ints, add_ud, sub_ud, neg_ud}
use Rattle.model.specs.Bound as B
use Rattle.model.specs.Bound.{Bound, upto, most, halves, LeB, any, Holds, scale}
use Rattle.model.specs.Matrix.{Matrix, entry, relaxed, Member}
use Rattle.model.specs.Conditions.{Closed}
use Rattle.model.proofs.Bounds.{bounds, le_b_refl, le_b_trans, le_b_antisym, holds_sum, halves_ud}
use Rattle.model.proofs.Scale.{mul_ud, mul_neg, scale_scale, le_scale}
use Rattle.model.proofs.Entries.{ext_entry}
use Rattle.model.proofs.Closed.{Within, kept, within_closed}
use Rattle.model.proofs.Members.{within_sound}
use Rattle.model.proofs.Mapped.{entry_map, map_closed, map_within}
use Rattle.model.proofs.Inner.{scaling}
use Rattle.model.proofs.Ranked.{parts_member}

-- the matrix, in parts
abbrev pub scaled : ℕ → Matrix → Matrix
scaled parts d = map (scale parts) d

scaled_scaled : (j k : ℕ) (d : Matrix) → scaled k (scaled j d) ≡ scaled (j * k) d
scaled_scaled j k d = map-map (scale k) (scale j) d ∙ ap (λ (f : Bound → Bound). map f d) (fun_ext (scale_scale j k))

-- a number that entry (i, j) allows, or any greater, is reached by x(i) - x(j) in parts: constrain x(j) - x(i) by it
reaches : (m : ℕ) (d : Matrix) → Closed m d → (i j : ℕ) → i < m → j < m → (v : ℤ) → Holds v (entry m d i j)
    → (x : ℕ → ℤ) × Member m (scaled m d) x × (v *ℤ pos m) ≤ℤ (x i -ℤ x j)
unfolding up dn scale
reaches m d cl i j hi hj v h =
    let w : Within m d j i (most (neg_ℤ v)) (some (relaxed m d j i (most (neg_ℤ v))))
    = kept (holds_sum v (neg_ℤ v) (pos 0) h (le_b_refl _) (omega (ints, neg_ud v, add_ud v (neg_ℤ v)))) in
    let (x, mem) = parts_member m _ (omega arith) (within_closed cl hj hi w) in
    let (old, new) = within_sound hj hi x (map_closed (scaling m (omega arith)) cl) (map_within (scaling m (omega arith)) w) mem in
    let up_to : Holds (x j -ℤ x i) (most (neg_ℤ (v *ℤ pos m))) = rw (mul_neg v m) at new in
    (x, old, omega (bounds, neg_ud (v *ℤ pos m), sub_ud (x i) (x j), sub_ud (x j) (x i)))

-- if all halves that the first bound allows are allowed by the second, it is at least as tight
le_b_of_halves : (b c : Bound) → ((v : ℤ) → Holds v (scale 2 b) → Holds v (scale 2 c)) → LeB b c
unfolding scale up dn
le_b_of_halves b B.Bound.none h = any
le_b_of_halves B.Bound.none (upto t c) h = absurd (let k = h ((c *ℤ pos 2) +ℤ pos 1) any in omega (bounds, mul_ud c 2, add_ud (c *ℤ pos 2) (pos 1)))
le_b_of_halves (upto s b) (upto t c) h =
    let k = h (halves s b) (omega (bounds, mul_ud b 2, halves_ud s b)) in
    omega (bounds, mul_ud c 2, halves_ud s b, halves_ud t c)

scaled_most : (m : ℕ) (v u : ℤ) → (v *ℤ pos m) ≤ℤ u → LeB (scale m (most v)) (most u)
unfolding scale
scaled_most m v u le = omega bounds

-- each bound of a closed matrix, with its mark, is the tightest that all its members in all parts keep to
pub entry_tightest : (m : ℕ) (d : Matrix) → Closed m d → (i j : ℕ) → i < m → j < m → (b : Bound)
    → ((parts : ℕ) → 1 ≤ parts → (x : ℕ → ℤ) → Member m (scaled parts d) x → Holds (x i -ℤ x j) (scale parts b)) → LeB (entry m d i j) b
entry_tightest m d cl i j hi hj b all = le_b_of_halves (entry m d i j) b (λ v h.
    let twice = scaling 2 (omega arith) in
    let (x, mem, le) = reaches m (scaled 2 d) (map_closed twice cl) i j hi hj v (rw (entry_map twice m d i j) h) in
    let keeps : Holds (x i -ℤ x j) (scale m (scale 2 b)) = rw (scale_scale 2 m b) (all (2 * m) (omega arith) x (rw scaled_scaled at mem)) in
    le_scale m (omega arith) (most v) (scale 2 b) (le_b_trans (scaled_most m v (x i -ℤ x j) le) keeps))

-- fewer members, tighter entries
entries_le : (m : ℕ) (d e : Matrix) → Closed m d
    → ((parts : ℕ) → 1 ≤ parts → (x : ℕ → ℤ) → Member m (scaled parts d) x → Member m (scaled parts e) x)
    → (i j : ℕ) → i < m → j < m → LeB (entry m d i j) (entry m e i j)
entries_le m d e cl sub i j hi hj = entry_tightest m d cl i j hi hj (entry m e i j) (λ parts h x mem.
    rw (entry_map (scaling parts h) m e i j) at (sub parts h x mem i j hi hj))

-- the same members in all parts, the same matrix
pub same_members : (m : ℕ) (d e : Matrix) → Closed m d → Closed m e
    → ((parts : ℕ) → 1 ≤ parts → (x : ℕ → ℤ) → Member m (scaled parts d) x ↔ Member m (scaled parts e) x) → d ≡ e
same_members m d e cd ce same =
    ext_entry m d e cd.size ce.size (λ i j hi hj.
    le_b_antisym (entries_le m d e cd (λ k h x. (same k h x).0) i j hi hj) (entries_le m e d ce (λ k h x. (same k h x).1) i j hi hj))
