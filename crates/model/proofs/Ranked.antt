-- A member in any parts gives one in as many parts as there are rows: the whole seconds stay, and each part of a second becomes the
-- number of the rows whose part is smaller.
use Prim.Native.Nat.{ℕ, suc, ◌+◌, ◌*◌, ◌-◌, ◌/◌, ◌%◌, ◌≤◌, ◌<◌}
use native.Mathlib.Omega.{arith}
use native.Mathlib.Nat.{add-mul, suc-mul, mul-le-mul_right, div-add-mod', mod-lt}
use native.Mathlib.Decide.{dec_lt}
use mathlib.Core.Path.{◌≡◌, refl, ap, ◌∙◌}
use mathlib.Core.Logic.{◌↔◌}
use mathlib.Core.Bool.{Bool, true, false}
use mathlib.Core.List.{map}
use lib.IntN.{ℤ, pos, negsuc, ◌+ℤ◌, ◌-ℤ◌, ◌*ℤ◌}
use Rattle.ints.proofs.Integers.{up, dn, ints, add_ud, sub_ud, pos_ud}
use Rattle.model.specs.Bound as B
use Rattle.model.specs.Bound.{Bound, upto, most, bit, LeB, any, Holds, scale}
use Rattle.model.specs.Matrix.{Matrix, entry, Member}
use Rattle.model.specs.Conditions.{Closed}
use Rattle.model.proofs.Bounds.{bounds, bit_le, le_b_nat}
use Rattle.model.proofs.Scale.{mul_ud}
use Rattle.model.proofs.Mapped.{entry_map}
use Rattle.model.proofs.Inner.{scaling, inner}
use Rattle.model.proofs.Gap.{total, total_constant, total_mono, total_rises}

-- ---- whole seconds and the rest
pub record Split (parts : ℕ) (z : ℤ) : Type 0 where
  pub secs : ℤ
  pub rest : ℕ
  pub below : rest < parts
  pub is : z ≡ (secs *ℤ pos parts) +ℤ pos rest

pub split : (parts : ℕ) → 1 ≤ parts → (z : ℤ) → Split parts z
unfolding up dn
split parts some (pos n) = record {
  secs = pos (n / parts);
  rest = n % parts;
  below = mod-lt n some;
  is = omega (ints, div-add-mod' n parts, mul_ud (pos (n / parts)) parts, pos_ud (n % parts), add_ud (pos (n / parts) *ℤ pos parts) (pos (n % parts)));
}
split parts some (negsuc n) = record {
  secs = negsuc (n / parts);
  rest = parts - suc (n % parts);
  below = omega arith;
  is =
      let whole = negsuc (n / parts) *ℤ pos parts in
      let rest = parts - suc (n % parts) in
      omega (ints, div-add-mod' n parts, mod-lt n some, mul_ud (negsuc (n / parts)) parts, suc-mul (n / parts) parts, pos_ud rest, add_ud whole (pos rest));
}

-- ---- the numbers of smaller ones among r 0, .., r (m - 1)
module _ (m : ℕ) (r : ℕ → ℕ) where
  -- 1 where r t is smaller than v
  abbrev smaller : ℕ → ℕ → ℕ
  smaller v t = 1 - (suc (r t) - v)

  pub rank : ℕ → ℕ
  rank i = total (smaller (r i)) m

  pub rank_below : (i : ℕ) → i < m → rank i < m
  unfolding rank
  rank_below i h = omega (arith, total_rises (smaller (r i)) (λ t. 1) m (λ t l. omega arith) i h, total_constant 1 m)

  pub rank_le : (i j : ℕ) → r i ≤ r j → rank i ≤ rank j
  unfolding rank
  rank_le i j h = total_mono (smaller (r i)) (smaller (r j)) m (λ t l. omega arith)

  pub rank_lt : (i j : ℕ) → i < m → r i < r j → rank i < rank j
  unfolding rank
  rank_lt i j hi h = omega (arith, total_rises (smaller (r i)) (smaller (r j)) m (λ t l. omega arith) i hi)

-- P seconds and r parts, compared with Q seconds and r' parts: other parts in the same order compare in the same way
compared : (P Q D m s r r' k k' : ℕ) → s ≤ 1 → r < D → r' < D → k < m → k' < m → (r + s ≤ r' → k + s ≤ k')
    → (P * D + r) + (P * D + r) + s ≤ (Q * D + r') + (Q * D + r') → (P * m + k) + (P * m + k) + s ≤ (Q * m + k') + (Q * m + k')
compared P Q D m s r r' k k' hs hr hr' hk hk' same h = elim (dec_lt P Q) [
  | yes l ↦ omega (arith, mul-le-mul_right {m = suc P} {n = Q} m l, suc-mul P m)
  | no g ↦ elim (dec_lt Q P) [
    | yes l ↦ absurd (omega (arith, mul-le-mul_right {m = suc Q} {n = P} D l, suc-mul Q D))
    | no g' ↦ let e : P ≡ Q = omega arith in let q : P * D ≡ Q * D = rw e in let p : P * m ≡ Q * m = rw e in
        let o = same (omega arith) in omega arith
  ]
]

-- two times in parts keep to a bound
module _ (D : ℕ) (s : Bool) (q q' b : ℤ) (r r' : ℕ) where
  -- the seconds of the first, less those of the second and the bound, as a difference of natural numbers
  abbrev plus_secs : ℕ
  plus_secs = up q + dn q' + dn b

  abbrev minus_secs : ℕ
  minus_secs = dn q + up q' + up b

  in_parts_lem : (z z' : ℤ) → z ≡ (q *ℤ pos D) +ℤ pos r → z' ≡ (q' *ℤ pos D) +ℤ pos r'
      → LeB (most (z -ℤ z')) (upto s (b *ℤ pos D))
      ↔ ((plus_secs * D + r) + (plus_secs * D + r) + bit s ≤ (minus_secs * D + r') + (minus_secs * D + r'))
  in_parts_lem z z' e e' =
      let l : plus_secs * D ≡ up q * D + dn q' * D + dn b * D
      = add-mul (up q + dn q') (dn b) D ∙ ap (λ (n : ℕ). n + dn b * D) (add-mul (up q) (dn q') D) in
      let g : minus_secs * D ≡ dn q * D + up q' * D + up b * D
      = add-mul (dn q + up q') (up b) D ∙ ap (λ (n : ℕ). n + up b * D) (add-mul (dn q) (up q') D) in
      let first = add_ud (q *ℤ pos D) (pos r) in
      let second = add_ud (q' *ℤ pos D) (pos r') in (
        λ h. omega (bounds, le_b_nat h, mul_ud q D, mul_ud q' D, mul_ud b D, pos_ud r, pos_ud r', first, second, sub_ud z z'),
        λ h. omega (bounds, mul_ud q D, mul_ud q' D, mul_ud b D, pos_ud r, pos_ud r', first, second, sub_ud z z'),
      )

module _ (m parts : ℕ) (some : 1 ≤ parts) (x : ℕ → ℤ) where
  at : (i : ℕ) → Split parts (x i)
  at i = split parts some (x i)

  abbrev place : ℕ → ℕ
  place i = rank m (λ t. (at t).rest) i

  pub ranked : ℕ → ℤ
  ranked i = ((at i).secs *ℤ pos m) +ℤ pos (place i)

  in_order : (s : Bool) (i j : ℕ) → i < m → j < m → (at i).rest + bit s ≤ (at j).rest → place i + bit s ≤ place j
  unfolding bit
  in_order true i j hi hj h = omega (arith, rank_lt m (λ t. (at t).rest) i j hi (omega arith))
  in_order false i j hi hj h = omega (arith, rank_le m (λ t. (at t).rest) i j (omega arith))

  -- each bound is kept in the new parts
  ranked_holds : (i j : ℕ) → i < m → j < m → (b : Bound) → Holds (x i -ℤ x j) (scale parts b) → Holds (ranked i -ℤ ranked j) (scale m b)
  unfolding scale ranked
  ranked_holds i j hi hj B.Bound.none h = any
  ranked_holds i j hi hj (upto s b) h =
      let p = at i in
      let q = at j in
      (in_parts_lem m s p.secs q.secs b (place i) (place j) _ _ refl refl).1
      (compared _ _ parts m (bit s) p.rest q.rest (place i) (place j) (bit_le s) p.below q.below
      (rank_below m _ i hi) (rank_below m _ j hj) (in_order s i j hi hj)
      ((in_parts_lem parts s p.secs q.secs b p.rest q.rest (x i) (x j) p.is q.is).0 h))

  pub ranked_member : (d : Matrix) → 1 ≤ m → Member m (map (scale parts) d) x → Member m (map (scale m) d) ranked
  ranked_member d rows mem i j hi hj =
      rw (entry_map (scaling m rows) m d i j) (ranked_holds i j hi hj (entry m d i j) (rw (entry_map (scaling parts some) m d i j) at (mem i j hi hj)))

-- a closed matrix has a member in as many parts as it has rows
pub parts_member : (m : ℕ) (d : Matrix) → 1 ≤ m → Closed m d → (x : ℕ → ℤ) × Member m (map (scale m) d) x
parts_member m d rows cl =
    let (parts, some, x, mem) = inner m d cl in
    (ranked m parts some x, ranked_member m parts some x d rows mem)
