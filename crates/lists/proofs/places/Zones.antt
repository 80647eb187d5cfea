-- Zones at places of a list: when two are the same, and what changes where one place does.
use Prim.Native.Nat.{ℕ, zero, suc, ◌+◌, ◌*◌, ◌≤◌, ◌<◌}
use native.Mathlib.Omega.{arith}
use native.Mathlib.Decide.{dec_lt, ℕ_discrete}
use native.Mathlib.Nat.{mul-le-mul_right, suc-mul}
use mathlib.Core.Path.{◌≡◌, refl, sym, ap, ap₂, ◌∙◌}
use mathlib.Core.Bool.{Bool, true, false, cond, ◌||◌}
use mathlib.Core.List.{List, [], ◌∷◌, ◌++◌}
use lib.IntN.{ℤ, pos}
use lib.ListN.{length, take, drop, get_or}
use lib.Seq.{get_or-take, get_or-drop, ext_get_or}
use Rattle.std.proofs.Common.{Option, Some, None, MatchOption}
use Rattle.std.specs.List.{zip, AllWithin, HoldsAt}
use Rattle.std.proofs.lemmas.Slice.Zip.{length-zip, get_or-zip}
use Rattle.model.specs.Lists.{tabulate, any_of}
use Rattle.model.specs.Bound as B
use Rattle.model.specs.Bound.{same_z}
use Rattle.model.specs.Matrix.{Matrix, same_matrix}
use Rattle.model.proofs.Tabulated.{tabulate_ext, tabulate_snoc}
use Rattle.model.proofs.Same.{same_z_true, same_matrix_true, same_matrix_refl}
use Rattle.memory.specs.Numbers.{none_in, of_halves, bound_in, bounds_in}
use Rattle.memory.proofs.InHalves.{same_number, not_none}
use Rattle.memory.proofs.Places.{get_d_bounds}
use Rattle.memory.specs.Side.{numbers_at, Elsewhere}
use Rattle.memory.proofs.Side.{length_numbers, part_of_lem, beyond_same}
use Rattle.lists.specs.Lists.{zone_at, list_in}
use Rattle.lists.specs.Comparing.{Other}

-- ---- equal numbers
-- equal bounds are equal numbers
bound_in_injective : (a b : ℤ) → bound_in a ≡ bound_in b → a ≡ b
unfolding bound_in
bound_in_injective a b e = go (same_z a (pos none_in)) (same_z b (pos none_in)) refl refl e
  where
    go : (s t : Bool) → same_z a (pos none_in) ≡ s → same_z b (pos none_in) ≡ t → cond s B.Bound.none (of_halves a) ≡ cond t B.Bound.none (of_halves b)
        → a ≡ b
    go true true p q e = same_z_true a _ p ∙ sym (same_z_true b _ q)
    go true false p q e = absurd (not_none b (sym e))
    go false true p q e = absurd (not_none a e)
    go false false p q e = same_number a b e

-- two numbers that are the same, and two that are not
abbrev pub Alike : ℤ × ℤ → Type 0
Alike p = p.0 ≡ p.1

abbrev pub Unlike : ℤ × ℤ → Type 0
Unlike p = p.0 ≡ p.1 → ⊥

-- ---- the numbers of a zone against those at place k
-- the first p are the same
abbrev pub SameUpto : ℕ → List ℤ → ℕ → List ℤ → ℕ → Type 0
SameUpto size list k zone p = (q : ℕ) → q < p → get_or zone q (pos 0) ≡ get_or list (k * size + q) (pos 0)

module _ (list : List ℤ) (k : ℕ) (zone : List ℤ) (inside : k * length zone + length zone ≤ length list) where
  abbrev size : ℕ
  size = length zone

  abbrev there : List ℤ
  there = numbers_at size list k

  there_long : length there ≡ size
  there_long = length_numbers size list k inside

  get_d_there : (p : ℕ) → p < size → get_or there p (pos 0) ≡ get_or list (k * size + p) (pos 0)
  get_d_there p h = get_or-take size (drop (k * size) list) p (pos 0) h ∙ get_or-drop (k * size) list p (pos 0)

  all_same : SameUpto size list k zone size → same_matrix (bounds_in zone) (zone_at size list k) ≡ true
  unfolding zone_at
  all_same same =
      let is : zone ≡ there = ext_get_or (pos 0) zone there (sym there_long) (λ q u.
      same q (omega arith) ∙ sym (get_d_there q (omega arith))) in
      ap (λ (l : List ℤ). same_matrix (bounds_in zone) (bounds_in l)) (sym is) ∙ same_matrix_refl (bounds_in zone)

  pub one_other : (p : ℕ) → p < size → (get_or zone p (pos 0) ≡ get_or list (k * size + p) (pos 0) → ⊥)
      → same_matrix (bounds_in zone) (zone_at size list k) ≡ false
  unfolding zone_at
  one_other p h other = go (same_matrix (bounds_in zone) (bounds_in there)) refl
    where
      go : (t : Bool) → same_matrix (bounds_in zone) (bounds_in there) ≡ t → t ≡ false
      go false e = refl
      go true e =
          let bound = ap (λ (m : Matrix). get_or m p B.Bound.none) (same_matrix_true _ _ e) in
          let in_memory = sym (get_d_bounds zone p (omega arith)) ∙ bound ∙ get_d_bounds there p (omega (arith, there_long)) in
          absurd (other (bound_in_injective _ _ in_memory ∙ get_d_there p h))

  pub same_more : {p : ℕ} → SameUpto size list k zone p → get_or zone p (pos 0) ≡ get_or list (k * size + p) (pos 0) → SameUpto size list k zone (p + 1)
  same_more {p} same e q u = elim (ℕ_discrete q p) [
    | yes is ↦ rw is e
    | no less ↦ same q (omega arith)
  ]

  -- a place at which they differ, or none
  pub other_place : (p : ℕ) → p < size → (get_or zone p (pos 0) ≡ get_or list (k * size + p) (pos 0) → ⊥) → Other list k zone (Some p)
  other_place p h other = (h, one_other p h other)

  pub no_other : SameUpto size list k zone size → Other list k zone None
  no_other = all_same

  -- by the first pair of numbers that are not the same
  pairs_long : length (zip zone there) ≡ size
  pairs_long = length-zip zone there ∙ omega (arith, there_long)

  pair_at : (p : ℕ) → p < size → get_or (zip zone there) p (pos 0, pos 0) ≡ (get_or zone p (pos 0), get_or list (k * size + p) (pos 0))
  pair_at p h =
      get_or-zip zone there p (pos 0, pos 0) (omega arith) (omega (arith, there_long)) ∙ ap (λ (b : ℤ). (get_or zone p (pos 0), b)) (get_d_there p h)

  -- what position tells of the pairs
  abbrev First : List (ℤ × ℤ) → Option ℕ → Type 0
  First pairs r = MatchOption r (AllWithin Alike pairs 0 (length pairs))
      (λ p. (p < length pairs) × HoldsAt Unlike pairs p × AllWithin Alike pairs 0 p)

  first_pair : (r : Option ℕ) → First (zip zone there) r → Other list k zone r
  first_pair None same =
      no_other (λ q h. rw (pair_at q h) at (same q (pos 0, pos 0) (omega arith) (omega (arith, pairs_long))))
  first_pair (Some p) (low, other, _) =
      let h : p < size = omega (arith, pairs_long) in
      other_place p h (rw (pair_at p h) at (other (pos 0, pos 0)))

  -- the same, with a part that is lent
  pub first_lent : {part : List ℤ} → part ≡ there → (r : Option ℕ) → First (zip zone part) r → Other list k zone r
  first_lent e r first = first_pair r (rw e at first)

-- one of them passes the test
pub any_found : {X : Type 0} (t : X → Bool) (f : ℕ → X) (m first k : ℕ) → first ≤ k → k < m + first → t (f k) ≡ true → any_of t (tabulate m first f) ≡ true
unfolding any_of tabulate
any_found t f zero first k l h e = absurd (omega arith)
any_found t f (suc m) first k l h e = elim (ℕ_discrete k first) [
  | yes same ↦ rw (← same, e) refl
  | no other ↦ rw (any_found t f m (suc first) k (omega arith) (omega arith) e) (elim (t (f first)) as (λ b. (b || true) ≡ true) [ true ↦ refl | false ↦ refl ])
]

-- ---- where only the numbers of place k differ
module _ {size k : ℕ} {before after : List ℤ} (e : Elsewhere size k before after) where
  -- all other zones are as they were
  pub other_same : (j : ℕ) → (j ≡ k → ⊥) → zone_at size after j ≡ zone_at size before j
  unfolding zone_at
  other_same j other = ap bounds_in (go (dec_lt j k))
    where
      go : Dec (j < k) → take size (drop (j * size) after) ≡ take size (drop (j * size) before)
      go (yes h) =
          let inside : j * size + size ≤ k * size = omega (arith, mul-le-mul_right size h, suc-mul j size) in
          sym (part_of_lem (k * size) (j * size) size after inside)
          ∙ ap (λ (l : List ℤ). take size (drop (j * size) l)) e.front ∙ part_of_lem (k * size) (j * size) size before inside
      go (no h) =
          let more : k < j = omega arith in
          ap (take size) (beyond_same e (j * size) (omega (arith, mul-le-mul_right size more, suc-mul k size)))

  -- the zones before it, and one more
  pub list_same : list_in size k after ≡ list_in size k before
  unfolding list_in
  list_same = tabulate_ext k 0 _ _ (λ j l u. other_same j (λ is. omega arith))

  pub list_more : list_in size (k + 1) after ≡ list_in size k before ++ (zone_at size after k ∷ [])
  unfolding list_in
  list_more =
      let s : k + 1 ≡ suc k = omega arith in
      let z : 0 + k ≡ k = omega arith in
      rw s (sym (tabulate_snoc k 0 (zone_at size after)) ∙ ap₂ (λ (l : List Matrix) (m : Matrix). l ++ (m ∷ [])) list_same (ap (zone_at size after) z))
