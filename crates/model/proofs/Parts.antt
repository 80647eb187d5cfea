-- A network in parts of a second: its zones are those of the network, in parts.
use Prim.Native.Nat.{ℕ, zero, suc, ◌+◌, ◌*◌, ◌-◌, ◌≤◌}
use mathlib.Core.Path.{◌≡◌, refl, ap, ap₂, sym, ◌∙◌}
use mathlib.Core.Bool.{Bool, true, false, cond, ◌||◌}
use mathlib.Core.List.{List, [], ◌∷◌, ◌++◌, map, map-append, flatten, flat_map, foldl}
use mathlib.Core.Option.{Option, none, some}
use lib.IntN.{ℤ, pos, ◌-ℤ◌, ◌*ℤ◌}
use lib.ListN.{get_or, get_or-map}
use lib.Dec.{eqb}
use Rattle.model.specs.Lists.{any_of}
use Rattle.model.specs.Bound as B
use Rattle.model.specs.Bound.{Bound, most, plus, scale}
use Rattle.model.specs.Matrix.{Matrix, entry, Constraint, constrain, tighten, same_matrix}
use Rattle.model.specs.Pattern.{pair_place, pair_bound, pattern_constraints}
use Rattle.model.specs.Network.{Time, blank, secs, Network, scale_time, in_parts, time, is_time, secs_of}
use Rattle.model.specs.Search.{columns, selections, chosen, slack, attains, keeps, row_constraints, rows_constraints, preimage}
use Rattle.model.specs.Search.{keep, previous, lists, common}
use Rattle.model.specs.Conditions.{Column, Regular, Selection, no_row, choose}
use Rattle.model.proofs.Bounds.{le_b_refl, le_b_antisym}
use Rattle.model.proofs.Scale.{mul_sub, mul_zero, scale_plus, le_scale}
use Rattle.model.proofs.Tabulated.{tabulate_ext, map_tabulate}
use Rattle.model.proofs.Same.{same_matrix_true, same_matrix_refl}
use Rattle.model.proofs.Mapped.{through, entry_map}
use Rattle.model.proofs.Inner.{scaling}
use Rattle.model.proofs.Unique.{scaled}
use Rattle.model.proofs.Zones.{zone_parts, scaled_all, all_parts, tighten_parts}

-- ---- lists
pub map_flatten : {X Y : Type 0} (f : X → Y) (xss : List (List X)) → map f (flatten xss) ≡ flatten (map (map f) xss)
unfolding flatten
map_flatten f [] = refl
map_flatten f (xs ∷ xss) = map-append f xs (flatten xss) ∙ ap (◌++◌ (map f xs)) (map_flatten f xss)

map_injective : {X Y : Type 0} (f : X → Y) → ((x y : X) → f x ≡ f y → x ≡ y) → (xs ys : List X) → map f xs ≡ map f ys → xs ≡ ys
map_injective f one [] [] e = refl
map_injective f one [] (y ∷ ys) e = cc
map_injective f one (x ∷ xs) [] e = cc
map_injective f one (x ∷ xs) (y ∷ ys) e = ap₂ ◌∷◌ (one x y cc) (map_injective f one xs ys cc)

pub same_test : (s t : Bool) → (s ≡ true → t ≡ true) → (t ≡ true → s ≡ true) → s ≡ t
same_test true t h k = sym (h refl)
same_test false true h k = k refl
same_test false false h k = refl

abbrev at : ℕ → ℕ → Bound → Constraint
at i j b = record { row = i; col = j; limit = b }

module _ (parts : ℕ) (n : ℕ) (a : List Time) where
  abbrev A : List Time
  A = map (scale_time parts) a

  pub time_parts : (i j : ℕ) → time n A i j ≡ scale_time parts (time n a i j)
  unfolding time scale_time
  time_parts i j = get_or-map (scale_time parts) a ((i - 1) * n + (j - 1)) blank

  is_time_lem : (t : Time) → is_time (scale_time parts t) ≡ is_time t
  unfolding is_time scale_time
  is_time_lem blank = refl
  is_time_lem (secs a) = refl

  -- the columns that hold a time are the same, and so are the selections
  columns_parts : (i r j : ℕ) → columns n A i r j ≡ columns n a i r j
  unfolding columns
  columns_parts i zero j = refl
  columns_parts i (suc r) j = rw (time_parts i j, is_time_lem (time n a i j), columns_parts i r (suc j))

  pub selections_parts : (r i : ℕ) → selections n A r i ≡ selections n a r i
  unfolding selections
  selections_parts zero i = refl
  selections_parts (suc r) i = rw (selections_parts r (suc i), columns_parts i n 1)

  pub column_parts : {i j : ℕ} → Column n a i j → Column n A i j
  unfolding scale_time
  column_parts {i} {j} c = record { from_one = c.from_one; to_n = c.to_n; value = c.value *ℤ pos parts; is = time_parts i j ∙ ap (scale_time parts) c.is }

  pub regular_parts : Regular n a → Regular n A
  regular_parts reg i l u = let (j, c) = reg i l u in (j, column_parts c)

  pub selection_parts : {r i : ℕ} {s : List ℕ} → Selection n a r i s → Selection n A r i s
  selection_parts no_row = no_row
  selection_parts (choose c q) = choose (column_parts c) (selection_parts q)

  -- ---- constraints
  secs_parts : (t : Time) → secs_of (scale_time parts t) ≡ secs_of t *ℤ pos parts
  unfolding secs_of scale_time
  secs_parts blank = sym (mul_zero parts)
  secs_parts (secs a) = refl

  pub chosen_parts : (i s : ℕ) → chosen n A i s ≡ chosen n a i s *ℤ pos parts
  unfolding chosen
  chosen_parts zero s = sym (mul_zero parts)
  chosen_parts (suc i) s = ap secs_of (time_parts (suc i) s) ∙ secs_parts (time n a (suc i) s)

  slack_parts : (c : ℤ) (t : Time) → slack (c *ℤ pos parts) (scale_time parts t) ≡ scale parts (slack c t)
  unfolding slack scale_time scale
  slack_parts c blank = refl
  slack_parts c (secs t) = ap most (sym (mul_sub c t parts))

  pub attains_parts : (i s : ℕ) → scaled_all parts (attains n a i s) ≡ attains n A i s
  unfolding attains
  attains_parts i s =
      map_tabulate (through (scale parts)) n 1 _
      ∙ tabulate_ext n 1 _ _ (λ j l u.
      ap (at j s) (sym (slack_parts (chosen n a i s) (time n a i j)) ∙ ap₂ slack (sym (chosen_parts i s)) (sym (time_parts i j))))

module _ (parts : ℕ) (some_parts : 1 ≤ parts) (n : ℕ) (a : List Time) (d : Matrix) where
  pub keeps_parts : (i s l t : ℕ) → through (scale parts) (keeps n a d i s l t) ≡ keeps n (A parts n a) (scaled parts d) i s l t
  unfolding keeps scale
  keeps_parts i s l t = ap (at s t) (scale_plus parts (entry (suc n) d i l) (most (chosen n a l t -ℤ chosen n a i s))
      ∙ ap₂ plus (sym (entry_map (scaling parts some_parts) (suc n) d i l))
      (ap most (mul_sub (chosen n a l t) (chosen n a i s) parts ∙ ap₂ ◌-ℤ◌ (sym (chosen_parts parts n a l t)) (sym (chosen_parts parts n a i s)))))

  pub row_parts : (sel : List ℕ) (i s : ℕ) → scaled_all parts (row_constraints n a d sel i s) ≡ row_constraints n (A parts n a) (scaled parts d) sel i s
  unfolding row_constraints
  row_parts sel i s =
      map-append (through (scale parts)) (attains n a i s) _
      ∙ ap₂ ◌++◌ (attains_parts parts n a i s)
      (map_flatten (through (scale parts)) _ ∙ ap flatten (map_tabulate (map (through (scale parts))) i 0 _
      ∙ tabulate_ext i 0 _ _ (λ l u v. ap₂ (λ k k'. k ∷ k' ∷ []) (keeps_parts i s l (get_or sel l 0)) (keeps_parts l (get_or sel l 0) i s))))

  pub rows_parts : (sel : List ℕ) (i : ℕ) (rest : List ℕ)
      → scaled_all parts (rows_constraints n a d sel i rest) ≡ rows_constraints n (A parts n a) (scaled parts d) sel i rest
  unfolding rows_constraints
  rows_parts sel i [] = refl
  rows_parts sel i (s ∷ rest) =
      map-append (through (scale parts)) (row_constraints n a d sel i s) _
      ∙ ap₂ ◌++◌ (row_parts sel i s) (rows_parts (sel ++ (s ∷ [])) (suc i) rest)

  -- ---- zones
  pub preimage_parts : (sel : List ℕ) → zone_parts parts (preimage n a d sel) ≡ preimage n (A parts n a) (scaled parts d) sel
  unfolding preimage
  preimage_parts sel = tighten_parts (suc n) parts some_parts (rows_constraints n a d (0 ∷ []) 1 sel) ∙ ap (tighten (suc n)) (rows_parts (0 ∷ []) 1 sel)

-- ---- patterns
module _ (parts : ℕ) (n : ℕ) (b : List Bound) where
  pub pair_parts : (i j : ℕ) → pair_bound n (map (scale parts) b) i j ≡ scale parts (pair_bound n b i j)
  unfolding pair_bound scale
  pair_parts i j = go (eqb i j)
    where
      go : (t : Bool) → cond t B.Bound.none (get_or (map (scale parts) b) (pair_place n i j) B.Bound.none)
          ≡ scale parts (cond t B.Bound.none (get_or b (pair_place n i j) B.Bound.none))
      go true = refl
      go false = get_or-map (scale parts) b (pair_place n i j) B.Bound.none

  pub pattern_parts : scaled_all parts (pattern_constraints n b) ≡ pattern_constraints n (map (scale parts) b)
  unfolding pattern_constraints
  pattern_parts =
      map_flatten (through (scale parts)) _ ∙ ap flatten (map_tabulate (map (through (scale parts))) (suc n) 0 _
      ∙ tabulate_ext (suc n) 0 _ _ (λ i l u. map_tabulate (through (scale parts)) (suc n) 0 _
      ∙ tabulate_ext (suc n) 0 _ _ (λ j p q. ap (at i j) (sym (pair_parts i j)))))

pub common_parts : (parts : ℕ) → 1 ≤ parts → (n : ℕ) (z : Matrix) (b : List Bound)
    → zone_parts parts (common n z b) ≡ common n (scaled parts z) (map (scale parts) b)
unfolding common
common_parts parts h n z b =
    all_parts (suc n) parts h (pattern_constraints n b) (some z)
    ∙ ap (foldl (constrain (suc n)) (some (scaled parts z))) (pattern_parts parts n b)

-- ---- lists of zones
module _ (parts : ℕ) (some_parts : 1 ≤ parts) where
  scale_injective : (b c : Bound) → scale parts b ≡ scale parts c → b ≡ c
  scale_injective b c e = le_b_antisym
      (le_scale parts some_parts b c (rw e (le_b_refl (scale parts c)))) (le_scale parts some_parts c b (rw e (le_b_refl (scale parts c))))

  same_parts : (d e : Matrix) → same_matrix (scaled parts d) (scaled parts e) ≡ same_matrix d e
  same_parts d e = same_test _ _
      (λ h. rw (map_injective (scale parts) scale_injective d e (same_matrix_true _ _ h)) (same_matrix_refl e))
      (λ h. rw (same_matrix_true d e h) (same_matrix_refl (scaled parts e)))

  any_parts : (z : Matrix) (kept : List Matrix) → any_of (same_matrix (scaled parts z)) (map (scaled parts) kept) ≡ any_of (same_matrix z) kept
  unfolding any_of
  any_parts z [] = refl
  any_parts z (y ∷ kept) = ap₂ ◌||◌ (same_parts z y) (any_parts z kept)

  keep_parts : (kept : List Matrix) (o : Option Matrix) → keep (map (scaled parts) kept) (zone_parts parts o) ≡ map (scaled parts) (keep kept o)
  unfolding keep
  keep_parts kept none = refl
  keep_parts kept (some z) = rw (any_parts z kept) (go (any_of (same_matrix z) kept))
    where
      go : (t : Bool) → cond t (map (scaled parts) kept) (map (scaled parts) kept ++ (scaled parts z ∷ []))
          ≡ map (scaled parts) (cond t kept (kept ++ (z ∷ [])))
      go true = refl
      go false = sym (map-append (scaled parts) kept (z ∷ []))

  keeps_all : (kept : List Matrix) (os : List (Option Matrix))
      → foldl keep (map (scaled parts) kept) (map (zone_parts parts) os) ≡ map (scaled parts) (foldl keep kept os)
  keeps_all kept [] = refl
  keeps_all kept (o ∷ os) = ap (λ (k : List Matrix). foldl keep k (map (zone_parts parts) os)) (keep_parts kept o) ∙ keeps_all (keep kept o) os

  module _ (n : ℕ) (a : List Time) where
    some_preimages : (d : Matrix) (sels : List (List ℕ))
        → map (preimage n (A parts n a) (scaled parts d)) sels ≡ map (zone_parts parts) (map (preimage n a d) sels)
    some_preimages d [] = refl
    some_preimages d (s ∷ sels) = ap₂ ◌∷◌ (sym (preimage_parts parts some_parts n a d s)) (some_preimages d sels)

    all_preimages : (sels : List (List ℕ)) (zs : List Matrix)
        → flat_map (λ d. map (preimage n (A parts n a) d) sels) (map (scaled parts) zs) ≡ map (zone_parts parts) (flat_map (λ d. map (preimage n a d) sels) zs)
    unfolding flat_map
    all_preimages sels [] = refl
    all_preimages sels (z ∷ zs) = ap₂ ◌++◌ (some_preimages z sels) (all_preimages sels zs) ∙ sym (map-append (zone_parts parts) (map (preimage n a z) sels) _)

    previous_parts : (zs : List Matrix) → previous n (A parts n a) (map (scaled parts) zs) ≡ map (scaled parts) (previous n a zs)
    unfolding previous
    previous_parts zs =
        ap (λ (sels : List (List ℕ)). foldl keep [] (flat_map (λ d. map (preimage n (A parts n a) d) sels) (map (scaled parts) zs)))
        (selections_parts parts n a n 1)
        ∙ ap (foldl keep []) (all_preimages (selections n a n 1) zs) ∙ keeps_all [] (flat_map (λ d. map (preimage n a d) (selections n a n 1)) zs)

  pub lists_parts : (w : Network) (k : ℕ) → lists (in_parts parts w) k ≡ map (scaled parts) (lists w k)
  unfolding lists in_parts
  lists_parts w zero =
      let ks = pattern_constraints w.n w.target in
      ap (keep []) (ap (tighten (suc w.n)) (sym (pattern_parts parts w.n w.target)) ∙ sym (tighten_parts (suc w.n) parts some_parts ks))
      ∙ keep_parts [] (tighten (suc w.n) ks)
  lists_parts w (suc k) = ap (previous w.n _) (lists_parts w k) ∙ previous_parts w.n w.times (lists w k)
