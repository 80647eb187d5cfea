-- The sets of all selections, row by row: an empty set adds nothing, whatever the rows below it pick.
use Prim.Native.Nat.{ℕ, zero, suc, ◌+◌, ◌-◌, ◌≤◌, ◌<◌}
use native.Mathlib.Omega.{arith}
use native.Mathlib.Numerals.{add-one}
use mathlib.Core.Path.{◌≡◌, refl, sym, ap, fun_ext, ◌∙◌}
use mathlib.Core.Bool.{false}
use mathlib.Core.List.{List, [], ◌∷◌, ◌++◌, map, map-append, map-map, flat_map, foldl, foldl-append}
use mathlib.Core.Option.{Option, none, some}
use lib.ListN.{length}
use lib.Seq.{get_or_at}
use Rattle.model.specs.Matrix.{Matrix, Constraint, constrain}
use Rattle.model.specs.Network.{Time, blank, secs, time, is_time}
use Rattle.model.specs.Search.{columns, selections, row_constraints, rows_constraints, keep}
use Rattle.model.specs.Lists.{Every, done, both}
use Rattle.model.specs.Conditions.{Column, Selection, choose}
use Rattle.model.proofs.Listed.{every_map}
use Rattle.model.proofs.Selections.{selections_sound}
use Rattle.zones.specs.Inner.{choice}
use Rattle.ahead.specs.Outlook.{Lost}
use Rattle.lists.specs.Selecting.{extensions}
use Rattle.lists.specs.Inner.{column_sets}

-- ---- no set is left of an empty one, and nothing is kept of it
constrain_none : (m : ℕ) (ks : List Constraint) → foldl (constrain m) none ks ≡ none
unfolding constrain
constrain_none m [] = refl
constrain_none m (k ∷ ks) = constrain_none m ks

keep_none : {X : Type 0} (f : X → Option Matrix) (kept : List Matrix) {xs : List X} → Every (λ x. f x ≡ none) xs → foldl keep kept (map f xs) ≡ kept
unfolding keep
keep_none f kept done = refl
keep_none f kept (both {xs} h hs) = ap (λ (o : Option Matrix). foldl keep (keep kept o) (map f xs)) h ∙ keep_none f kept hs

map_flat_map : {X Y Z : Type 0} (f : Y → Z) (g : X → List Y) (xs : List X) → map f (flat_map g xs) ≡ flat_map (λ x. map f (g x)) xs
unfolding flat_map
map_flat_map f g [] = refl
map_flat_map f g (x ∷ xs) = map-append f (g x) (flat_map g xs) ∙ ap (λ (l : List _). map f (g x) ++ l) (map_flat_map f g xs)

-- ---- the columns of a row from column s on
blank_there : (t : Time) → is_time t ≡ false → t ≡ blank
unfolding is_time
blank_there blank e = refl
blank_there (secs v) e = cc

module _ (n : ℕ) (a : List Time) (i : ℕ) where
  abbrev pub columns_from : ℕ → List ℕ
  columns_from s = columns n a i (suc n - s) s

  pub columns_here : (s : ℕ) → Column n a i s → columns_from s ≡ s ∷ columns_from (s + 1)
  unfolding columns is_time
  columns_here s c =
      let z : suc n - s ≡ suc (suc n - suc s) = let h = c.to_n in omega arith in
      rw (z, c.is, add-one s)

  pub columns_end : (s : ℕ) → n < s → columns_from s ≡ []
  unfolding columns
  columns_end s h = let z : suc n - s ≡ 0 = omega arith in rw z

  -- a blank one is passed over
  pub column_past : (s : ℕ) → s ≤ n → is_time (time n a i s) ≡ false → columns_from s ≡ columns_from (s + 1)
  unfolding columns is_time
  column_past s h e =
      let z : suc n - s ≡ suc (suc n - suc s) = omega arith in
      rw (z, blank_there (time n a i s) e, add-one s) refl

  -- and so are all of a run of blank ones, from column s to before r
  pub columns_past : {s r : ℕ} → s ≤ r → r ≤ suc n → ((t : ℕ) → s ≤ t → t < r → time n a i t ≡ blank) → columns_from s ≡ columns_from r
  unfolding is_time
  columns_past {s} {r} from to blanks = go (r - s) s (omega arith) (omega arith)
    where
      go : (k t : ℕ) → t + k ≡ r → s ≤ t → columns_from t ≡ columns_from r
      go zero t e h = let p : t ≡ r = omega arith in rw p
      go (suc k) t e h = column_past t (omega arith) (rw (blanks t h (omega arith)) refl) ∙ go k (t + 1) (omega arith) (omega arith)

-- ---- the sets by the column of row i
module _ (n : ℕ) (a : List Time) (d : Matrix) where
  pub by_columns : (part : Matrix) (cols : List ℕ) (i : ℕ) → i ≤ n
      → extensions n a d (some part) cols i (suc n - i) ≡ flat_map (column_sets n a d part cols i) (columns_from n a i 1)
  unfolding extensions selections rows_constraints column_sets
  by_columns part cols i h =
      let below = suc n - suc i in
      let r : suc n - i ≡ suc below = omega arith in
      let w : n ≡ suc n - 1 = omega arith in
      rw r (map_flat_map (λ rest. foldl (constrain (suc n)) (some part) (rows_constraints n a d cols i rest))
      (λ j. map (λ s. j ∷ s) (selections n a below (suc i))) (columns n a i n 1)
      ∙ ap (λ f. flat_map f (columns n a i n 1)) (fun_ext (λ s.
      map-map _ (λ rest. s ∷ rest) (selections n a below (suc i))
      ∙ ap (λ f. map f (selections n a below (suc i)))
      (fun_ext (λ rest. foldl-append (constrain (suc n)) (some part) (row_constraints n a d cols i s)
      (rows_constraints n a d (cols ++ (s ∷ [])) (suc i) rest)))))
      ∙ ap (λ (t : ℕ). flat_map (column_sets n a d part cols i) (columns n a i t 1)) w)

  -- all rows picked
  pub extensions_end : (part : Option Matrix) (cols : List ℕ) (i : ℕ) → n < i → extensions n a d part cols i (suc n - i) ≡ part ∷ []
  unfolding extensions selections rows_constraints
  extensions_end part cols i h = let e : suc n - i ≡ 0 = omega arith in rw e

  -- of a set of which no selection leaves anything, nothing is kept; an empty one is such a set
  pub nothing_kept : (part : Option Matrix) (cols : List ℕ) (i r : ℕ) (kept : List Matrix)
      → ((rest : List ℕ) → Selection n a r i rest → foldl (constrain (suc n)) part (rows_constraints n a d cols i rest) ≡ none)
      → foldl keep kept (extensions n a d part cols i r) ≡ kept
  unfolding extensions
  nothing_kept part cols i r kept h =
      keep_none (λ rest. foldl (constrain (suc n)) part (rows_constraints n a d cols i rest)) kept (every_map h (selections_sound n a r i))

  pub extensions_none : (cols : List ℕ) (i r : ℕ) (kept : List Matrix) → foldl keep kept (extensions n a d none cols i r) ≡ kept
  extensions_none cols i r kept = nothing_kept none cols i r kept (λ rest q. constrain_none (suc n) (rows_constraints n a d cols i rest))

  -- those of one column
  pub columns_none : (part : Matrix) (cols : List ℕ) (i s : ℕ) (kept : List Matrix) → length cols ≡ i → i ≤ n → Column n a i s
      → Lost n a d part cols i (choice i s) → foldl keep kept (column_sets n a d part cols i s) ≡ kept
  unfolding column_sets rows_constraints
  columns_none part cols i s kept long h c lost =
      nothing_kept (foldl (constrain (suc n)) (some part) (row_constraints n a d cols i s)) (cols ++ (s ∷ [])) (suc i) (suc n - suc i) kept (λ rest q.
      let e : suc n - i ≡ suc (suc n - suc i) = omega arith in
      sym (foldl-append (constrain (suc n)) (some part) (row_constraints n a d cols i s) (rows_constraints n a d (cols ++ (s ∷ [])) (suc i) rest))
      ∙ lost (s ∷ rest) (rw e (choose c q)) (get_or_at cols s rest 0 i long))
