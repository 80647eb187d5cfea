-- The columns of the rows before: where each attains the largest sum at all times of a set, what further rows leave of the set
-- goes by the images in those rows, and not by which columns they are.
use Prim.Native.Nat.{ℕ, zero, suc, ◌≤◌, ◌<◌}
use native.Mathlib.Omega.{arith}
use mathlib.Core.Path.{◌≡◌, refl, sym, ◌∙◌}
use mathlib.Core.List.{List, [], ◌∷◌, ◌++◌, map, foldl}
use mathlib.Core.Option.{Option, some}
use lib.IntN.{ℤ}
use lib.ListN.{length, get_or, length-append, get_or-append}
use lib.Seq.{get_or_at}
use Rattle.model.specs.Matrix.{Matrix, constrain, Member}
use Rattle.model.specs.Network.{Time, scale_time}
use Rattle.model.specs.Search.{keeps, row_constraints, rows_constraints}
use Rattle.model.specs.Lists.{Every, done}
use Rattle.model.specs.Conditions.{Closed, Fits, Column, Chosen, Cols, image, sum, Before, Selection, no_row, choose}
use Rattle.model.proofs.Listed.{one_more, every_append, every_split}
use Rattle.model.proofs.Unique.{scaled}
use Rattle.model.proofs.Zones.{Keeps, In, closed, zone_parts, all_closed, all_in_parts, same_zones}
use Rattle.model.proofs.Rows.{Row, row_of_lem, of_row}
use Rattle.model.proofs.Parts.{column_parts, row_parts, rows_parts}
use Rattle.model.proofs.Selections.{chosen_at}
use Rattle.model.proofs.Preimage.{image_attained, attains_behind, keeps_sums, row_fits}

-- two lists of columns, and one column more
pub long_more : {i : ℕ} (cols : List ℕ) (s : ℕ) → length cols ≡ i → length (cols ++ (s ∷ [])) ≡ suc i
long_more cols s long = omega (arith, length-append cols (s ∷ []))

pub more_at : (R : ℕ → ℕ → ℕ → Type 0) {i : ℕ} (cols cols' : List ℕ) (s : ℕ) → length cols ≡ i → length cols' ≡ i
    → ((l : ℕ) → l < i → R l (get_or cols l 0) (get_or cols' l 0)) → R i s s
    → (l : ℕ) → l < suc i → R l (get_or (cols ++ (s ∷ [])) l 0) (get_or (cols' ++ (s ∷ [])) l 0)
more_at R {i} cols cols' s long long' before here =
    one_more (λ l. R l (get_or (cols ++ (s ∷ [])) l 0) (get_or (cols' ++ (s ∷ [])) l 0)) i
    (λ l h. rw (get_or-append cols (s ∷ []) 0 l (omega arith), get_or-append cols' (s ∷ []) 0 l (omega arith)) (before l h))
    (rw (get_or_at cols s [] 0 i long, get_or_at cols' s [] 0 i long') here)

module _ (n : ℕ) (a : List Time) (d : Matrix) where
  module _ (x : ℕ → ℤ) where
    -- the two lists of columns have the same sums
    abbrev Alike : List ℕ → List ℕ → ℕ → Type 0
    Alike cols cols' i = (l : ℕ) → l < i → sum n a x l (get_or cols l 0) ≡ sum n a x l (get_or cols' l 0)

    row_alike : (cols cols' : List ℕ) (i s : ℕ) → Alike cols cols' i → Row (Keeps x) n a d cols i s → Row (Keeps x) n a d cols' i s
    unfolding keeps
    row_alike cols cols' i s same r = record {
      attained = r.attained;
      ahead = λ l h. (keeps_sums n a x i s l (get_or cols' l 0) _).1 (rw (same l h) at ((keeps_sums n a x i s l (get_or cols l 0) _).0 (r.ahead l h)));
      back = λ l h. (keeps_sums n a x l (get_or cols' l 0) i s _).1 (rw (same l h) at ((keeps_sums n a x l (get_or cols l 0) i s _).0 (r.back l h)));
    }

    rows_alike : (cols cols' : List ℕ) {i : ℕ} (rest : List ℕ) → length cols ≡ i → length cols' ≡ i → Alike cols cols' i
        → Every (Keeps x) (rows_constraints n a d cols i rest) → Every (Keeps x) (rows_constraints n a d cols' i rest)
    unfolding rows_constraints
    rows_alike cols cols' [] long long' same k = done
    rows_alike cols cols' {i} (s ∷ rest) long long' same k =
        let (h, t) = every_split (row_constraints n a d cols i s) _ k in
        every_append
        (of_row (Keeps x) n a d cols' i s (row_alike cols cols' i s same (row_of_lem (Keeps x) n a d cols i s h)))
        (rows_alike (cols ++ (s ∷ [])) (cols' ++ (s ∷ [])) rest (long_more cols s long) (long_more cols' s long')
        (more_at (λ l u v. sum n a x l u ≡ sum n a x l v) cols cols' s long long' same refl) t)

  pub rows_fit : (cols : List ℕ) {r i : ℕ} {rest : List ℕ} → 1 ≤ i → length cols ≡ i → Cols n a cols i → Selection n a r i rest
      → Every (Fits (suc n)) (rows_constraints n a d cols i rest)
  unfolding rows_constraints
  rows_fit cols h long before no_row = done
  rows_fit cols h long before (choose {i} {j} c q) =
      every_append (of_row (Fits (suc n)) n a d cols i j (row_fits n a d before (chosen_at h c)))
      (rows_fit (cols ++ (j ∷ [])) (omega arith) (long_more cols j long) (more_at (λ l u v. Chosen n a l u) cols cols j long long before (chosen_at h c)) q)

module _ (n : ℕ) (a : List Time) (d : Matrix) where
  -- what the rows from row i on leave of p
  abbrev left : Matrix → ℕ → List ℕ → List ℕ → Option Matrix
  left p i cols rest = foldl (constrain (suc n)) (some p) (rows_constraints n a d cols i rest)

  module _ {p : Matrix} {i : ℕ} where
    one_way : (cols cols' : List ℕ) {rest : List ℕ} {r : ℕ} → Before n a p cols i → Before n a p cols' i → Selection n a r i rest
        → (parts : ℕ) → 1 ≤ parts → (x : ℕ → ℤ) → In (suc n) (zone_parts parts (left p i cols rest)) x → In (suc n) (zone_parts parts (left p i cols' rest)) x
    one_way cols cols' {rest} b b' q parts some_parts x h =
        let in_parts = rows_parts parts some_parts n a d in
        let (m, k) = (all_in_parts (suc n) parts some_parts (closed b.closed_set) (rows_fit n a d cols b.from_one b.long b.columns q) x).0 h in
        let same = rows_alike n (map (scale_time parts) a) (scaled parts d) x cols cols' rest b.long b'.long (λ l u.
        b.imaged parts some_parts x m l u ∙ sym (b'.imaged parts some_parts x m l u)) (rw (in_parts cols i rest) at k) in
        (all_in_parts (suc n) parts some_parts (closed b'.closed_set) (rows_fit n a d cols' b'.from_one b'.long b'.columns q) x).1
        (m, rw (in_parts cols' i rest) same)

    pub same_left : {cols cols' rest : List ℕ} {r : ℕ} → Before n a p cols i → Before n a p cols' i → Selection n a r i rest
        → left p i cols rest ≡ left p i cols' rest
    same_left {cols} {cols'} b b' q =
        same_zones (suc n) (omega arith)
        (all_closed (suc n) (closed b.closed_set) (rows_fit n a d cols b.from_one b.long b.columns q))
        (all_closed (suc n) (closed b'.closed_set) (rows_fit n a d cols' b'.from_one b'.long b'.columns q))
        (λ parts h x. (one_way cols cols' b b' q parts h x, one_way cols' cols b' b q parts h x))

  -- ---- one row more: its column attains the image too, in all parts
  pub row_imaged : {p q : Matrix} (cols : List ℕ) {i s : ℕ} → Closed (suc n) p → Cols n a cols i → 1 ≤ i → Column n a i s
      → foldl (constrain (suc n)) (some p) (row_constraints n a d cols i s) ≡ some q
      → (parts : ℕ) → 1 ≤ parts → (x : ℕ → ℤ) → Member (suc n) (scaled parts q) x
      → let b = map (scale_time parts) a in Member (suc n) (scaled parts p) x × (sum n b x i s ≡ image n b x i)
  row_imaged cols {i = zero} cl before h c e parts some_parts x m = absurd (omega arith)
  row_imaged {p} cols {i = suc r} {s} cl before h c e parts some_parts x m =
      let inside : In (suc n) (zone_parts parts (foldl (constrain (suc n)) (some p) (row_constraints n a d cols (suc r) s))) x = rw e m in
      let fits = of_row (Fits (suc n)) n a d cols (suc r) s (row_fits n a d before (chosen_at h c)) in
      let (k, ks) = (all_in_parts (suc n) parts some_parts (closed cl) fits x).0 inside in
      let b = map (scale_time parts) a in
      let row = row_of_lem (Keeps x) n b (scaled parts d) cols (suc r) s (rw (row_parts parts some_parts n a d cols (suc r) s) at ks) in
      let column = column_parts parts n a c in
      (k, sym (image_attained n b x column ((attains_behind n b x column).0 row.attained)))
