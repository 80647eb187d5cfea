-- What a try finds: a set of times of z whose image by the table b is in d, or that there is none.
use Prim.Native.Nat.{ℕ, zero, suc, ◌+◌, ◌-◌, ◌≤◌, ◌<◌}
use native.Mathlib.Omega.{arith}
use mathlib.Core.Path.{◌≡◌, refl}
use mathlib.Core.Logic.{◌↔◌}
use mathlib.Core.List.{List, [], ◌∷◌, ◌++◌, foldl}
use mathlib.Core.Option.{Option, none, some}
use lib.IntN.{ℤ}
use lib.ListN.{get_or}
use Rattle.model.specs.Matrix.{Matrix, constrain, Member}
use Rattle.model.specs.Network.{Time}
use Rattle.model.specs.Search.{columns, row_constraints, rows_constraints, preimage}
use Rattle.model.specs.Lists.{Every, done, both}
use Rattle.model.specs.Conditions.{Closed, Column, Regular, Selection, no_row, choose, Chosen, clock, Cols, image}
use Rattle.model.proofs.Listed.{every_append, every_split, some_at, every_some}
use Rattle.model.proofs.Zones.{ClosedZone, closed, In, Keeps, all_closed, all_in, tighten_in}
use Rattle.model.proofs.Patterns.{closed_some}
use Rattle.model.proofs.Selections.{chosen_at, columns_sound, columns_complete, select}
use Rattle.model.proofs.Preimage.{Attains, AllAttain, selection_fits, preimage_in}
use Rattle.model.proofs.Images.{long_more, more_at}
use Rattle.decisions.specs.Decide.{first_constraints, Tried, found, missed, spent, first_of, entered, descend, meeting}
use Rattle.decisions.specs.Conditions.{Rowed}
use Rattle.decisions.proofs.FirstColumn.{AttainsFirst, first_attaining, first_fits, first_row, row_first}

-- ---- how a try ends: a set that has Hit, or Miss, unless the steps are spent
pub data Ends (Hit : Matrix → Type 0) (Miss : Type 0) : Tried → Type 0 where
  hit : {z : Matrix} → Hit z → Ends Hit Miss (found z)
  miss : {t : ℕ} → Miss → Ends Hit Miss (missed t)
  out : Ends Hit Miss spent

pub ends_map : {H K : Matrix → Type 0} {M N : Type 0} {o : Tried} → ((z : Matrix) → H z → K z) → (M → N) → Ends H M o → Ends K N o
ends_map f g (hit {z} h) = hit (f z h)
ends_map f g (miss m) = miss (g m)
ends_map f g out = out

-- column after column
pub first_of_ends : {Hit : Matrix → Type 0} {Miss C : ℕ → Type 0} (f : ℕ → ℕ → Tried) → ((s : ℕ) → C s → (t : ℕ) → Ends Hit (Miss s) (f s t))
    → {ss : List ℕ} → Every C ss → (t : ℕ) → Ends Hit (Every Miss ss) (first_of f ss t)
unfolding first_of
first_of_ends f h done t = miss done
first_of_ends f h (both c cs) zero = out
first_of_ends {Hit} {Miss} f h (both {x = s} {xs} c cs) (suc t) = go (f s t) (h s c t) (first_of_ends f h cs)
  where
    go : (o : Tried) → Ends Hit (Miss s) o → ((u : ℕ) → Ends Hit (Every Miss xs) (first_of f xs u))
        → Ends Hit (Every Miss (s ∷ xs)) (elim o [ found z ↦ found z | missed u ↦ first_of f xs u | spent ↦ spent ])
    go (found z) (hit p) rest = hit p
    go (missed u) (miss m) rest = ends_map (λ z p. p) (λ ms. both m ms) (rest u)
    go spent out rest = out

-- ---- the columns of rows 0 to i - 1
pub clock_rowed : (n : ℕ) (b : List Time) → Rowed n b (0 ∷ []) 1
clock_rowed n b = record { from_one = omega arith; long = refl; columns = at }
  where
    at : Cols n b (0 ∷ []) 1
    at zero h = clock
    at (suc l) h = absurd (omega arith)

pub more_rowed : {n : ℕ} {b : List Time} {cols : List ℕ} {i s : ℕ} → Rowed n b cols i → Column n b i s → Rowed n b (cols ++ (s ∷ [])) (suc i)
more_rowed {n} {b} {cols} {i} {s} q c = record {
  from_one = omega arith;
  long = long_more cols s q.long;
  columns = more_at (λ l u v. Chosen n b l u) cols cols s q.long q.long q.columns (chosen_at q.from_one c);
}

module _ (n : ℕ) (b : List Time) (d : Matrix) where
  -- at x, in each of r rows from row i on some column keeps to its constraints
  pub data Way (x : ℕ → ℤ) : ℕ → ℕ → List ℕ → Type 0 where
    all : {i : ℕ} {cols : List ℕ} → Way x zero i cols
    row : {r i s : ℕ} {cols : List ℕ} → Column n b i s → Every (Keeps x) (first_constraints n b d cols i s) → Way x r (suc i) (cols ++ (s ∷ []))
        → Way x (suc r) i cols

  -- ---- the rows in turn
  -- all times of y are times of z with a way
  abbrev pub Inside : Matrix → ℕ → ℕ → List ℕ → Matrix → Type 0
  Inside z r i cols y = Closed (suc n) y × ((x : ℕ → ℤ) → Member (suc n) y x → Member (suc n) z x × Way x r i cols)

  -- no time of z has one
  abbrev pub NoWay : Matrix → ℕ → ℕ → List ℕ → Type 0
  NoWay z r i cols = (x : ℕ → ℤ) → Member (suc n) z x → Way x r i cols → ⊥

  -- nor by column s
  abbrev NoWayBy : Matrix → ℕ → ℕ → List ℕ → ℕ → Type 0
  NoWayBy z r i cols s =
      (x : ℕ → ℤ) → Member (suc n) z x → Every (Keeps x) (first_constraints n b d cols i s) → Way x r (suc i) (cols ++ (s ∷ [])) → ⊥

  by_no_column : (z : Matrix) (r i : ℕ) (cols : List ℕ) → Every (NoWayBy z r i cols) (columns n b i n 1) → NoWay z (suc r) i cols
  by_no_column z r i cols nowhere x m (row {s} c k w) =
      let (t, (barred, e), at) = some_at (every_some nowhere (columns_complete n b i n 1 c c.from_one (let h = c.to_n in omega arith))) in
      barred x m (rw e k) (rw e w)

  pub descend_ends : (r : ℕ) {i : ℕ} {cols : List ℕ} {z : Matrix} → Rowed n b cols i → Closed (suc n) z → (t : ℕ)
      → Ends (Inside z r i cols) (NoWay z r i cols) (descend n b d r i cols z t)
  unfolding descend entered
  descend_ends zero q cl t = hit (cl, λ x m. (m, all))
  descend_ends (suc r) {i} {cols} {z} q cl t =
      ends_map (λ y h. h) (by_no_column z r i cols)
      (first_of_ends _ (λ s c. step s c (λ y k. descend_ends r (more_rowed q c) k)) (columns_sound n b i n 1 (omega arith) (omega arith)) t)
    where
      step : (s : ℕ) → Column n b i s
          → ((y : Matrix) → Closed (suc n) y → (u : ℕ)
          → Ends (Inside y r (suc i) (cols ++ (s ∷ []))) (NoWay y r (suc i) (cols ++ (s ∷ []))) (descend n b d r (suc i) (cols ++ (s ∷ [])) y u))
          → (u : ℕ) → Ends (Inside z (suc r) i cols) (NoWayBy z r i cols s)
          (entered (descend n b d r (suc i) (cols ++ (s ∷ []))) (foldl (constrain (suc n)) (some z) (first_constraints n b d cols i s)) u)
      step s c rest u =
          let fits = first_fits n b d cols i s q.columns (chosen_at q.from_one c) in
          go _ (all_closed (suc n) (closed cl) fits) (all_in (suc n) (closed cl) fits)
        where
          go : (o : Option Matrix) → ClosedZone (suc n) o
              → ((x : ℕ → ℤ) → In (suc n) o x ↔ (Member (suc n) z x × Every (Keeps x) (first_constraints n b d cols i s)))
              → Ends (Inside z (suc r) i cols) (NoWayBy z r i cols s) (entered (descend n b d r (suc i) (cols ++ (s ∷ []))) o u)
          go none zone same = miss (λ x m k w. (same x).1 (m, k))
          go (some y) zone same =
              ends_map (λ v h. (h.0, λ x m. let (p, way) = h.1 x m in let (mem, k) = (same x).0 p in (mem, row c k way)))
              (λ barred x m k w. barred x ((same x).1 (m, k)) w) (rest y (closed_some zone) u)

  -- ---- a way through all rows: the image is in d
  module _ (x : ℕ → ℤ) where
    of_way : {r i : ℕ} {cols : List ℕ} → Way x r i cols → (sel : List ℕ) × Selection n b r i sel × Every (Keeps x) (rows_constraints n b d cols i sel)
    unfolding rows_constraints
    of_way all = ([], no_row, done)
    of_way (row {i} {s} {cols} c k w) =
        let (sel, q, e) = of_way w in
        (s ∷ sel, choose c q, every_append (first_row n b d cols i s x k) e)

    to_way : {r i : ℕ} {cols sel : List ℕ} → Selection n b r i sel → ((k : ℕ) → k < r → AttainsFirst n b x (i + k) (get_or sel k 0))
        → Every (Keeps x) (rows_constraints n b d cols i sel) → Way x r i cols
    unfolding rows_constraints
    to_way no_row first e = all
    to_way {cols} (choose {i} {j} c q) first e =
        let (h, t) = every_split (row_constraints n b d cols i j) _ e in
        let here : i + 0 ≡ i = omega arith in
        let later : (k : ℕ) → i + suc k ≡ suc i + k = λ k. omega arith in
        row c (row_first n b d cols i j x (rw here at (first 0 (omega arith))) h)
        (to_way q (λ k l. rw (later k) at (first (suc k) (omega arith))) t)

    -- in a regular table, exactly if
    pub way_in : Regular n b → Closed (suc n) d → Way x n 1 (0 ∷ []) ↔ Member (suc n) d (image n b x)
    unfolding preimage
    way_in reg cl = (
      λ w. let (sel, q, e) = of_way w in ((preimage_in n b d sel q x cl).0 ((tighten_in (suc n) (selection_fits n b d sel q) x).1 e)).1,
      λ m. let (sel, q, at) = select n b (λ i s. AttainsFirst n b x i s × Attains n b x i s) n 1 column_of in
          let one : (r : ℕ) → 1 + r ≡ suc r = λ r. omega arith in
          let selected : AllAttain n b sel x = λ r h. rw (one r) at (at r h).1 in
          to_way q (λ r h. (at r h).0) ((tighten_in (suc n) (selection_fits n b d sel q) x).0 ((preimage_in n b d sel q x cl).1 (selected, m))),
    )
      where
        column_of : (i : ℕ) → 1 ≤ i → i < n + 1 → (s : ℕ) × Column n b i s × (AttainsFirst n b x i s × Attains n b x i s)
        column_of i l u = let e : suc (i - 1) ≡ i = omega arith in rw e at (first_attaining n b reg x (i - 1) (omega arith))

  -- a set of times of z whose image is in d, or none of them has its image there
  pub meeting_in : Regular n b → Closed (suc n) d → {z : Matrix} → Closed (suc n) z → (t : ℕ)
      → Ends (λ y. Closed (suc n) y × ((x : ℕ → ℤ) → Member (suc n) y x → Member (suc n) z x × Member (suc n) d (image n b x)))
      ((x : ℕ → ℤ) → Member (suc n) z x → Member (suc n) d (image n b x) → ⊥) (meeting n b z d t)
  unfolding meeting
  meeting_in reg cl zcl t =
      ends_map (λ y h. (h.0, λ x m. let (mem, way) = h.1 x m in (mem, (way_in x reg cl).0 way))) (λ barred x m i. barred x m ((way_in x reg cl).1 i))
      (descend_ends n (clock_rowed n b) zcl t)

-- ---- what each row keeps of a set is kept of the set that is found
module _ (n : ℕ) (b : List Time) (d : Matrix) (P : Matrix → Type 0)
    (step : (i s : ℕ) (cols : List ℕ) (z y : Matrix) → i ≤ n → Rowed n b cols i → Column n b i s → P z
    → foldl (constrain (suc n)) (some z) (first_constraints n b d cols i s) ≡ some y → P y) where
  descend_keeps : (r i : ℕ) (cols : List ℕ) (z : Matrix) → r + i ≡ suc n → Rowed n b cols i → P z → (t : ℕ) → Ends P (0 ≤ 0) (descend n b d r i cols z t)
  unfolding descend entered
  descend_keeps zero i cols z e q p t = hit p
  descend_keeps (suc r) i cols z e q p t =
      ends_map (λ y h. h) (λ m. omega arith)
      (first_of_ends {Miss = λ s. 0 ≤ 0} _ (λ s c. by s c (λ y k. descend_keeps r (suc i) (cols ++ (s ∷ [])) y (omega arith) (more_rowed q c) k))
      (columns_sound n b i n 1 (omega arith) (omega arith)) t)
    where
      by : (s : ℕ) → Column n b i s
          → ((y : Matrix) → P y → (u : ℕ) → Ends P (0 ≤ 0) (descend n b d r (suc i) (cols ++ (s ∷ [])) y u))
          → (u : ℕ) → Ends P (0 ≤ 0) (entered (descend n b d r (suc i) (cols ++ (s ∷ [])))
          (foldl (constrain (suc n)) (some z) (first_constraints n b d cols i s)) u)
      by s c rest u = go _ refl
        where
          go : (o : Option Matrix) → foldl (constrain (suc n)) (some z) (first_constraints n b d cols i s) ≡ o
              → Ends P (0 ≤ 0) (entered (descend n b d r (suc i) (cols ++ (s ∷ []))) o u)
          go none f = miss (omega arith)
          go (some y) f = rest y (step i s cols z y (omega arith) q c p f) u

  pub meeting_keeps : {z y : Matrix} (t : ℕ) → P z → meeting n b z d t ≡ found y → P y
  unfolding meeting
  meeting_keeps {z} t p e = of_hit (rw e at (descend_keeps n 1 (0 ∷ []) z (omega arith) (clock_rowed n b) p t))
    where
      of_hit : {M : Type 0} {y : Matrix} → Ends P M (found y) → P y
      of_hit (hit h) = h
