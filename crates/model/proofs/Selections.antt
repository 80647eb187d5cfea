-- The selections that are listed are exactly those that pick in each row a column holding a time.
use Prim.Native.Nat.{ℕ, zero, suc, ◌+◌, ◌≤◌, ◌<◌}
use native.Mathlib.Omega.{arith}
use native.Mathlib.Decide.{ℕ_discrete}
use mathlib.Core.Path.{◌≡◌, refl, sym, ap, ◌∙◌}
use mathlib.Core.Bool.{true, cond}
use mathlib.Core.List.{List, [], ◌∷◌, map}
use lib.ListN.{length, get_or}
use Rattle.ints.proofs.Integers.{impossible}
use Rattle.model.specs.Network.{Time, blank, secs, time, is_time}
use Rattle.model.specs.Search.{columns, selections}
use Rattle.model.specs.Conditions.{Column, Chosen, clock, column, Cols, Selection, no_row, choose}
use Rattle.model.specs.Lists.{Every, done, both, Some, here, there}
use Rattle.model.proofs.Listed.{every_map, map_every, flat_map_every, some_map, in_map, in_flat_map}

-- a column that holds a time
module _ {n : ℕ} {a : List Time} {i : ℕ} where
  pub time_held : (s : ℕ) → is_time (time n a i s) ≡ true → 1 ≤ s → s ≤ n → Column n a i s
  unfolding is_time
  time_held s e l u = go (time n a i s) refl e
    where
      go : (t : Time) → time n a i s ≡ t → is_time t ≡ true → Column n a i s
      go blank h e = impossible cc
      go (secs v) h e = record { from_one = l; to_n = u; value = v; is = h }

pub chosen_column : {n : ℕ} {a : List Time} {r s : ℕ} → Chosen n a (suc r) s → Column n a (suc r) s
chosen_column (column c) = c

pub chosen_at : {n : ℕ} {a : List Time} {i s : ℕ} → 1 ≤ i → Column n a i s → Chosen n a i s
chosen_at {i = zero} h c = absurd (omega arith)
chosen_at {i = suc r} h c = column c

pub chosen_fits : {n : ℕ} {a : List Time} {i s : ℕ} → Chosen n a i s → s < suc n
chosen_fits clock = omega arith
chosen_fits (column c) = let h = c.to_n in omega arith

module _ (n : ℕ) (a : List Time) where
  -- the columns that are listed hold a time
  pub columns_sound : (i r j : ℕ) → 1 ≤ j → r + j ≤ suc n → Every (Column n a i) (columns n a i r j)
  unfolding columns is_time
  columns_sound i zero j h l = done
  columns_sound i (suc r) j h l = go (time n a i j) refl (columns_sound i r (suc j) (omega arith) (omega arith))
    where
      go : (t : Time) → time n a i j ≡ t → Every (Column n a i) (columns n a i r (suc j))
          → Every (Column n a i) (cond (is_time t) (j ∷ columns n a i r (suc j)) (columns n a i r (suc j)))
      go blank e rest = rest
      go (secs v) e rest = both (record { from_one = h; to_n = omega arith; value = v; is = e }) rest

  -- and each that holds one is listed
  pub columns_complete : (i r j : ℕ) {s : ℕ} → Column n a i s → j ≤ s → s < r + j → Some (λ t. t ≡ s) (columns n a i r j)
  unfolding columns is_time
  columns_complete i zero j c h l = absurd (omega arith)
  columns_complete i (suc r) j {s} c h l = go (ℕ_discrete j s) (time n a i j) refl (λ k. columns_complete i r (suc j) c k (omega arith))
    where
      go : Dec (j ≡ s) → (t : Time) → time n a i j ≡ t → (suc j ≤ s → Some (λ t. t ≡ s) (columns n a i r (suc j)))
          → Some (λ t. t ≡ s) (cond (is_time t) (j ∷ columns n a i r (suc j)) (columns n a i r (suc j)))
      go (yes p) blank e rest = let z : blank ≡ secs c.value = sym e ∙ ap (time n a i) p ∙ c.is in impossible cc
      go (yes p) (secs v) e rest = here p
      go (no p) blank e rest = rest (omega arith)
      go (no p) (secs v) e rest = there (rest (omega arith))

  pub selections_sound : (r i : ℕ) → Every (Selection n a r i) (selections n a r i)
  unfolding selections
  selections_sound zero i = both no_row done
  selections_sound (suc r) i =
      flat_map_every (λ j. map (λ s. j ∷ s) (selections n a r (suc i)))
      (every_map (λ j c. map_every (λ s. j ∷ s) (every_map (λ s q. choose c q) (selections_sound r (suc i))))
      (columns_sound i n 1 (omega arith) (omega arith)))

  pub selections_complete : {r i : ℕ} {s : List ℕ} → Selection n a r i s → Some (λ t. t ≡ s) (selections n a r i)
  unfolding selections
  selections_complete no_row = here refl
  selections_complete (choose {r} {i} {j} c q) =
      in_flat_map (λ j. map (λ s. j ∷ s) (selections n a r (suc i)))
      (some_map (λ k e. in_map (λ s. k ∷ s) (some_map (λ s d. cc) (selections_complete q)))
      (columns_complete i n 1 c c.from_one (let h = c.to_n in omega arith)))

  -- row by row
  pub selection_length : {r i : ℕ} {s : List ℕ} → Selection n a r i s → length s ≡ r
  selection_length no_row = refl
  selection_length (choose c q) = ap suc (selection_length q)

  pub selection_at : {r i : ℕ} {s : List ℕ} → Selection n a r i s → (k : ℕ) → k < r → Column n a (i + k) (get_or s k 0)
  selection_at no_row k h = absurd (omega arith)
  selection_at (choose {i} c q) zero h = let z : i + 0 ≡ i = omega arith in rw z c
  selection_at (choose {i} c q) (suc k) h = let z : i + suc k ≡ suc i + k = omega arith in rw z (selection_at q k (omega arith))

  pub selection_cols : {r : ℕ} {s : List ℕ} → Selection n a r 1 s → Cols n a (0 ∷ s) (suc r)
  selection_cols q zero h = clock
  selection_cols q (suc k) h = let e : 1 + k ≡ suc k = omega arith in column (rw e at (selection_at q k (omega arith)))

  -- columns chosen row by row, each with a property Q, make a selection
  pub select : (Q : ℕ → ℕ → Type 0) (r i : ℕ) → ((k : ℕ) → i ≤ k → k < r + i → (j : ℕ) × Column n a k j × Q k j)
      → (s : List ℕ) × Selection n a r i s × ((k : ℕ) → k < r → Q (i + k) (get_or s k 0))
  select Q zero i c = ([], no_row, λ k h. absurd (omega arith))
  select Q (suc r) i c =
      let (j, col, q) = c i (omega arith) (omega arith) in
      let (s, sel, qs) = select Q r (suc i) (λ k l h. c k (omega arith) (omega arith)) in
      (j ∷ s, choose col sel, go j s q qs)
    where
      go : (j : ℕ) (s : List ℕ) → Q i j → ((k : ℕ) → k < r → Q (suc i + k) (get_or s k 0)) → (k : ℕ) → k < suc r → Q (i + k) (get_or (j ∷ s) k 0)
      go j s q qs zero h = let e : i + 0 ≡ i = omega arith in rw e q
      go j s q qs (suc k) h = let e : i + suc k ≡ suc i + k = omega arith in rw e (qs k (omega arith))
