-- The preimage of a zone by a selection: exactly the times at which in each row the selected column attains the largest
-- sum, ties included, and whose image is in the zone.
use Prim.Native.Nat.{ℕ, zero, suc, ◌+◌, ◌-◌, ◌≤◌, ◌<◌}
use native.Mathlib.Omega.{arith}
use native.Mathlib.Decide.{dec_lt}
use mathlib.Core.Path.{◌≡◌, refl, sym, ap, ◌∙◌}
use mathlib.Core.Logic.{◌↔◌}
use mathlib.Core.List.{List, [], ◌∷◌, ◌++◌, flatten}
use lib.IntN.{ℤ, pos, ◌+ℤ◌, ◌-ℤ◌}
use lib.ListN.{get_or}
use Rattle.ints.proofs.Integers.{up, dn, ints, add_ud, sub_ud}
use Rattle.model.specs.Bound.{Bound, most, any, Holds, plus}
use Rattle.model.specs.Matrix.{Matrix, entry, Constraint, tighten, Member}
use Rattle.model.specs.Network.{Time, blank, secs, time, after, secs_of, next}
use Rattle.model.specs.Search.{chosen, slack, keeps, row_constraints, rows_constraints, preimage}
use Rattle.model.specs.Lists.{tabulate, Every}
use Rattle.model.specs.Conditions.{Closed, Fits, Column, Chosen, Cols, image, sum, Selection}
use Rattle.model.proofs.Bounds.{bounds, nat_le_b, holds_none, across}
use Rattle.model.proofs.MaxPlus.{LeT, low, le_t_antisym, le_t_nat, nat_le_t, latest_of_upper, latest_of_least}
use Rattle.model.proofs.Zones.{In, ClosedZone, Keeps, tighten_closed, tighten_in}
use Rattle.model.proofs.Rows.{Row, behind, row_of_lem, of_row, by_rows, flatten_snoc}
use Rattle.model.proofs.Listed.{every_tabulate, at_tabulate, every_flatten, in_flatten}
use Rattle.model.proofs.Tabulated.{tabulate_snoc}
use Rattle.model.proofs.Mapped.{through}
use Rattle.model.proofs.Selections.{chosen_column, chosen_fits, selection_length, selection_cols}

-- in row i column s attains the largest sum, ties included
abbrev pub Attains : ℕ → List Time → (ℕ → ℤ) → ℕ → ℕ → Type 0
Attains n a x i s = (j : ℕ) → 1 ≤ j → j ≤ n → LeT (after (secs (x j)) (time n a i j)) (after (secs (x s)) (time n a i s))

-- the slack of a column is the room up to the sum w + c
slack_room : (u w c : ℤ) (t : Time) → Holds (u -ℤ w) (slack c t) ↔ LeT (after (secs u) t) (secs (w +ℤ c))
unfolding slack after
slack_room u w c blank = (λ h. low, λ h. any)
slack_room u w c (secs t) = (
  λ h. nat_le_t (omega (bounds, sub_ud u w, sub_ud c t, add_ud u t, add_ud w c)),
  λ h. nat_le_b (omega (bounds, le_t_nat, sub_ud u w, sub_ud c t, add_ud u t, add_ud w c)),
)

-- a bound on two sums, as one on their first parts
pub holds_sums : (u v c e : ℤ) (b : Bound) → Holds (u -ℤ v) (plus b (most (e -ℤ c))) ↔ Holds ((u +ℤ c) -ℤ (v +ℤ e)) b
holds_sums u v c e b =
    let apart : u -ℤ v -ℤ (e -ℤ c) ≡ (u +ℤ c) -ℤ (v +ℤ e)
    = omega (ints, sub_ud u v, sub_ud e c, sub_ud (u -ℤ v) (e -ℤ c), add_ud u c, add_ud v e, sub_ud (u +ℤ c) (v +ℤ e)) in
    rw apart at (across (u -ℤ v) (e -ℤ c) b)

module _ (n : ℕ) (a : List Time) (x : ℕ → ℤ) where
  -- what a column holding a time adds up to
  pub column_sum : {i s : ℕ} → Column n a (suc i) s → after (secs (x s)) (time n a (suc i) s) ≡ secs (sum n a x (suc i) s)
  unfolding chosen secs_of after
  column_sum c = rw c.is

  -- where a column attains the largest sum, that is the image
  pub image_attained : {i s : ℕ} → Column n a (suc i) s → Attains n a x (suc i) s → image n a x (suc i) ≡ sum n a x (suc i) s
  unfolding image next secs_of
  image_attained {i} {s} c h =
      let sums : ℕ → Time = λ j. after (secs (x j)) (time n a (suc i) j) in
      ap secs_of
      (le_t_antisym (latest_of_least n sums h) (latest_of_upper n sums s c.from_one c.to_n)
      ∙ column_sum c)

  -- the clock's column attains its image at any times
  pub clock_imaged : sum n a x 0 0 ≡ image n a x 0
  unfolding image chosen up dn
  clock_imaged = omega (ints, add_ud (x 0) (pos 0))

  -- the constraints that a column attains the largest sum say so
  pub attains_behind : {i s : ℕ} → Column n a (suc i) s → ((j : ℕ) → j < n → Keeps x (behind n a (suc i) s (1 + j))) ↔ Attains n a x (suc i) s
  attains_behind {i} {s} c = (
    λ b j l k. let e : 1 + (j - 1) ≡ j = omega arith in rw (column_sum c) ((room j).0 (rw e at (b (j - 1) (omega arith)))),
    λ at j k. (room (1 + j)).1 (rw (column_sum c) at (at (1 + j) (omega arith) (omega arith))),
  )
    where
      room : (j : ℕ) → Keeps x (behind n a (suc i) s j) ↔ LeT (after (secs (x j)) (time n a (suc i) j)) (secs (sum n a x (suc i) s))
      room j = slack_room (x j) (x s) (chosen n a (suc i) s) (time n a (suc i) j)

  -- a bound on two rows' sums, as a constraint on their columns
  pub keeps_sums : (i s l t : ℕ) (b : Bound)
      → Holds (x s -ℤ x t) (plus b (most (chosen n a l t -ℤ chosen n a i s))) ↔ Holds (sum n a x i s -ℤ sum n a x l t) b
  keeps_sums i s l t b = holds_sums (x s) (x t) (chosen n a i s) (chosen n a l t) b

-- the constraints of a row are on x(0) to x(n)
pub row_fits : (n : ℕ) (a : List Time) (d : Matrix) {cols : List ℕ} {i s : ℕ} → Cols n a cols i → Chosen n a i s → Row (Fits (suc n)) n a d cols i s
unfolding keeps
row_fits n a d before c = record {
  attained = λ j k. record { row_fits = omega arith; col_fits = chosen_fits c };
  ahead = λ l k. record { row_fits = chosen_fits c; col_fits = chosen_fits (before l k) };
  back = λ l k. record { row_fits = chosen_fits (before l k); col_fits = chosen_fits c };
}

-- the column of row i in a selection; the clock's is 0
abbrev pub col : List ℕ → ℕ → ℕ
col sel i = get_or (0 ∷ sel) i 0

module _ (n : ℕ) (a : List Time) (sel : List ℕ) (q : Selection n a n 1 sel) where
  pub cols : Cols n a (0 ∷ sel) (suc n)
  cols = selection_cols n a q

  pub column_at : (r : ℕ) → r < n → Column n a (suc r) (col sel (suc r))
  column_at r h = chosen_column (cols (suc r) (omega arith))

-- the constraints that in rows 1 to r the selected columns attain the largest sums have P
abbrev pub Behind : ℕ → List Time → List ℕ → (Constraint → Type 0) → ℕ → Type 0
Behind n a sel P r = (i : ℕ) → i < r → (j : ℕ) → j < n → P (behind n a (suc i) (col sel (suc i)) (1 + j))

module _ (n : ℕ) (a : List Time) (sel : List ℕ) (x : ℕ → ℤ) where
  -- in each row the selected column attains the largest sum
  abbrev pub AllAttain : Type 0
  AllAttain = (r : ℕ) → r < n → Attains n a x (suc r) (col sel (suc r))

  -- the image of row i by its column
  abbrev pub value : ℕ → ℤ
  value i = sum n a x i (col sel i)

  pub value_image : Selection n a n 1 sel → AllAttain → (i : ℕ) → i < suc n → value i ≡ image n a x i
  value_image q at zero h = clock_imaged n a x
  value_image q at (suc r) h = sym (image_attained n a x (column_at n a sel q r (omega arith)) (at r (omega arith)))

module _ (n : ℕ) (a : List Time) (d : Matrix) (sel : List ℕ) where
  abbrev c : ℕ → ℕ
  c = col sel

  -- the constraints of row i
  abbrev pub row_of : ℕ → List Constraint
  row_of i = row_constraints n a d (0 ∷ sel) i (c i)

  -- those of rows 1 to r
  abbrev pub front : ℕ → List Constraint
  front r = flatten (tabulate r 1 row_of)

  pub front_more : (r : ℕ) → front (suc r) ≡ front r ++ row_of (suc r)
  front_more r =
      let z : 1 + r ≡ suc r = omega arith in
      ap flatten (sym (rw z at (tabulate_snoc r 1 row_of))) ∙ flatten_snoc (tabulate r 1 row_of) (row_of (suc r))

  -- of all rows
  pub selection_front : Selection n a n 1 sel → rows_constraints n a d (0 ∷ []) 1 sel ≡ front n
  selection_front q = rw (selection_length n a q) at (by_rows n a d (0 ∷ []) 1 sel refl)

  pub preimage_front : Selection n a n 1 sel → preimage n a d sel ≡ tighten (suc n) (front n)
  unfolding preimage
  preimage_front q = ap (tighten (suc n)) (selection_front q)

  module _ (P : Constraint → Type 0) (r : ℕ) where
    front_rows : Every P (front r) → (i : ℕ) → i < r → Row P n a d (0 ∷ sel) (suc i) (c (suc i))
    front_rows e i h =
        let z : 1 + i ≡ suc i = omega arith in
        row_of_lem P n a d (0 ∷ sel) (suc i) (c (suc i)) (rw z at (at_tabulate r 1 row_of (in_flatten _ e) i h))

    rows_front : ((i : ℕ) → i < r → Row P n a d (0 ∷ sel) (suc i) (c (suc i))) → Every P (front r)
    rows_front rows = every_flatten (every_tabulate r 1 row_of (λ i h.
        let z : 1 + i ≡ suc i = omega arith in
        rw z (of_row P n a d (0 ∷ sel) (suc i) (c (suc i)) (rows i h))))

  -- what they say of x, also where a map h is done on their limits: the columns attain the largest sums, and the images keep to the zone
  module _ (h : Bound → Bound) (same : (c : ℤ) → h (most c) ≡ most c) (sums : (b c : Bound) → h (plus b c) ≡ plus (h b) (h c)) (x : ℕ → ℤ) where
    abbrev To : Constraint → Type 0
    To k = Keeps x (through h k)

    abbrev v : ℕ → ℤ
    v = value n a sel x

    apart : (i l : ℕ) → To (keeps n a d i (c i) l (c l)) ↔ Holds (v i -ℤ v l) (h (entry (suc n) d i l))
    unfolding keeps
    apart i l = rw (sums (entry (suc n) d i l) _, same _) (keeps_sums n a x i (c i) l (c l) (h (entry (suc n) d i l)))

    pub front_says : Closed (suc n) d → (r : ℕ) → r ≤ n → Every To (front r)
        ↔ (Behind n a sel To r × ((i l : ℕ) → i < suc r → l < suc r → Holds (v i -ℤ v l) (h (entry (suc n) d i l))))
    front_says cl r few = (
      λ e. let rows = front_rows To r e in (λ i k. (rows i k).attained, λ i l hi hl. between rows i l hi hl (dec_lt l i) (dec_lt i l)),
      λ e. rows_front To r (λ i k. record {
        attained = e.0 i k;
        ahead = λ l g. (apart (suc i) l).1 (e.1 (suc i) l (omega arith) (omega arith));
        back = λ l g. (apart l (suc i)).1 (e.1 l (suc i) (omega arith) (omega arith));
      }),
    )
      where
        between : ((i : ℕ) → i < r → Row To n a d (0 ∷ sel) (suc i) (c (suc i))) → (i l : ℕ) → i < suc r → l < suc r
            → Dec (l < i) → Dec (i < l) → Holds (v i -ℤ v l) (h (entry (suc n) d i l))
        between rows zero l hi hl (yes p) e = absurd (omega arith)
        between rows (suc i) l hi hl (yes p) e = (apart (suc i) l).0 ((rows i (omega arith)).ahead l p)
        between rows i zero hi hl (no p) (yes e) = absurd (omega arith)
        between rows i (suc l) hi hl (no p) (yes e) = (apart i (suc l)).0 ((rows l (omega arith)).back i e)
        between rows i l hi hl (no p) (no e) =
            let equal : i ≡ l = omega arith in
            rw (equal, cl.diag l (omega arith), same (pos 0)) (holds_none (v l))

module _ (n : ℕ) (a : List Time) (d : Matrix) (sel : List ℕ) (q : Selection n a n 1 sel) where
  pub rows_fit : (i : ℕ) → i < n → Row (Fits (suc n)) n a d (0 ∷ sel) (suc i) (col sel (suc i))
  rows_fit i h = row_fits n a d (λ l k. cols n a sel q l (omega arith)) (cols n a sel q (suc i) (omega arith))

  pub front_fits : (r : ℕ) → r ≤ n → Every (Fits (suc n)) (front n a d sel r)
  front_fits r few = rows_front n a d sel (Fits (suc n)) r (λ i h. rows_fit i (omega arith))

  pub selection_fits : Every (Fits (suc n)) (rows_constraints n a d (0 ∷ []) 1 sel)
  selection_fits = rw (selection_front n a d sel q) (front_fits n (omega arith))

  pub preimage_closed : ClosedZone (suc n) (preimage n a d sel)
  unfolding preimage
  preimage_closed = tighten_closed (suc n) selection_fits

  -- what the constraints say
  pub preimage_in : (x : ℕ → ℤ) → Closed (suc n) d → In (suc n) (preimage n a d sel) x ↔ (AllAttain n a sel x × Member (suc n) d (image n a x))
  preimage_in x cl =
      let zone = tighten_in (suc n) (front_fits n (omega arith)) x in
      let say = front_says n a d sel (λ b. b) (λ c. refl) (λ b c. refl) x cl n (omega arith) in
      let is = value_image n a sel x q in
      rw (preimage_front n a d sel q) (
        λ h.
            let (b, u) = say.0 (zone.0 h) in
            let at : AllAttain n a sel x = λ r k. (attains_behind n a x (column_at n a sel q r k)).0 (b r k) in
            (at, λ i l hi hl. rw (← is at i hi, ← is at l hl) (u i l hi hl)),
        λ h. zone.1 (say.1 (
          λ r k. (attains_behind n a x (column_at n a sel q r k)).1 (h.0 r k),
          λ i l hi hl. rw (is h.0 i hi, is h.0 l hl) (h.1 i l hi hl),
        )),
      )
