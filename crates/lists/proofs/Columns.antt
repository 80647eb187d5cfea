-- A column of the table, and what a set becomes with it.
use Prim.Native.Nat.{ℕ, suc, ◌+◌, ◌-◌, ◌≤◌, ◌<◌}
use native.Mathlib.Omega.{arith}
use mathlib.Core.Path.{◌≡◌}
use mathlib.Core.List.{List, [], ◌∷◌, ◌++◌, map}
use mathlib.Core.Option.{some}
use lib.IntN.{ℤ}
use Rattle.model.specs.Matrix.{Matrix}
use Rattle.model.specs.Network.{Time, scale_time}
use Rattle.model.specs.Search.{row_constraints, rows_constraints}
use Rattle.model.specs.Conditions.{Column, Selection, choose, Chosen, image, sum, Before, Fits, Fitting}
use Rattle.model.proofs.Zones.{closed, all_closed}
use Rattle.model.proofs.Patterns.{closed_some}
use Rattle.model.proofs.Selections.{chosen_at, select}
use Rattle.model.proofs.Rows.{of_row}
use Rattle.model.proofs.Preimage.{row_fits}
use Rattle.model.proofs.Images.{long_more, more_at, row_imaged}
use Rattle.model.proofs.Fitted.{fitting_front, fitting_rest}
use Rattle.memory.specs.Numbers.{bounds_in, times_in, Limit}
use Rattle.zones.specs.Conditions.{RowReady}
use Rattle.zones.proofs.Standing.{closed_in}
use Rattle.ahead.specs.Outlook.{Outlook}
use Rattle.ahead.proofs.Keeping.{next_kept}
use Rattle.lists.specs.Selecting.{with_column, Selecting}

-- ---- the set that column s of row i leaves
module _ {n : ℕ} {times zone : List ℤ} {part : Matrix} {cols : List ℕ} {i : ℕ} (sel : Selecting n times zone part cols i) (row : i ≤ n)
    {s : ℕ} (c : Column n (times_in times) i s) where
  abbrev a : List Time
  a = times_in times

  abbrev d : Matrix
  d = bounds_in zone

  fitting_with : (rest : List ℕ) → Selection n a (suc n - suc i) (suc i) rest
      → Fitting (suc n) Limit (some part) (row_constraints n a d cols i s ++ rows_constraints n a d (cols ++ (s ∷ [])) (suc i) rest)
  unfolding rows_constraints
  fitting_with rest q = let e : suc n - i ≡ suc (suc n - suc i) = omega arith in sel.fitting (s ∷ rest) (rw e (choose c q))

  -- some columns in the rows below
  below : (rest : List ℕ) × Selection n a (suc n - suc i) (suc i) rest
  below =
      let column_of : (k : ℕ) → suc i ≤ k → k < suc n - suc i + suc i → (j : ℕ) × Column n a k j × Column n a k j
      = λ k l u. let (j, e) = sel.backward.regular k (omega arith) (omega arith) in (j, e, e) in
      let (rest, q, f) = select n a (Column n a) (suc n - suc i) (suc i) column_of in
      (rest, q)

  -- it can be taken in
  pub row_ready : {z : List ℤ} → bounds_in z ≡ part → RowReady n z times zone cols i s
  row_ready {z} e = record {
    set = closed_in z sel.backward.source.few (rw e sel.before.closed_set);
    from_one = sel.before.from_one;
    to_n = row;
    cols_size = omega (arith, sel.before.long);
    columns = sel.before.columns;
    column = c;
    fitting = rw e (fitting_front (row_constraints n a d cols i s) _ (fitting_with below.0 below.1));
  }

  -- what can be looked ahead from
  pub outlook : Outlook n a d part cols i
  outlook = record { closed = sel.backward.closed; before = sel.before; kept = sel.kept }

  module _ {q : Matrix} (left : with_column n a d part cols i s ≡ some q) where
    pub next_before : Before n a q (cols ++ (s ∷ [])) (suc i)
    next_before =
        let b = sel.before in
        let here = chosen_at b.from_one c in
        record {
          closed_set =
              let fits = of_row (Fits (suc n)) n a d cols i s (row_fits n a d b.columns here) in
              closed_some (rw left at (all_closed (suc n) (closed b.closed_set) fits));
          from_one = omega arith;
          long = long_more cols s b.long;
          columns = more_at (λ l u v. Chosen n a l u) cols cols s b.long b.long b.columns here;
          imaged = λ parts p x m.
              let t = map (scale_time parts) a in
              let (k, h) = row_imaged n a d cols b.closed_set b.columns b.from_one c left parts p x m in
              more_at (λ l u v. sum n t x l u ≡ image n t x l) cols cols s b.long b.long (b.imaged parts p x k) h;
        }

    -- as the set of the next row
    pub next_selecting : Selecting n times zone q (cols ++ (s ∷ [])) (suc i)
    next_selecting = record {
      backward = sel.backward;
      to_end = omega arith;
      before = next_before;
      kept = next_kept outlook row c left next_before;
      fitting = λ rest r. rw left at (fitting_rest (row_constraints n a d cols i s) _ (fitting_with rest r));
    }
