-- Column after column of a row, and the rows below: the loop's invariant, and what each answer means.
use Prim.Native.Nat.{ℕ, zero, suc, ◌+◌, ◌*◌, ◌-◌, ◌≤◌, ◌<◌}
use native.Mathlib.Omega.{arith}
use native.Mathlib.Nat.{add-mul}
use native.Mathlib.Numerals.{add-one}
use mathlib.Core.Path.{◌≡◌, refl, sym, ap, ◌∙◌}
use mathlib.Core.Bool.{Bool, true, false}
use mathlib.Core.List.{List, [], ◌∷◌, ◌++◌}
use mathlib.Core.Option.{some}
use lib.IntN.{ℤ}
use lib.ListN.{length, take, drop, set, length-set}
use lib.Seq.{take-take, take-suc-set, take-set-le, length-take-le}
use Rattle.std.specs.declared.ops.ControlFlow.{ControlFlow}
use Rattle.std.specs.declared.ops.ControlFlow.TheVariants.{Continue, Break}
use Rattle.model.specs.Sizes.{zone_size}
use Rattle.model.specs.Matrix.{Matrix}
use Rattle.model.specs.Network.{Time, time, is_time}
use Rattle.model.specs.Conditions.{Column}
use Rattle.model.proofs.Selections.{chosen_at, time_held}
use Rattle.model.proofs.Patterns.{closed_some}
use Rattle.model.proofs.Zones.{closed, all_closed}
use Rattle.memory.proofs.Side.{part_of_lem}
use Rattle.memory.proofs.Leaving.{left_none, left_some}
use Rattle.memory.specs.Wide.{bounds_in}
use Rattle.zones.specs.declared.Choice.{Choice}
use Rattle.zones.specs.declared.Target.{Target}
use Rattle.zones.specs.Inner.{choice}
use Rattle.decisions.specs.Decide.{Tried, found, missed, spent, first_of, descend, meeting}
use Rattle.decisions.specs.Conditions.{columns_from, try_column, Rowed}
use Rattle.decisions.proofs.FirstColumn.{first_fits}
use Rattle.decisions.proofs.Descent.{clock_rowed, more_rowed}
use Rattle.decisions.proofs.Trying.{column_next, column_blank, column_end, descend_row, descend_end, try_empty, try_left}
use Rattle.descent.specs.declared.Stop.{Stop}
use Rattle.descent.specs.declared.Stop.TheVariants as stop
use Rattle.descent.specs.Numbers.{times_in}
use Rattle.descent.specs.Trying.{set_at, ended_by, try_one, left_of, column_ends, end_of_rows, DescendReady, TryReady, BuildReady, MeetingReady}
use Rattle.descent.specs.Trying.{PlacedIn, Descended, MeetingEnds}
use Rattle.descent.proofs.Building.{tryable_below}

-- ---- one column of a row
-- it takes a step
one_step : (f : ℕ → Tried) (t : ℕ) → 1 ≤ t → try_one true f t ≡ f (t - 1)
unfolding try_one
one_step f zero h = absurd (omega arith)
one_step f (suc t) h = let e : suc t - 1 ≡ t = omega arith in rw e

-- what follows it
abbrev onward : (ℕ → Tried) → Tried → Tried
onward rest (found z) = found z
onward rest (missed u) = rest u
onward rest spent = spent

-- nothing, where it stops
stopped : (rest : ℕ → Tried) (z : Matrix) (x : Stop) → onward rest (ended_by (Break x) z) ≡ ended_by (Break x) z
stopped rest z stop.Found = refl
stopped rest z stop.Spent = refl

one_column : (n : ℕ) (b : List Time) (i s : ℕ) (f : ℕ → ℕ → Tried) (t : ℕ) → s ≤ n
    → first_of f (columns_from n b i s) t ≡ onward (first_of f (columns_from n b i (s + 1))) (try_one (is_time (time n b i s)) (f s) t)
unfolding try_one first_of
one_column n b i s f t h = go (is_time (time n b i s)) refl t
  where
    go : (x : Bool) → is_time (time n b i s) ≡ x → (t : ℕ)
        → first_of f (columns_from n b i s) t ≡ onward (first_of f (columns_from n b i (s + 1))) (try_one x (f s) t)
    go false e t = rw (column_blank n b i s h e)
    go true e zero = rw (column_next n b i s h e)
    go true e (suc t) = rw (column_next n b i s h e) (same (f s t))
      where
        same : (o : Tried) → elim o [ found z ↦ found z | missed u ↦ first_of f (columns_from n b i (s + 1)) u | spent ↦ spent ]
            ≡ onward (first_of f (columns_from n b i (s + 1))) o
        same (found z) = refl
        same (missed u) = refl
        same spent = refl

-- ---- the rows before row i are as they were
-- fewer of what is the same
fewer : {X : Type 0} (j k : ℕ) (xs ys : List X) → j ≤ k → take k xs ≡ take k ys → take j xs ≡ take j ys
fewer j k xs ys h e = sym (take-take j k xs h) ∙ ap (take j) e ∙ take-take j k ys h

module _ (n i : ℕ) (sets sets' : List ℤ) (e : take (i * zone_size n) sets' ≡ take (i * zone_size n) sets) where
  pub set_same : 1 ≤ i → set_at n sets' (i - 1) ≡ set_at n sets (i - 1)
  unfolding set_at
  set_same h =
      let size = zone_size n in
      let l : (i - 1) * size + size ≤ i * size = let is : i - 1 + 1 ≡ i = omega arith in omega (arith, rw is at (add-mul (i - 1) 1 size)) in
      ap bounds_in (sym (part_of_lem (i * size) ((i - 1) * size) size sets' l) ∙ ap (λ (x : List ℤ). take size (drop ((i - 1) * size) x)) e
      ∙ part_of_lem (i * size) ((i - 1) * size) size sets l)

-- so row i can be tried again
ready_again : {t : Target ℤ} {sets sets' : List ℤ} {cols cols' : List ℕ} {i : ℕ} → DescendReady t sets cols i
    → take (i * zone_size t.n) sets' ≡ take (i * zone_size t.n) sets → length sets' ≡ length sets
    → take i cols' ≡ take i cols → length cols' ≡ length cols → DescendReady t sets' cols' i
ready_again {t} {sets} {sets'} {i} r e l f k = record {
  from_one = r.from_one;
  to_n = r.to_n;
  sets_size = rw l r.sets_size;
  cols_size = rw k r.cols_size;
  columns = rw f r.columns;
  closed = rw (set_same t.n i sets sets' e r.from_one) r.closed;
  fits = rw (f, set_same t.n i sets sets' e r.from_one) r.fits;
}

-- ---- the loop
-- the try of each column of row i
abbrev tries : Target ℤ → List ℤ → List ℕ → ℕ → ℕ → ℕ → Tried
tries t sets cols i = try_column t.n (times_in t.times.now) (bounds_in t.zone.now) (t.n - i) i (take i cols) (set_at t.n sets (i - 1))

-- what is left of the row is its columns from column s on, with so many steps
pub record Going (t : Target ℤ) (sets₀ : List ℤ) (cols₀ : List ℕ) (i steps : ℕ) (sets : List ℤ) (cols : List ℕ) (left s : ℕ) : Type 0 where
  pub from_one : 1 ≤ s
  pub to_n : s ≤ suc t.n
  pub sets_size : length sets ≡ length sets₀
  pub cols_size : length cols ≡ length cols₀
  pub sets_same : take (i * zone_size t.n) sets ≡ take (i * zone_size t.n) sets₀
  pub cols_same : take i cols ≡ take i cols₀
  pub rest : end_of_rows t sets₀ cols₀ i steps ≡ first_of (tries t sets₀ cols₀ i) (columns_from t.n (times_in t.times.now) i s) left

module _ {t : Target ℤ} {sets₀ : List ℤ} {cols₀ : List ℕ} {i : ℕ} (ready : DescendReady t sets₀ cols₀ i) (steps : ℕ) where
  abbrev table : List Time
  table = times_in t.times.now

  abbrev At : List ℤ → List ℕ → ℕ → ℕ → Type 0
  At sets cols left s = Going t sets₀ cols₀ i steps sets cols left s

  abbrev whole : Tried
  whole = end_of_rows t sets₀ cols₀ i steps

  pub going_start : At sets₀ cols₀ steps 1
  going_start = record {
    from_one = omega arith;
    to_n = omega arith;
    sets_size = refl;
    cols_size = refl;
    sets_same = refl;
    cols_same = refl;
    rest = descend_row t.n table (bounds_in t.zone.now) (t.n - i) i (take i cols₀) (set_at t.n sets₀ (i - 1)) steps;
  }

  module _ {sets : List ℤ} {cols : List ℕ} {left s : ℕ} (g : At sets cols left s) where
    pub going_ready : s ≤ t.n → TryReady t sets cols (choice i s)
    going_ready h = record {
      row = ready_again ready g.sets_same g.sets_size g.cols_same g.cols_size;
      from_one = g.from_one;
      to_n = h;
    }

    -- all columns are done
    pub going_done : t.n < s → Descended t.n i whole sets₀ cols₀ (Continue left) sets cols
    unfolding first_of
    going_done h = record {
      ends = sym (g.rest ∙ rw (column_end t.n table i s h));
      sets_same = g.sets_same;
      cols_same = g.cols_same;
    }

    module _ (h : s ≤ t.n) {r : ControlFlow Stop ℕ} {sets' : List ℤ} {cols' : List ℕ}
        (d : Descended t.n i (column_ends t sets cols (choice i s) left) sets cols r sets' cols') where
      sets_since : take (i * zone_size t.n) sets' ≡ take (i * zone_size t.n) sets₀
      sets_since = d.sets_same ∙ g.sets_same

      cols_since : take i cols' ≡ take i cols₀
      cols_since = d.cols_same ∙ g.cols_same

      tried : try_one (is_time (time t.n table i s)) (tries t sets₀ cols₀ i s) left ≡ ended_by r (set_at t.n sets' t.n)
      tried = sym (rw (g.cols_same, set_same t.n i sets₀ sets g.sets_same ready.from_one) at d.ends)

      followed : whole
          ≡ onward (first_of (tries t sets₀ cols₀ i) (columns_from t.n table i (s + 1))) (ended_by r (set_at t.n sets' t.n))
      followed =
          g.rest ∙ one_column t.n table i s (tries t sets₀ cols₀ i) left h
          ∙ ap (onward (first_of (tries t sets₀ cols₀ i) (columns_from t.n table i (s + 1)))) tried

      -- with a set, or out of steps
      pub going_stops : {x : Stop} → r ≡ Break x → Descended t.n i whole sets₀ cols₀ (Break x) sets' cols'
      going_stops {x} e = record { ends = sym ((rw e at followed) ∙ stopped _ _ x); sets_same = sets_since; cols_same = cols_since }

      pub going_on : {u : ℕ} → r ≡ Continue u → length sets' ≡ length sets → length cols' ≡ length cols → At sets' cols' u (s + 1)
      going_on e l k = record {
        from_one = omega arith;
        to_n = omega arith;
        sets_size = l ∙ g.sets_size;
        cols_size = k ∙ g.cols_size;
        sets_same = sets_since;
        cols_same = cols_since;
        rest = rw e at followed;
      }

-- ---- one column: blank, out of steps, nothing left, the last row, or the rows below
module _ {target : Target ℤ} {sets : List ℤ} {cols : List ℕ} {c : Choice} (t : TryReady target sets cols c) where
  abbrev n : ℕ
  n = target.n

  abbrev b : List Time
  b = times_in target.times.now

  abbrev d : Matrix
  d = bounds_in target.zone.now

  abbrev i : ℕ
  i = c.row

  abbrev s : ℕ
  s = c.column

  pub column_blank_ends : is_time (time n b i s) ≡ false → (steps : ℕ)
      → Descended n i (column_ends target sets cols c steps) sets cols (Continue steps) sets cols
  unfolding try_one
  column_blank_ends e steps = record { ends = rw e; sets_same = refl; cols_same = refl }

  module _ (e : is_time (time n b i s) ≡ true) where
    pub column_spent : Descended n i (column_ends target sets cols c 0) sets cols (Break stop.Spent) sets cols
    unfolding try_one
    column_spent = record { ends = rw e; sets_same = refl; cols_same = refl }

    pub build_ready : BuildReady target sets cols c
    build_ready = record { row = t.row; column = time_held s e t.from_one t.to_n }

    -- with a step for it
    module _ {steps : ℕ} (some-steps : 1 ≤ steps) where
      as_column : column_ends target sets cols c steps ≡ try_column n b d (n - i) i (take i cols) (set_at n sets (i - 1)) s (steps - 1)
      as_column = rw e (one_step _ steps some-steps)

      module _ {r : Bool} {sets' : List ℤ} (p : PlacedIn n i (left_of target sets cols c) sets r sets') where
        pub column_empty : r ≡ false → Descended n i (column_ends target sets cols c steps) sets cols (Continue (steps - 1)) sets' cols
        column_empty f = record {
          ends = sym (as_column ∙ try_empty n b d (n - i) i (take i cols) (set_at n sets (i - 1)) s (steps - 1) (left_none p.left f));
          sets_same = p.elsewhere.front;
          cols_same = refl;
        }

        module _ (f : r ≡ true) where
          left : left_of target sets cols c ≡ some (set_at n sets' i)
          left = left_some p.left f

          goes_on : column_ends target sets cols c steps ≡ descend n b d (n - i) (suc i) (take i cols ++ (s ∷ [])) (set_at n sets' i) (steps - 1)
          goes_on = as_column ∙ try_left n b d (n - i) i (take i cols) (set_at n sets (i - 1)) s (steps - 1) left

          -- it was the last row
          pub column_found : i ≡ n → Descended n i (column_ends target sets cols c steps) sets cols (Break stop.Found) sets' cols
          column_found is =
              let none_left : n - i ≡ 0 = omega arith in
              record {
                ends = sym (goes_on ∙ rw (none_left, descend_end n b d (suc i) (take i cols ++ (s ∷ [])) (set_at n sets' i) (steps - 1), is));
                sets_same = p.elsewhere.front;
                cols_same = refl;
              }

          -- the row below
          module _ (more : i < n) (long : length sets' ≡ length sets) where
            abbrev cols' : List ℕ
            cols' = set cols i s

            cols_more : take (i + 1) cols' ≡ take i cols ++ (s ∷ [])
            cols_more = rw (add-one i) (take-suc-set cols i s (omega (arith, t.row.cols_size)))

            here : i + 1 - 1 ≡ i
            here = omega arith

            rows_left : n - i ≡ suc (n - suc i)
            rows_left = omega arith

            rowed : Rowed n b (take i cols) i
            rowed = record {
              from_one = t.row.from_one;
              long = length-take-le i cols (omega (arith, t.row.cols_size));
              columns = t.row.columns;
            }

            col : Column n b i s
            col = time_held s e t.from_one t.to_n

            pub child_ready : DescendReady target sets' cols' (i + 1)
            child_ready = record {
              from_one = omega arith;
              to_n = omega arith;
              sets_size = rw long t.row.sets_size;
              cols_size = rw (length-set cols i s) t.row.cols_size;
              columns = rw (cols_more, add-one i) (more_rowed rowed col).columns;
              closed = rw here (closed_some (rw left at (all_closed (suc n) (closed t.row.closed)
                  (first_fits n b d (take i cols) i s t.row.columns (chosen_at t.row.from_one col)))));
              fits = rw (cols_more, here, add-one i) (tryable_below (rw rows_left at t.row.fits) s col _ left);
            }

            module _ {r' : ControlFlow Stop ℕ} {sets'' : List ℤ} {cols'' : List ℕ}
                (g : Descended n (i + 1) (end_of_rows target sets' cols' (i + 1) (steps - 1)) sets' cols' r' sets'' cols'') where
              pub column_below : Descended n i (column_ends target sets cols c steps) sets cols r' sets'' cols''
              column_below = record {
                ends = g.ends ∙ sym (goes_on ∙ rw (rows_left, cols_more, here, add-one i));
                sets_same = fewer (i * zone_size n) ((i + 1) * zone_size n) sets'' sets' (omega (arith, add-mul i 1 (zone_size n))) g.sets_same
                    ∙ p.elsewhere.front;
                cols_same = fewer i (i + 1) cols'' cols' (omega arith) g.cols_same ∙ take-set-le i cols i s (omega arith);
              }

-- ---- all rows
module _ {t : Target ℤ} {sets : List ℤ} (m : MeetingReady t sets) (cols : List ℕ) (clock : take 1 cols ≡ 0 ∷ []) where
  all_rows : suc (t.n - 1) ≡ t.n
  all_rows = omega (arith, t.times_in.departures.some)

  pub meeting_ready : suc t.n ≤ length cols → DescendReady t sets cols 1
  meeting_ready long = record {
    from_one = omega arith;
    to_n = t.times_in.departures.some;
    sets_size = m.sets_size;
    cols_size = long;
    columns = rw clock (clock_rowed t.n (times_in t.times.now)).columns;
    closed = m.closed;
    fits = rw (clock, all_rows) m.fits;
  }

  pub meeting_ends : {steps : ℕ} {r : ControlFlow Stop ℕ} {sets' : List ℤ} {cols' : List ℕ}
      → Descended t.n 1 (end_of_rows t sets cols 1 steps) sets cols r sets' cols'
      → MeetingEnds t steps sets r sets'
  unfolding meeting
  meeting_ends {sets'} d = record {
    ends = rw (clock, all_rows) at d.ends;
    first_same = set_same t.n 1 sets sets' d.sets_same (omega arith);
  }

-- what closes the goals of a row, and of a column
pub ruleset rows = (going_start, going_stops, going_done)

pub ruleset columns = (column_blank_ends, column_spent, build_ready, column_empty, child_ready)
