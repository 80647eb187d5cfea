-- Laws of a run: the sums of a row as the code reads them, times as it stores them into an array, and what a run gives.
use mathlib.Core.Path.{◌≡◌, refl, sym, ap, ap₂, ◌∙◌}
use Prim.Native.Nat.{ℕ, suc, ◌+◌, ◌*◌, ◌-◌, ◌≤◌, ◌<◌}
use native.Mathlib.Numerals.{add-one, one-add}
use native.Mathlib.Omega.{arith}
use native.Mathlib.Nat.{add-mul, mul-le-mul_right}
use mathlib.Core.Bool.{Bool, true, false, cond}
use mathlib.Core.Option.{none, some}
use mathlib.Core.List.{List, [], ◌∷◌, ◌++◌, map, map-append}
use lib.IntN.{ℤ, pos, nat_abs}
use lib.ListN.{length, take, drop, get_or, set, replicate, length-map, get_or-map}
use lib.Seq.{length-take-le, take_all}
use mir.Syntax.{w64}
use mir.Val.{SFits}
use Rattle.std.specs.List.{between}
use Rattle.std.specs.Iterator.{Yields}
use Rattle.std.specs.Iterator.Adapters.{zip_first, zip_second}
use Rattle.std.specs.Slice.Iter.{iter_rest}
use Rattle.std.specs.declared.iter.Zip.{Zip}
use Rattle.std.proofs.Common.{Bor, Iter}
use Rattle.std.proofs.iter.Yields.{fronts}
use Rattle.std.proofs.lemmas.Iterator.{zips}
use Rattle.std.proofs.lemmas.List.{drop-replicate, take-take, take_more_set}
use Rattle.std.proofs.lemmas.List.Edits.{length-between, get_or-between}
use Rattle.std.proofs.lemmas.Slice.Zip.{zip_turn, zip_end}
use Rattle.std.specs.Prelude.{Some, None, Option, Ok, Err}
use Rattle.ints.specs.declared.Seconds.{Seconds}
use Rattle.ints.proofs.Integers.{sized_fits}
use Rattle.model.specs.Sizes.{most_departures, most_times, time_limit, table_size}
use Rattle.model.specs.Network.{Time, secs, scale_time, time, later, after, secs_of, clocked, next, in_parts, cycle, cycles}
use Rattle.model.specs.declared.Case.{Case}
use Rattle.model.specs.declared.Fault.{Fault}
use Rattle.model.specs.declared.Fault.TheVariants as fault
use Rattle.model.specs.Search.{parts_of}
use Rattle.model.specs.Faults.{Entry, time_of, table_of, network, outside, table_fault, run_fault}
use Rattle.model.specs.Conditions.{Departures}
use Rattle.model.specs.Answers.{seconds, all_times, run_in_parts}
use Rattle.model.specs.Lists.{tabulate}
use Rattle.model.proofs.Cycles.{next_is, length_cycles}
use Rattle.model.proofs.Entries.{length_tabulate}
use Rattle.model.proofs.Tabulated.{tabulate_snoc}
use Rattle.model.proofs.MaxPlus.{latest_of}
use Rattle.model.proofs.Parts.{time_parts, regular_parts}
use Rattle.model.proofs.Places.{table_fits, slot_at_lem}
use Rattle.model.proofs.Sums.{latest_of_more, after_small, time_small}
use Rattle.model.proofs.DemandsHold.{first_times, numbers}
use Rattle.model.proofs.Limits.{run_limits}
use Rattle.model.proofs.Listed.{map_every}
use Rattle.model.proofs.Outcomes.{judgements}
use Rattle.judge.specs.Judgement.{start_parts}
use Rattle.runs.specs.Steps.{values, times_of, table_in, most_parts, StepFits}
use Rattle.runs.proofs.Growth.{cycles_small, table_small}

-- the sums of a row and the times, both counted from 1 on
abbrev pub sums : ℕ → ℕ → List (Entry Seconds) → List ℤ → ℕ → ℕ → Time
sums n factor table xs i j = after (secs (clocked xs j)) (time n (table_in factor n table) i j)

-- time j, counted from 0
time_at : (j : ℕ) (xs : List Seconds) → clocked (values xs) (j + 1) ≡ (get_or xs j (seconds (pos 0))).0
unfolding clocked
time_at j xs = rw add-one (get_or-map (λ (x : Seconds). x.0) xs j (seconds (pos 0)))

-- an entry that says a time
present_is : (t : Option Seconds) (v : ℤ) → time_of t ≡ secs v → t ≡ Some (seconds v)
unfolding time_of
present_is None v e = cc
present_is (Some x) v e = let same : x.0 ≡ v = cc in ap (λ (z : ℤ). Some (seconds z)) same

-- row `row`, counted from 0
abbrev pub entries : (n row : ℕ) → List (Entry Seconds) → List (Entry Seconds)
entries n row table = between (row * n) (row * n + n) table

module _ {factor row : ℕ} {table : List (Entry Seconds)} (xs : List Seconds)
    (fits : StepFits (length xs) factor table (values xs)) (inside : row < length xs) where
  entry_at : (j : ℕ) → j < length xs → time (length xs) (table_of (length xs) table) (row + 1) (j + 1) ≡ time_of (get_or (entries (length xs) row table) j None)
  entry_at j h = slot_at_lem (length xs) table row j inside h ∙ ap time_of (sym (get_or-between table _ _ j None (omega arith)))

  -- the loop over the entries and the times, after those that were yielded
  module _ (yielded : List (Bor (Entry Seconds) × Bor Seconds)) (s t u : Zip (Iter (Entry Seconds)) (Iter Seconds))
      (first : iter_rest (zip_first s) ≡ entries (length xs) row table) (second : iter_rest (zip_second s) ≡ xs)
      (sofar : Yields (zips fronts fronts) s yielded t) (r : Option (Bor (Entry Seconds) × Bor Seconds)) (step : zips fronts fronts t r u) where
    abbrev j : ℕ
    j = length yielded

    -- a turn: the entry and the time are those of the next place
    module _ (p : Bor (Entry Seconds) × Bor Seconds) (is : r ≡ Some p) where
      turn : (j < length (entries (length xs) row table)) × (j < length xs)
          × ((d : Entry Seconds) → p.0.now ≡ get_or (entries (length xs) row table) j d) × ((d : Seconds) → p.1.now ≡ get_or xs j d)
      turn = zip_turn (entries (length xs) row table) xs yielded s t u r first second sofar p is step

      entry_is : time (length xs) (table_of (length xs) table) (row + 1) (j + 1) ≡ time_of p.0.now
      entry_is = entry_at j turn.1 ∙ ap time_of (sym (turn.2 None))

      pub entry_small : nat_abs (secs_of (time_of p.0.now)) ≤ time_limit
      entry_small = rw entry_is at (time_small (length xs) _ fits.limits.times_small (row + 1) (j + 1))

      module _ (summand : Option Seconds) (scaled : time_of summand ≡ scale_time factor (time_of p.0.now)) where
        sum_at : sums (length xs) factor table (values xs) (row + 1) (j + 1) ≡ after (secs p.1.now.0) (time_of summand)
        sum_at =
            ap₂ (λ (x : ℤ). after (secs x)) (time_at j xs ∙ sym (ap (λ (x : Seconds). x.0) (turn.3 (seconds (pos 0)))))
            (time_parts factor (length xs) (table_of (length xs) table) (row + 1) (j + 1) ∙ ap (scale_time factor) entry_is ∙ sym scaled)

        pub sum_fits : SFits w64 (secs_of (after (time_of (Some p.1.now)) (time_of summand)))
        unfolding time_of secs_of
        sum_fits =
            let summand_at = time (length xs) (table_in factor (length xs) table) (row + 1) (j + 1) in
            let small = table_small (length xs) factor _ fits.limits.times_small fits.few_parts (row + 1) (j + 1) in
            let sum = after_small (secs (clocked (values xs) (j + 1))) summand_at (fits.times_small (j + 1)) small in
            sized_fits _ (omega (arith, rw sum_at at sum))

        pub latest_more : latest_of (j + 1) (sums (length xs) factor table (values xs) (row + 1))
            ≡ later (latest_of j (sums (length xs) factor table (values xs) (row + 1))) (after (time_of (Some p.1.now)) (time_of summand))
        unfolding time_of
        latest_more = latest_of_more j _ ∙ ap (later _) sum_at

    -- the end: a row holds a time, so that the latest sum is one
    pub latest_is : (latest : Option Seconds) → r ≡ None
        → time_of latest ≡ latest_of j (sums (length xs) factor table (values xs) (row + 1))
        → latest ≡ Some (seconds (next (length xs) (table_in factor (length xs) table) (clocked (values xs)) (row + 1)))
    latest_is latest is e =
        let turns = zip_end (entries (length xs) row table) xs yielded s t u r first second sofar is step in
        let within = mul-le-mul_right {m = row + 1} {n = length xs} (length xs) (omega arith) in
        let long : row * length xs + length xs ≤ length table = omega (arith, add-mul row 1 (length xs), fits.long) in
        let all : j ≡ length xs = omega (arith, length-between table (row * length xs) (row * length xs + length xs) long) in
        let regular = regular_parts factor (length xs) _ fits.limits.regular in
        present_is latest _ ((rw all at e) ∙ next_is (length xs) _ regular (clocked (values xs)) (row + 1) (omega arith) (omega arith))

-- ---- times in an array
-- seconds as numbers and back
values_back : (xs : List Seconds) → map seconds (values xs) ≡ xs
values_back [] = refl
values_back (x ∷ xs) = ap (◌∷◌ x) (values_back xs)

-- computed times: one more
pub computed_more : (f : ℕ → ℤ) (xs : List Seconds) (i : ℕ) → i < length xs → take i xs ≡ map seconds (tabulate i 1 f)
    → take (i + 1) (set xs i (seconds (f (i + 1)))) ≡ map seconds (tabulate (i + 1) 1 f)
computed_more f xs i h e =
    take_more_set xs i _ h ∙ ap (λ ys. ys ++ seconds (f (i + 1)) ∷ []) e
    ∙ rw (add-one, ← (tabulate_snoc i 1 f), one-add) (sym (map-append seconds (tabulate i 1 f) (f (suc i) ∷ [])))

-- n times before what is left of an array of zeros
module _ (n : ℕ) where
  abbrev rest : List Seconds
  rest = drop n (replicate most_departures (seconds (pos 0)))

  stored : (xs : List ℤ) → length xs ≡ n → map seconds xs ++ rest ≡ all_times xs
  stored xs l =
      ap (◌++◌ (map seconds xs)) (drop-replicate n most_departures (seconds (pos 0))
      ∙ ap (λ (k : ℕ). replicate (most_departures - k) (seconds (pos 0))) (sym (length-map xs seconds ∙ l)))

  -- copied times
  pub copied : (xs : List Seconds) → n ≤ length xs → take n xs ++ rest ≡ all_times (times_of n xs)
  copied xs h = let all = values_back (take n xs) in let kept = stored (times_of n xs) (length-map (take n xs) (λ x. x.0) ∙ length-take-le n xs h) in cc

  -- computed ones
  pub computed : (f : ℕ → ℤ) (xs : List Seconds) → length xs ≡ n → take n xs ≡ map seconds (tabulate n 1 f) → xs ++ rest ≡ all_times (tabulate n 1 f)
  computed f xs l e = rw (← (take_all n xs (omega arith)), e) (stored (tabulate n 1 f) (length_tabulate n 1 f))

-- ---- a run without a fault
pub run_departures : (c : Case) (start : List Seconds) (k : ℕ) → run_fault c start k ≡ none → Departures c.n
run_departures c start k ok = (run_limits c start k ok).table.departures

pub ruleset accepted = (judgements, run_departures, table_fits)

module _ (c : Case) (start : List Seconds) (k factor : ℕ) (ok : run_fault c start k ≡ none) (few : factor ≤ most_parts)
    (size : length start ≡ most_departures) (long : most_times ≤ length c.times) where
  -- the times after j cycles
  abbrev reached : ℕ → List ℤ
  reached j = cycles c.n (table_in factor c.n c.times) j (times_of c.n start)

  module _ (times : List Seconds) (j : ℕ) (h : j ≤ k) (e : times ≡ all_times (reached j)) where
    length_reached : length (reached j) ≡ c.n
    length_reached =
        length_cycles c.n _ j _ (length-map (take c.n start) (λ x. x.0) ∙ length-take-le c.n start (omega (arith, run_departures c start k ok)))

    lent : take c.n times ≡ map seconds (reached j)
    lent = rw e (first_times c.n (reached j) length_reached)

    lent_length : length (take c.n times) ≡ c.n
    lent_length = ap length lent ∙ length-map (reached j) seconds ∙ length_reached

    lent_values : values (take c.n times) ≡ reached j
    lent_values = ap values lent ∙ numbers (reached j)

    table_lent : take (table_size c.n) (take (table_size c.n) c.times) ≡ take (table_size c.n) c.times
    table_lent = take-take (table_size c.n) (table_size c.n) c.times (omega arith)

    pub step_fits : StepFits (length (take c.n times)) factor (take (table_size c.n) c.times) (values (take c.n times))
    unfolding network
    step_fits =
        let limits = run_limits c start k ok in
        let one = table_small c.n factor _ limits.table.times_small few in
        let small = cycles_small _ _ (time_limit * most_parts) one j (map_every (λ x. x.0) limits.starts_small) in
        let room = table_fits limits.table.departures in
        let held = length-take-le (table_size c.n) c.times (omega arith) in
        rw (lent_length, lent_values) (record {
          long = omega arith;
          limits = rw table_lent limits.table;
          few_parts = few;
          times_small = λ i. omega (arith, small i, limits);
        })

    pub step_gives : let n = length (take c.n times) in
        all_times (cycle n (table_in factor n (take (table_size c.n) c.times)) (values (take c.n times))) ≡ all_times (reached (j + 1))
    unfolding cycles
    step_gives = rw (lent_length, lent_values, table_lent, add-one) refl

-- it gives the times of the cycle
pub run_gives : (parts : ℕ) (c : Case) (start : List Seconds) (k : ℕ) → run_fault c start k ≡ none →
    run_in_parts parts c start k ≡ Ok (all_times (cycles c.n (table_in parts c.n c.times) k (times_of c.n start)))
unfolding run_in_parts in_parts network
run_gives parts c start k h = rw (h, run_in_parts)

-- one with a fault gives that
pub run_refused : (parts : ℕ) (c : Case) (start : List Seconds) (k : ℕ) {f : Fault} → run_fault c start k ≡ some f → run_in_parts parts c start k ≡ Err f
unfolding run_in_parts
run_refused parts c start k h = rw (h, run_in_parts)

-- in the parts of the case's start: where the number of departures is refused, so is the run
pub fault_departures : (c : Case) (start : List Seconds) (k : ℕ) → outside 1 most_departures c.n ≡ true → run_fault c start k ≡ some fault.Departures
unfolding run_fault table_fault
fault_departures c start k h = simp h

pub run_start : (c : Case) (start : List Seconds) (k : ℕ) → run_in_parts (start_parts c) c start k ≡ run_in_parts (parts_of (network c)) c start k
unfolding start_parts
run_start c start k = go (outside 1 most_departures c.n) refl
  where
    go : (t : Bool) → outside 1 most_departures c.n ≡ t
        → run_in_parts (cond t 0 (parts_of (network c))) c start k ≡ run_in_parts (parts_of (network c)) c start k
    go false e = refl
    go true e = let f = fault_departures c start k e in run_refused _ c start k f ∙ sym (run_refused _ c start k f)
