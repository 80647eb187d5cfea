-- One time changed: a preview is the verdict on the copy, which fault one changed entry causes, what stays as it was, and what a commit gives.
use Prim.Native.Nat.{ℕ, zero, suc, ◌+◌, ◌*◌, ◌-◌, ◌/◌, ◌%◌, ◌≤◌, ◌<◌}
use native.Mathlib.Omega.{arith}
use native.Mathlib.Nat.{zero-add, mul-le-mul}
use mathlib.Core.Path.{◌≡◌, refl, sym, ap, ◌∙◌}
use mathlib.Core.Logic.{◌↔◌, ◌≢◌}
use mathlib.Core.List.{List, map}
use mathlib.Core.Option.{Option, none, some}
use mathlib.Core.Bool.{not}
use lib.IntN.{ℤ}
use lib.Arith.{digits_lt, digits_div, digits_mod}
use lib.ListN.{length, take, drop, get_or, set, length-take, length-drop}
use lib.Seq.{get_or-set_same, get_or-set_other, take-set-le, take-set-lt, drop-drop, drop-set-lt, drop-set-add}
use Rattle.ints.proofs.Integers.{impossible}
use Rattle.model.specs.Sizes.{most_departures, time_limit, table_size, most_times}
use Rattle.ints.specs.declared.Seconds.{Seconds}
use Rattle.model.specs.declared.Case.{Case}
use Rattle.model.specs.declared.Fault.{Fault}
use Rattle.model.specs.declared.Fault.TheVariants as fault
use Rattle.std.specs.Prelude.{Ok, Err, None}
use Rattle.model.specs.Lists.{when, or_else, Every, done, both}
use Rattle.model.specs.Network.{time, regular}
use Rattle.model.specs.Faults.{Entry, time_of, network, over, entry_fault, rows_fault, outside, table_fault, patterns_fault}
use Rattle.model.specs.Faults.{case_fault, room_fault, call_fault}
use Rattle.model.specs.Changes.{time_place, changed, change_fault, preview, workspace_after_preview, PreviewIs, PreviewDemands}
use Rattle.model.specs.Changes.{commit_fault, commit, case_after}
use Rattle.model.specs.Conditions.{InLimit}
use Rattle.model.proofs.Limits.{or_else_none, when_none, or_is_false, ltb_is_false, entry_fault_none, rows_fault_none, no_fault}
use Rattle.model.proofs.Limits.{RowsInLimit, no_row, row, or_else_with_none}
use Rattle.model.proofs.Places.{get_d_times}
use Rattle.model.proofs.DemandsHold.{demands}

-- ---- the fault of one changed entry
-- among entries within the limit
entry_fault_set : (limit : ℕ) (f : ℕ → Fault) (p : ℕ) {es : List (Entry Seconds)} (k : ℕ) (e : Entry Seconds) → Every (InLimit limit) es → k < length es
    → entry_fault (over limit f) p (set es k e) ≡ over limit f (p + k) e
unfolding entry_fault over
entry_fault_set limit f p k e done l = absurd (omega arith)
entry_fault_set limit f p zero e (both {xs} h hs) l =
    let here : p + 0 ≡ p = omega arith in
    rw (here, (entry_fault_none limit f (suc p) xs).1 hs) (or_else_with_none _)
entry_fault_set limit f p (suc k) e (both h hs) l =
    let next : p + suc k ≡ suc p + k = omega arith in
    rw (h, next) (entry_fault_set limit f (suc p) k e hs (omega arith))

-- in row k, counted from 0, of rows within their limits
rows_fault_set : {n r : ℕ} {es : List (Entry Seconds)} → RowsInLimit n r es → r * n ≤ length es → (p k j : ℕ) (e : Entry Seconds) → k < r → j < n
    → rows_fault n r p (set es (k * n + j) e) ≡
    or_else (over time_limit fault.Time (p + (k * n + j)) e)
    (when (not (regular (map time_of (take n (drop (k * n) (set es (k * n + j) e)))))) (fault.EmptyRow (p + k * n)))
unfolding rows_fault
rows_fault_set no_row l p k j e h m = absurd (omega arith)
rows_fault_set {n} (row {r} {es} a t rest) l p zero j e h m =
    let first : 0 * n ≡ 0 = omega arith in
    let at : 0 * n + j ≡ j = omega arith in
    let none_left : p + 0 ≡ p = omega arith in
    let long : j < length (take n es) = simp length-take (omega arith) in
    let others = (rows_fault_none n r (p + n) (drop n es)).1 rest in
    let this = entry_fault_set time_limit fault.Time p j e a long in
    rw (at, first, none_left, drop-set-lt n es j e m, others, or_else_with_none, take-set-lt n es j e m, this)
rows_fault_set {n} (row {r} {es} a t rest) l p (suc k) j e h m =
    let at : suc k * n + j ≡ n + (k * n + j) = omega arith in
    let from : suc k * n ≡ n + k * n = omega arith in
    let entry : p + (n + (k * n + j)) ≡ p + n + (k * n + j) = omega arith in
    let first : p + (n + k * n) ≡ p + n + k * n = omega arith in
    let later = rows_fault_set rest (omega (arith, length-drop n es)) (p + n) k j e (omega arith) m in
    rw (at, from, entry, first, ← (drop-drop (k * n) n (set es (n + (k * n + j)) e)), drop-set-add n es (k * n + j) e)
    (rw (take-set-le n es (n + (k * n + j)) e (omega arith), (entry_fault_none time_limit fault.Time p (take n es)).1 a, t) later)

-- ---- a change in row i and column j of a case without the faults 2 to 6
-- the row and the column are there
pub record Inside (c : Case) (i j : ℕ) : Type 0 where
  pub row_from : 1 ≤ i
  pub row_to : i ≤ c.n
  pub column_from : 1 ≤ j
  pub column_to : j ≤ c.n

module _ {c : Case} where
  -- the entry is one of the table
  place_in : {i j : ℕ} → Inside c i j → time_place c.n i j < table_size c.n
  place_in {i} {j} h = digits_lt {q = i - 1} {m = c.n} {r = j - 1} {c = c.n} (omega arith) (omega arith)

  -- and of no other row and column
  places_once : {k l i j : ℕ} → Inside c k l → Inside c i j → time_place c.n k l ≡ time_place c.n i j → (k ≡ i) × (l ≡ j)
  places_once {k} {l} {i} {j} g h e =
      let rows : k - 1 ≡ i - 1 = sym (digits_div (k - 1) (omega arith)) ∙ ap (λ (p : ℕ). p / c.n) e ∙ digits_div (i - 1) (omega arith) in
      let columns : l - 1 ≡ j - 1 = sym (digits_mod (k - 1) (omega arith)) ∙ ap (λ (p : ℕ). p % c.n) e ∙ digits_mod (i - 1) (omega arith) in
      (omega arith, omega arith)

-- 4 at the changed entry, or 5 at the first entry of its row
abbrev pub usual_fault : Case → ℕ → ℕ → Entry Seconds → Option Fault
usual_fault c i j e =
    let first = (i - 1) * c.n in
    let row = map time_of (take c.n (drop first (changed c i j e).times)) in
    or_else (over time_limit fault.Time (time_place c.n i j) e) (when (not (regular row)) (fault.EmptyRow first))

-- c' is c but for the time in row i and column j, which is that of e
pub record OnlyThere (c : Case) (i j : ℕ) (e : Entry Seconds) (c' : Case) : Type 0 where
  pub departures : c'.n ≡ c.n
  pub cycles : c'.horizon ≡ c.horizon
  pub start : c'.start ≡ c.start
  pub target : c'.target ≡ c.target
  pub entries : (p : ℕ) (z : Entry Seconds) → p ≢ time_place c.n i j → get_or c'.times p z ≡ get_or c.times p z
  pub there : time c.n (network c').times i j ≡ time_of e
  pub elsewhere : (k l : ℕ) → Inside c k l → ((k ≡ i) × (l ≡ j) → ⊥) → time c.n (network c').times k l ≡ time c.n (network c).times k l

module _ (c : Case) (i j : ℕ) where
  -- no fault before that of the copy, exactly if the case has none of its own and the entry is there
  pub no_change_fault : (change_fault c i j ≡ none) ↔ ((case_fault c ≡ none) × Inside c i j)
  unfolding change_fault outside
  no_change_fault = simp (or_else_none, when_none, or_is_false, ltb_is_false) (
    λ h. (h.0, record { row_from = h.1.0.0; row_to = h.1.0.1; column_from = h.1.1.0; column_to = h.1.1.1 }),
    λ h. (h.0, ((h.1.row_from, h.1.row_to), (h.1.column_from, h.1.column_to))),
  )

  -- without one, the entry is one of the table
  pub place_small : change_fault c i j ≡ none → time_place c.n i j < most_times
  unfolding case_fault table_fault outside
  place_small clean =
      let (own, here) = no_change_fault.0 clean in
      let facts = simp no_fault at own in
      let few : c.n ≤ most_departures = omega arith in
      omega (arith, place_in here, mul-le-mul few few)

  module _ (e : Entry Seconds) (own : case_fault c ≡ none) (here : Inside c i j) where
    -- the preview is the verdict on the copy
    pub preview_is : PreviewIs c i j e (changed c i j e)
    unfolding preview workspace_after_preview
    preview_is capacity work =
        let clean = no_change_fault.1 (own, here) in
        (rw (clean, preview), rw (clean, workspace_after_preview))

    module _ (whole : table_size c.n ≤ length c.times) where
      -- the copy by itself meets no other fault
      usual : case_fault (changed c i j e) ≡ usual_fault c i j e
      unfolding case_fault table_fault patterns_fault changed
      usual =
          let facts = simp or_else_none at own in
          let in_limit = (rows_fault_none c.n c.n 0 c.times).0 facts.0.1.1 in
          let found = rows_fault_set in_limit whole 0 (i - 1) (j - 1) e (omega arith) (omega arith) in
          simp (facts.0.0, facts.0.1.0, facts.1.0, facts.1.1, found, zero-add, or_else_with_none)

      -- a preview meets that fault, then 9 and 10
      pub as_usual : (capacity size : ℕ)
          → call_fault (changed c i j e) capacity size ≡ or_else (usual_fault c i j e) (room_fault c.n capacity size)
      unfolding call_fault changed
      as_usual capacity size = ap (λ (o : Option Fault). or_else o (room_fault c.n capacity size)) usual

      -- a commit meets that fault
      pub commit_as_usual : commit_fault c i j e ≡ usual_fault c i j e
      unfolding commit_fault
      commit_as_usual = rw (no_change_fault.1 (own, here)) usual

      -- nothing else is changed, entries that are ignored included
      pub only_there : OnlyThere c i j e (changed c i j e)
      unfolding changed network time
      only_there =
          let at = time_place c.n i j in
          let in_table = place_in here in
          record {
            departures = refl;
            cycles = refl;
            start = refl;
            target = refl;
            entries = λ p z other. get_or-set_other c.times at p e z other;
            there = get_d_times (table_size c.n) (set c.times at e) at in_table ∙ ap time_of (get_or-set_same c.times at e None (omega arith));
            elsewhere = λ k l inside other.
                let p = time_place c.n k l in
                let apart : p ≢ at = λ same. other (places_once inside here same) in
                let in_table = place_in inside in
                get_d_times (table_size c.n) _ p in_table
                ∙ ap time_of (get_or-set_other c.times at p e None apart)
                ∙ sym (get_d_times (table_size c.n) c.times p in_table);
          }

  -- the demands hold of a preview
  pub preview_demands : (e : Entry Seconds) (capacity : ℕ) (work : List ℤ)
      → PreviewDemands c i j e capacity work (preview c i j e capacity (length work)) (workspace_after_preview c i j e capacity work)
  unfolding preview workspace_after_preview
  preview_demands e capacity work = record {
    refuses = λ f r. (rw (r, preview), rw (r, workspace_after_preview));
    changes = λ clean.
        let (own, here) = no_change_fault.0 clean in
        let (said, left) = preview_is e own here capacity work in
        rw (said, left) (demands (changed c i j e) capacity work);
  }

  -- ---- a commit, by its first fault
  module _ (e : Entry Seconds) where
    pub committed : commit_fault c i j e ≡ none → commit c i j e ≡ Ok (changed c i j e)
    unfolding commit
    committed clean = rw (clean, commit)

    pub kept : {f : Fault} → commit_fault c i j e ≡ some f → commit c i j e ≡ Err f
    unfolding commit
    kept found = rw (found, commit)

    -- refused, it leaves the case given; accepted, the case handed back stands in its place
    pub refused_keeps : (f : Fault) → commit c i j e ≡ Err f → case_after c i j e ≡ c
    unfolding case_after
    refused_keeps f h = rw (h, case_after)

    pub accepted_stands : (c' : Case) → commit c i j e ≡ Ok c' → case_after c i j e ≡ c'
    unfolding case_after
    accepted_stands c' h = rw (h, case_after)

    -- accepted, it hands back the copy, and no fault was met
    pub accepted_changes : (c' : Case) → commit c i j e ≡ Ok c'
        → (change_fault c i j ≡ none) × (case_fault (changed c i j e) ≡ none) × (c' ≡ changed c i j e)
    unfolding commit_fault
    accepted_changes c' h = go (commit_fault c i j e) refl
      where
        go : (o : Option Fault) → commit_fault c i j e ≡ o → (change_fault c i j ≡ none) × (case_fault (changed c i j e) ≡ none) × (c' ≡ changed c i j e)
        go (some f) q = let k = kept q in impossible cc
        go none q =
            let (before, after) = (or_else_none (change_fault c i j) (case_fault (changed c i j e))).0 q in
            let is = committed q in
            (before, after, cc)

    -- what the preview said is the verdict on what was committed, which has none of the faults 2 to 6
    pub commit_preview : (c' : Case) → commit c i j e ≡ Ok c'
        → (case_fault c' ≡ none) × PreviewIs c i j e c'
    commit_preview c' h =
        let (before, after, copy) = accepted_changes c' h in
        let (own, here) = no_change_fault.0 before in
        rw copy (after, preview_is e own here)
