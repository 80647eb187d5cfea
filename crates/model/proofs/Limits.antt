-- What a case without a fault keeps to. Each test of the definitions finds no fault exactly if all that it looks at is in its limits;
-- the limits of a case's network and of a run follow.
use Prim.Native.Nat.{ℕ, zero, suc, ◌+◌, ◌*◌, ◌-◌, ◌≤◌, ◌<◌}
use native.Mathlib.Omega.{arith}
use native.Mathlib.Nat.{zero-mul}
use mathlib.Core.Path.{◌≡◌, refl, sym, ap, ap₂, ◌∙◌}
use mathlib.Core.Logic.{◌↔◌}
use mathlib.Core.List.{List, [], ◌∷◌, map}
use mathlib.Core.Option.{Option, none, some}
use mathlib.Core.Bool.{Bool, true, false, not, ◌||◌, cond}
use lib.IntN.{ℤ, nat_abs}
use lib.Arith.{digits_lt}
use lib.Dec.{ltb, eqb}
use lib.ListN.{length, take, drop, get_or, length-map, length-take}
use lib.Seq.{get_or-drop, drop-drop, take-add}
use borrow.Author.Tests.{ltb-false, le-ltb, not-false}
use Rattle.std.specs.Prelude.{Some, None}
use Rattle.ints.specs.declared.Seconds.{Seconds}
use Rattle.ints.proofs.Integers.{impossible}
use Rattle.model.specs.Sizes.{most_departures, most_cycles, most_zones, time_limit, bound_limit, start_limit, table_size, workspace_size}
use Rattle.model.specs.declared.Limit.{Limit}
use Rattle.model.specs.declared.Case.{Case}
use Rattle.model.specs.declared.Form.{Form}
use Rattle.model.specs.declared.Fault.{Fault}
use Rattle.model.specs.declared.Fault.TheVariants as fault
use Rattle.model.specs.Forms.{wide}
use Rattle.model.specs.Lists.{any_of, when, or_else, Every, done, both}
use Rattle.model.specs.Bound as B
use Rattle.model.specs.Bound.{Bound, upto}
use Rattle.model.specs.Pattern.{pair_place, pair_bound}
use Rattle.model.specs.Network.{Time, blank, secs, time, is_time, regular}
use Rattle.model.specs.Faults.{Entry, time_of, table_of, bound_of, present, stated, network, beyond, over, bound_fault, bound_fault_in, fault_along}
use Rattle.model.specs.Faults.{entry_fault, rows_fault, outside, departures_fault, times_fault, table_fault, patterns_fault, case_fault, form_fault, room_fault}
use Rattle.model.specs.Faults.{call_fault, run_fault}
use Rattle.model.specs.Conditions.{Departures, Regular, Small, free, sized, InLimit, BoundInLimit, BoundIn, TableLimits, Limits}
use Rattle.model.proofs.Places.{get_d_times}
use Rattle.model.proofs.Listed.{every_append, every_map, of_both, at_get_d, map_every, of_map_every}

-- ---- no fault. Each law holds both ways
module _ {X : Type 0} where
  -- neither of two has one
  pub or_else_none : (o p : Option X) → (or_else o p ≡ none) ↔ ((o ≡ none) × (p ≡ none))
  or_else_none none p = (λ e. (refl, e), λ h. h.1)
  or_else_none (some x) p = (λ e. (e, cc), λ h. h.0)

  -- the test fails
  pub when_none : (t : Bool) (x : X) → (when t x ≡ none) ↔ (t ≡ false)
  when_none false x = (λ e. refl, λ e. refl)
  when_none true x = (λ e. cc, λ e. cc)

-- neither test passes
pub or_is_false : (s t : Bool) → ((s || t) ≡ false) ↔ ((s ≡ false) × (t ≡ false))
or_is_false false t = (λ e. (refl, e), λ h. h.1)
or_is_false true t = (λ e. (e, cc), λ h. h.0)

-- the test passes
pub not_is_false : (t : Bool) → (not t ≡ false) ↔ (t ≡ true)
not_is_false t = (not-false t, ap not)

-- no number is below one that is at most as large
pub ltb_is_false : (a b : ℕ) → (ltb a b ≡ false) ↔ (b ≤ a)
ltb_is_false a b = (ltb-false a b, le-ltb a b)

-- a larger limit
pub wider_limit : {a b : ℕ} → a ≤ b → (e : Entry Seconds) → InLimit a e → InLimit b e
unfolding beyond
wider_limit h None l = refl
wider_limit {a} {b} h (Some x) l = le-ltb b (nat_abs x.0) (omega (arith, ltb-false))

-- every entry has P, if those that are judged without a fault do
pub every_none : {A : Type 0} (next : ℕ → A → ℕ) {judge : ℕ → A → Option Fault} {P : A → Type 0} → ((p : ℕ) (e : A) → (judge p e ≡ none) ↔ P e)
    → (p : ℕ) (es : List A) → (fault_along next judge p es ≡ none) ↔ Every P es
every_none next each p [] = (λ e. done, λ e. refl)
every_none next each p (e ∷ es) =
    let here = each p e in
    let rest = every_none next each (next p e) es in
    simp or_else_none (λ h. both (here.0 h.0) (rest.0 h.1), λ h. (here.1 (of_both h).0, rest.1 (of_both h).1))

-- an entry in the limit, and a bound
pub over_none : (limit : ℕ) (f : ℕ → Fault) (p : ℕ) (e : Entry Seconds) → (over limit f p e ≡ none) ↔ InLimit limit e
unfolding over
over_none limit f p e = when_none (beyond limit e) (f p)

bound_fault_none : (p : ℕ) (e : Entry Limit) → (bound_fault p e ≡ none) ↔ BoundInLimit e
unfolding bound_fault
bound_fault_none p e = over_none bound_limit fault.Bound p (stated e)

-- and one for a form
pub bound_fault_in_none : (f : Form) (p : ℕ) (e : Entry Limit) → (bound_fault_in f p e ≡ none) ↔ BoundIn f e
unfolding bound_fault_in
bound_fault_in_none f p e = simp (or_else_none, bound_fault_none, when_none) (λ h. h, λ h. h)

-- all of them
pub entry_fault_none : (limit : ℕ) (f : ℕ → Fault) (p : ℕ) (es : List (Entry Seconds)) → (entry_fault (over limit f) p es ≡ none) ↔ Every (InLimit limit) es
unfolding entry_fault
entry_fault_none limit f = every_none (λ q e. suc q) (over_none limit f)

pub bounds_fault_none : (p : ℕ) (es : List (Entry Limit)) → (entry_fault bound_fault p es ≡ none) ↔ Every BoundInLimit es
unfolding entry_fault
bounds_fault_none = every_none (λ q e. suc q) bound_fault_none

pub bounds_fault_in_none : (f : Form) (p : ℕ) (es : List (Entry Limit)) → (entry_fault (bound_fault_in f) p es ≡ none) ↔ Every (BoundIn f) es
unfolding entry_fault
bounds_fault_in_none f = every_none (λ q e. suc q) (bound_fault_in_none f)

-- r rows of n entries each: every time is in its limit, and each row holds a time
pub data RowsInLimit (n : ℕ) : ℕ → List (Entry Seconds) → Type 0 where
  no_row : {es : List (Entry Seconds)} → RowsInLimit n zero es
  row : {r : ℕ} {es : List (Entry Seconds)} → Every (InLimit time_limit) (take n es) → regular (map time_of (take n es)) ≡ true → RowsInLimit n r (drop n es)
      → RowsInLimit n (suc r) es

module _ {n : ℕ} where
  -- the first row, and the others
  of_row : {r : ℕ} {es : List (Entry Seconds)} → RowsInLimit n (suc r) es
      → Every (InLimit time_limit) (take n es) × ((regular (map time_of (take n es)) ≡ true) × RowsInLimit n r (drop n es))
  of_row (row h t rest) = (h, (t, rest))

  -- row k of them, counted from 0
  pub row_at : {r : ℕ} {es : List (Entry Seconds)} → RowsInLimit n r es → (k : ℕ) → k < r
      → Every (InLimit time_limit) (take n (drop (k * n) es)) × (regular (map time_of (take n (drop (k * n) es))) ≡ true)
  row_at no_row k l = absurd (omega arith)
  row_at (row h t rest) zero l = rw (zero-mul n) (h, t)
  row_at (row {es} h t rest) (suc k) l =
      let e : suc k * n ≡ n + k * n = omega arith in
      rw (e, ← (drop-drop (k * n) n es)) (row_at rest k (omega arith))

  -- all their entries
  pub rows_in : {r : ℕ} {es : List (Entry Seconds)} → RowsInLimit n r es → Every (InLimit time_limit) (take (r * n) es)
  rows_in no_row = rw (zero-mul n) done
  rows_in (row {r} {es} h t rest) =
      let e : suc r * n ≡ n + r * n = omega arith in
      rw (e, take-add n (r * n) es) (every_append h (rows_in rest))

-- the rows are in their limit
pub rows_fault_none : (n r p : ℕ) (es : List (Entry Seconds)) → (rows_fault n r p es ≡ none) ↔ RowsInLimit n r es
unfolding rows_fault
rows_fault_none n zero p es = (λ e. no_row, λ e. refl)
rows_fault_none n (suc r) p es =
    simp (or_else_none, when_none, not_is_false, entry_fault_none, rows_fault_none n r (p + n) (drop n es))
    (λ h. row h.0 h.1.0 h.1.1, of_row)

-- with these `simp` turns the absence of a fault into what it says, and back
pub ruleset no_fault = (
  or_else_none,
  when_none,
  or_is_false,
  not_is_false,
  ltb_is_false,
  entry_fault_none,
  bounds_fault_none,
  bounds_fault_in_none,
  rows_fault_none,
)

-- ---- the numbers of entries in the limit
-- entries that are read as `value` of their number, or as `no` where absent: what holds of `no` and of `value` at small numbers holds of them
module _ {limit : ℕ} {Y : Type 0} (P : Y → Type 0) (value : ℤ → Y) (no : Y) (absent : P no) (small : (z : ℤ) → nat_abs z ≤ limit → P (value z)) where
  abbrev read : Entry Seconds → Y
  read None = no
  read (Some x) = value x.0

  entry_in : (e : Entry Seconds) → InLimit limit e → P (read e)
  unfolding beyond
  entry_in None h = absent
  entry_in (Some x) h = small x.0 (ltb-false _ _ h)

  -- and so at every place
  entry_at : {es : List (Entry Seconds)} → Every (InLimit limit) es → (p : ℕ) → P (get_or (map read es) p no)
  entry_at h = at_get_d {P = P} no absent (map_every _ (every_map entry_in h))

module _ {limit : ℕ} {es : List (Entry Seconds)} (h : Every (InLimit limit) es) where
  -- a time among them is at most limit in size
  pub time_small : (p : ℕ) (v : ℤ) → get_or (map time_of es) p blank ≡ secs v → nat_abs v ≤ limit
  unfolding time_of
  time_small p v =
      entry_at (λ t. t ≡ secs v → nat_abs v ≤ limit) secs blank
      (λ e. impossible cc) (λ z l e. let d : z ≡ v = cc in rw d at l) h p

-- and so is a bound of a pattern
pub bound_small : {es : List (Entry Limit)} → Every BoundInLimit es → (n i j : ℕ) → Small bound_limit (pair_bound n (map bound_of es) i j)
unfolding bound_of beyond pair_bound
bound_small {es} h n i j =
    elim (eqb i j) as (λ t. Small bound_limit (cond t B.Bound.none (get_or (map bound_of es) (pair_place n i j) B.Bound.none))) [
      | true ↦ free
      | false ↦ at_get_d {P = Small bound_limit} B.Bound.none free (map_every bound_of (every_map small h)) (pair_place n i j)
    ]
  where
    small : (e : Entry Limit) → BoundInLimit e → Small bound_limit (bound_of e)
    small None l = free
    small (Some e) l = sized (ltb-false _ _ l)

-- ---- rows that hold a time
-- the place of a time
time_at : (ts : List Time) → regular ts ≡ true → (j : ℕ) × (j < length ts) × (v : ℤ) × (get_or ts j blank ≡ secs v)
unfolding regular any_of is_time
time_at [] h = impossible cc
time_at (blank ∷ ts) h = let (j, l, v, e) = time_at ts h in (suc j, omega arith, v, e)
time_at (secs v ∷ ts) h = (0, omega arith, v, refl)

-- n such rows are a regular table
pub rows_regular : {n : ℕ} {es : List (Entry Seconds)} → RowsInLimit n n es → Regular n (table_of n es)
unfolding time
rows_regular {n} {es} r i l u =
    let k = i - 1 in
    let at = drop (k * n) es in
    let (j, h, v, e) = time_at (map time_of (take n at)) (row_at r k (omega arith)).1 in
    let in_row : j < n = omega (arith, length-map (take n at) time_of, length-take n at) in
    let in_rows : k < n = omega arith in
    let same : suc j - 1 ≡ j = omega arith in
    let is = get_d_times (table_size n) es (k * n + j) (digits_lt in_rows in_row) ∙ ap time_of (sym (get_or-drop (k * n) es j None))
    ∙ sym (get_d_times n at j in_row) ∙ e in
    (suc j, record { from_one = omega arith; to_n = omega arith; value = v; is = rw same is })

-- of start times
abbrev pub StartsSmall : List Seconds → Type 0
StartsSmall xs = Every (λ x. nat_abs x.0 ≤ start_limit) xs

-- of a run to cycle k from the start times xs on
pub record RunLimits (c : Case) (xs : List Seconds) (k : ℕ) : Type 0 where
  pub table : TableLimits c.n (network c).times
  pub few_cycles : k ≤ most_cycles
  pub starts_small : StartsSmall (take c.n xs)

-- a table of rows in their limit is in the limits
table_of_lem : {n : ℕ} {es : List (Entry Seconds)} → Departures n → RowsInLimit n n es → TableLimits n (table_of n es)
unfolding time
table_of_lem d r = record { departures = d; regular = rows_regular r; times_small = λ i j. time_small (rows_in r) _ }

-- ---- faults for a packed form
pub or_else_with_none : {X : Type 0} (o : Option X) → or_else o none ≡ o
or_else_with_none none = refl
or_else_with_none (some x) = refl

or_else_assoc : {X : Type 0} (o p q : Option X) → or_else (or_else o p) q ≡ or_else o (or_else p q)
or_else_assoc none p q = refl
or_else_assoc (some x) p q = refl

-- entries that are judged alike have the same first fault
entry_fault_same : {A : Type 0} {judge judge' : ℕ → A → Option Fault} → ((p : ℕ) (e : A) → judge p e ≡ judge' p e)
    → (p : ℕ) (es : List A) → entry_fault judge p es ≡ entry_fault judge' p es
unfolding entry_fault
entry_fault_same same p [] = refl
entry_fault_same same p (e ∷ es) = ap₂ or_else (same p e) (entry_fault_same same (suc p) es)

-- the wide form has a place for every case: the faults are those of the case
pub wide_fault : (c : Case) → form_fault wide c ≡ case_fault c
unfolding form_fault case_fault table_fault patterns_fault bound_fault_in outside
wide_fault c = has_place (ltb c.n 1) (ltb most_departures c.n) _ ∙ ap (or_else (departures_fault c)) bounds ∙ sym (or_else_assoc (departures_fault c) _ _)
  where
    has_place : (s t : Bool) (o : Option Fault)
        → or_else (when (s || t) fault.Departures) (or_else (when t (fault.Form 0)) o) ≡ or_else (when (s || t) fault.Departures) o
    has_place true t o = refl
    has_place false true o = refl
    has_place false false o = refl

    same : (p : ℕ) (es : List (Entry Limit)) → entry_fault (bound_fault_in wide) p es ≡ entry_fault bound_fault p es
    same = entry_fault_same (λ p e. or_else_with_none (bound_fault p e))

    bounds : or_else (times_fault c 1 c.horizon.0) (patterns_fault (bound_fault_in wide) c)
        ≡ or_else (times_fault c 1 c.horizon.0) (patterns_fault bound_fault c)
    bounds = ap (or_else (times_fault c 1 c.horizon.0)) (ap₂ or_else (same _ _) (same _ _))

-- a case that a form has a place for has none of the faults 2 to 6
pub form_case : (f : Form) (c : Case) → form_fault f c ≡ none → case_fault c ≡ none
unfolding form_fault case_fault table_fault patterns_fault
form_case f c h =
    let facts = simp no_fault at h in
    simp no_fault ((facts.0, facts.1.1.0), (in_limit facts.1.1.1.0, in_limit facts.1.1.1.1))
  where
    in_limit : {es : List (Entry Limit)} → Every (BoundIn f) es → Every BoundInLimit es
    in_limit = every_map (λ e b. b.0)

-- the network of a case without a fault is in the limits
pub case_limits : (c : Case) → case_fault c ≡ none → Limits (network c)
unfolding case_fault table_fault patterns_fault outside network
case_limits c h =
    let facts = simp no_fault at h in
    record {
      table = table_of_lem (omega arith) facts.0.1.1;
      some_cycles = omega arith;
      few_cycles = omega arith;
      start_small = bound_small facts.1.0 c.n;
      target_small = bound_small facts.1.1 c.n;
    }

module _ (c : Case) (capacity size : ℕ) (h : call_fault c capacity size ≡ none) where
  -- the case of a call without a fault has none, and its network is in the limits
  pub case_of_lem : case_fault c ≡ none
  unfolding call_fault
  case_of_lem = ((or_else_none _ _).0 h).0

  pub limits_of : Limits (network c)
  limits_of = case_limits c case_of_lem

  -- Z is in its limits, and the workspace is long enough for it
  pub room_of : (1 ≤ capacity) × (capacity ≤ most_zones) × (workspace_size capacity c.n ≤ size)
  unfolding call_fault room_fault outside
  room_of = let facts = simp no_fault at h in omega arith

  -- a run of the case to a cycle in its limit meets no fault if its start times are in their limit
  pub run_without : (xs : List Seconds) (k : ℕ) → k ≤ most_cycles → StartsSmall (take c.n xs) → run_fault c xs k ≡ none
  unfolding call_fault case_fault run_fault table_fault outside beyond
  run_without xs k l small =
      let facts = simp no_fault at h in
      let starts = map_every {P = InLimit start_limit} (λ x. present x.0) (every_map (λ x. le-ltb _ _) small) in
      simp no_fault ((facts.0.0.0, ((omega arith, omega arith), facts.0.0.1.1)), starts)

-- a run without a fault is in the limits
pub run_limits : (c : Case) (xs : List Seconds) (k : ℕ) → run_fault c xs k ≡ none → RunLimits c xs k
unfolding run_fault table_fault outside beyond network
run_limits c xs k h =
    let facts = simp no_fault at h in
    record {
      table = table_of_lem (omega arith) facts.0.1.1;
      few_cycles = omega arith;
      starts_small = every_map (λ x. ltb-false _ _) (of_map_every (λ x. present x.0) (take c.n xs) facts.1);
    }
