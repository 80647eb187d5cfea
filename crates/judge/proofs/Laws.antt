-- Laws of the judged faults: one turn and the end of the walks over entries and over rows, and what the number of departures and the parts keep to.
use mathlib.Core.Path.{◌≡◌, refl, ap, sym, ◌∙◌}
use Prim.Native.Nat.{ℕ, zero, suc, ◌+◌, ◌-◌, ◌*◌, ◌≤◌, ◌<◌}
use native.Mathlib.Nat.{add-zero, suc-mul, add-mul, mul-le-mul}
use native.Mathlib.Numerals.{add-one}
use native.Mathlib.Omega.{arith}
use borrow.Author.Tests.{le-ltb}
use mathlib.Core.List.{List, [], ◌∷◌, map}
use mathlib.Core.Option.{Option, none}
use mathlib.Core.Bool.{Bool, true, false, not, ◌||◌, cond, or_assoc}
use lib.ListN.{length, take, drop, get_or, drop_of_length-le, length-take, length-drop}
use lib.Seq.{drop-cons, drop-drop, get_or-take, get_or-drop}
use Rattle.std.proofs.lemmas.List.{take-take, drop-take}
use Rattle.std.specs.Prelude.{Some, None, Ok, Err, is_some}
use Rattle.std.specs.List.{list_any}
use Rattle.ints.specs.declared.Seconds.{Seconds}
use Rattle.model.specs.declared.Limit.{Limit}
use Rattle.model.specs.declared.Case.{Case}
use Rattle.model.specs.declared.Fault.{Fault}
use Rattle.model.specs.declared.Fault.TheVariants as fault
use Rattle.model.specs.Sizes.{most_departures, time_limit, most_bounds}
use Rattle.model.specs.Lists.{any_of, when, or_else}
use Rattle.model.specs.Network.{is_time, regular}
use Rattle.model.specs.Search.{is_strict, some_strict, parts_of}
use Rattle.model.specs.Faults.{Entry, time_of, bound_of, marked, network, over, entry_fault, rows_fault, outside, table_fault, case_fault}
use Rattle.model.specs.Conditions.{Departures}
use Rattle.model.specs.Answers.{judged}
use Rattle.model.proofs.Limits.{no_fault, or_else_none}
use Rattle.model.proofs.Outcomes.{judgements, judged_ok, judged_err}
use Rattle.model.proofs.Places.{pattern_fits}
use Rattle.judge.specs.Judgement.{start_parts}

-- ---- a walk over entries: the first fault is that of those from place i on
pub record Passed {A : Type 0} (judge : ℕ → A → Option Fault) (p : ℕ) (es : List A) (i : ℕ) : Type 0 where
  pub rest : entry_fault judge p es ≡ entry_fault judge (p + i) (drop i es)

pub passed_none : {A : Type 0} {judge : ℕ → A → Option Fault} {p : ℕ} (es : List A) → Passed judge p es 0
passed_none es = record { rest = rw add-zero refl }

module _ {A : Type 0} {judge : ℕ → A → Option Fault} {p : ℕ} {es : List A} {i : ℕ} (r : Passed judge p es i) where
  -- a turn: x is entry i
  module _ (x : A) (h : i < length es) (e : x ≡ get_or es i x) where
    pub passed_more : {u : Unit {0}} → Ok u ≡ judged (judge (p + i) x) → Passed judge p es (i + 1)
    unfolding entry_fault
    passed_more {u} b =
        let m : suc (p + i) ≡ p + (i + 1) = omega arith in
        let front : drop i es ≡ x ∷ drop (i + 1) es = rw add-one (rw (← e) at (drop-cons es i x h)) in
        let clean = judged_ok (judge (p + i) x) u (sym b) in
        record { rest = r.rest ∙ rw front (simp (clean, m)) }

    pub passed_refused : {f : Fault} → Err f ≡ judged (judge (p + i) x) → Err f ≡ judged (entry_fault judge p es)
    unfolding entry_fault
    passed_refused {f} b =
        let refused = judged_err (judge (p + i) x) f (sym b) in
        rw (r.rest, drop-cons es i x, ← e) (simp refused)

  -- the end
  pub passed_all : length es ≤ i → entry_fault judge p es ≡ none
  unfolding entry_fault
  passed_all h = r.rest ∙ rw (drop_of_length-le es h) refl

pub ruleset passing = (passed_none, passed_all)

-- the first fault of the entries that f makes of others
pub entries_of : {A B : Type 0} (judge : ℕ → B → Option Fault) (f : A → B) (p : ℕ) (es : List A)
    → entry_fault judge p (map f es) ≡ entry_fault (λ q e. judge q (f e)) p es
unfolding entry_fault
entries_of judge f p [] = refl
entries_of judge f p (e ∷ es) = ap (or_else (judge p (f e))) (entries_of judge f (suc p) es)

-- ---- what some entry is
pub holds_time : (es : List (Entry Seconds)) → regular (map time_of es) ≡ list_any is_some es
unfolding regular any_of is_time time_of
holds_time [] = refl
holds_time (None ∷ es) = holds_time es
holds_time (Some x ∷ es) = refl

pub holds_mark : (es : List (Entry Limit)) → any_of is_strict (map bound_of es) ≡ list_any marked es
unfolding any_of is_strict bound_of
holds_mark [] = refl
holds_mark (None ∷ es) = holds_mark es
holds_mark (Some e ∷ es) = ap (◌||◌ e.strict) (holds_mark es)

-- ---- a walk over n rows of n entries: the first fault is that of the rows from r on
pub record RowsPassed (n : ℕ) (es : List (Entry Seconds)) (r : ℕ) : Type 0 where
  pub within : r ≤ n
  pub rest : rows_fault n n 0 es ≡ rows_fault n (n - r) (r * n) (drop (r * n) es)

-- in row r, of which the entries before place i are within their limits: t says that they hold a time
abbrev row_of : ℕ → List (Entry Seconds) → ℕ → List (Entry Seconds)
row_of n es r = take n (drop (r * n) es)

pub record InRow (n : ℕ) (es : List (Entry Seconds)) (r i : ℕ) (t : Bool) : Type 0 where
  pub before : r < n
  pub rest : rows_fault n n 0 es ≡
      let left = drop i (row_of n es r) in
      or_else (entry_fault (over time_limit fault.Time) (r * n + i) left)
      (or_else (when (not (t || list_any is_some left)) (fault.EmptyRow (r * n))) (rows_fault n (n - (r + 1)) ((r + 1) * n) (drop ((r + 1) * n) es)))

module _ {n r : ℕ} {es : List (Entry Seconds)} (s : RowsPassed n es r) where
  pub row_none : r < n → InRow n es r 0 false
  unfolding rows_fault
  row_none h =
      let m : n - r ≡ suc (n - (r + 1)) = omega arith in
      let next : (r + 1) * n ≡ r * n + n = rw add-one (suc-mul r n) in
      record { before = h; rest = s.rest ∙ rw (m, next, add-zero, holds_time, ← (drop-drop n (r * n) es)) refl }

  -- no row is left
  pub rows_end : n ≤ r → Ok tt ≡ judged (rows_fault n n 0 es)
  unfolding rows_fault
  rows_end h = let m : n - r ≡ 0 = omega arith in rw (s.rest, m) refl

module _ {n r i : ℕ} {es : List (Entry Seconds)} {t : Bool} (s : InRow n es r i t) (l : length es ≡ n * n) where
  -- the next entry
  module _ (h : i < n) where
    abbrev entry : Entry Seconds
    entry = get_or es (r * n + i) None

    front : drop i (row_of n es r) ≡ entry ∷ drop (i + 1) (row_of n es r)
    front =
        let m : r + 1 ≤ n = omega (arith, s.before) in
        let n_in : n ≤ n = omega arith in
        let fits : r * n + n ≤ n * n = omega (arith, mul-le-mul m n_in, add-mul r 1 n) in
        let long : i < length (row_of n es r) = rw (length-take, length-drop) (omega (arith, fits)) in
        let same : get_or (row_of n es r) i None ≡ entry = rw (get_or-take, get_or-drop) refl in
        rw add-one (rw same at (drop-cons (row_of n es r) i None long))

    pub entry_refused : {f : Fault} → Err f ≡ judged (over time_limit fault.Time (r * n + i) entry) → Err f ≡ judged (rows_fault n n 0 es)
    unfolding entry_fault
    entry_refused {f} b = let refused = judged_err _ f (sym b) in rw (s.rest, front) (simp refused)

    pub entry_passed : {u : Unit {0}} → Ok u ≡ judged (over time_limit fault.Time (r * n + i) entry) → InRow n es r (i + 1) (t || is_some entry)
    unfolding entry_fault
    entry_passed {u} b =
        let m : suc (r * n + i) ≡ r * n + (i + 1) = omega arith in
        let clean = judged_ok _ u (sym b) in
        record { before = s.before; rest = s.rest ∙ rw front (simp (clean, m, or_assoc)) }

  -- its end
  module _ (h : n ≤ i) where
    none_left : drop i (row_of n es r) ≡ []
    none_left = drop_of_length-le (row_of n es r) (rw (length-take, length-drop) (omega (arith, h)))

    pub row_empty : t ≡ false → Err (fault.EmptyRow (r * n)) ≡ judged (rows_fault n n 0 es)
    unfolding entry_fault
    row_empty e = rw (s.rest, none_left, e) refl

    pub row_passed : t ≡ true → RowsPassed n es (r + 1)
    unfolding entry_fault
    row_passed e = record { within = omega (arith, s.before); rest = s.rest ∙ rw (none_left, e) refl }

-- entries behind the rows do not count
pub rows_front : (n r p : ℕ) (es : List (Entry Seconds)) → rows_fault n r p (take (r * n) es) ≡ rows_fault n r p es
unfolding rows_fault
rows_front n zero p es = refl
rows_front n (suc r) p es =
    let e : suc r * n ≡ n + r * n = omega (arith, suc-mul r n) in
    rw (e, drop-take n (r * n) es, take-take n (n + r * n) es (omega arith), rows_front n r (p + n) (drop n es)) refl

-- ---- departures in their limits
-- the bounds of a pattern are within the array
pub pattern_size_lem : {n : ℕ} → Departures n → n * (n + 1) ≤ most_bounds
pattern_size_lem {n} d = rw (add-one n) (pattern_fits d)

-- a number of departures that is not outside its limits; a table without a fault has such a number, and so has a case
pub inside_departures : (n : ℕ) → outside 1 most_departures n ≡ false → Departures n
unfolding outside
inside_departures n h = let facts = simp no_fault at h in omega arith

pub table_departures : (c : Case) (low k : ℕ) → table_fault c low k ≡ none → Departures c.n
unfolding table_fault
table_departures c low k h = let facts = simp no_fault at h in inside_departures c.n facts.0

pub case_departures : (c : Case) → case_fault c ≡ none → Departures c.n
unfolding case_fault
case_departures c h = table_departures c 1 c.horizon.0 ((or_else_none _ _).0 h).0

-- with these a call that goes on after a judgement knows so
pub ruleset known_departures = (judgements, table_departures, case_departures)

-- the parts of a case, from its entries
pub parts_said : (c : Case) → start_parts c
    ≡ cond (outside 1 most_departures c.n) 0
    (cond (list_any marked (take (c.n * (c.n + 1)) c.start) || list_any marked (take (c.n * (c.n + 1)) c.target)) (suc c.n) 1)
unfolding start_parts parts_of network
parts_said c = rw (add-one c.n, holds_mark (take (c.n * suc c.n) c.start), holds_mark (take (c.n * suc c.n) c.target)) refl

pub ruleset counted_parts = (inside_departures, pattern_size_lem, parts_said)

-- and its parts are those of its network
pub parts_are : (c : Case) → Departures c.n → start_parts c ≡ parts_of (network c)
unfolding start_parts outside
parts_are c d = simp (le-ltb _ _ d.some, le-ltb _ _ d.few)

-- a second has at most one part more than there can be departures
pub parts_few : (c : Case) → start_parts c ≤ suc most_departures
unfolding start_parts parts_of network outside
parts_few c = go (outside 1 most_departures c.n) refl (some_strict (network c))
  where
    go : (t : Bool) → outside 1 most_departures c.n ≡ t → (s : Bool) → cond t 0 (cond s (suc c.n) 1) ≤ suc most_departures
    go true e s = omega arith
    go false e true = let facts = simp no_fault at e in omega arith
    go false e false = omega arith
