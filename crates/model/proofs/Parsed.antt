-- A packed case that can be read has none of the faults 2 to 6: reading it put the same tests to the same entries.
-- `Gives P x` says that P holds of what the reading x gives, if it gives anything.
use Prim.Native.Nat.{ℕ, zero, suc, ◌+◌, ◌*◌, ◌^◌, ◌≤◌, ◌<◌}
use native.Mathlib.Omega.{arith}
use mathlib.Core.Path.{◌≡◌, refl, subst}
use mathlib.Core.List.{List, [], ◌∷◌, ◌++◌, map, append_assoc}
use mathlib.Core.Option.{Option, none, some}
use mathlib.Core.Bool.{Bool, true, false, ◌&&◌, cond}
use lib.Dec.{ltb, leb, eqb}
use lib.Pow.{pow_mono}
use lib.ListN.{length, length-append}
use lib.Seq.{take_at, drop_at}
use borrow.Author.Tests.{eqb-false}
use Rattle.ints.proofs.Integers.{impossible}
use Rattle.model.specs.Sizes.{most_departures, most_cycles, time_limit, pattern_size, wide_lead, horizon_width}
use Rattle.ints.specs.declared.Seconds.{Seconds}
use Rattle.model.specs.declared.Case.{Case}
use Rattle.model.specs.declared.Form.{Form}
use Rattle.model.specs.declared.Fault.{Fault}
use Rattle.model.specs.declared.Fault.TheVariants as fault
use Rattle.model.specs.Forms.{old, wide, most_in, markless}
use Rattle.model.specs.Network.{regular}
use Rattle.model.specs.Faults.{Entry, time_of, beyond, outside, patterns_fault, case_fault, form_fault, room_fault, call_fault}
use Rattle.model.specs.Packed.{Reading, got, refused, and_then, bit_at, num_at, bits, Kind, time_kind, bound_kind, unless_faulty, entry, entries, rows}
use Rattle.model.specs.Packed.{fill, body, parse_as, parse}
use Rattle.model.specs.Lists.{Every, done, both}
use Rattle.model.specs.Conditions.{FormLimits, InLimit, BoundIn}
use Rattle.model.proofs.Listed.{every_append}
use Rattle.model.proofs.Limits.{over_none, bound_fault_in_none, RowsInLimit, no_row, row, no_fault, form_case}
use Rattle.model.proofs.Digits.{num_below, bit_small}

-- ---- the two forms
pub data Agreed : Form → Type 0 where
  old_form : Agreed old
  wide_form : Agreed wide

-- neither has a field that is longer than the wide one's
pub agreed_limits : {f : Form} → Agreed f → FormLimits f
agreed_limits old_form = record { lead_few = omega arith; digits_few = omega arith; mark_few = omega arith }
agreed_limits wide_form = record { lead_few = omega arith; digits_few = omega arith; mark_few = omega arith }

-- so a form has a place for at most as many departures
pub places_few : {f : Form} → FormLimits f → most_in f ≤ most_departures
places_few lim = omega (arith, pow_mono lim.digits_few)

-- ---- what holds of a reading's value and the place after it
pub data Gives {A : Type 0} (P : A → ℕ → Type 0) : Reading A → Type 0 where
  value : {a : A} {q : ℕ} → P a q → Gives P (got a q)
  no_value : {f : Fault} → Gives P (refused f)

module _ {A : Type 0} {P : A → ℕ → Type 0} where
  -- it holds of the value that the reading gives
  pub given : {x : Reading A} {a : A} {q : ℕ} → Gives P x → x ≡ got a q → P a q
  given g e = go (subst (Gives P) e g)
    where
      go : {a : A} {q : ℕ} → Gives P (got a q) → P a q
      go (value h) = h

  -- a reading that a test picks
  pub test_gives : {x y : Reading A} (t : Bool) → (t ≡ true → Gives P x) → (t ≡ false → Gives P y) → Gives P (cond t x y)
  test_gives true h k = h refl
  test_gives false h k = k refl

  -- a reading in two steps
  pub then_gives : {B : Type 0} {Q : B → ℕ → Type 0} {x : Reading A} {f : A → ℕ → Reading B}
      → Gives P x → ((a : A) (q : ℕ) → P a q → Gives Q (f a q)) → Gives Q (and_then x f)
  then_gives (value {a} {q} h) k = k a q h
  then_gives no_value k = no_value

  -- an entry, unless it has a fault
  pub unless_gives : (o : Option Fault) (a : A) (q : ℕ) → (o ≡ none → P a q) → Gives P (unless_faulty o a q)
  unless_gives none a q h = value (h refl)
  unless_gives (some f) a q h = no_value

-- any reading, where nothing is asked of its value
pub gives_any : {A : Type 0} (x : Reading A) → Gives (λ a q. Unit {0}) x
gives_any (got a q) = value tt
gives_any (refused f) = no_value

-- ---- numbers
-- w bits spell a number below 2 ^ w
pub num_small : (s : List ℕ) (p w : ℕ) → num_at s p w < 2 ^ w
num_small s = num_below (bit_at s) (bit_small s)

-- and so is a number that is read from w bits
bits_give : (s : List ℕ) (w first p : ℕ) → Gives (λ v q. v < 2 ^ w) (bits s w first p)
unfolding bits
bits_give s w first p = test_gives (leb (p + w) (8 * length s)) (λ t. value (num_small s p w)) (λ t. no_value)

-- ---- entries
-- entries of a kind: P holds of those that are read, if it holds of an absent one and of those that are judged without a fault
module _ {A : Type 0} (k : Kind A) (P : A → Type 0) (absent : P k.absent) (sound : (p : ℕ) (e : A) → k.judge p e ≡ none → P e) (s : List ℕ) where
  entry_gives : (p : ℕ) → Gives (λ e q. P e) (entry k s p)
  unfolding entry
  entry_gives p =
      then_gives (gives_any (bits s 1 p p)) (λ bit q u.
      test_gives (eqb bit 0) (λ t. value absent) (λ t.
      then_gives (gives_any (bits s k.width p q)) (λ raw r u. unless_gives (k.judge p (k.value raw)) (k.value raw) r (sound p (k.value raw)))))

  -- count entries that are read after those of before: m in all
  entries_from : (m count p : ℕ) {before : List A} → Every P before → length before + count ≡ m
      → Gives (λ es q. Every P es × (length es ≡ m)) (entries k s count p before)
  unfolding entries
  entries_from m zero p h e = value (h, omega arith)
  entries_from m (suc count) p {before} h e =
      then_gives (entry_gives p) (λ x q i.
      entries_from m count q (every_append h (both i done)) (omega (arith, length-append before (x ∷ []))))

  pub entries_give : (count p : ℕ) → Gives (λ es q. Every P es × (length es ≡ count)) (entries k s count p [])
  entries_give count p = entries_from count count p done (omega arith)

-- ---- rows
-- before, with any k rows in their limit after it, is n rows in their limit
abbrev Lacks : ℕ → ℕ → List (Entry Seconds) → Type 0
Lacks n k before = (rest : List (Entry Seconds)) → RowsInLimit n k rest → RowsInLimit n n (before ++ rest)

-- one of the k rows, read after before
one_less : (n k : ℕ) (before es : List (Entry Seconds)) → Every (InLimit time_limit) es → length es ≡ n → regular (map time_of es) ≡ true
    → Lacks n (suc k) before → Lacks n k (before ++ es)
one_less n k before es h l t lacks rest r =
    let is = take_at es rest n l in
    rw append_assoc (lacks (es ++ rest) (row (rw is h) (rw is t) (rw (drop_at es rest n l) r)))

module _ (s : List ℕ) (n : ℕ) where
  -- rows that are read are in their limit, whatever stands after them
  rows_give : (k p : ℕ) (before : List (Entry Seconds)) → Lacks n k before → Gives (λ es q. Lacks n 0 es) (rows s n k p before)
  unfolding rows beyond
  rows_give zero p before lacks = value lacks
  rows_give (suc k) p before lacks =
      then_gives (entries_give time_kind (InLimit time_limit) refl (λ p e. (over_none time_limit fault.Time p e).0) s n p) (λ es q h.
      test_gives (regular (map time_of es)) (λ t. rows_give k q (before ++ es) (one_less n k before es h.0 h.1 t lacks)) (λ t. no_value))

-- ---- the case in a form
module _ {f : Form} (lim : FormLimits f) (s : List ℕ) where
  -- bounds that are read are in their limit, strict only where the form has a place for the mark, and as many as a pattern has
  bounds_give : (n p : ℕ) → Gives (λ es q. Every (BoundIn f) es × (length es ≡ pattern_size n)) (entries (bound_kind f) s (pattern_size n) p [])
  unfolding beyond
  bounds_give n = entries_give (bound_kind f) (BoundIn f) (refl, no_mark (markless f)) (λ p e. (bound_fault_in_none f p e).0) s (pattern_size n)
    where
      no_mark : (t : Bool) → (t && false) ≡ false
      no_mark true = refl
      no_mark false = refl

  -- the tables, where the two numbers are in their limits
  body_gives : (n h p : ℕ) → 1 ≤ n → n ≤ most_in f → 1 ≤ h → h ≤ most_cycles → Gives (λ c q. form_fault f c ≡ none) (body f s n h p)
  unfolding body form_fault patterns_fault outside
  body_gives n h p n-some place h-some h-few =
      let few : n ≤ most_departures = omega (arith, places_few lim) in
      then_gives (rows_give s n n p [] (λ rest r. r)) (λ times a t.
      then_gives (bounds_give n a) (λ start b u.
      then_gives (bounds_give n b) (λ target c v.
      then_gives (gives_any (fill s c)) (λ z d w.
      value (simp no_fault (
        (n-some, few),
        (place, (((h-some, h-few), t _ no_row), (rw (take_at start _ _ u.1) u.0, rw (take_at target _ _ v.1) v.0))),
      ))))))

  -- the two numbers and the tables
  parse_gives : Gives (λ c q. form_fault f c ≡ none) (parse_as f s)
  unfolding parse_as
  parse_gives =
      then_gives (gives_any (bits s f.lead 0 0)) (λ z a u.
      test_gives (ltb 0 z) (λ t. no_value) (λ t.
      then_gives (bits_give s f.digits a a) (λ n b l.
      test_gives (eqb n 0) (λ t. no_value) (λ t.
      then_gives (bits_give s horizon_width b b) (λ m c k.
      body_gives n (m + 1) c (omega (arith, eqb-false)) (omega arith) (omega arith) (omega arith))))))

  -- a case that can be read in the form has no fault for it: writing it meets none but an output that is too short
  pub parsed_form : (c : Case) (q : ℕ) → parse_as f s ≡ got c q → form_fault f c ≡ none
  parsed_form c q e = given parse_gives e

-- ---- either form
-- what reads as a case reads as this case in one of the forms
pub read_either : (s : List ℕ) (c : Case) (q : ℕ) → parse s ≡ got c q → (f : Form) × Agreed f × (parse_as f s ≡ got c q)
unfolding parse
read_either s c q = go (bits s wide_lead 0 0) refl
  where
    by : (b : Bool) → parse_as (cond b wide old) s ≡ got c q → (f : Form) × Agreed f × (parse_as f s ≡ got c q)
    by true e = (wide, wide_form, e)
    by false e = (old, old_form, e)

    go : (x : Reading ℕ) → bits s wide_lead 0 0 ≡ x → parse s ≡ got c q → (f : Form) × Agreed f × (parse_as f s ≡ got c q)
    go (refused f) b e = impossible cc
    go (got z a) b e = by (eqb z 0) (rw b at e)

module _ (s : List ℕ) (c : Case) (q : ℕ) (e : parse s ≡ got c q) where
  -- a case that can be read has none of the faults 2 to 6
  pub parsed : case_fault c ≡ none
  parsed = let (f, agreed, r) = read_either s c q e in form_case f c (parsed_form (agreed_limits agreed) s c q r)

  -- so of the faults 2 to 10 a call on it can meet 9 and 10 alone
  pub parsed_call : (capacity size : ℕ) → call_fault c capacity size ≡ room_fault c.n capacity size
  unfolding call_fault
  parsed_call capacity size = rw parsed
