-- One time put into the arrays of a case: the case with that time changed.
use Prim.Native.Nat.{ℕ, zero, suc, ◌+◌, ◌-◌, ◌≤◌, ◌<◌}
use native.Mathlib.Omega.{arith}
use mathlib.Core.Path.{◌≡◌, refl, sym, ap, ap₂, ◌∙◌}
use mathlib.Core.Logic.{◌≢◌}
use mathlib.Core.Bool.{Bool, true, false, not, cond}
use mathlib.Core.List.{List, ◌∷◌}
use mathlib.Core.Option.{none}
use lib.Dec.{eqb}
use lib.IntN.{ℤ, pos}
use lib.ListN.{length, set, replicate, length-set}
use lib.Seq.{get_or-set_same, get_or-set_other, set-append_left}
use Rattle.std.specs.Prelude.{Result, Ok, Err, Some, None}
use Rattle.std.specs.Result.{is_ok}
use Rattle.ints.proofs.Integers.{impossible}
use Rattle.ints.specs.declared.Seconds.{Seconds}
use Rattle.model.specs.Sizes.{most_times, most_bounds}
use Rattle.model.specs.declared.Case.{Case}
use Rattle.model.specs.declared.Fault.{Fault}
use Rattle.model.specs.Lists.{tabulate, padded}
use Rattle.model.specs.Faults.{Entry}
use Rattle.model.specs.Answers.{seconds}
use Rattle.model.specs.Changes.{time_place, changed, change_fault, commit}
use Rattle.model.proofs.Changes.{no_change_fault, place_small, refused_keeps, accepted_stands, accepted_changes}
use Rattle.model.proofs.Entries.{length_tabulate}
use Rattle.model.proofs.Tabulated.{tabulate_ext}
use Rattle.embed.specs.Numbers.{case_entries, start_place, target_place, Handed, written_numbers, with_count, slot_of, slot_at, limit_at, case_in, flag}
use Rattle.embed.specs.Numbers.{stored, CommitHanded}

-- one place of a list of f 0, f 1, .. set
set_tabulate : {X : Type 0} (n s k : ℕ) (f g : ℕ → X) → k < n → ((i : ℕ) → i ≢ s + k → g i ≡ f i)
    → tabulate n s g ≡ set (tabulate n s f) k (g (s + k))
unfolding tabulate
set_tabulate zero s k f g l same = absurd (omega arith)
set_tabulate (suc n) s zero f g l same =
    let here : s + 0 ≡ s = omega arith in
    ap₂ ◌∷◌ (ap g (sym here)) (tabulate_ext n (suc s) g f (λ i from to. same i (λ e. omega arith)))
set_tabulate (suc n) s (suc k) f g l same =
    let next : s + suc k ≡ suc s + k = omega arith in
    rw next (ap₂ ◌∷◌ (same s (λ e. omega arith)) (set_tabulate n (suc s) k f g (omega arith) (λ i apart. same i (rw next apart))))

-- in front of what fills the list up
set_padded : {X : Type 0} (z : X) (size : ℕ) (xs : List X) (k : ℕ) (x : X) → k < length xs → padded z size (set xs k x) ≡ set (padded z size xs) k x
set_padded z size xs k x l = rw (length-set xs k x) (sym (set-append_left xs (replicate (size - length xs) z) k x l))

-- an entry stored with its presence as a flag is the same when it is read
flag_back : (t : Bool) (time : ℤ) → slot_of (flag (not t)) time ≡ cond t None (Some (seconds time))
flag_back true time = refl
flag_back false time = refl

-- what is answered, by whether it is a case
accepted_case : (r : Result Case Fault) → true ≡ is_ok r → (c : Case) × (r ≡ Ok c)
accepted_case (Ok c) e = (c, refl)
accepted_case (Err f) e = impossible cc

refused_case : (r : Result Case Fault) → false ≡ is_ok r → (f : Fault) × (r ≡ Err f)
refused_case (Ok c) e = impossible cc
refused_case (Err f) e = (f, refl)

-- a flag and a time put at place k of two arrays
module _ (k x : ℕ) (time : ℤ) (present : List ℕ) (values : List ℤ) where
  abbrev flags : List ℕ
  flags = set present k x

  abbrev times : List ℤ
  times = set values k time

  -- what is put is there
  there : k < length present → k < length values → slot_at flags times k ≡ slot_of x time
  unfolding slot_at
  there l m = ap₂ slot_of (get_or-set_same present k x 0 l) (get_or-set_same values k time (pos 0) m)

  -- every other entry is as it was
  others : (i : ℕ) → i ≢ k → slot_at flags times i ≡ slot_at present values i
  unfolding slot_at
  others i apart = ap₂ slot_of (get_or-set_other present k i x 0 apart) (get_or-set_other values k i time (pos 0) apart)

  -- the table's entries
  table_put : {e : Entry Seconds} → slot_at flags times k ≡ e → k < most_times
      → tabulate most_times 0 (slot_at flags times) ≡ set (tabulate most_times 0 (slot_at present values)) k e
  table_put put l =
      let from : 0 + k ≡ k = omega arith in
      set_tabulate most_times 0 k (slot_at present values) (slot_at flags times) l (λ i apart. others i (rw from at apart)) ∙ rw (from, put)

  module _ (strict : List ℕ) where
    -- the bounds from a later place on
    pattern_put : (first : ℕ) → k < first
        → tabulate most_bounds first (limit_at flags strict times) ≡ tabulate most_bounds first (limit_at present strict values)
    unfolding limit_at
    pattern_put first l = tabulate_ext most_bounds first _ _ (λ i from to. rw (others i (λ e. omega arith)))

    -- the arrays hold the case with that time changed to the entry that is there
    pub case_put : {e : Entry Seconds} → slot_at flags times k ≡ e → (n h i j : ℕ) → k ≡ time_place n i j → k < most_times
        → case_in n h flags strict times ≡ changed (case_in n h present strict values) i j e
    unfolding case_in changed
    case_put {e} put n h i j at l =
        let old = tabulate most_times 0 (slot_at present values) in
        let long : k < length old = omega (arith, length_tabulate most_times 0 (slot_at present values)) in
        rw (← at, table_put put l, set_padded None most_bounds old k e long, pattern_put start_place l, pattern_put target_place (omega arith))

-- ---- what a commit hands back
module _ (n h : ℕ) (present strict : List ℕ) (values : List ℤ) (row column has : ℕ) (time : ℤ) where
  abbrev it : Case
  it = case_in n h present strict values

  -- the new entry, its place, and how its presence is stored
  abbrev e : Entry Seconds
  e = slot_of has time

  abbrev k : ℕ
  k = time_place n row column

  abbrev x : ℕ
  x = flag (not (eqb has 0))

  -- of a change without a fault
  module _ (clean : change_fault it row column ≡ none) where
    -- its place is in the table
    pub in_table : (1 ≤ row) × (1 ≤ column) × (k < most_times)
    unfolding case_in
    in_table =
        let here = ((no_change_fault _ _ _).0 clean).1 in
        (here.row_from, here.column_from, place_small _ _ _ clean)

    -- the arrays hold the case with that time changed
    pub clean_case_put : length present ≡ case_entries → length values ≡ case_entries
        → case_in n h (flags k x time present values) strict (times k x time present values) ≡ changed it row column e
    clean_case_put present_long values_long =
        let put = there k x time present values (omega (arith, in_table)) (omega (arith, in_table)) ∙ flag_back (eqb has 0) time in
        case_put k x time present values strict put n h row column refl in_table.2

  -- where the change is accepted, its place is in the table
  pub placed : true ≡ is_ok (commit it row column e) → (1 ≤ row) × (1 ≤ column) × (k < most_times)
  placed ok = let (c, is) = accepted_case (commit it row column e) ok in in_table (accepted_changes it row column e c is).0

  module _ {returned first second : ℕ} (t : Handed (written_numbers (with_count (commit it row column e) 0)) returned first second) where
    pub put_handed : length present ≡ case_entries → length values ≡ case_entries → true ≡ is_ok (commit it row column e)
        → CommitHanded n h present strict values row column has time returned first second (flags k x time present values) (times k x time present values)
    unfolding stored
    put_handed present_long values_long done =
        let (c, ok) = accepted_case (commit it row column e) done in
        let (clean, after, is) = accepted_changes it row column e c ok in
        record {
          numbers = t;
          present_after = rw ok;
          values_after = rw ok;
          stands = clean_case_put clean present_long values_long ∙ sym is ∙ sym (accepted_stands it row column e c ok);
        }

    pub kept_handed : false ≡ is_ok (commit it row column e)
        → CommitHanded n h present strict values row column has time returned first second present values
    unfolding stored
    kept_handed done =
        let (f, is) = refused_case (commit it row column e) done in
        record {
          numbers = t;
          present_after = rw is;
          values_after = rw is;
          stands = sym (refused_keeps it row column e f is);
        }
