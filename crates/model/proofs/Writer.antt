-- What requests [1] and [7] ask of the writer: reading its bytes restores the case up to what is ignored, and writing a case that was read reproduces its
-- bytes, in each form; what is written in one form is read in that form and refused in the other.
use Prim.Native.Nat.{ℕ, suc, ◌+◌, ◌-◌, ◌*◌, ◌≤◌, ◌<◌}
use native.Mathlib.Omega.{arith}
use native.Mathlib.Nat.{mul-le-mul}
use mathlib.Core.Path.{◌≡◌, refl, sym, ap₂, ◌∙◌}
use mathlib.Core.List.{List, [], ◌∷◌, ◌++◌, flat_map}
use mathlib.Core.Bool.{true, false, cond}
use mathlib.Core.Option.{Option, none, some}
use lib.IntN.{ℤ}
use lib.ListN.{length, get_or, take, length-append, length-take}
use lib.Seq.{take_at, length-take-le}
use borrow.Author.Tests.{lt-ltb, le-leb, ne_eqb}
use Rattle.ints.proofs.Integers.{impossible}
use Rattle.model.specs.Sizes.{table_size, pattern_size, most_bounds, old_digits, wide_lead, horizon_width, bound_width, most_width, most_bytes}
use Rattle.model.specs.declared.Case.{Case}
use Rattle.model.specs.declared.Form.{Form}
use Rattle.model.specs.declared.Fault.{Fault}
use Rattle.model.specs.declared.Fault.TheVariants as fault
use Rattle.model.specs.declared.Verdict.{Verdict}
use Rattle.model.specs.Forms.{old, wide, most_in}
use Rattle.std.specs.Prelude.{Result, Ok, Err, None}
use Rattle.model.specs.Lists.{padded, Every, done, both}
use Rattle.model.specs.Network.{Network}
use Rattle.model.specs.Search.{outcome}
use Rattle.model.specs.Conditions.{Departures, FormLimits}
use Rattle.model.specs.Faults.{network, outside, table_fault, form_fault, case_fault, call_fault}
use Rattle.model.specs.Packed.{got, refused, num_of, bits, Kind, time_kind, bound_kind, parse_as, parse}
use Rattle.model.specs.Answers.{answered, answer, answer_packed, workspace_after, workspace_after_packed, outcome_of}
use Rattle.model.specs.Writing.{field_bits, bytes_of, entry_bits, entries_bits, all_bounds, table_bits, case_bits, packed_as, tidied, Whole}
use Rattle.model.specs.Writing.{room_for, write_fault, told, output_after}
use Rattle.model.proofs.Listed.{every_append, every_tabulate, every_all, flat_map_every, at_get_d}
use Rattle.model.proofs.Places.{table_fits, pattern_fits}
use Rattle.model.proofs.Limits.{or_else_none, no_fault, form_case}
use Rattle.model.proofs.Digits.{num_below}
use Rattle.model.proofs.Parsed.{Agreed, old_form, wide_form, agreed_limits, given, parsed_form, parsed_call}
use Rattle.model.proofs.Spelled.{Spells, ends, split, length_field, bits_of}
use Rattle.model.proofs.Bytes.{length_bytes, bytes_spell, bytes_of_lem}
use Rattle.model.proofs.RoundTrip.{parse_of, parse_spells}

-- ---- the bits: each is 0 or 1, and they are few
field_small : (w v : ℕ) → Every (λ b. b ≤ 1) (field_bits w v)
unfolding field_bits
field_small w v = every_tabulate w 0 _ (λ i l. omega arith)

module _ {A : Type 0} (k : Kind A) where
  -- of an entry at most one more than its width
  entry_bits_lem : (e : A) → Every (λ b. b ≤ 1) (entry_bits k e) × (length (entry_bits k e) ≤ suc k.width)
  unfolding entry_bits
  entry_bits_lem e =
      let field = field_bits k.width (k.raw e) in
      elim (k.has e) as (λ t. let bs = cond t (1 ∷ field) (0 ∷ []) in Every (λ b. b ≤ 1) bs × (length bs ≤ suc k.width)) [
        | true ↦ (both {x = 1} (omega arith) (field_small k.width (k.raw e)), omega (arith, length_field k.width (k.raw e)))
        | false ↦ (both {x = 0} (omega arith) done, omega arith)
      ]

  entries_small : (es : List A) → Every (λ b. b ≤ 1) (entries_bits k es)
  unfolding entries_bits
  entries_small es = flat_map_every (entry_bits k) (every_all (λ e. (entry_bits_lem e).0) es)

  entries_short : (es : List A) → length (entries_bits k es) ≤ length es * suc k.width
  unfolding entries_bits flat_map
  entries_short [] = omega arith
  entries_short (e ∷ es) = rw length-append (omega (arith, (entry_bits_lem e).1, entries_short es))

module _ (f : Form) (c : Case) where
  case_small : Every (λ b. b ≤ 1) (case_bits f c)
  unfolding case_bits
  case_small =
      every_append
      (every_append (every_append (every_append (field_small _ _) (field_small _ _)) (field_small _ _)) (entries_small time_kind _))
      (entries_small (bound_kind f) _)

  -- what is written is bytes
  pub bytes_small : Every (λ b. b < 256) (packed_as f c)
  unfolding packed_as bytes_of
  bytes_small = every_tabulate _ 0 _ (λ i l. num_below (λ q. get_or (case_bits f c) q 0) (at_get_d {P = λ b. b ≤ 1} 0 (omega arith) case_small) (8 * (0 + i)) 8)

  -- at most most_bytes of them
  pub longest : FormLimits f → case_fault c ≡ none → length (packed_as f c) ≤ most_bytes
  unfolding packed_as case_bits case_fault table_fault outside
  longest lim h =
      let facts = simp no_fault at h in
      let n = c.n in
      let departures : Departures n = omega arith in
      let all : length (all_bounds c) ≤ 2 * most_bounds =
      simp (length-append, length-take) (omega (arith, pattern_fits departures)) in
      let width : suc (f.mark + bound_width) ≤ suc most_width = omega arith in
      simp (length_bytes, length-append, length_field) (omega (
        arith,
        table_fits departures,
        entries_short time_kind (take (table_size n) c.times),
        length-take (table_size n) c.times,
        entries_short (bound_kind f) (all_bounds c),
        mul-le-mul all width,
      ))

-- ---- one form
module _ {f : Form} (lim : FormLimits f) where
  -- writing a case that was read reproduces the bytes
  pub reproduces : (s : List ℕ) → Every (λ b. b < 256) s → (c : Case) (q : ℕ) → parse_as f s ≡ got c q → packed_as f c ≡ s
  unfolding packed_as
  reproduces s small c q e = bytes_of_lem s (case_bits f c) small (given (parse_spells lim s) e)

  -- and meets no fault but an output that is too short for them
  pub write_back : (s : List ℕ) → Every (λ b. b < 256) s → (c : Case) (q : ℕ) → parse_as f s ≡ got c q → (size : ℕ) → write_fault f c size ≡ room_for s size
  unfolding write_fault
  write_back s small c q e size = rw (parsed_form lim s c q e, reproduces s small c q e)

  -- a case has one encoding
  pub one_encoding : (s t : List ℕ) → Every (λ b. b < 256) s → Every (λ b. b < 256) t → (c : Case) (q r : ℕ)
      → parse_as f s ≡ got c q → parse_as f t ≡ got c r → s ≡ t
  one_encoding s t small little c q r e d = sym (reproduces s small c q e) ∙ reproduces t little c r d

  -- reading what is written restores the case up to what is ignored
  pub restores : (c : Case) → form_fault f c ≡ none → Whole c → parse_as f (packed_as f c) ≡ got (tidied c) (8 * length (packed_as f c))
  unfolding packed_as
  restores c h whole = parse_of lim (packed_as f c) c h whole (bytes_spell (case_bits f c) (case_small f c))

-- ---- which form it is
-- the zero bits in front and n stand at the front of what is written
in_front : (f : Form) (c : Case)
    → let s = packed_as f c in
    (q : ℕ) × (r : ℕ) × Spells s 0 (field_bits f.lead 0) q × Spells s q (field_bits f.digits c.n) r
unfolding packed_as case_bits
in_front f c =
    let Z = field_bits f.lead 0 in
    let D = field_bits f.digits c.n in
    let N = field_bits horizon_width (c.horizon.0 - 1) in
    let (_, bits, _) = split (case_bits f c) _ (bytes_spell (case_bits f c) (case_small f c)) in
    let (_, table, _) = split (Z ++ D ++ N ++ table_bits c) _ bits in
    let (_, head, _) = split (Z ++ D ++ N) _ table in
    let (r, numbers, _) = split (Z ++ D) _ head in
    let (q, lead, departures) = split Z _ numbers in
    (q, r, lead, departures)

no_bits : (s : List ℕ) → bits s 0 0 0 ≡ got 0 0
unfolding bits num_of
no_bits s = rw (le-leb 0 (8 * length s) (omega arith))

-- so the first three bits are 0, or n
wide_front : (c : Case) → (q : ℕ) × (bits (packed_as wide c) wide_lead 0 0 ≡ got 0 q)
wide_front c = let (q, _, lead, _) = in_front wide c in (q, bits_of (packed_as wide c) wide_lead 0 0 (omega arith) lead)

old_front : (c : Case) → c.n ≤ most_in old → (q : ℕ) × (bits (packed_as old c) old_digits 0 0 ≡ got c.n q)
old_front c few =
    let (q, r, lead, departures) = in_front old c in
    let first : q ≡ 0 = omega (arith, ends lead, length_field 0 0) in
    (r, bits_of (packed_as old c) old_digits 0 c.n (omega arith) (rw first at departures))

-- a case for the old form has 1 to 7 departures
old_departures : (c : Case) → form_fault old c ≡ none → (1 ≤ c.n) × (c.n ≤ most_in old)
unfolding form_fault outside
old_departures c h = let facts = simp no_fault at h in omega arith

-- what is written in a form is read in that form
pub form_known : {f : Form} → Agreed f → (c : Case) → form_fault f c ≡ none → parse (packed_as f c) ≡ parse_as f (packed_as f c)
unfolding parse
form_known wide_form c h = rw (wide_front c).1
form_known old_form c h =
    let few = old_departures c h in
    rw ((old_front c few.1).1, ne_eqb c.n 0 (λ z. omega arith))

-- and refused in the other: an older reader refuses the wide form
pub older_refuses : (c : Case) → parse_as old (packed_as wide c) ≡ refused fault.Departures
unfolding parse_as
older_refuses c = rw (no_bits (packed_as wide c), (wide_front c).1)

pub wide_refuses : (c : Case) → form_fault old c ≡ none → parse_as wide (packed_as old c) ≡ refused fault.Departures
unfolding parse_as
wide_refuses c h =
    let few = old_departures c h in
    rw ((old_front c few.1).1, lt-ltb 0 c.n few.0)

-- ---- reading what is written
-- the first entries of an array, once they stand in front of another
padded_front : {A : Type 0} (z : A) (size count : ℕ) (es : List A) → count ≤ length es
    → take count (padded z size (take count es)) ≡ take count es
padded_front z size count es long = take_at (take count es) _ count (length-take-le count es long)

-- what is ignored is no part of the network
network_tidied : (c : Case) → Whole c → network (tidied c) ≡ network c
unfolding network tidied
network_tidied c whole = rw (
  padded_front None most_bounds (table_size c.n) c.times whole.times,
  padded_front None most_bounds (pattern_size c.n) c.start whole.start,
  padded_front None most_bounds (pattern_size c.n) c.target whole.target,
)

module _ {f : Form} (agreed : Agreed f) (c : Case) (h : form_fault f c ≡ none) (whole : Whole c) where
  -- it restores the case up to what is ignored, whichever the form
  pub restored : parse (packed_as f c) ≡ got (tidied c) (8 * length (packed_as f c))
  restored = form_known agreed c h ∙ restores (agreed_limits agreed) c h whole

  -- a call on what is restored meets the faults of a call on the case
  call_tidied : (capacity size : ℕ) → call_fault (tidied c) capacity size ≡ call_fault c capacity size
  unfolding call_fault tidied
  call_tidied capacity size = parsed_call (packed_as f c) (tidied c) _ restored capacity size ∙ rw (form_case f c h)

  -- so the verdict is that on the case
  pub written_verdict : (capacity size : ℕ) → answer_packed (packed_as f c) capacity size ≡ answer c capacity size
  unfolding answer_packed answer
  written_verdict capacity size =
      let settle : Option Fault → Network → Result Verdict Fault = λ o w. elim o [ some f ↦ Err f | none ↦ answered (outcome w capacity) ] in
      rw (restored, answer_packed) (ap₂ settle (call_tidied capacity size) (network_tidied c whole))

  -- and so is the workspace afterwards
  pub written_workspace : (capacity : ℕ) (work : List ℤ) → workspace_after_packed (packed_as f c) capacity work ≡ workspace_after c capacity work
  unfolding workspace_after_packed workspace_after
  written_workspace capacity work = rw (restored, workspace_after_packed, call_tidied capacity (length work))

-- where a writer says how many bytes it put into the output, a reader makes of these bytes the case without what is ignored
pub read_back : {f : Form} → Agreed f → (c : Case) → (case_fault c ≡ none → Whole c) → (out : List ℕ) (count : ℕ)
    → let fault = write_fault f c (length out) in
    told fault (packed_as f c) ≡ Ok count
    → outcome_of (parse (take count (output_after fault (packed_as f c) out))) ≡ Ok (tidied c)
unfolding write_fault told output_after
read_back {f} agreed c whole out count = go (write_fault f c (length out)) refl
  where
    go : (o : Option Fault) → write_fault f c (length out) ≡ o → told o (packed_as f c) ≡ Ok count
        → outcome_of (parse (take count (output_after o (packed_as f c) out))) ≡ Ok (tidied c)
    go none e t =
        let all : length (packed_as f c) ≡ count = cc in
        let sound = (simp or_else_none at e).0 in
        rw (take_at (packed_as f c) _ count all, restored agreed c sound (whole (form_case f c sound)))
    go (some f) e t = impossible cc
