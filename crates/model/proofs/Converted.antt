-- What request [8] asks of the converter: it keeps the case, there and back, and the verdict; it refuses exactly what the other form has no place for, at
-- its place in the input.
use Prim.Native.Nat.{ℕ, suc, ◌+◌, ◌-◌, ◌*◌, ◌^◌, ◌≤◌, ◌<◌}
use native.Mathlib.Omega.{arith}
use mathlib.Core.Path.{◌≡◌, refl, sym, ap, ◌∙◌}
use mathlib.Core.Logic.{◌↔◌}
use mathlib.Core.List.{List, [], ◌∷◌, ◌++◌, flat_map}
use mathlib.Core.Bool.{Bool, true, false, ◌&&◌}
use mathlib.Core.Option.{Option, none, some}
use lib.IntN.{ℤ}
use lib.Dec.{ltb, eqb}
use lib.ListN.{length, take, length-append, length-replicate}
use lib.Seq.{take_at}
use borrow.Author.Tests.{ltb-true, ltb-false, lt-ltb}
use Rattle.ints.proofs.Integers.{impossible}
use Rattle.model.specs.Sizes.{pattern_size, wide_lead, wide_mark, horizon_width, bound_width}
use Rattle.ints.specs.declared.Seconds.{Seconds}
use Rattle.model.specs.declared.Limit.{Limit}
use Rattle.model.specs.declared.Case.{Case}
use Rattle.model.specs.declared.Form.{Form}
use Rattle.model.specs.declared.Fault.{Fault}
use Rattle.model.specs.declared.Fault.TheVariants as fault
use Rattle.std.specs.Prelude.{Result, Ok, Err, Some, None}
use Rattle.model.specs.Forms.{old, wide, most_in, markless}
use Rattle.model.specs.Lists.{tabulate, when, or_else, Every, both}
use Rattle.model.specs.Conditions.{Departures, BoundIn}
use Rattle.model.specs.Faults.{Entry, marked, mark_fault, fault_along, form_fault, patterns_fault, outside}
use Rattle.model.specs.Packed.{Reading, got, refused, bit_at, bound_kind, case_of, body, parse_as, parse, entries, rows, fill, bits}
use Rattle.model.specs.Answers.{answer, answer_packed, workspace_after, workspace_after_packed}
use Rattle.model.specs.Writing.{field_bits, entry_bits, entries_bits, table_bits, all_bounds, case_bits, packed_as, tidied, Whole, room_for, told, output_after}
use Rattle.model.specs.Converting.{behind, bounds_place, marks_lost, loss_fault, convert_fault, converted, output_after_conversion, ConvertGiven}
use Rattle.model.proofs.Listed.{every_append, every_split, every_map, every_both}
use Rattle.model.proofs.Places.{table_fits, pattern_fits}
use Rattle.model.proofs.Limits.{or_else_none, when_none, bound_fault_in_none, every_none, no_fault, wide_fault, form_case}
use Rattle.model.proofs.Parsed.{Gives, value, no_value, test_gives, then_gives, gives_any, given}
use Rattle.model.proofs.Parsed.{Agreed, old_form, wide_form, agreed_limits, parsed_form}
use Rattle.model.proofs.Spelled.{Spells, bit, ends, split, length_field}
use Rattle.model.proofs.Complement.{bound_lawful}
use Rattle.model.proofs.RoundTrip.{parse_spells}
use Rattle.model.proofs.Writer.{bytes_small, reproduces, restores, form_known, older_refuses, wide_refuses}

-- ---- which cases convert
-- the form has a place for its mark, if it has one
abbrev pub Markable : Form → Entry Limit → Type 0
Markable f e = (markless f && marked e) ≡ false

-- nothing is lost exactly if the form has a place for n and for every mark
pub loss_is : (from to : Form) (c : Case) → (loss_fault from to c ≡ none) ↔ ((c.n ≤ most_in to) × Every (Markable to) (all_bounds c))
unfolding loss_fault
loss_is from to c =
    let marks = every_none (behind from) {judge = mark_fault to} {P = Markable to} (λ p e. when_none _ _) (bounds_place from c) (all_bounds c) in
    simp no_fault (λ h. (h.0, marks.0 h.1), λ h. (h.0, marks.1 h.1))

-- so of a case that was read nothing is lost exactly if it has no fault for the other form
pub loss_exactly : (from to : Form) (c : Case) → form_fault from c ≡ none → (loss_fault from to c ≡ none) ↔ (form_fault to c ≡ none)
unfolding form_fault patterns_fault
loss_exactly from to c h =
    let facts = simp no_fault at h in
    let size = pattern_size c.n in (
      λ l.
          let (few, marks) = (loss_is from to c).0 l in
          let (start, target) = every_split (take size c.start) (take size c.target) marks in
          simp no_fault (facts.0, (few, (facts.1.1.0, (join facts.1.1.1.0 start, join facts.1.1.1.1 target)))),
      λ g.
          let others = simp no_fault at g in
          (loss_is from to c).1 (others.1.0, every_append (marks others.1.1.1.0) (marks others.1.1.1.1)),
    )
  where
    join : {es : List (Entry Limit)} → Every (BoundIn from) es → Every (Markable to) es → Every (BoundIn to) es
    join = every_both (λ e b m. (b.0, m))

    marks : {es : List (Entry Limit)} → Every (BoundIn to) es → Every (Markable to) es
    marks = every_map (λ e b. b.1)

-- every case that can be read goes into the wide form
pub all_widen : {f : Form} → Agreed f → (s : List ℕ) (c : Case) (q : ℕ) → parse_as f s ≡ got c q → loss_fault f wide c ≡ none
all_widen {f} agreed s c q e =
    let sound = parsed_form (agreed_limits agreed) s c q e in
    (loss_exactly f wide c sound).1 (wide_fault c ∙ form_case f c sound)

-- ---- what is read is whole, and holds nothing that is ignored
-- the arrays have the code's size, so they are long enough
made_whole : (n h : ℕ) (times : List (Entry Seconds)) (start target : List (Entry Limit)) → Departures n → Whole (case_of n h times start target)
made_whole n h times start target d = record {
  times = simp (length-append, length-replicate) (omega (arith, table_fits d));
  start = simp (length-append, length-replicate) (omega (arith, pattern_fits d));
  target = simp (length-append, length-replicate) (omega (arith, pattern_fits d));
}

module _ {f : Form} (agreed : Agreed f) (s : List ℕ) where
  body_whole : (n h p : ℕ) → Gives (λ c q. Departures c.n → Whole c) (body f s n h p)
  unfolding body
  body_whole n h p =
      then_gives (gives_any (rows s n n p [])) (λ times a u.
      then_gives (gives_any (entries (bound_kind f) s (pattern_size n) a [])) (λ start b u.
      then_gives (gives_any (entries (bound_kind f) s (pattern_size n) b [])) (λ target c u.
      then_gives (gives_any (fill s c)) (λ z d u. value {q = d} (made_whole n h times start target)))))

  parse_whole : Gives (λ c q. Departures c.n → Whole c) (parse_as f s)
  unfolding parse_as
  parse_whole =
      then_gives (gives_any (bits s f.lead 0 0)) (λ z a u.
      test_gives (ltb 0 z) (λ t. no_value) (λ t.
      then_gives (gives_any (bits s f.digits a a)) (λ n b u.
      test_gives (eqb n 0) (λ t. no_value) (λ t.
      then_gives (gives_any (bits s horizon_width b b)) (λ m c u. body_whole n (m + 1) c)))))

  module _ (c : Case) (q : ℕ) (e : parse_as f s ≡ got c q) where
    sound : form_fault f c ≡ none
    sound = parsed_form (agreed_limits agreed) s c q e

    pub read_departures : Departures c.n
    unfolding form_fault outside
    read_departures = let facts = simp no_fault at sound in omega arith

    pub read_whole : Whole c
    read_whole = given parse_whole e read_departures

    module _ (small : Every (λ b. b < 256) s) where
      -- the bytes are those of the case
      pub read_bytes : packed_as f c ≡ s
      read_bytes = reproduces (agreed_limits agreed) s small c q e

      pub read_tidy : tidied c ≡ c
      read_tidy =
          let again : parse_as f s ≡ got (tidied c) (8 * length s) = rw read_bytes at (restores (agreed_limits agreed) c sound read_whole) in
          cc

      -- it is read whichever the form
      pub read_known : parse s ≡ got c q
      read_known = rw read_bytes at (form_known agreed c sound) ∙ e

      -- so the verdict is that on the case, and so is the workspace
      pub read_verdict : (capacity : ℕ) (work : List ℤ) → (answer_packed s capacity (length work) ≡ answer c capacity (length work))
          × (workspace_after_packed s capacity work ≡ workspace_after c capacity work)
      unfolding answer_packed workspace_after_packed
      read_verdict capacity work = (rw (read_known, answer_packed), rw (read_known, workspace_after_packed))

-- ---- what the converter answers
module _ (from to : Form) (s : List ℕ) where
  -- on what it cannot read
  pub convert_refused : {f : Fault} → parse_as from s ≡ refused f
      → ((size : ℕ) → converted from to s size ≡ Err f) × ((out : List ℕ) → output_after_conversion from to s out ≡ out)
  unfolding converted output_after_conversion
  convert_refused e = (λ size. rw (e, converted), λ out. rw (e, output_after_conversion))

  -- and on what it reads
  pub convert_read : {c : Case} {q : ℕ} → parse_as from s ≡ got c q
      → ((size : ℕ) → converted from to s size ≡ told (convert_fault from to c size) (packed_as to c))
      × ((out : List ℕ) → output_after_conversion from to s out ≡ output_after (convert_fault from to c (length out)) (packed_as to c) out)
  unfolding converted output_after_conversion
  convert_read e = (λ size. rw (e, converted), λ out. rw (e, output_after_conversion))

-- ---- there and back
-- t is what the bytes s, which hold the case c, become
pub record Converts (from to : Form) (c : Case) (s t : List ℕ) : Type 0 where
  pub end : ℕ
  pub read : parse_as from s ≡ got c end
  pub kept : loss_fault from to c ≡ none
  pub is : t ≡ packed_as to c

-- where the converter says how many bytes it put into the output, these are what the input becomes
pub converts : {from to : Form} {s out after : List ℕ} {count : ℕ} → ConvertGiven from to s out (Ok count) after
    → (c : Case) × Converts from to c s (take count after)
unfolding convert_fault told output_after
converts {from} {to} {s} {out} {after} {count} g = rw g.output (go (parse_as from s) refl)
  where
    put : (c : Case) (o : Option Fault) → convert_fault from to c (length out) ≡ o → told o (packed_as to c) ≡ Ok count
        → (loss_fault from to c ≡ none) × (take count (output_after o (packed_as to c) out) ≡ packed_as to c)
    put c none e t =
        let all : length (packed_as to c) ≡ count = cc in
        ((simp or_else_none at e).0, take_at (packed_as to c) _ count all)
    put c (some f) e t = impossible cc

    go : (x : Reading Case) → parse_as from s ≡ x → (c : Case) × Converts from to c s (take count (output_after_conversion from to s out))
    go (refused f) e = let answer = (convert_refused from to s e).0 (length out) in let given = g.answer in impossible cc
    go (got c q) e =
        let (answer, output) = convert_read from to s e in
        let (kept, is) = put c _ refl (sym (g.answer ∙ answer (length out))) in
        (c, record { end = q; read = e; kept = kept; is = ap (take count) (output out) ∙ is })

module _ {from to : Form} {c : Case} {s t : List ℕ} (k : Converts from to c s t) where
  -- then the converter refuses them only where the output is too short, and else puts t in front of it
  pub converts_answer : (size : ℕ) → converted from to s size ≡ told (room_for t size) t
  unfolding convert_fault
  converts_answer size = (convert_read from to s k.read).0 size ∙ rw (k.is, k.kept)

  pub converts_output : (out : List ℕ) → output_after_conversion from to s out ≡ output_after (room_for t (length out)) t out
  unfolding convert_fault
  converts_output out = (convert_read from to s k.read).1 out ∙ rw (k.is, k.kept)

  -- and the other way round t becomes s
  pub converts_back : Agreed from → Agreed to → Every (λ b. b < 256) s → Converts to from c t s
  converts_back agreed other small =
      let sound = parsed_form (agreed_limits agreed) s c k.end k.read in
      let fits = (loss_exactly from to c sound).0 k.kept in
      let again = restores (agreed_limits other) c fits (read_whole agreed s c k.end k.read) in
      record {
        end = 8 * length t;
        read = rw (read_tidy agreed s c k.end k.read small, ← k.is) at again;
        kept = (loss_exactly to from c fits).1 sound;
        is = sym (read_bytes agreed s c k.end k.read small);
      }

-- of the bytes that the converter put into the output, from the old form to the wide one or from the wide form to the old one
module _ {from to : Form} (agreed : Agreed from) (other : Agreed to) {s out after : List ℕ} {count : ℕ} (small : Every (λ b. b < 256) s)
    (g : ConvertGiven from to s out (Ok count) after) where
  abbrev became : List ℕ
  became = take count after

  -- the other converter makes s again, and refuses them only where its output is too short for s
  pub there_and_back : {next final : List ℕ} {r : Result ℕ Fault} → ConvertGiven to from became next r final
      → (r ≡ told (room_for s (length next)) s) × (final ≡ output_after (room_for s (length next)) s next)
  there_and_back {next} b =
      let (c, k) = converts g in
      let back = converts_back k agreed other small in
      (b.answer ∙ converts_answer back (length next), b.output ∙ converts_output back next)

  -- the verdict on them is that on s, and so is the workspace
  pub verdicts_agree : (capacity : ℕ) (work : List ℤ) → (answer_packed became capacity (length work) ≡ answer_packed s capacity (length work))
      × (workspace_after_packed became capacity work ≡ workspace_after_packed s capacity work)
  verdicts_agree capacity work =
      let (c, k) = converts g in
      let back = converts_back k agreed other small in
      let bytes : Every (λ b. b < 256) became = rw k.is (bytes_small to c) in
      let (answer, workspace) = read_verdict agreed s c k.end k.read small capacity work in
      let (answer', workspace') = read_verdict other became c back.end back.read bytes capacity work in
      (answer' ∙ sym answer, workspace' ∙ sym workspace)

-- ---- input in the other form is refused by 2
module _ (s : List ℕ) (c : Case) (q size : ℕ) (small : Every (λ b. b < 256) s) where
  pub wide_not_widened : parse_as wide s ≡ got c q → converted old wide s size ≡ Err fault.Departures
  wide_not_widened e = (convert_refused old wide s (rw (read_bytes wide_form s c q e small) at (older_refuses c))).0 size

  pub old_not_narrowed : parse_as old s ≡ got c q → converted wide old s size ≡ Err fault.Departures
  old_not_narrowed e =
      let sound = parsed_form (agreed_limits old_form) s c q e in
      (convert_refused wide old s (rw (read_bytes old_form s c q e small) at (wide_refuses c sound))).0 size

-- ---- where 16 is
-- n stands at its place in the input, and so do the bounds, one behind the other
module _ {f : Form} (agreed : Agreed f) (s : List ℕ) (c : Case) (q : ℕ) (e : parse_as f s ≡ got c q) where
  pub fields_at : (x : ℕ) × (y : ℕ) × Spells s f.lead (field_bits f.digits c.n) x
      × Spells s (bounds_place f c) (entries_bits (bound_kind f) (all_bounds c)) y
  unfolding case_bits
  fields_at =
      let Z = field_bits f.lead 0 in
      let D = field_bits f.digits c.n in
      let N = field_bits horizon_width (c.horizon.0 - 1) in
      let T = table_bits c in
      let (y, all, _) = split (case_bits f c) _ (given (parse_spells (agreed_limits agreed) s) e) in
      let (b, table, bounds) = split (Z ++ D ++ N ++ T) _ all in
      let (_, head, _) = split (Z ++ D ++ N) _ table in
      let (x, numbers, _) = split (Z ++ D) _ head in
      let (n, lead, departures) = split Z _ numbers in
      let first : n ≡ f.lead = omega (arith, ends lead, length_field f.lead 0) in
      let second : b ≡ bounds_place f c = omega (arith, ends table) in
      (x, y, rw first at departures, rw second at bounds)

-- of bounds in the wide form, the first of which starts at place a, the first strict one starts at place p: its presence bit and its mark are there
pub data FirstStrict (s : List ℕ) : ℕ → List (Entry Limit) → ℕ → Type 0 where
  here : {p : ℕ} {e : Entry Limit} {es : List (Entry Limit)} → marked e ≡ true → bit_at s p ≡ 1 → bit_at s (suc p) ≡ 1 → FirstStrict s p (e ∷ es) p
  later : {a p : ℕ} {e : Entry Limit} {es : List (Entry Limit)} → marked e ≡ false → FirstStrict s (behind wide a e) es p → FirstStrict s a (e ∷ es) p

module _ (s : List ℕ) where
  -- a strict bound has its presence bit and its mark
  strict_bits : {p q : ℕ} (e : Entry Limit) → BoundIn wide e → marked e ≡ true → Spells s p (entry_bits (bound_kind wide) e) q
      → (bit_at s p ≡ 1) × (bit_at s (suc p) ≡ 1)
  unfolding entry_bits field_bits tabulate
  strict_bits None fits t r = impossible cc
  strict_bits {p} {q} (Some e) fits strict r =
      let v = (bound_kind wide).raw (Some e) in
      let below = (bound_lawful (agreed_limits wide_form)).raw_small (Some e) refl (λ p. (bound_fault_in_none wide p (Some e)).1 fits) in
      let above : 2 ^ bound_width ≤ v = rw strict (omega arith) in
      go v above below r
    where
      go : (v : ℕ) → 2 ^ bound_width ≤ v → v < 2 ^ (wide_mark + bound_width) → Spells s p (1 ∷ field_bits (wide_mark + bound_width) v) q
          → (bit_at s p ≡ 1) × (bit_at s (suc p) ≡ 1)
      go v above below (bit presence (bit mark rest)) = (presence, mark ∙ omega arith)

  -- 16 is at a, or where it is for the others
  abbrev Found : Fault → ℕ → List (Entry Limit) → Type 0
  Found f a es = (p : ℕ) × (f ≡ fault.Form p) × FirstStrict s a es p

  first_or_later : (a : ℕ) (e : Entry Limit) (es : List (Entry Limit)) (f : Fault)
      → let others = fault_along (behind wide) (mark_fault old) (behind wide a e) es in
      (marked e ≡ true → (bit_at s a ≡ 1) × (bit_at s (suc a) ≡ 1)) → (others ≡ some f → Found f (behind wide a e) es)
      → (t : Bool) → marked e ≡ t → or_else (when t (fault.Form a)) others ≡ some f → Found f a (e ∷ es)
  first_or_later a e es f bits rest true t h = let (presence, mark) = bits t in (a, cc, here t presence mark)
  first_or_later a e es f bits rest false t h = let (p, is, r) = rest h in (p, is, later t r)

  -- it is not before the first of them
  not_before : {a p : ℕ} {es : List (Entry Limit)} → FirstStrict s a es p → a ≤ p
  not_before (here t presence mark) = omega arith
  not_before (later t r) = omega (arith, not_before r)

  first_strict : (a q : ℕ) (es : List (Entry Limit)) → Every (BoundIn wide) es → Spells s a (entries_bits (bound_kind wide) es) q
      → (f : Fault) → fault_along (behind wide) (mark_fault old) a es ≡ some f → Found f a es
  unfolding entries_bits flat_map
  first_strict a q [] fits r f h = impossible cc
  first_strict a q (e ∷ es) (both l ls) r f h =
      let (m, field, rest) = split (entry_bits (bound_kind wide) e) (entries_bits (bound_kind wide) es) r in
      let next : m ≡ behind wide a e = omega (arith, ends field) in
      first_or_later a e es f (λ t. strict_bits e l t field) (first_strict (behind wide a e) q es ls (rw next at rest) f) _ refl h

-- what the old form has no place for, and its place in the wide form: n, else the first strict bound, which stands behind n
pub data Lost (s : List ℕ) (c : Case) : ℕ → Type 0 where
  departures_lost : most_in old < c.n → Lost s c wide_lead
  mark_lost : {p : ℕ} → c.n ≤ most_in old → wide_lead < p → FirstStrict s (bounds_place wide c) (all_bounds c) p → Lost s c p

module _ (s : List ℕ) (c : Case) (q : ℕ) (e : parse_as wide s ≡ got c q) where
  -- 16 is told with this place
  pub place_there : (f : Fault) → loss_fault wide old c ≡ some f → (p : ℕ) × (f ≡ fault.Form p) × Lost s c p
  unfolding loss_fault form_fault patterns_fault
  place_there f = go (ltb (most_in old) c.n) refl
    where
      go : (t : Bool) → ltb (most_in old) c.n ≡ t
          → or_else (when t (fault.Form wide_lead)) (marks_lost wide old c) ≡ some f
          → (p : ℕ) × (f ≡ fault.Form p) × Lost s c p
      go true t h = (wide_lead, cc, departures_lost (ltb-true _ _ t))
      go false t h =
          let facts = simp no_fault at (parsed_form (agreed_limits wide_form) s c q e) in
          let (_, y, _, bounds) = fields_at wide_form s c q e in
          let (p, is, first) = first_strict s (bounds_place wide c) y (all_bounds c) (every_append facts.1.1.1.0 facts.1.1.1.1) bounds f h in
          (p, is, mark_lost {p = p} (ltb-false _ _ t) (omega (arith, not_before s first, behind_head)) first)
        where
          behind_head : wide_lead < bounds_place wide c
          behind_head = simp (length-append, length_field) (omega arith)

  -- with the place of n exactly where n is over 7
  pub place_of_n : (loss_fault wide old c ≡ some (fault.Form wide_lead)) ↔ (most_in old < c.n)
  unfolding loss_fault
  place_of_n = (λ h. of (place_there _ h), λ l. rw (lt-ltb (most_in old) c.n l))
    where
      of : (p : ℕ) × (fault.Form wide_lead ≡ fault.Form p) × Lost s c p → most_in old < c.n
      of (p, same, departures_lost l) = l
      of (p, same, mark_lost few after first) = let e : wide_lead ≡ p = cc in omega arith
