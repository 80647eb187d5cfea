-- A case in a form: its bits part by part, what it keeps to where it has no fault, and what the writer answers.
use Prim.Native.Nat.{ℕ, ◌+◌, ◌*◌, ◌/◌, ◌≤◌, ◌<◌}
use native.Mathlib.Omega.{arith}
use native.Mathlib.Numerals.{add-one}
use mathlib.Core.Path.{◌≡◌, sym}
use mathlib.Core.Option.{none}
use mathlib.Core.List.{List, ◌++◌, append_assoc}
use lib.ListN.{length, take, drop, length-append}
use lib.Pow.{pow_pos}
use borrow.Author.Tests.{lt-ltb, le-ltb}
use Rattle.std.specs.Prelude.{Ok, Err}
use Rattle.model.specs.Sizes.{most_bounds, horizon_width, time_limit, pattern_size}
use Rattle.model.specs.declared.Case.{Case}
use Rattle.model.specs.declared.Form.{Form}
use Rattle.model.specs.declared.Fault.{Fault}
use Rattle.model.specs.declared.Fault.TheVariants as fault
use Rattle.model.specs.Conditions.{FormLimits}
use Rattle.model.specs.Faults.{outside, patterns_fault, case_fault, form_fault}
use Rattle.model.specs.Answers.{judged}
use Rattle.model.specs.Packed.{time_kind, bound_kind}
use Rattle.model.specs.Writing.{entries_bits, head_bits, case_bits, packed_as, write_fault, room_for, told, output_after, Whole}
use Rattle.model.proofs.Bytes.{length_bytes}
use Rattle.model.proofs.Inverse.{bits_append}
use Rattle.model.proofs.Listed.{every_map}
use Rattle.model.proofs.Limits.{form_case, no_fault, over_none, bound_fault_in_none, rows_in}
use Rattle.model.proofs.Places.{table_fits, pattern_fits}
use Rattle.model.proofs.Spelled.{length_field}
use Rattle.model.proofs.Outcomes.{judged_err, judged_ok, judgements}
use Rattle.judge.proofs.Laws.{case_departures, known_departures}
use Rattle.packer.specs.Sound.{Sound}

-- the bits of the fields in front
pub length_head : (f : Form) (n h : ℕ) → length (head_bits f n h) ≡ f.lead + f.digits + horizon_width
length_head f n h = simp (length-append, length_field)

pub ruleset head_lengths = (length_head, length_field, pow_pos)

module _ (f : Form) (c : Case) where
  abbrev size : ℕ
  size = c.n * (c.n + 1)

  -- its bits part by part
  pub case_parts : case_bits f c
      ≡ head_bits f c.n c.horizon.0 ++ entries_bits time_kind (take (c.n * c.n) c.times)
      ++ entries_bits (bound_kind f) (take size c.start) ++ entries_bits (bound_kind f) (take size c.target)
  unfolding case_bits
  case_parts =
      let front = head_bits f c.n c.horizon.0 ++ entries_bits time_kind (take (c.n * c.n) c.times) in
      rw (add-one c.n) (rw (bits_append (bound_kind f) (take (pattern_size c.n) c.start) (take (pattern_size c.n) c.target)) (sym (append_assoc front _ _)))

  -- how many they are
  pub case_length : length (case_bits f c)
      ≡ f.lead + f.digits + horizon_width + length (entries_bits time_kind (take (c.n * c.n) c.times))
      + length (entries_bits (bound_kind f) (take size c.start)) + length (entries_bits (bound_kind f) (take size c.target))
  case_length = rw case_parts (simp (length-append, length_field))

  -- how many bytes they are
  pub packed_length : length (packed_as f c) ≡ (length (case_bits f c) + 7) / 8
  unfolding packed_as
  packed_length = length_bytes (case_bits f c)

  -- it keeps to its limits
  pub sound : FormLimits f → judged (form_fault f c) ≡ Ok tt → Sound f c
  unfolding form_fault patterns_fault outside
  sound limits j =
      let ((one, few), (place, (((some_cycles, few_cycles), rows), (start, target)))) = simp no_fault at (judged_ok (form_fault f c) tt j) in
      record {
        limits = limits;
        departures = record { some = one; few = few };
        numbers = record { place = place; some_cycles = some_cycles; few_cycles = few_cycles };
        times = every_map (λ e in_limit p. (over_none time_limit fault.Time p e).1 in_limit) (rows_in rows);
        start = rw add-one (every_map (λ e bound_in p. (bound_fault_in_none f p e).1 bound_in) start);
        target = rw add-one (every_map (λ e bound_in p. (bound_fault_in_none f p e).1 bound_in) target);
      }

pub ruleset case_lengths = (case_length, length_head, packed_length)

-- ---- what the writer answers, and the output afterwards
module _ (f : Form) (c : Case) (out : List ℕ) where
  -- the case has a fault
  module _ (e : Fault) (j : judged (form_fault f c) ≡ Err e) where
    pub answer_fault : told (write_fault f c (length out)) (packed_as f c) ≡ Err e
    unfolding write_fault told
    answer_fault = rw (judged_err (form_fault f c) e j)

    pub output_fault : output_after (write_fault f c (length out)) (packed_as f c) out ≡ out
    unfolding write_fault output_after
    output_fault = rw (judged_err (form_fault f c) e j)

  module _ (clean : form_fault f c ≡ none) where
    -- the output is too short
    module _ (h : length out < length (packed_as f c)) where
      pub answer_short : told (write_fault f c (length out)) (packed_as f c) ≡ Err (fault.Output (length (packed_as f c)))
      unfolding write_fault room_for told
      answer_short = rw (clean, lt-ltb (length out) (length (packed_as f c)) h)

      pub output_short : output_after (write_fault f c (length out)) (packed_as f c) out ≡ out
      unfolding write_fault room_for output_after
      output_short = rw (clean, lt-ltb (length out) (length (packed_as f c)) h)

    -- it has room
    module _ (h : length (packed_as f c) ≤ length out) where
      pub answer_written : told (write_fault f c (length out)) (packed_as f c) ≡ Ok (length (packed_as f c))
      unfolding write_fault room_for told
      answer_written = rw (clean, le-ltb (length out) (length (packed_as f c)) h)

      pub output_written : output_after (write_fault f c (length out)) (packed_as f c) out ≡ packed_as f c ++ drop (length (packed_as f c)) out
      unfolding write_fault room_for output_after
      output_written = rw (clean, le-ltb (length out) (length (packed_as f c)) h)

-- arrays of the code's size are long enough
pub whole : (c : Case) → length c.times ≡ most_bounds → length c.start ≡ most_bounds → length c.target ≡ most_bounds → case_fault c ≡ none → Whole c
whole c t s g h =
    let n = case_departures c h in
    record {
      times = omega (arith, table_fits n);
      start = omega (arith, pattern_fits n);
      target = omega (arith, pattern_fits n);
    }

pub ruleset writing = (
  judgements,
  known_departures,
  case_lengths,
  form_case,
  answer_fault,
  output_fault,
  answer_short,
  output_short,
  answer_written,
  output_written,
  whole,
)
