-- What the converter answers, by what its parts do: the case is refused, or something of it is lost, or it is written.
use Prim.Native.Nat.{ℕ}
use mathlib.Core.Path.{◌≡◌, ◌∙◌}
use mathlib.Core.List.{List}
use mathlib.Core.Option.{none}
use lib.ListN.{length}
use Rattle.ints.proofs.Integers.{impossible}
use Rattle.std.specs.Prelude.{Ok, Err}
use Rattle.model.specs.declared.Case.{Case}
use Rattle.model.specs.declared.Form.{Form}
use Rattle.model.specs.declared.Fault.{Fault}
use Rattle.model.specs.Forms.{wide}
use Rattle.model.specs.Conditions.{Departures}
use Rattle.model.specs.Faults.{form_fault}
use Rattle.model.specs.Packed.{Reading, got, refused, parse_as}
use Rattle.model.specs.Answers.{judged, outcome_of}
use Rattle.model.specs.Writing.{packed_as, write_fault, told, output_after}
use Rattle.model.specs.Converting.{loss_fault, convert_fault, converted, output_after_conversion}
use Rattle.model.proofs.Parsed.{old_form, wide_form, Agreed, agreed_limits, parsed_form}
use Rattle.model.proofs.Converted.{convert_refused, convert_read, loss_exactly, read_departures, all_widen}
use Rattle.model.proofs.Outcomes.{judged_err, judgements}

-- ---- what a reader's answer says of the reading
module _ {A : Type 0} where
  pub reading_refused : (x : Reading A) {f : Fault} → outcome_of x ≡ Err f → x ≡ refused f
  reading_refused (got a q) h = impossible cc
  reading_refused (refused g) h = cc

  pub reading_got : (x : Reading A) {a : A} → outcome_of x ≡ Ok a → (q : ℕ) × (x ≡ got a q)
  reading_got (got a q) h = (q, cc)
  reading_got (refused g) h = impossible cc

-- ---- what the converter answers, and the output afterwards
module _ (from to : Form) (s out : List ℕ) where
  -- the bytes cannot be read
  module _ (f : Fault) (h : outcome_of (parse_as from s) ≡ Err f) where
    pub answer_refused : converted from to s (length out) ≡ Err f
    answer_refused = (convert_refused from to s (reading_refused (parse_as from s) h)).0 (length out)

    pub output_refused : output_after_conversion from to s out ≡ out
    output_refused = (convert_refused from to s (reading_refused (parse_as from s) h)).1 out

  module _ (c : Case) (read : outcome_of (parse_as from s) ≡ Ok c) where
    -- something is lost
    module _ (f : Fault) (j : judged (loss_fault from to c) ≡ Err f) where
      pub answer_lost : converted from to s (length out) ≡ Err f
      unfolding convert_fault told
      answer_lost =
          let h = judged_err (loss_fault from to c) f j in
          (convert_read from to s (reading_got (parse_as from s) read).1).0 (length out) ∙ rw h

      pub output_lost : output_after_conversion from to s out ≡ out
      unfolding convert_fault output_after
      output_lost =
          let h = judged_err (loss_fault from to c) f j in
          (convert_read from to s (reading_got (parse_as from s) read).1).1 out ∙ rw h

    -- nothing is: the writer's own faults are none but 14
    module _ (agreed : Agreed from) (h : loss_fault from to c ≡ none) where
      sound : form_fault to c ≡ none
      sound = let (q, e) = reading_got (parse_as from s) read in (loss_exactly from to c (parsed_form (agreed_limits agreed) s c q e)).0 h

      pub answer_written : converted from to s (length out) ≡ told (write_fault to c (length out)) (packed_as to c)
      unfolding convert_fault write_fault
      answer_written = (convert_read from to s (reading_got (parse_as from s) read).1).0 (length out) ∙ rw (sound, h)

      pub output_written : output_after_conversion from to s out ≡ output_after (write_fault to c (length out)) (packed_as to c) out
      unfolding convert_fault write_fault
      output_written = (convert_read from to s (reading_got (parse_as from s) read).1).1 out ∙ rw (sound, h)

-- ---- a case that was read
module _ {f : Form} (agreed : Agreed f) (s : List ℕ) {c : Case} (read : outcome_of (parse_as f s) ≡ Ok c) where
  pub departures_read : Departures c.n
  departures_read = let (q, e) = reading_got (parse_as f s) read in read_departures agreed s c q e

  -- goes into the wide form
  pub widens : loss_fault f wide c ≡ none
  widens = let (q, e) = reading_got (parse_as f s) read in all_widen agreed s c q e

pub ruleset givens = (
  answer_refused,
  output_refused,
  answer_lost,
  output_lost,
  answer_written,
  output_written,
  departures_read,
  widens,
  old_form,
  wide_form,
  judgements,
)
