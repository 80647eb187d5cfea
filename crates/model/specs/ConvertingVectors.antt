-- Cases that are converted: one list, one claim.
use Rattle.std.specs.Prelude.{Result, Ok, Err, ℕ, ◌≡◌, refl, length, replicate}
use mathlib.Core.List.{List, [], ◌∷◌, ◌++◌}
use Rattle.model.specs.declared.Form.{Form}
use Rattle.model.specs.declared.Fault.{Fault}
use Rattle.model.specs.declared.Fault.TheVariants as fault
use Rattle.model.specs.Forms.{old, wide}
use Rattle.model.specs.Lists.{tabulate, any_of}
use Rattle.model.specs.Network.{is_time, regular}
use Rattle.model.specs.Faults as F
use Rattle.model.specs.Packed as P
use Rattle.model.specs.Writing as W
use Rattle.model.specs.Converting.{loss_fault, convert_fault, converted, output_after_conversion}

-- from a form to a form: the input, the output before, what the converter answers, the output afterwards
pub data Vector : Type 0 where
  converts : Form → Form → List ℕ → List ℕ → Result ℕ Fault → List ℕ → Vector

abbrev pub Right : Vector → Type 0
Right (converts from to s before answer after) =
    ◌≡◌ {A = Result ℕ Fault × List ℕ} (converted from to s (length before), output_after_conversion from to s before) (answer, after)

abbrev pub AllRight : List Vector → Type 0
AllRight [] = Unit {0}
AllRight (v ∷ vs) = Right v × AllRight vs

-- n = 1, N = 1, the time 60, no bounds: document 01's four bytes, and five in the wide form
abbrev pub old_bytes : List ℕ
old_bytes = 0x20 ∷ 0x40 ∷ 0x03 ∷ 0xC0 ∷ []

abbrev pub wide_bytes : List ℕ
wide_bytes = 0x02 ∷ 0x04 ∷ 0x00 ∷ 0x3C ∷ 0x00 ∷ []

-- the time -60 and x(1) < -3; the time 60, x(1) ≤ 5 in the start and x(1) < 5 in the target
abbrev pub strict_bytes : List ℕ
strict_bytes = 0x02 ∷ 0x07 ∷ 0xFF ∷ 0xC4 ∷ 0x7F ∷ 0xFF ∷ 0xFD ∷ 0x00 ∷ []

abbrev pub later_bytes : List ℕ
later_bytes = 0x02 ∷ 0x04 ∷ 0x00 ∷ 0x3C ∷ 0x40 ∷ 0x00 ∷ 0x05 ∷ 0x60 ∷ 0x00 ∷ 0x05 ∷ []

-- n = 8, in each row the time 0 in front, the first bound of the start -x(1) < 5
abbrev pub eight_bytes : List ℕ
eight_bytes =
    (0x10 ∷ 0x04 ∷ 0x00 ∷ 0x00 ∷ 0x01 ∷ 0x00 ∷ 0x00 ∷ 0x00 ∷ 0x40 ∷ 0x00 ∷ 0x00 ∷ 0x10 ∷ 0x00 ∷ 0x00 ∷ 0x04 ∷ 0x00 ∷ 0x00 ∷ 0x01 ∷ 0x00 ∷ 0x00 ∷ 0x00 ∷ [])
    ++ (0x40 ∷ 0x00 ∷ 0x00 ∷ 0x10 ∷ 0x00 ∷ 0x00 ∷ 0x06 ∷ 0x00 ∷ 0x00 ∷ 0x50 ∷ []) ++ replicate 18 0

-- there and back, with a byte behind; an output one byte short; input in the other form; a strict bound, at its presence bit, before 14;
-- n, before a strict bound; the case ends, before all else
abbrev pub vectors : List Vector
vectors =
    converts old wide old_bytes (1 ∷ 2 ∷ 3 ∷ 4 ∷ 5 ∷ 6 ∷ []) (Ok 5) (0x02 ∷ 0x04 ∷ 0x00 ∷ 0x3C ∷ 0x00 ∷ 6 ∷ [])
    ∷ converts wide old wide_bytes (1 ∷ 2 ∷ 3 ∷ 4 ∷ 5 ∷ []) (Ok 4) (0x20 ∷ 0x40 ∷ 0x03 ∷ 0xC0 ∷ 5 ∷ [])
    ∷ converts old wide old_bytes (1 ∷ 2 ∷ 3 ∷ 4 ∷ []) (Err (fault.Output 5)) (1 ∷ 2 ∷ 3 ∷ 4 ∷ [])
    ∷ converts wide old wide_bytes (1 ∷ 2 ∷ 3 ∷ []) (Err (fault.Output 4)) (1 ∷ 2 ∷ 3 ∷ [])
    ∷ converts old wide wide_bytes (1 ∷ 2 ∷ []) (Err fault.Departures) (1 ∷ 2 ∷ [])
    ∷ converts wide old old_bytes (1 ∷ 2 ∷ []) (Err fault.Departures) (1 ∷ 2 ∷ [])
    ∷ converts wide old strict_bytes (1 ∷ 2 ∷ []) (Err (fault.Form 33)) (1 ∷ 2 ∷ [])
    ∷ converts wide old later_bytes [] (Err (fault.Form 57)) []
    ∷ converts wide old eight_bytes [] (Err (fault.Form 3)) []
    ∷ converts wide old (0x02 ∷ []) [] (Err (fault.CaseEnds 7)) []
    ∷ []

pub all_right : AllRight vectors
unfolding tabulate any_of mathlib.Core.List.flat_map is_time regular F.time_of F.beyond F.over F.bound_fault F.bound_fault_in F.entry_fault
    P.bit_at P.num_of P.bits P.signed P.raw_of P.entry P.entries P.rows P.zeros P.fill P.body P.parse_as W.field_bits W.bytes_of W.entry_bits
    W.entries_bits W.case_bits W.packed_as W.room_for W.told W.output_after loss_fault convert_fault converted output_after_conversion
all_right = (refl, (refl, (refl, (refl, (refl, (refl, (refl, (refl, (refl, (refl, tt))))))))))
