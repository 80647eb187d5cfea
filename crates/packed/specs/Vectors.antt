-- Packed cases and what reading them gives, by computation: one list, one claim. The bytes come from encoders written from the documents.
use Rattle.std.specs.Prelude.{ℕ, ◌-◌, ℤ, pos, negsuc, ◌≡◌, refl, List, [], ◌∷◌, ◌++◌, map, true, replicate, Some, None}
use Rattle.ints.specs.declared.Seconds.{Seconds}
use Rattle.model.specs.declared.Limit.{Limit}
use Rattle.model.specs.declared.Case.{Case}
use Rattle.model.specs.declared.Form.{Form}
use Rattle.model.specs.declared.Fault.TheVariants as fault
use Rattle.model.specs.Lists.{any_of}
use Rattle.model.specs.Network.{is_time, regular}
use Rattle.model.specs.Forms.{old, wide}
use Rattle.model.specs.Faults.{Entry, time_of, present, unmarked, beyond, over, bound_fault, bound_fault_in}
use Rattle.model.specs.Packed.{Reading, got, refused, bit_at, num_of, bits, signed, entry, entries, rows, zeros, fill, case_of, body, parse_as, parse}

-- in either form, and in one
pub data Vector : Type 0 where
  reads : List ℕ → Reading Case → Vector
  reads_as : Form → List ℕ → Reading Case → Vector

abbrev pub Right : Vector → Type 0
Right (reads s x) = parse s ≡ x
Right (reads_as f s x) = parse_as f s ≡ x

abbrev pub AllRight : List Vector → Type 0
AllRight [] = Unit {0}
AllRight (v ∷ vs) = Right v × AllRight vs

-- document 01's four bytes: n = 1, N = 1, time 60, no bounds
abbrev pub one : Case
one = case_of 1 1 (present (pos 60) ∷ []) (map unmarked (None ∷ None ∷ [])) (map unmarked (None ∷ None ∷ []))

-- n = 7, N = 64: a time in each row, the ends of the ranges among the values
abbrev pub row_with : ℕ → ℤ → List (Entry Seconds)
row_with k z = replicate k None ++ present z ∷ replicate (6 - k) None

abbrev pub seven : Case
seven =
    case_of 7 64
    (row_with 6 (pos 86400)
    ++ row_with 0 (negsuc 86399)
    ++ row_with 1 (pos 1)
    ++ row_with 2 (negsuc 0)
    ++ row_with 3 (pos 0)
    ++ row_with 4 (pos 3600)
    ++ row_with 5 (pos 86399))
    (map unmarked (present (pos 1000000) ∷ replicate 55 None))
    (map unmarked (replicate 55 None ++ present (negsuc 999999) ∷ []))

abbrev pub old_vectors : List Vector
old_vectors =
    reads [] (refused (fault.CaseEnds 0))
    ∷ reads (0x20 ∷ []) (refused (fault.CaseEnds 3))
    ∷ reads (0x20 ∷ 0x40 ∷ 0x03 ∷ []) (refused (fault.CaseEnds 9))
    ∷ reads (0x20 ∷ 0x55 ∷ 0x18 ∷ 0x10 ∷ []) (refused (fault.Time 9))
    ∷ reads (0x20 ∷ 0x6A ∷ 0xE7 ∷ 0xF0 ∷ []) (refused (fault.Time 9))
    ∷ reads (0x40 ∷ 0x40 ∷ 0x03 ∷ 0xC0 ∷ 0x00 ∷ 0x00 ∷ []) (refused (fault.EmptyRow 29))
    ∷ reads (0x20 ∷ 0x40 ∷ 0x03 ∷ 0xCB ∷ 0xD0 ∷ 0x90 ∷ 0x40 ∷ []) (refused (fault.Bound 28))
    ∷ reads (0x20 ∷ 0x40 ∷ 0x03 ∷ 0xC3 ∷ 0x0B ∷ 0xDB ∷ 0xF0 ∷ []) (refused (fault.Bound 30))
    ∷ reads (0x20 ∷ 0x40 ∷ 0x03 ∷ 0xC4 ∷ 0x00 ∷ 0x00 ∷ 0xA1 ∷ []) (refused (fault.FillBit 55))
    ∷ reads (0x20 ∷ 0x40 ∷ 0x03 ∷ 0xC0 ∷ 0x00 ∷ []) (refused (fault.ExtraByte 32))
    ∷ reads (0x20 ∷ 0x40 ∷ 0x03 ∷ 0xC0 ∷ []) (got one 32)
    ∷ reads (0xFF ∷ 0x81 ∷ 0x54 ∷ 0x60 ∷ 0x35 ∷ 0x74 ∷ 0x00 ∷ 0x08 ∷ 0x00 ∷ 0x02 ∷ 0x03 ∷ 0xFF ∷ 0xFF
    ∷ 0x80 ∷ 0x80 ∷ 0x00 ∷ 0x00 ∷ 0x20 ∷ 0x70 ∷ 0x80 ∷ 0x0A ∷ 0xA2 ∷ 0xFE ∷ 0xBD ∷ 0x09
    ∷ (replicate 14 0x00 ++ 0x0C ∷ 0x2F ∷ 0x70 ∷ 0x00 ∷ [])) (got seven 344)
    ∷ []

-- n = 1, N = 1, time -60, x(1) < -3
abbrev pub strict : Case
strict = case_of 1 1 (present (negsuc 59) ∷ []) (unmarked None ∷ below ∷ []) (map unmarked (None ∷ None ∷ []))
  where
    below : Entry Limit
    below = Some (record { strict = true; value = record { 0 = negsuc 2 } })

-- n is 0; the case ends in N; the case of the four bytes; a strict bound, beyond its limit, without its last byte; each form read as the other
abbrev pub wide_vectors : List Vector
wide_vectors =
    reads (0x00 ∷ []) (refused fault.Departures)
    ∷ reads (0x02 ∷ []) (refused (fault.CaseEnds 7))
    ∷ reads (0x02 ∷ 0x04 ∷ 0x00 ∷ 0x3C ∷ 0x00 ∷ []) (got one 40)
    ∷ reads (0x02 ∷ 0x07 ∷ 0xFF ∷ 0xC4 ∷ 0x7F ∷ 0xFF ∷ 0xFD ∷ 0x00 ∷ []) (got strict 64)
    ∷ reads (0x02 ∷ 0x04 ∷ 0x00 ∷ 0x3C ∷ 0xDE ∷ 0x84 ∷ 0x82 ∷ 0x00 ∷ []) (refused (fault.Bound 32))
    ∷ reads (0x02 ∷ 0x07 ∷ 0xFF ∷ 0xC4 ∷ 0x7F ∷ 0xFF ∷ 0xFD ∷ []) (refused (fault.CaseEnds 56))
    ∷ reads_as wide (0x20 ∷ 0x40 ∷ 0x03 ∷ 0xC0 ∷ []) (refused fault.Departures)
    ∷ reads_as old (0x02 ∷ 0x04 ∷ 0x00 ∷ 0x3C ∷ 0x00 ∷ []) (refused fault.Departures)
    ∷ []

pub all_right : AllRight old_vectors × AllRight wide_vectors
unfolding any_of is_time regular time_of beyond over bound_fault bound_fault_in bit_at num_of bits signed entry entries rows zeros fill body parse_as parse
all_right = (
  (refl, (refl, (refl, (refl, (refl, (refl, (refl, (refl, (refl, (refl, (refl, (refl, tt)))))))))))),
  (refl, (refl, (refl, (refl, (refl, (refl, (refl, (refl, tt)))))))),
)
