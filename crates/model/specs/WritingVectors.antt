-- Cases that are written: one list, one claim.
use Rattle.std.specs.Prelude.{Result, Ok, Err, Some, None, ℕ, ℤ, pos, negsuc, ◌≡◌, refl, true, length}
use mathlib.Core.List.{List, [], ◌∷◌}
use Rattle.ints.specs.declared.Seconds.{Seconds}
use Rattle.model.specs.declared.Limit.{Limit}
use Rattle.model.specs.declared.Case.{Case}
use Rattle.model.specs.declared.Form.{Form}
use Rattle.model.specs.declared.Fault.{Fault}
use Rattle.model.specs.declared.Fault.TheVariants as fault
use Rattle.model.specs.Sizes.{most_bits, most_bytes}
use Rattle.model.specs.Forms.{old, wide}
use Rattle.model.specs.Lists.{tabulate, any_of}
use Rattle.model.specs.Network.{is_time, regular}
use Rattle.model.specs.Faults as F
use Rattle.model.specs.Faults.{Entry, present, unmarked}
use Rattle.model.specs.Packed.{num_of, raw_of, case_of}
use Rattle.model.specs.Writing as W
use Rattle.model.specs.Writing.{packed_as, write_fault, told, output_after}

-- a form, a case, the output before, what the writer answers, the output afterwards
pub data Vector : Type 0 where
  writes : Form → Case → List ℕ → Result ℕ Fault → List ℕ → Vector

abbrev pub Right : Vector → Type 0
Right (writes f c before answer after) =
    let fault = write_fault f c (length before) in
    ◌≡◌ {A = Result ℕ Fault × List ℕ} (told fault (packed_as f c), output_after fault (packed_as f c) before) (answer, after)

abbrev pub AllRight : List Vector → Type 0
AllRight [] = Unit {0}
AllRight (v ∷ vs) = Right v × AllRight vs

abbrev pub free : Entry Limit
free = None

-- strict, of this value
abbrev pub below : ℤ → Entry Limit
below z = Some (record { strict = true; value = record { 0 = z } })

-- n = 1, N = 1, a free target; the two bounds of the start are -x(1) ≤ low and x(1) ≤ high
abbrev pub one : Entry Seconds → Entry Limit → Entry Limit → Case
one time low high = case_of 1 1 (time ∷ []) (low ∷ high ∷ []) (free ∷ free ∷ [])

-- a case of n departures and h cycles without entries
abbrev pub bare : ℕ → ℕ → Case
bare n h = case_of n h [] [] []

-- document 01's four bytes, with a byte behind them, and without; an output one byte short;
-- the time -60 and x(1) ≤ -3, with three bits of fill; a fault of the case comes before the length of the output;
-- a strict bound, at its place; 6 first on the same bound, 16 first on one before; 16 for n over 7, after 2 and before 3
abbrev pub old_vectors : List Vector
old_vectors =
    writes old (one (present (pos 60)) free free) (1 ∷ 2 ∷ 3 ∷ 4 ∷ 5 ∷ []) (Ok 4) (0x20 ∷ 0x40 ∷ 0x03 ∷ 0xC0 ∷ 5 ∷ [])
    ∷ writes old (one (present (pos 60)) free free) (1 ∷ 2 ∷ 3 ∷ 4 ∷ []) (Ok 4) (0x20 ∷ 0x40 ∷ 0x03 ∷ 0xC0 ∷ [])
    ∷ writes old (one (present (pos 60)) free free) (1 ∷ 2 ∷ 3 ∷ []) (Err (fault.Output 4)) (1 ∷ 2 ∷ 3 ∷ [])
    ∷ writes old (one (present (negsuc 59)) free (unmarked (present (negsuc 2)))) (1 ∷ 2 ∷ 3 ∷ 4 ∷ 5 ∷ 6 ∷ 7 ∷ []) (Ok 7)
    (0x20 ∷ 0x7F ∷ 0xFC ∷ 0x47 ∷ 0xFF ∷ 0xFF ∷ 0xA0 ∷ [])
    ∷ writes old (one None free free) [] (Err (fault.EmptyRow 0)) []
    ∷ writes old (one (present (pos 60)) free (below (pos 5))) [] (Err (fault.Form 1)) []
    ∷ writes old (one (present (pos 60)) free (below (pos 1000001))) [] (Err (fault.Bound 1)) []
    ∷ writes old (one (present (pos 60)) (below (pos 5)) (unmarked (present (pos 1000001)))) [] (Err (fault.Form 0)) []
    ∷ writes old (bare 8 0) [] (Err (fault.Form 0)) []
    ∷ writes old (bare 7 0) [] (Err fault.Horizon) []
    ∷ writes old (bare 16 0) [] (Err fault.Departures) []
    ∷ []

-- the same case, with a byte behind, and without; the time -60 and x(1) < -3; 6 of a strict bound; no 16 for n over 7
abbrev pub wide_vectors : List Vector
wide_vectors =
    writes wide (one (present (pos 60)) free free) (1 ∷ 2 ∷ 3 ∷ 4 ∷ 5 ∷ 6 ∷ []) (Ok 5) (0x02 ∷ 0x04 ∷ 0x00 ∷ 0x3C ∷ 0x00 ∷ 6 ∷ [])
    ∷ writes wide (one (present (pos 60)) free free) (1 ∷ 2 ∷ 3 ∷ 4 ∷ 5 ∷ []) (Ok 5) (0x02 ∷ 0x04 ∷ 0x00 ∷ 0x3C ∷ 0x00 ∷ [])
    ∷ writes wide (one (present (negsuc 59)) free (below (negsuc 2))) (1 ∷ 2 ∷ 3 ∷ 4 ∷ 5 ∷ 6 ∷ 7 ∷ 8 ∷ []) (Ok 8)
    (0x02 ∷ 0x07 ∷ 0xFF ∷ 0xC4 ∷ 0x7F ∷ 0xFF ∷ 0xFD ∷ 0x00 ∷ [])
    ∷ writes wide (one (present (pos 60)) free (below (pos 1000001))) [] (Err (fault.Bound 1)) []
    ∷ writes wide (bare 8 0) [] (Err fault.Horizon) []
    ∷ []

-- request [7]'s longest case
pub longest : (most_bits ≡ 15328) × (most_bytes ≡ 1916)
longest = (refl, refl)

pub all_right : AllRight old_vectors × AllRight wide_vectors
unfolding tabulate any_of mathlib.Core.List.flat_map is_time regular F.time_of F.beyond F.over F.bound_fault F.bound_fault_in F.entry_fault
    F.rows_fault F.outside
    F.patterns_fault F.form_fault num_of raw_of W.field_bits W.bytes_of W.entry_bits W.entries_bits W.case_bits packed_as W.room_for
    write_fault told output_after
all_right = (
  (refl, (refl, (refl, (refl, (refl, (refl, (refl, (refl, (refl, (refl, (refl, tt))))))))))),
  (refl, (refl, (refl, (refl, (refl, tt))))),
)
