-- The writer of packed cases, requests [1] and [7]: each form the other way round. Bits are listed in file order, each 0 or 1.
use Rattle.std.specs.Prelude.{Result, Ok, Err, ℕ, ◌+◌, ◌-◌, ◌*◌, ◌/◌, ◌%◌, ◌^◌, ◌≤◌, ◌≡◌, cond, length, get_or, take, drop, ltb}
use mathlib.Core.List.{List, [], ◌∷◌, ◌++◌, flat_map}
use Rattle.std.proofs.Math.Option.{Option, none, some}
use Rattle.model.specs.declared.Limit.{Limit}
use Rattle.model.specs.declared.Case.{Case}
use Rattle.model.specs.declared.Form.{Form}
use Rattle.model.specs.declared.Fault.{Fault}
use Rattle.model.specs.declared.Fault.TheVariants as fault
use Rattle.model.specs.Sizes.{table_size, pattern_size, horizon_width}
use Rattle.model.specs.Lists.{tabulate, when, or_else}
use Rattle.model.specs.Faults.{Entry, case_fault, form_fault}
use Rattle.model.specs.Packed.{num_of, Kind, time_kind, bound_kind, case_of}

-- ---- bits and bytes
-- the w bits of v, the most significant first
unfoldable pub field_bits : ℕ → ℕ → List ℕ
field_bits w v = tabulate w 0 (λ j. v / 2 ^ (w - 1 - j) % 2)

-- eight bits to a byte; zero bits after the last one up to a whole byte, and no byte more
unfoldable pub bytes_of : List ℕ → List ℕ
bytes_of bs = tabulate ((length bs + 7) / 8) 0 (λ i. num_of (λ q. get_or bs q 0) (8 * i) 8)

-- ---- entries
-- a presence bit, then the value if it is 1
unfoldable pub entry_bits : {A : Type 0} → Kind A → A → List ℕ
entry_bits k e = cond (k.has e) (1 ∷ field_bits k.width (k.raw e)) (0 ∷ [])

-- one entry after the other
unfoldable pub entries_bits : {A : Type 0} → Kind A → List A → List ℕ
entries_bits k es = flat_map (entry_bits k) es

-- ---- the case
-- the bounds of the start, then those of the target
abbrev pub all_bounds : Case → List (Entry Limit)
all_bounds c = take (pattern_size c.n) c.start ++ take (pattern_size c.n) c.target

-- the fields in front: zero bits; n; N - 1
abbrev pub head_bits : Form → ℕ → ℕ → List ℕ
head_bits f n h = field_bits f.lead 0 ++ field_bits f.digits n ++ field_bits horizon_width (h - 1)

-- A row by row
abbrev pub table_bits : Case → List ℕ
table_bits c = entries_bits time_kind (take (table_size c.n) c.times)

-- then start and target
unfoldable pub case_bits : Form → Case → List ℕ
case_bits f c = head_bits f c.n c.horizon.0 ++ table_bits c ++ entries_bits (bound_kind f) (all_bounds c)

-- the packed case
unfoldable pub packed_as : Form → Case → List ℕ
packed_as f c = bytes_of (case_bits f c)

-- the case without what document 01 ignores: entries beyond n
unfoldable pub tidied : Case → Case
tidied c =
    let size = pattern_size c.n in
    case_of c.n c.horizon.0 (take (table_size c.n) c.times) (take size c.start) (take size c.target)

-- its arrays are long enough for n, as those of the code are
pub record Whole (c : Case) : Type 0 where
  pub times : table_size c.n ≤ length c.times
  pub start : pattern_size c.n ≤ length c.start
  pub target : pattern_size c.n ≤ length c.target

-- ---- what a writer answers, and what the output holds afterwards
-- fault 14: an output of this length is too short for the bytes
unfoldable pub room_for : List ℕ → ℕ → Option Fault
room_for bytes size = when (ltb size (length bytes)) (fault.Output (length bytes))

-- the first fault of writing a case in a form: the case for the form, then the length of the output
unfoldable pub write_fault : Form → Case → ℕ → Option Fault
write_fault f c size = or_else (form_fault f c) (room_for (packed_as f c) size)

-- the number of bytes, if there is no fault
unfoldable pub told : Option Fault → List ℕ → Result ℕ Fault
told (some f) bytes = Err f
told none bytes = Ok (length bytes)

-- the bytes, and what stood in the output behind them; on a fault the output as it was
unfoldable pub output_after : Option Fault → List ℕ → List ℕ → List ℕ
output_after (some f) bytes out = out
output_after none bytes out = bytes ++ drop (length bytes) out

-- what writing a case in a form gives: the answer, the output afterwards, and what a proof that reads the bytes back needs to know of the case
pub record WriteGiven (f : Form) (c : Case) (out : List ℕ) (r : Result ℕ Fault) (after : List ℕ) : Type 0 where
  pub answer : r ≡ told (write_fault f c (length out)) (packed_as f c)
  pub output : after ≡ output_after (write_fault f c (length out)) (packed_as f c) out
  pub whole : case_fault c ≡ none → Whole c
