-- The converter of packed cases, request [8]: what is read in one form is written in another, where that loses nothing.
use Rattle.std.specs.Prelude.{Result, Err, ℕ, ◌+◌, ◌≡◌, List, ◌++◌, length}
use Rattle.std.proofs.Math.Option.{Option}
use Rattle.model.specs.declared.Limit.{Limit}
use Rattle.model.specs.declared.Case.{Case}
use Rattle.model.specs.declared.Form.{Form}
use Rattle.model.specs.declared.Fault.{Fault}
use Rattle.model.specs.Lists.{or_else}
use Rattle.model.specs.Faults.{Entry, mark_fault, fault_along, too_many}
use Rattle.model.specs.Packed.{got, refused, bound_kind, parse_as}
use Rattle.model.specs.Writing.{entry_bits, head_bits, table_bits, all_bounds, packed_as, room_for, told, output_after}

-- the place behind a bound whose field starts at p
abbrev pub behind : Form → ℕ → Entry Limit → ℕ
behind f p e = p + length (entry_bits (bound_kind f) e)

-- the place of the first bound
abbrev pub bounds_place : Form → Case → ℕ
bounds_place f c = length (head_bits f c.n c.horizon.0 ++ table_bits c)

-- the first bound whose mark the form to has no place for, at its place in the form from
abbrev pub marks_lost : Form → Form → Case → Option Fault
marks_lost from to c = fault_along (behind from) (mark_fault to) (bounds_place from c) (all_bounds c)

-- what the form to has no place for: n, at its place in the form from; then a mark
unfoldable pub loss_fault : Form → Form → Case → Option Fault
loss_fault from to c = or_else (too_many to from.lead c) (marks_lost from to c)

-- then 14
unfoldable pub convert_fault : Form → Form → Case → ℕ → Option Fault
convert_fault from to c size = or_else (loss_fault from to c) (room_for (packed_as to c) size)

-- what the converter answers on the bytes s, for an output of this length; the faults of reading come first
unfoldable pub converted : Form → Form → List ℕ → ℕ → Result ℕ Fault
converted from to s size = elim (parse_as from s) [ refused f ↦ Err f | got c q ↦ told (convert_fault from to c size) (packed_as to c) ]

-- the output afterwards
unfoldable pub output_after_conversion : Form → Form → List ℕ → List ℕ → List ℕ
output_after_conversion from to s out =
    elim (parse_as from s) [ refused f ↦ out | got c q ↦ output_after (convert_fault from to c (length out)) (packed_as to c) out ]

-- what converting gives: the answer and the output afterwards
pub record ConvertGiven (from to : Form) (s out : List ℕ) (r : Result ℕ Fault) (after : List ℕ) : Type 0 where
  pub answer : r ≡ converted from to s (length out)
  pub output : after ≡ output_after_conversion from to s out
