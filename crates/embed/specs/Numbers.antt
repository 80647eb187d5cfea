-- Answers and unpacked cases as numbers and lent arrays.
use Rattle.std.specs.Prelude.{Result, Ok, Err, Some, None, is_some, ℕ, ◌+◌, ◌≡◌, Bool, not, cond, eqb, ℤ, pos}
use Rattle.std.specs.Prelude.{List, [], ◌++◌, map, length, get_or, set, take, replicate}
use Rattle.model.specs.Sizes.{most_times, most_bounds}
use Rattle.ints.specs.declared.Seconds.{Seconds}
use Rattle.model.specs.declared.Limit.{Limit}
use Rattle.model.specs.declared.Case.{Case}
use Rattle.model.specs.declared.Form.{Form}
use Rattle.model.specs.declared.Fault.{Fault}
use Rattle.model.specs.declared.Verdict.{Verdict}
use Rattle.model.specs.declared.Verdict.TheVariants as verdict
use Rattle.model.specs.declared.StartTimes.{StartTimes}
use Rattle.model.specs.declared.Numbers.{Numbers}
use Rattle.model.specs.Lists.{tabulate}
use Rattle.model.specs.Search.{parts_of}
use Rattle.model.specs.Faults.{Entry, marked, unmarked, network}
use Rattle.model.specs.Packed.{Reading, got, refused, case_of}
use Rattle.model.specs.Answers.{seconds, cycle_number, start_of, fault_numbers, numbers_of, run_in_parts}
use Rattle.model.specs.Writing.{packed_as, write_fault, told, output_after}
use Rattle.model.specs.Converting.{converted, output_after_conversion}
use Rattle.model.specs.Changes.{time_place, commit, case_after}
use Rattle.decisions.specs.declared.Finding.{Finding}
use Rattle.decisions.specs.declared.Finding.TheVariants as finding
use Rattle.decisions.specs.Decide.{finding_numbers}

-- ---- answers
-- a run as an answer: cycle k is reached, with the times of that cycle in parts
abbrev pub run_answer : Result (List Seconds) Fault → ℕ → ℕ → Result Verdict Fault
run_answer (Ok times) k parts = Ok (verdict.Reached (cycle_number k) (record { parts = parts; times = times }))
run_answer (Err f) k parts = Err f

-- a run in the parts that a start of the case is in
unfoldable pub run_parts_answer : Case → List Seconds → ℕ → Result Verdict Fault
run_parts_answer c xs k = let parts = parts_of (network c) in run_answer (run_in_parts parts c xs k) k parts

-- times as plain numbers, and start times given so
abbrev pub plain_times : List Seconds → List ℤ
plain_times xs = map (λ x. x.0) xs

abbrev pub start_times : List ℤ → List Seconds
start_times xs = map seconds xs

-- the start that is handed back: all 0, in 0 parts, unless a cycle is reached
abbrev pub no_start : StartTimes
no_start = start_of 0 []

abbrev pub verdict_start : Verdict → StartTimes
verdict_start (verdict.Reached k s) = s
verdict_start (verdict.Clear k) = no_start
verdict_start verdict.Never = no_start

abbrev pub answer_start : Result Verdict Fault → StartTimes
answer_start (Ok v) = verdict_start v
answer_start (Err f) = no_start

abbrev pub finding_start : Finding → StartTimes
finding_start (finding.Settled v) = verdict_start v
finding_start (finding.Undecided k) = no_start

abbrev pub decided_start : Result Finding Fault → StartTimes
decided_start (Ok f) = finding_start f
decided_start (Err f) = no_start

abbrev pub decided_numbers : Result Finding Fault → Numbers
decided_numbers (Ok f) = finding_numbers f
decided_numbers (Err f) = fault_numbers f

-- three numbers as they are handed back: one returned, two lent
pub record Handed (v : Numbers) (returned first second : ℕ) : Type 0 where
  pub kind : returned ≡ v.kind
  pub fault : first ≡ v.fault
  pub value : second ≡ v.value

-- with times, which are lent
pub record HandedTimes (v : Numbers) (xs : List Seconds) (returned first second : ℕ) (lent : List ℤ) : Type 0 where
  pub numbers : Handed v returned first second
  pub times : lent ≡ plain_times xs

-- and with the parts of a second that the times are in
pub record HandedInParts (v : Numbers) (s : StartTimes) (returned first second third : ℕ) (lent : List ℤ) : Type 0 where
  pub told : HandedTimes v s.times returned first second lent
  pub parts : third ≡ s.parts

-- an answer, without its parts and with them
abbrev pub Told : Result Verdict Fault → ℕ → ℕ → ℕ → List ℤ → Type 0
Told r = HandedTimes (numbers_of r) (answer_start r).times

abbrev pub ToldInParts : Result Verdict Fault → ℕ → ℕ → ℕ → ℕ → List ℤ → Type 0
ToldInParts r = HandedInParts (numbers_of r) (answer_start r)

-- an exact answer, likewise
abbrev pub ToldExactly : Result Finding Fault → ℕ → ℕ → ℕ → ℕ → List ℤ → Type 0
ToldExactly r = HandedInParts (decided_numbers r) (decided_start r)

-- a count that is told, as of the bytes that a writer put: 4 and the count, or a refusal
abbrev pub written_numbers : Result ℕ Fault → Numbers
written_numbers (Ok count) = record { kind = 4; fault = 0; value = count }
written_numbers (Err f) = fault_numbers f

-- a result with a count in place of its value
abbrev pub with_count : {A : Type 0} → Result A Fault → ℕ → Result ℕ Fault
with_count (Ok a) count = Ok count
with_count (Err f) count = Err f

-- ---- entries
-- an entry of two numbers: it is there where the first is not 0
abbrev pub slot_of : ℕ → ℤ → Entry Seconds
slot_of has value = cond (eqb has 0) None (Some (seconds value))

-- an entry of a case in two lent arrays
unfoldable pub slot_at : List ℕ → List ℤ → ℕ → Entry Seconds
slot_at present values k = slot_of (get_or present k 0) (get_or values k (pos 0))

-- with the mark of a third: it is strict where that is not 0
abbrev pub with_mark : Bool → Entry Seconds → Entry Limit
with_mark strict None = None
with_mark strict (Some x) = Some (record { strict = strict; value = x })

unfoldable pub limit_at : List ℕ → List ℕ → List ℤ → ℕ → Entry Limit
limit_at present strict values k = with_mark (not (eqb (get_or strict k 0) 0)) (slot_at present values k)

-- where the entries of a case stand: the table's from 0 on, then those of the start pattern, then those of the target pattern; and how many there are
abbrev pub start_place : ℕ
start_place = most_times

abbrev pub target_place : ℕ
target_place = start_place + most_bounds

abbrev pub case_entries : ℕ
case_entries = target_place + most_bounds

-- the case of two numbers and three lent arrays; a time has no mark
unfoldable pub case_in : ℕ → ℕ → List ℕ → List ℕ → List ℤ → Case
case_in n h present strict values =
    let bound = limit_at present strict values in
    case_of n h (tabulate most_times 0 (slot_at present values)) (tabulate most_bounds start_place bound) (tabulate most_bounds target_place bound)

-- no entry is marked
abbrev pub no_marks : List ℕ
no_marks = replicate case_entries 0

-- as which number a presence or a mark is handed back, and the number of an entry, 0 where it is absent
abbrev pub flag : Bool → ℕ
flag b = cond b 1 0

abbrev pub entry_number : Entry Limit → ℤ
entry_number None = pos 0
entry_number (Some e) = e.value.0

-- the entries of a case in their places
abbrev pub entries_of : List (Entry Seconds) → List (Entry Limit) → List (Entry Limit) → List (Entry Limit)
entries_of times start target = (map unmarked (take most_times times) ++ start) ++ target

-- entries handed back in three arrays
pub record EntriesHanded (es : List (Entry Limit)) (present strict : List ℕ) (values : List ℤ) : Type 0 where
  pub presence : present ≡ map (λ e. flag (is_some e)) es
  pub marks : strict ≡ map (λ e. flag (marked e)) es
  pub numbers : values ≡ map entry_number es

-- the case that was read: an empty one where it is refused
abbrev pub read_case : Reading Case → Case
read_case (got c q) = c
read_case (refused f) = case_of 0 0 [] [] []

-- a case handed back: its two numbers and its entries
pub record CaseHanded (c : Case) (n horizon : ℕ) (present strict : List ℕ) (values : List ℤ) : Type 0 where
  pub departures : n ≡ c.n
  pub cycles : horizon ≡ c.horizon.0
  pub entries : EntriesHanded (entries_of c.times c.start c.target) present strict values

-- a case written in a form: the numbers handed back, and the output afterwards
pub record WrittenHanded (f : Form) (c : Case) (out : List ℕ) (returned first second : ℕ) (after : List ℕ) : Type 0 where
  pub numbers : Handed (written_numbers (told (write_fault f c (length out)) (packed_as f c))) returned first second
  pub output : after ≡ output_after (write_fault f c (length out)) (packed_as f c) out

-- a packed case converted from one form to another, likewise
pub record ConvertedHanded (from to : Form) (s out : List ℕ) (returned first second : ℕ) (after : List ℕ) : Type 0 where
  pub numbers : Handed (written_numbers (converted from to s (length out))) returned first second
  pub output : after ≡ output_after_conversion from to s out

-- an array after a change of one place: as it was where that is refused
unfoldable pub stored : {A X : Type 0} → Result A Fault → ℕ → X → List X → List X
stored (Ok a) k x xs = set xs k x
stored (Err f) k x xs = xs

-- a change committed to two of three arrays: the numbers handed back, the arrays afterwards, and the case that all three then hold
pub record CommitHanded (n h : ℕ) (present strict : List ℕ) (values : List ℤ) (row column has : ℕ) (time : ℤ)
    (returned first second : ℕ) (flags : List ℕ) (times : List ℤ) : Type 0 where
  pub numbers : Handed (written_numbers (with_count (commit (case_in n h present strict values) row column (slot_of has time)) 0)) returned first second
  pub present_after : flags ≡ stored (commit (case_in n h present strict values) row column (slot_of has time)) (time_place n row column)
      (flag (not (eqb has 0))) present
  pub values_after : times ≡ stored (commit (case_in n h present strict values) row column (slot_of has time)) (time_place n row column) time values
  pub stands : case_in n h flags strict times ≡ case_after (case_in n h present strict values) row column (slot_of has time)
