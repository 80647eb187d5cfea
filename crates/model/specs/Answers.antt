-- What the library answers, and what the workspace holds afterwards.
use Rattle.std.specs.Prelude.{Result, Ok, Err, ℕ, ℤ, pos, List, map, length, replicate, take}
use Rattle.std.proofs.Math.Option.{Option, none, some}
use Rattle.ints.specs.declared.Seconds.{Seconds}
use Rattle.ints.specs.declared.Cycle.{Cycle}
use Rattle.model.specs.declared.Case.{Case}
use Rattle.model.specs.declared.Fault.{Fault}
use Rattle.model.specs.declared.Fault.TheVariants as fault
use Rattle.model.specs.declared.Verdict.{Verdict}
use Rattle.model.specs.declared.Verdict.TheVariants as verdict
use Rattle.model.specs.declared.StartTimes.{StartTimes}
use Rattle.model.specs.declared.Numbers.{Numbers}
use Rattle.model.specs.Sizes.{most_departures}
use Rattle.model.specs.Lists.{padded}
use Rattle.model.specs.Network.{in_parts, cycles}
use Rattle.model.specs.Search.{Outcome, reached, clear, never, table_full, outcome}
use Rattle.model.specs.Faults.{number, returned, network, call_fault, run_fault}
use Rattle.model.specs.Packed.{Reading, got, refused, parse}

abbrev pub seconds : ℤ → Seconds
seconds z = record { 0 = z }

abbrev pub cycle_number : ℕ → Cycle
cycle_number k = record { 0 = k }

-- times of departures 1 to n, and 0 in the places beyond
abbrev pub all_times : List ℤ → List Seconds
all_times xs = padded (seconds (pos 0)) most_departures (map seconds xs)

-- a start in parts, of which parts make a second
abbrev pub start_of : ℕ → List ℤ → StartTimes
start_of parts xs = record { parts = parts; times = all_times xs }

-- an answer as numbers: its kind, document 01's number of the fault, 0 where there is none, and the number that goes with it: the cycle k, the
-- horizon N, 0 for never, what the fault returns
abbrev pub fault_numbers : Fault → Numbers
fault_numbers f = record { kind = 0; fault = number f; value = returned f }

abbrev pub verdict_numbers : Verdict → Numbers
verdict_numbers (verdict.Reached k s) = record { kind = 1; fault = 0; value = k.0 }
verdict_numbers (verdict.Clear k) = record { kind = 2; fault = 0; value = k.0 }
verdict_numbers verdict.Never = record { kind = 3; fault = 0; value = 0 }

abbrev pub numbers_of : Result Verdict Fault → Numbers
numbers_of (Ok v) = verdict_numbers v
numbers_of (Err f) = fault_numbers f

abbrev pub answered : Outcome → Result Verdict Fault
answered (reached k parts xs) = Ok (verdict.Reached (cycle_number k) (start_of parts xs))
answered (clear k) = Ok (verdict.Clear (cycle_number k))
answered never = Ok verdict.Never
answered (table_full k) = Err (fault.TableFull (cycle_number k))

-- the verdict on an unpacked case, with Z and the length of the workspace
unfoldable pub answer : Case → ℕ → ℕ → Result Verdict Fault
answer c capacity size = elim (call_fault c capacity size) [ some f ↦ Err f | none ↦ answered (outcome (network c) capacity) ]

-- the workspace afterwards: as it was where a fault from 1 to 10 is met, else all zero
abbrev pub left : Option Fault → List ℤ → List ℤ
left (some f) work = work
left none work = replicate (length work) (pos 0)

unfoldable pub workspace_after : Case → ℕ → List ℤ → List ℤ
workspace_after c capacity work = left (call_fault c capacity (length work)) work

-- the same on a packed case; one that can be read meets none of the faults 2 to 6
unfoldable pub answer_packed : List ℕ → ℕ → ℕ → Result Verdict Fault
answer_packed s capacity size = elim (parse s) [ refused f ↦ Err f | got c q ↦ answer c capacity size ]

unfoldable pub workspace_after_packed : List ℕ → ℕ → List ℤ → List ℤ
workspace_after_packed s capacity work = elim (parse s) [ refused f ↦ work | got c q ↦ workspace_after c capacity work ]

-- what a reading gives: the value, or the first fault
abbrev pub outcome_of : {A : Type 0} → Reading A → Result A Fault
outcome_of (got a q) = Ok a
outcome_of (refused f) = Err f

-- what a judge says: the fault, if there is one
abbrev pub judged : Option Fault → Result (Unit {0}) Fault
judged (some f) = Err f
judged none = Ok tt

-- a run: the times of cycle k from the start times xs on
abbrev pub ran : Option Fault → List ℤ → Result (List Seconds) Fault
ran (some f) ts = Err f
ran none ts = Ok (all_times ts)

unfoldable pub run : Case → List Seconds → ℕ → Result (List Seconds) Fault
run c xs k = ran (run_fault c xs k) (cycles c.n (network c).times k (map (λ x. x.0) (take c.n xs)))

-- the same in parts, of which parts make a second: the start times are in parts, and so are those of cycle k
unfoldable pub run_in_parts : ℕ → Case → List Seconds → ℕ → Result (List Seconds) Fault
run_in_parts parts c xs k = ran (run_fault c xs k) (cycles c.n (in_parts parts (network c)).times k (map (λ x. x.0) (take c.n xs)))
