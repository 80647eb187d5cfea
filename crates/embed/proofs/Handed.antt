-- What is handed back in the cases that are told apart.
use Prim.Native.Nat.{ℕ}
use mathlib.Core.Path.{◌≡◌, refl}
use mathlib.Core.Bool.{Bool, true, false, cond}
use mathlib.Core.List.{List, []}
use Rattle.ints.specs.declared.Seconds.{Seconds}
use Rattle.model.specs.declared.Case.{Case}
use Rattle.model.specs.Sizes.{most_departures}
use Rattle.model.specs.Search.{parts_of}
use Rattle.model.specs.Faults.{network, outside}
use Rattle.model.specs.Answers.{outcome_of, run_in_parts}
use Rattle.model.specs.Packed.{Reading, got, refused, case_of}
use Rattle.std.specs.Result.{result_unwrap_or}
use Rattle.judge.specs.Judgement.{start_parts}
use Rattle.runs.proofs.Laws.{fault_departures, run_refused}
use Rattle.embed.specs.Numbers.{run_answer, run_parts_answer, read_case}

-- where the number of departures is refused, so is the run, and no parts are told
pub parts_told : (c : Case) (xs : List Seconds) (k : ℕ) → run_answer (run_in_parts (parts_of (network c)) c xs k) k (start_parts c) ≡ run_parts_answer c xs k
unfolding start_parts run_parts_answer
parts_told c xs k = go (outside 1 most_departures c.n) refl
  where
    go : (t : Bool) → outside 1 most_departures c.n ≡ t →
        let parts = parts_of (network c) in
        run_answer (run_in_parts parts c xs k) k (cond t 0 parts) ≡ run_answer (run_in_parts parts c xs k) k parts
    go false e = refl
    go true e = rw (run_refused (parts_of (network c)) c xs k (fault_departures c xs k e)) refl

-- the case that was read, or the empty one
pub case_or : (r : Reading Case) → result_unwrap_or (outcome_of r) (case_of 0 0 [] [] []) ≡ read_case r
case_or (got c q) = refl
case_or (refused f) = refl
