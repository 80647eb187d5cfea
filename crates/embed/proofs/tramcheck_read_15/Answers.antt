-- The case that was read, or the empty one.
use mathlib.Core.Path.{◌≡◌, ap}
use mathlib.Core.List.{[]}
use Rattle.std.specs.Result.{result_unwrap_or}
use Rattle.model.specs.declared.Case.{Case}
use Rattle.model.specs.Packed.{parse, case_of}
use Rattle.embed.specs.Numbers.{read_case}
use Rattle.embed.proofs.Handed.{case_or}
use Rattle.embed.proofs.tramcheck_read_15.Goals as goal
use Rattle.embed.proofs.tramcheck_read_15.Goals.{in-Ok, in-Err}

pub returns-clause-case_handed : goal.returns-clause-case_handed
returns-clause-case_handed c =
    let or_empty : result_unwrap_or c.read-read.result (case_of 0 0 [] [] []) ≡ read_case (parse c.args.bytes.now)
    = rw c.read-read.ensures (case_or (parse c.args.bytes.now)) in
    let is : c.match-read.case.now ≡ read_case (parse c.args.bytes.now)
    = elim c.match-read.branch [
      | in-Ok w ↦ rw w.case-is (rw w.in-Ok.is at or_empty)
      | in-Err w ↦ rw w.case-is (rw w.in-Err.is at or_empty)
    ] in
    record { departures = ap (λ (c : Case). c.n) is; cycles = ap (λ (c : Case). c.horizon.0) is; entries = rw is at c.hand_entries.ensures }
