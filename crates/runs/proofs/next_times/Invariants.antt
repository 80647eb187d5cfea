-- The times of the rows so far.
use Rattle.std.proofs.Common.{◌≡◌, map, take, length}
use Rattle.model.specs.Lists.{tabulate}
use Rattle.model.specs.Network.{clocked, next}
use Rattle.model.specs.Answers.{seconds}
use Rattle.runs.specs.Steps.{values, table_in}
use Rattle.runs.proofs.next_times.Given as goal

abbrev pub invariant-loop-row : goal.invariant-loop-row
invariant-loop-row l =
    let n = length l.times in
    take l.row l.time-items ≡ map seconds (tabulate l.row 1 (next n (table_in l.factor n l.table) (clocked (values l.times))))
