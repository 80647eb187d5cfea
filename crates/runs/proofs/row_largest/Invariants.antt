-- The latest of the sums so far.
use Rattle.std.proofs.Common.{◌≡◌, ◌+◌, length}
use Rattle.model.specs.Faults.{time_of}
use Rattle.model.proofs.MaxPlus.{latest_of}
use Rattle.runs.specs.Steps.{values}
use Rattle.runs.proofs.Laws.{sums}
use Rattle.runs.proofs.row_largest.Given as goal

abbrev pub invariant-loop-entry : goal.invariant-loop-entry
invariant-loop-entry l = time_of l.latest ≡ latest_of (length l.yielded) (sums l.n l.factor l.table (values l.times) (l.row + 1))
