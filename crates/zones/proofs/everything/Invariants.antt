-- The rows are those of the zone of all times as far as the loop has come.
use Rattle.model.specs.Matrix.{diagonal}
use Rattle.memory.proofs.Fills.{Filled}
use Rattle.zones.proofs.everything.Given as goal

abbrev pub invariant-loop-i : goal.invariant-loop-i
invariant-loop-i g l = Filled l.n (g.T.Stored.bounds_in l.fn.zone) (g.T.Stored.bounds_in l.zone) diagonal l.i
