-- The row is filled as far as the loop has come.
use Rattle.model.specs.Matrix.{diagonal}
use Rattle.memory.specs.Matrices.{RowFilled}
use Rattle.zones.proofs.open_row.Given as goal

abbrev pub invariant-loop-j : goal.invariant-loop-j
invariant-loop-j g l = RowFilled l.n (g.T.Stored.bounds_in l.fn.zone) (g.T.Stored.bounds_in l.zone) (diagonal l.i) l.i l.j
