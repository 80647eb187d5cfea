-- The row is filled as far as the loop has come.
use Rattle.memory.specs.Numbers.{as_bound}
use Rattle.memory.specs.Matrices.{across, RowFilled}
use Rattle.zones.proofs.across_entries.Given as goal

abbrev pub invariant-loop-j : goal.invariant-loop-j
invariant-loop-j g l =
    let d = g.T.Stored.bounds_in l.fn.zone in RowFilled l.n d (g.T.Stored.bounds_in l.zone) (across l.n d l.i l.b (as_bound l.way)) l.i l.j
