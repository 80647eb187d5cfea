-- The row is filled as far as the loop has come.
use Rattle.memory.specs.Numbers as Memory
use Rattle.memory.specs.Numbers.{times_in}
use Rattle.memory.specs.Matrices.{RowFilled}
use Rattle.memory.specs.Wide.{bounds_in}
use Rattle.ahead.specs.Needs.{need}
use Rattle.ahead.proofs.need_row.Given as goal

abbrev pub invariant-loop-j : goal.invariant-loop-j
invariant-loop-j l =
    let t = l.target in
    RowFilled t.n (bounds_in l.fn.table) (bounds_in l.table) (need t.n (times_in t.times.now) (Memory.bounds_in t.zone.now) l.r) l.r l.j
