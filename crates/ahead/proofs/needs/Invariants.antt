-- The rows are filled as far as the loop has come.
use Rattle.memory.specs.Numbers as Memory
use Rattle.memory.specs.Numbers.{times_in}
use Rattle.memory.specs.Wide.{bounds_in}
use Rattle.memory.proofs.Fills.{Filled}
use Rattle.ahead.specs.Needs.{need}
use Rattle.ahead.proofs.needs.Given as goal

abbrev pub invariant-loop-r : goal.invariant-loop-r
invariant-loop-r l =
    let t = l.target in
    Filled t.n (bounds_in l.fn.table) (bounds_in l.table) (need t.n (times_in t.times.now) (Memory.bounds_in t.zone.now)) l.r
