-- Cycle after cycle, until one is met, the steps are used up or a power repeats.
use Rattle.decide.proofs.Cycling.{Going}
use Rattle.decide.proofs.search.Given as goal

abbrev pub invariant-loop-k : goal.invariant-loop-k
invariant-loop-k l = Going l.task l.from l.sets l.powers l.left l.k
