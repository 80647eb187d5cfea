use Rattle.convert.proofs.Laws.{Looking}
use Rattle.convert.proofs.marks.Given as goal

abbrev pub invariant-loop-bound : goal.invariant-loop-bound
invariant-loop-bound l = Looking l.bounds l.start l.bound-index l.at
