-- The list of cycle at is at base.
use Rattle.search.proofs.MovingOn.{Going}
use Rattle.search.proofs.move_on.Given as goal

abbrev pub invariant-loop-at : goal.invariant-loop-at
invariant-loop-at l = Going l.task.n l.task.parts l.list.base l.list.count l.by.0 l.fn.work l.task.start.now l.fn.k.0 l.task.cycles.0 l.work l.at
