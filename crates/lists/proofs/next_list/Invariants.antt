-- The list with the preimages of zones 0 to k - 1.
use Rattle.lists.proofs.Pulling.{Pulling}
use Rattle.lists.proofs.next_list.Given as goal

abbrev pub invariant-loop-k : goal.invariant-loop-k
invariant-loop-k l = Pulling l.making.n l.making.capacity l.fn.source.count l.fn.source.base l.goal l.making.times.now l.fn.work l.work l.made l.k
