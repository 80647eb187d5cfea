-- Cycle after cycle, until one is met, the steps are used up or a power repeats.
use Rattle.decide.proofs.Cycling.{going_start, going_on}
use Rattle.decide.proofs.search.Goals as goal

pub loop-k-init : goal.loop-k-init
loop-k-init c = going_start c.requires c.copy_from_slice.ensures.after _ c.first-powers.ensures

pub loop-k-preserved : goal.loop-k-preserved
loop-k-preserved c =
    going_on c.requires c.loop-k.invariant c.loop-k-test.true c.next-again.ensures c.table_size-size.ensures c.in-Continue.ensures c.else-task.either
