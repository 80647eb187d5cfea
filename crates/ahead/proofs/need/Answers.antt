-- Row by row, from the last one down to the clock's.
use native.Mathlib.Omega.{arith}
use Rattle.ahead.specs.Needs.{need}
use Rattle.ahead.proofs.Tabled.{least_start, least_step, least_done}
use Rattle.ahead.proofs.need.Goals as goal

pub loop-o-init : goal.loop-o-init
loop-o-init c = least_start _ _

pub loop-o-preserved : goal.loop-o-preserved
loop-o-preserved c = rw c.tighter-least.ensures (least_step _ c.loop-o.invariant (omega arith) c.asked.ensures.small c.asked.ensures.is)

pub returns : goal.returns
unfolding need
returns c = record { is = least_done c.loop-o.invariant (omega arith); small = c.loop-o.invariant.small }
