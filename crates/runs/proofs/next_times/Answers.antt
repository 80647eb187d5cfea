-- One row more, then the array.
use Rattle.std.proofs.Common.{◌≡◌, refl, length, arith}
use Rattle.std.proofs.Math.Seq.{length-take-le}
use Rattle.ints.specs.declared.Seconds.{Seconds}
use Rattle.model.specs.Lists.{tabulate}
use Rattle.model.specs.Network.{cycle}
use Rattle.runs.proofs.Laws.{computed_more, computed}
use Rattle.runs.proofs.next_times.Goals as goal

pub loop-row-init : goal.loop-row-init
unfolding tabulate
loop-row-init c = refl

pub loop-row-preserved : goal.loop-row-preserved
loop-row-preserved c =
    rw c.row_largest.ensures (computed_more _ c.loop-row.time-items c.loop-row.row (omega arith) c.loop-row.invariant)

pub returns : goal.returns
unfolding cycle
returns c =
    let n = length c.args.times.now in
    let whole : length c.loop-row.time-items ≡ n = omega (arith, length-take-le {A = Seconds}) in
    let all : c.loop-row.row ≡ n = omega (arith, length-take-le {A = Seconds}) in
    computed n _ c.loop-row.time-items whole (rw all at c.loop-row.invariant)
