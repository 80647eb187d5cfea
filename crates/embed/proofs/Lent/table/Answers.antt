use Rattle.std.proofs.Common.{◌≡◌, refl, length, arith}
use Rattle.std.proofs.Math.Seq.{length-take-le}
use Rattle.std.specs.Prelude.{Option, None}
use Rattle.ints.specs.declared.Seconds.{Seconds}
use Rattle.model.specs.Sizes.{most_times, most_bounds}
use Rattle.model.specs.Lists.{tabulate}
use Rattle.embed.proofs.Arrays.{filled_more, filled_front}
use Rattle.embed.proofs.Lent.table.Goals as goal

pub loop-k-init : goal.loop-k-init
unfolding tabulate
loop-k-init c = refl

pub loop-k-preserved : goal.loop-k-preserved
loop-k-preserved c =
    let l = c.loop-k in
    rw c.slot_at.ensures (filled_more _ 0 l.time-items l.k l.k (omega arith) (omega arith) l.invariant)

pub returns : goal.returns
returns c =
    let l = c.loop-k in
    let whole : length l.time-items ≡ most_times = omega (arith, length-take-le {A = Option Seconds}) in
    let all : l.k ≡ most_times = omega (arith, length-take-le {A = Option Seconds}) in
    filled_front None most_bounds most_times 0 _ l.time-items whole (rw all at l.invariant)
