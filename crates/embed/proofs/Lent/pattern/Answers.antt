use Rattle.std.proofs.Common.{◌≡◌, ◌+◌, refl, arith, length-set}
use Rattle.std.specs.Prelude.{None}
use Rattle.model.specs.Sizes.{most_bounds}
use Rattle.model.specs.Lists.{tabulate}
use Rattle.embed.proofs.Arrays.{filled_more, filled_whole}
use Rattle.embed.proofs.Lent.pattern.Goals as goal

pub loop-k-init : goal.loop-k-init
unfolding tabulate
loop-k-init c = record { long = omega arith; holds = refl }

pub loop-k-preserved : goal.loop-k-preserved
loop-k-preserved c =
    let l = c.loop-k in
    record {
      long = rw length-set l.invariant.long;
      holds = rw c.limit_at.ensures (filled_more _ c.args.first l.bound-items l.k (c.args.first + l.k) (omega arith) (omega arith) l.invariant.holds);
    }

pub returns : goal.returns
returns c =
    let l = c.loop-k in
    let all : l.k ≡ most_bounds = omega arith in
    filled_whole None most_bounds most_bounds c.args.first _ l.bound-items l.invariant.long (rw all at l.invariant.holds) (omega arith)
