-- The sum of the numbers, and 1 more where the last bits of both are set.
use Rattle.memory.proofs.InHalves.{sum_told}
use Rattle.zones.proofs.Step.{narrow_sums}
use Rattle.zones.proofs.narrow_sum.Goals as goal

pub returns : goal.returns
returns c = let t = narrow_sums c.args.a c.args.b c.requires.0 c.requires.1 in sum_told c.args.a c.args.b c.ranges.a c.ranges.b t.0 t.1
