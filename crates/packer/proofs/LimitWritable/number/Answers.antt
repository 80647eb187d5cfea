-- A bound in its limit has half of its width; the mark's weight stands in front.
use Rattle.std.proofs.Common.{arith}
use Rattle.packer.proofs.Parts.{mark_weight, bound_half, bound_spelt}
use Rattle.packer.proofs.LimitWritable.number.Goals as goal

pub raw-requires : goal.raw-requires
raw-requires c = (omega arith, bound_half c.args.self c.requires.1)

pub returns : goal.returns
returns c = λ form placed. bound_spelt c.args.self placed (rw (mark_weight c.args.self.strict, c.raw.ensures.0))
