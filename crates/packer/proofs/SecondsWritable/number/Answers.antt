-- A time in its limit has half of its width.
use Rattle.std.proofs.Common.{arith}
use Rattle.packer.proofs.Parts.{time_half}
use Rattle.packer.proofs.SecondsWritable.number.Goals as goal

pub raw-requires : goal.raw-requires
raw-requires c = (omega arith, time_half c.args.self c.requires.1)
