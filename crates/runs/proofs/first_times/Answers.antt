-- The first times, then zeros.
use Rattle.std.proofs.Common.{arith}
use Rattle.runs.proofs.Laws.{copied}
use Rattle.runs.proofs.first_times.Goals as goal

pub returns : goal.returns
returns c = rw c.copy_from_slice.ensures.after (copied c.args.n c.args.start (omega arith))
