-- The case is read, so it is answered.
use Rattle.std.proofs.Common.{sym}
use Rattle.verdict.proofs.Answered.{read}
use Rattle.verdict.proofs.verdict_packed.Goals as goal

pub returns : goal.returns
returns c = read c.args.capacity c.args.work.now c.args.bytes.now _ (sym c.in_ok-case.ensures) c.verdict.ensures
