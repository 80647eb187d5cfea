-- Nothing speaks against the call, so it is searched.
use Rattle.std.proofs.Common.{sym}
use Rattle.model.proofs.Outcomes.{judged_ok}
use Rattle.verdict.proofs.Answered.{searched}
use Rattle.verdict.proofs.verdict.Goals as goal

pub returns : goal.returns
returns c =
    let ok = judged_ok _ _ (sym c.in_ok-call_fault.ensures) in
    searched c.args.capacity c.args.work.now c.args.case ok c.searched.ensures.answer c.searched.ensures.workspace
