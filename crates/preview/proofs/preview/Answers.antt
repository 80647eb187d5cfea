-- Nothing speaks against the change, so the copy is answered.
use Rattle.std.proofs.Common.{sym}
use Rattle.model.proofs.Outcomes.{judged_ok}
use Rattle.preview.proofs.Answered.{answered}
use Rattle.preview.proofs.preview.Goals as goal

pub returns : goal.returns
returns c =
    let a = c.args in
    let ok = judged_ok _ _ (sym c.in_ok-change_fault.ensures) in
    answered a.case a.row a.column a.time a.capacity a.work.now ok (rw c.change-copy.ensures at c.verdict.ensures)
