use Rattle.std.proofs.Common.{Err, ◌+◌}
use Rattle.std.proofs.lemmas.Result.{err_from_is_err_and}
use Rattle.judge.proofs.Laws.{passed_more, passed_refused}
use Rattle.judge.proofs.first_fault.Goals as goal

pub returns-in_err-judge : goal.returns-in_err-judge
returns-in_err-judge g c = λ said says.
    let p = err_from_is_err_and c.from_residual.result c.from_residual.ensures.1 in
    let x = c.index-entries-i.result in
    let told = says x (c.args.first + c.loop-i.i) (Err c.in_err-judge.field-0.0) c.in_err-judge.ensures in
    rw (p.1, p.2) (passed_refused (c.loop-i.invariant said says) x c.loop-i-test.true c.index-entries-i.is told)

pub loop-i-preserved : goal.loop-i-preserved
loop-i-preserved g c = λ said says.
    passed_more (c.loop-i.invariant said says) _ c.loop-i-test.true c.index-entries-i.is (says _ _ _ c.in_ok-judge.ensures)
