use Rattle.std.proofs.Common.{arith}
use native.Mathlib.Nat.{add-mul}
use Rattle.std.proofs.lemmas.Result.{err_from_is_err_and}
use Rattle.packed.proofs.Laws.{room_more, rows_more, rows_stop}
use Rattle.packed.proofs.Cursor.table.Goals as goal

pub returns-in_err-self : goal.returns-in_err-self
returns-in_err-self c =
    let l = c.loop-i in
    let n = c.args.n in
    let h = c.loop-i-test.true in
    let p = err_from_is_err_and c.from_residual.result c.from_residual.ensures.1 in
    let next = add-mul l.i 1 n in
    let within = room_more l.i n n h in
    rw (p.1, p.2) (rows_stop n l.i l.times h l.invariant.0 l.invariant.1 _ _ (omega arith) (omega arith) _ c.in_err-self.ensures)

pub loop-i-preserved : goal.loop-i-preserved
loop-i-preserved c =
    let l = c.loop-i in
    rows_more c.args.n l.i l.times c.loop-i-test.true l.invariant.0 l.invariant.1 _ _ (omega arith) (omega arith) _ c.row.auto.times c.in_ok-self.ensures
