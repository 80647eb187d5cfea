use Rattle.std.proofs.Common.{refl, ◌+◌, arith, length-set}
use Rattle.std.proofs.lemmas.Grind.{take-set_at}
use Rattle.std.proofs.lemmas.Result.{err_from_is_err_and}
use Rattle.packed.proofs.Laws.{entries_more, entries_stop}
use Rattle.packed.proofs.Cursor.entries.Goals as goal

pub returns-in_err-place : goal.returns-in_err-place
returns-in_err-place g c =
    let p = err_from_is_err_and c.from_residual.result c.from_residual.ensures.1 in
    rw (p.1, p.2) (entries_stop g.E.Entry.kind _ _ c.loop-place.invariant.1 _ (omega arith) _ c.in_err-place.ensures)

pub loop-place-preserved : goal.loop-place-preserved
loop-place-preserved g c =
    let l = c.loop-place in
    let e = take-set_at l.place-items l.place-index (l.place-index + 1) c.in_ok-place.field-0-0 refl (omega arith) in
    (simp length-set l.invariant.0, rw e (entries_more g.E.Entry.kind _ _ l.invariant.1 _ c.in_ok-place.ensures))
