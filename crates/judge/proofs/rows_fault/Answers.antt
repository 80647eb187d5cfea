use Rattle.std.proofs.Common.{sym, ◌∙◌}
use Rattle.model.specs.Faults.{over}
use Rattle.judge.proofs.Laws.{row_none, entry_refused, entry_passed, row_empty, row_passed, rows_end}
use Rattle.judge.proofs.rows_fault.Goals as goal

pub loop-column-init : goal.loop-column-init
loop-column-init c = (c.rows.invariant.0, row_none c.rows.invariant.1 c.rows-test.true)

pub loop-column-preserved : goal.loop-column-preserved
unfolding over
loop-column-preserved c =
    let said = sym c.in_default.is ∙ c.within.ensures in
    (c.loop-column.invariant.0, rw c.is_some-some.ensures (entry_passed c.loop-column.invariant.1 c.requires.1 c.loop-column-test.true said))

pub rows-preserved : goal.rows-preserved
rows-preserved c = (c.loop-column.invariant.0, row_passed c.loop-column.invariant.1 c.requires.1 c.loop-column-test.false c.if-not-some.false)

pub returns-after-rows : goal.returns-after-rows
returns-after-rows c = c.rows.invariant.0 ∙ rows_end c.rows.invariant.1 c.rows-test.false

pub returns-in-Err : goal.returns-in-Err
unfolding over
returns-in-Err c = entry_refused c.loop-column.invariant.1 c.requires.1 c.loop-column-test.true (sym c.in-Err.is ∙ c.within.ensures)

pub returns-then-not-some : goal.returns-then-not-some
returns-then-not-some c = row_empty c.loop-column.invariant.1 c.requires.1 c.loop-column-test.false c.if-not-some.true
