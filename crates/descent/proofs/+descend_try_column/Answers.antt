-- By recursion over the rows: a row is a loop over its columns, and a column goes on with the row below.
use Rattle.std.proofs.Common.{sym, ◌∙◌, ◌≤◌, ◌<◌, arith}
use Rattle.descent.proofs.Descending.{going_ready, going_on}
use Rattle.descent.proofs.Descending.{column_found, column_below}
use Rattle.descent.proofs.+descend_try_column.Goals as goal

-- ---- a row
pub descend-try_column-requires : goal.descend-try_column-requires
descend-try_column-requires t c =
    (omega (arith, c.decreases), going_ready c.requires _ c.loop-s.invariant (omega arith))

pub descend-loop-s-preserved : goal.descend-loop-s-preserved
descend-loop-s-preserved t c =
    going_on c.requires _ c.loop-s.invariant (omega arith) c.try_column.ensures c.in_ok-left.was
    c.try_column.auto.sets c.try_column.auto.cols

-- ---- a column
pub try_column-returns-then-c-target : goal.try_column-returns-then-c-target
try_column-returns-then-c-target t c =
    let a_step : 1 ≤ c.args.steps = omega (arith, c.if-steps-eq0.false) in
    column_found c.requires (sym c.holds_time.ensures ∙ c.if-not-holds_time.false) a_step c.build.ensures c.if-not-build.false c.if-c-target.true

pub try_column-returns : goal.try_column-returns
try_column-returns t c =
    let a_step : 1 ≤ c.args.steps = omega (arith, c.if-steps-eq0.false) in
    let below : c.args.c.row < c.args.target.n = omega (arith, c.if-c-target.false, c.requires.row.to_n) in
    column_below c.requires (sym c.holds_time.ensures ∙ c.if-not-holds_time.false) a_step c.build.ensures c.if-not-build.false below
    c.build.auto.sets c.descend.ensures
