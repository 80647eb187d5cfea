-- By recursion over the rows: a row is a loop over its columns, and a column goes on with the row below.
use Rattle.std.proofs.Common.{arith, sym, ◌∙◌}
use Rattle.model.proofs.Selections.{time_held}
use Rattle.lists.proofs.Taking.{taken_unfit, taken_last, taken_none, child_ready, shut_ready, taken_shut, taken_below, taken_noted}
use Rattle.lists.proofs.Going.{entry_ready, going_start, going_ready, going_past, going_done, going_on, going_full}
use Rattle.lists.proofs.+select_take_column.Goals as goal
use Rattle.lists.proofs.+select_take_column.Goals.{select-then-holds_time+in_ok-take_column, select-else-holds_time}

-- ---- a row
pub select-loop-s-init : goal.select-loop-s-init
select-loop-s-init t c = going_start c.requires

pub select-holds_time-requires : goal.select-holds_time-requires
select-holds_time-requires t c = entry_ready c.requires c.loop-s.s (omega arith) (omega arith)

pub select-take_column-requires : goal.select-take_column-requires
select-take_column-requires t c =
    let column = time_held c.loop-s.s (sym c.holds_time.ensures ∙ c.if-holds_time.true) (omega arith) (omega arith) in
    (omega (arith, c.decreases), going_ready c.requires c.loop-s.invariant column)

pub select-returns-in_err-take_column : goal.select-returns-in_err-take_column
select-returns-in_err-take_column t c =
    let column = time_held c.loop-s.s (sym c.holds_time.ensures ∙ c.if-holds_time.true) (omega arith) (omega arith) in
    rw c.from_residual.ensures (going_full c.requires c.loop-s.invariant column c.in_err-take_column.ensures)

pub select-loop-s-preserved : goal.select-loop-s-preserved
select-loop-s-preserved t c =
    let g = c.loop-s.invariant in
    elim c.if-holds_time.branch [
      | select-then-holds_time+in_ok-take_column w ↦
          let column = time_held c.loop-s.s (sym c.holds_time.ensures ∙ w.if-holds_time.true) (omega arith) (omega arith) in
          rw (w.list-is, w.seen-is, w.path-is)
          (going_on c.requires g column w.in_ok-take_column.ensures w.take_column.auto.list w.take_column.auto.seen)
      | select-else-holds_time w ↦
          rw (w.list-is, w.seen-is, w.path-is)
          (going_past c.requires g (omega arith) (sym c.holds_time.ensures ∙ w.if-holds_time.false))
    ]

pub select-returns : goal.select-returns
select-returns t c = going_done c.requires c.loop-s.invariant (omega arith)

-- ---- a column
pub take_column-returns-then-unfit : goal.take_column-returns-then-unfit
take_column-returns-then-unfit t c = taken_unfit c.requires (c.unfit.ensures c.if-unfit.true)

pub take_column-returns-then-i-pull : goal.take_column-returns-then-i-pull
take_column-returns-then-i-pull t c =
    let q = rw c.if-i-pull.true at c.requires in
    rw c.if-i-pull.true (taken_last q (rw c.if-i-pull.true at c.put_last.ensures) c.put_last.auto.seen)

pub take_column-returns-then-not-fresh : goal.take_column-returns-then-not-fresh
take_column-returns-then-not-fresh t c = taken_none c.requires c.fresh.auto.seen c.fresh.ensures c.if-not-fresh.true

pub take_column-shut-requires : goal.take_column-shut-requires
take_column-shut-requires t c = shut_ready c.requires c.fresh.auto.seen c.fresh.ensures c.if-not-fresh.false

pub take_column-returns-then-shut : goal.take_column-returns-then-shut
take_column-returns-then-shut t c =
    taken_shut c.requires c.fresh.auto.seen c.fresh.ensures c.if-not-fresh.false (c.shut.ensures c.if-shut.true)

pub take_column-select-requires : goal.take_column-select-requires
take_column-select-requires t c = (
  omega (arith, c.decreases, c.if-i-pull.false, c.requires.select.ready.row),
  child_ready c.requires c.fresh.auto.seen c.fresh.ensures c.if-not-fresh.false c.if-i-pull.false,
)

pub take_column-returns-in_err-select : goal.take_column-returns-in_err-select
take_column-returns-in_err-select t c =
    rw c.from_residual.ensures (taken_below c.requires c.fresh.auto.seen c.fresh.ensures c.if-not-fresh.false c.in_err-select.ensures)

pub take_column-returns : goal.take_column-returns
take_column-returns t c =
    rw (c.note.ensures.0, c.note.ensures.1, c.note.ensures.2)
    (taken_noted c.requires c.fresh.auto.seen c.fresh.ensures c.if-not-fresh.false c.in_ok-select.ensures)
