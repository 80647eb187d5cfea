-- By the row and the column.
use native.Mathlib.Omega.{arith}
use Rattle.memory.specs.Numbers.{times_in}
use Rattle.ahead.proofs.Tabled.{clock_read, blank_read, row_time_lem}
use Rattle.ahead.proofs.row_time.Goals as goal
use Rattle.ahead.proofs.row_time.Goals.{else-o-gt0-via-then-o-gt0+else-j-gt0, else-o-gt0-via-else-o-gt0}

pub returns-then-j-gt0 : goal.returns-then-j-gt0
returns-then-j-gt0 c =
    rw (row_time_lem c.args.n (times_in c.args.times.now) c.args.o c.args.j (omega arith) (omega arith)) c.time_at.ensures

pub returns-then-o-j : goal.returns-then-o-j
returns-then-o-j c =
    clock_read _ _ _ _
    (λ h k. elim c.else-o-gt0.branch [
      | else-o-gt0-via-then-o-gt0+else-j-gt0 w ↦ omega arith
      | else-o-gt0-via-else-o-gt0 w ↦ omega arith
    ])
    c.if-o-j.true

pub returns-else-o-j : goal.returns-else-o-j
returns-else-o-j c =
    blank_read _ _ _ _
    (λ h k. elim c.else-o-gt0.branch [
      | else-o-gt0-via-then-o-gt0+else-j-gt0 w ↦ omega arith
      | else-o-gt0-via-else-o-gt0 w ↦ omega arith
    ])
    c.if-o-j.false
