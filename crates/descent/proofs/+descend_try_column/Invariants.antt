-- Each row's loop goes on from what its columns gave; a row is above each of its columns, and a column above the row below.
use Rattle.std.proofs.Common.{ℕ, suc, ◌+◌, ◌-◌}
use Rattle.descent.proofs.Descending.{Going}
use Rattle.descent.proofs.+descend_try_column.Given as goal

-- the rows that are left, twice: a row is above each of its columns
abbrev rows : ℕ → ℕ → ℕ
rows n i = (suc n - i) + (suc n - i)

abbrev pub decreases-descend : goal.decreases-descend
decreases-descend l = suc (rows l.target.n l.i)

abbrev pub decreases-try_column : goal.decreases-try_column
decreases-try_column l = rows l.target.n l.c.row

abbrev pub invariant-descend-loop-s : goal.invariant-descend-loop-s
invariant-descend-loop-s l = Going l.target l.fn.sets l.fn.cols l.i l.steps l.sets l.cols l.left l.s
