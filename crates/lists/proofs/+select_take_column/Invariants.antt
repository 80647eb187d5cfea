-- Each row's loop goes on from what its columns gave; a row is above each of its columns, and a column above the row below.
use Rattle.std.proofs.Common.{ℕ, suc, ◌+◌, ◌-◌}
use Rattle.lists.proofs.Going.{Going}
use Rattle.lists.proofs.+select_take_column.Given as goal

-- the rows that are left, twice: a row is above each of its columns
abbrev steps : ℕ → ℕ → ℕ
steps n i = (suc n - i) + (suc n - i)

abbrev pub decreases-select : goal.decreases-select
decreases-select l = suc (steps l.pull.target.n l.i)

abbrev pub decreases-take_column : goal.decreases-take_column
decreases-take_column l = steps l.pull.target.n l.choice.row

abbrev pub invariant-select-loop-s : goal.invariant-select-loop-s
invariant-select-loop-s l =
    Going l.pull.target.n l.fn.path.kept l.fn.list l.pull.target.times.now l.pull.target.zone.now l.fn.seen l.fn.path.counts l.fn.path.cols l.i l.pull.capacity
    l.list l.seen l.path.counts l.path.cols l.path.kept l.s
