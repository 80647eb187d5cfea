-- A blank way leaves the row, and so does one that is no tighter than the bound there: the zone is closed.
use Rattle.memory.proofs.Relaxing.{row_left, row_implied}
use Rattle.zones.proofs.across_row.Goals as goal

pub returns-in_default : goal.returns-in_default
returns-in_default g c = rw c.in_default.is (row_left _ _ _ _)

pub returns-then-implies : goal.returns-then-implies
returns-then-implies g c =
    let le = rw c.bound_at.ensures.is at (c.implies.ensures c.if-implies.true) in
    rw c.in-Some.is (row_implied (rw c.in-Some.is at c.requires) le)
