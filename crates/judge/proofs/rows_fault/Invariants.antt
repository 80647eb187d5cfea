-- The rows passed so far have no fault, nor have the entries passed of the row, and some is whether one of these is a time.
use Rattle.std.specs.Prelude.{◌≡◌, Ok}
use Rattle.judge.proofs.Laws.{RowsPassed, InRow}
use Rattle.judge.proofs.rows_fault.Given as goal

abbrev pub invariant-loop-column : goal.invariant-loop-column
invariant-loop-column l = (l.judged ≡ Ok tt) × InRow l.n l.times l.row l.column l.some

abbrev pub invariant-rows : goal.invariant-rows
invariant-rows l = (l.judged ≡ Ok tt) × RowsPassed l.n l.times l.row
