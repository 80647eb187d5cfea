-- The numbers before place p are changed, those behind are as they were.
use Rattle.moves.specs.Moving.{Shiftable}
use Rattle.moves.proofs.Numbered.{Shifting}
use Rattle.moves.proofs.move_numbers.Given as goal

abbrev pub invariant-loop-p : goal.invariant-loop-p
invariant-loop-p l = (able : Shiftable l.n l.by.0 l.fn.numbers) × Shifting able l.numbers l.p
