-- By the test.
use native.Mathlib.Omega.{arith}
use borrow.Author.Tests.{eq-eqb, ne_eqb}
use lib.IntN.{pos}
use Rattle.model.specs.Matrix.{diagonal}
use Rattle.model.specs.Conditions.{free, sized}
use Rattle.memory.specs.Numbers.{of_halves}
use Rattle.memory.proofs.diagonal.Goals as goal

pub returns-then-i-j : goal.returns-then-i-j
unfolding diagonal of_halves
returns-then-i-j c = (rw (eq-eqb _ _ c.if-i-j.true), sized {z = pos 0} (omega arith))

pub returns-else-i-j : goal.returns-else-i-j
unfolding diagonal
returns-else-i-j c = (rw (ne_eqb _ _ c.if-i-j.false), free)
