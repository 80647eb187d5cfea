-- The clock's row is row 0.
use native.Mathlib.Omega.{arith}
use mathlib.Core.Path.{refl, sym}
use Rattle.moves.specs.Moving.{clock_by}
use Rattle.moves.proofs.Numbers.{on_time}
use Rattle.moves.proofs.later.Goals as goal

pub returns-then-i-eq0 : goal.returns-then-i-eq0
unfolding clock_by
returns-then-i-eq0 c = rw c.if-i-eq0.true refl

pub returns : goal.returns
returns c = sym (on_time _ _ (omega (arith, c.if-i-eq0.false)))
