-- The test of the bits is that of the number, and a number of 32 bits is small.
use mir.Syntax.{w32, w64}
use mir.ValLaws.{to_z-of_z}
use Rattle.model.specs.Conditions.{free}
use Rattle.memory.specs.Numbers.{bound_in}
use Rattle.memory.proofs.InHalves.{size_halves}
use Rattle.memory.proofs.Numbers.{test_none, test_other, small_read, widened}
use Rattle.memory.proofs.I32Stored.bound.Goals as goal

pub returns-then-self-eq-NONE : goal.returns-then-self-eq-NONE
unfolding bound_in
returns-then-self-eq-NONE c = record { is = rw (test_none c.args.self c.ranges.self c.if-self-eq-NONE.true); small = free }

pub returns : goal.returns
unfolding bound_in
returns c =
    let z = c.args.self in
    rw (to_z-of_z w32 z c.ranges.self, to_z-of_z w64 z (widened z c.ranges.self))
    (record { is = rw (test_other z c.if-self-eq-NONE.false); small = size_halves z (small_read z c.ranges.self) })
