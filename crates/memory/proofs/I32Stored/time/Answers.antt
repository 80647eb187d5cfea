-- The test of the bits is that of the number, and a number of 32 bits is small.
use native.Mathlib.Omega.{arith}
use mathlib.Core.Path.{◌≡◌, refl, ap, ◌∙◌}
use mir.Syntax.{w32}
use mir.ValLaws.{to_z-of_z}
use Rattle.model.specs.Network.{secs, secs_of}
use Rattle.model.specs.Faults.{time_of}
use Rattle.memory.specs.Numbers.{time_in}
use Rattle.memory.proofs.Numbers.{test_none, test_other, small_read}
use Rattle.memory.proofs.I32Stored.time.Goals as goal

pub returns-then-self-eq-NONE : goal.returns-then-self-eq-NONE
unfolding time_in time_of secs_of
returns-then-self-eq-NONE c =
    rw (test_none c.args.self c.ranges.self c.if-self-eq-NONE.true) (record { is = refl; small = omega arith })

pub returns : goal.returns
unfolding time_in time_of secs_of
returns c =
    let z = c.args.self in
    let is : c.from.result.0 ≡ z = c.from.ensures ∙ to_z-of_z w32 z c.ranges.self in
    rw (test_other z c.if-self-eq-NONE.false) (record { is = ap secs is; small = small_read z c.ranges.self })
