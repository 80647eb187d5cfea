-- By the test, and no other number is large.
use native.Mathlib.Omega.{arith}
use mathlib.Core.Path.{refl, sym, ◌∙◌}
use mir.Syntax.{w64}
use mir.ValLaws.{to_z-of_z}
use borrow.Author.Tests.{ltb-false}
use Rattle.model.specs.Network.{secs_of}
use Rattle.model.specs.Faults.{time_of}
use Rattle.memory.specs.Wide.{time_in}
use Rattle.memory.proofs.I64Stored.time.Goals as goal

pub returns-then-beyond : goal.returns-then-beyond
unfolding time_in time_of secs_of
returns-then-beyond c =
    let e = rw (to_z-of_z w64 c.args.self c.ranges.self) at (sym c.beyond.ensures ∙ c.if-beyond.true) in
    rw e (record { is = refl; small = omega arith })

pub returns : goal.returns
unfolding time_in time_of secs_of
returns c =
    let z = c.args.self in
    let e = rw (to_z-of_z w64 z c.ranges.self) at (sym c.beyond.ensures ∙ c.if-beyond.false) in
    rw (to_z-of_z w64 z c.ranges.self, e) (record { is = refl; small = ltb-false _ _ e })
