-- By the test, and no other number is large.
use mathlib.Core.Path.{sym, ◌∙◌}
use mir.Syntax.{w64}
use mir.ValLaws.{to_z-of_z}
use borrow.Author.Tests.{ltb-false}
use Rattle.model.specs.Conditions.{free}
use Rattle.memory.specs.Wide.{bound_in}
use Rattle.memory.proofs.InHalves.{size_halves}
use Rattle.memory.proofs.I64Stored.bound.Goals as goal

pub returns-then-beyond : goal.returns-then-beyond
unfolding bound_in
returns-then-beyond c =
    let e = rw (to_z-of_z w64 c.args.self c.ranges.self) at (sym c.beyond.ensures ∙ c.if-beyond.true) in
    record { is = rw e; small = free }

pub returns : goal.returns
unfolding bound_in
returns c =
    let z = c.args.self in
    let e = rw (to_z-of_z w64 z c.ranges.self) at (sym c.beyond.ensures ∙ c.if-beyond.false) in
    rw (to_z-of_z w64 z c.ranges.self) (record { is = rw e; small = size_halves z (ltb-false _ _ e) })
