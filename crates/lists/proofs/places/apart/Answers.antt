-- The two numbers at place p.
use borrow.Author.Tests.{eqb-false, not-true}
use mathlib.Core.Path.{ap}
use mir.Syntax.{w32}
use mir.Val.{of_z}
use Rattle.lists.proofs.places.Zones.{one_other}
use Rattle.lists.proofs.places.apart.Goals as goal

pub returns-then-p-zone : goal.returns-then-p-zone
returns-then-p-zone c e =
    one_other c.args.list.now c.args.k c.args.zone.now c.requires c.args.p c.if-p-zone.true (λ same. eqb-false _ _ (not-true _ e) (ap (of_z w32) same))
