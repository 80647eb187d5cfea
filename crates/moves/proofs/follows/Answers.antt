-- Both are no bound, or the halves of one are so much more.
use borrow.Author.Tests.{eqb-true}
use mathlib.Core.Path.{sym, ◌∙◌}
use mir.Syntax.{w32}
use mir.ValLaws.{to_z-of_z}
use Rattle.std.proofs.lemmas.Bool.Decides.{Decides-int_eq}
use Rattle.model.specs.Bound.{plus}
use Rattle.moves.proofs.Numbers.{none_there, halves_there, twice_more}
use Rattle.moves.proofs.follows.Goals as goal

pub returns-then-a-eq-NONE : goal.returns-then-a-eq-NONE
unfolding plus
returns-then-a-eq-NONE c e = rw (none_there _ c.ranges.a c.if-a-eq-NONE.true, none_there _ c.ranges.b (eqb-true _ _ e))

pub returns : goal.returns
returns c e =
    let a = c.args in
    let sum = rw (to_z-of_z w32 _ c.ranges.a) at c.sum.ensures in
    let read = c.from.ensures ∙ to_z-of_z w32 _ c.ranges.b in
    let same = (Decides-int_eq c.sum.result.0 c.from.result.0).0 (sym c.eq.ensures ∙ e) in
    rw (halves_there a.b c.if-b-eq-NONE.false, halves_there a.a c.if-a-eq-NONE.false, ← read, ← same, sum)
    (twice_more a.a a.by.0)
