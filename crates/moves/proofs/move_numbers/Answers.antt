-- Number by number.
use borrow.Author.Rules.{rules}
use native.Mathlib.Omega.{arith}
use lib.IntN.{pos}
use lib.ListN.{get_or}
use mir.Syntax.{w32}
use mir.Val.{SFits}
use mir.ValLaws.{to_z-of_z}
use Rattle.moves.specs.Moving.{changed}
use Rattle.moves.proofs.Numbered.{shifting_start, shifting_more}
use Rattle.moves.proofs.move_numbers.Goals as goal

pub loop-p-init : goal.loop-p-init
loop-p-init c = (c.requires, shifting_start c.requires)

pub shifted-requires : goal.shifted-requires
unfolding changed
shifted-requires c =
    let i = c.loop-p.invariant in
    let raw : SFits w32 (get_or c.loop-p.numbers c.loop-p.p (pos 0)) = search rules in
    (c.change.ensures.small, rw (to_z-of_z w32 _ raw, i.1.left c.loop-p.p (omega arith), c.change.ensures.is) (i.0.small c.loop-p.p (omega (arith, i.1.long))))

pub loop-p-preserved : goal.loop-p-preserved
unfolding changed
loop-p-preserved c =
    let i = c.loop-p.invariant in
    let raw : SFits w32 (get_or c.loop-p.numbers c.loop-p.p (pos 0)) = search rules in
    let stored : SFits w32 c.shifted.result = search rules in
    let e = rw (to_z-of_z w32 _ raw, i.1.left c.loop-p.p (omega arith), c.change.ensures.is) at c.shifted.ensures in
    (i.0, shifting_more i.0 i.1 (omega (arith, i.1.long)) _ (rw (to_z-of_z w32 _ stored) e))
