-- Cycle after cycle, in place.
use native.Mathlib.Numerals.{add-one}
use mathlib.Core.Path.{◌≡◌, refl, sym, ap, ◌∙◌}
use lib.IntN.{pos}
use Rattle.std.proofs.lemmas.Bool.Decides.{Decides-int_eq}
use Rattle.model.specs.Answers.{answered}
use Rattle.search.specs.Searching.{past_by}
use Rattle.search.proofs.Looked.{found_some, found_none, answer_met}
use Rattle.search.proofs.MovingOn.{stays, going_start, going_done, movable, meeting, going_met, going_on}
use Rattle.search.proofs.move_on.Goals as goal

pub returns-then-eq : goal.returns-then-eq
returns-then-eq c =
    let still : c.args.by.0 ≡ pos 0 = (Decides-int_eq c.args.by.0 (pos 0)).0 (sym c.eq.ensures ∙ c.if-eq.true) in
    c.answer-past.ensures ∙ ap answered (sym (stays c.requires still _ _ (past_by c.args.task.end)))

pub loop-at-init : goal.loop-at-init
loop-at-init c = going_start c.requires c.args.k.0 c.args.task.cycles.0 refl

pub move_list-requires : goal.move_list-requires
move_list-requires c = movable c.requires c.loop-at.invariant c.loop-at-test.true

pub first_common-requires : goal.first_common-requires
first_common-requires c = meeting c.requires c.loop-at.invariant c.loop-at-test.true c.move_list.ensures c.move_list.auto.work

pub returns-in-Some : goal.returns-in-Some
returns-in-Some c =
    let t = c.args.task in
    let (z, found, times) = found_some t.n t.parts _ c.in-Some.ensures in
    answer_met times (add-one c.loop-at.at)
    (going_met c.requires c.loop-at.invariant c.loop-at-test.true c.move_list.ensures c.move_list.auto.work found (past_by t.end))

pub loop-at-preserved : goal.loop-at-preserved
loop-at-preserved c =
    let t = c.args.task in
    rw (add-one c.loop-at.at)
    (going_on c.requires c.loop-at.invariant c.loop-at-test.true c.move_list.ensures c.move_list.auto.work
    (found_none t.n t.parts _ c.in_default.ensures))

pub returns : goal.returns
returns c =
    c.answer-past.ensures
    ∙ ap answered (sym (going_done c.requires c.loop-at.at c.loop-at.invariant c.loop-at-test.false (past_by c.args.task.end)))
