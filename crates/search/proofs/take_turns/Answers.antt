-- Cycle after cycle, each list in its place.
use native.Mathlib.Numerals.{add-one}
use native.Mathlib.Omega.{arith}
use mathlib.Core.Path.{◌≡◌, sym, ap, ◌∙◌}
use lib.IntN.{pos}
use Rattle.std.proofs.lemmas.Bool.Decides.{Decides-int_eq}
use Rattle.model.specs.Answers.{answered}
use Rattle.search.specs.Searching.{past_by}
use Rattle.search.proofs.Looked.{found_some, found_none, answer_met}
use Rattle.search.proofs.Turning.{turns_stay, turns_start, turns_done, turnable, meeting, turns_met, turns_on}
use Rattle.search.proofs.take_turns.Goals as goal

pub returns-then-eq : goal.returns-then-eq
returns-then-eq c =
    let still : c.args.turn.by.0 ≡ pos 0 = (Decides-int_eq c.args.turn.by.0 (pos 0)).0 (sym c.eq.ensures ∙ c.if-eq.true) in
    c.answer-end.ensures ∙ ap answered (sym (turns_stay c.requires still _ _ (omega arith) (past_by c.args.task.end)))

pub loop-at-init : goal.loop-at-init
loop-at-init c = turns_start c.requires

pub make_turn-list-requires : goal.make_turn-list-requires
make_turn-list-requires c = rw (add-one c.loop-at.at) (turnable c.requires c.loop-at.invariant c.loop-at-test.true)

pub first_common-requires : goal.first_common-requires
first_common-requires c =
    let made = rw (add-one c.loop-at.at) at c.make_turn-list.ensures in
    meeting c.requires c.loop-at.invariant c.loop-at-test.true made c.make_turn-list.auto.numbers

pub returns-in-Some : goal.returns-in-Some
returns-in-Some c =
    let t = c.args.task in
    let made = rw (add-one c.loop-at.at) at c.make_turn-list.ensures in
    let (z, found, times) = found_some t.n t.parts _ c.in-Some.ensures in
    answer_met times (add-one c.loop-at.at)
    (turns_met c.requires c.loop-at.invariant c.loop-at-test.true made c.make_turn-list.auto.numbers found (past_by t.end))

pub loop-at-preserved : goal.loop-at-preserved
loop-at-preserved c =
    let t = c.args.task in
    let made = rw (add-one c.loop-at.at) at c.make_turn-list.ensures in
    rw (add-one c.loop-at.at)
    (turns_on c.requires c.loop-at.invariant c.loop-at-test.true made c.make_turn-list.auto.numbers (found_none t.n t.parts _ c.in_default.ensures))

pub returns : goal.returns
returns c =
    c.answer-end.ensures ∙ ap answered (sym (turns_done c.requires c.loop-at.invariant c.loop-at-test.false (past_by c.args.task.end)))
