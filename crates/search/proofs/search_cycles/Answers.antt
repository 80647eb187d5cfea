-- Cycle after cycle; the two halves change places.
use native.Mathlib.Omega.{arith}
use native.Mathlib.Numerals.{add-one}
use Prim.Native.Nat.{◌≤◌, ◌<◌}
use mathlib.Core.Path.{◌≡◌, refl, sym, ap, ◌∙◌}
use Rattle.model.specs.Answers.{answered}
use Rattle.search.specs.Searching.{past_by}
use Rattle.search.proofs.Looked.{meeting, source_same, found_some, found_none, answer_met}
use Rattle.search.proofs.Searching.{building, looking, ended_full, ended_met, onward, both_lists, moving_on, moved_answer}
use Rattle.search.proofs.Searching as search
use Rattle.search.proofs.Recent.{none_kept, next_recent, turning}
use Rattle.search.proofs.search_cycles.Goals as goal

pub loop-k-init : goal.loop-k-init
loop-k-init c = rw (add-one c.args.first) (c.requires.2, none_kept _ _ c.args.first _ _ refl)

pub returns-then-list-eq0 : goal.returns-then-list-eq0
returns-then-list-eq0 c = rw (search.dried c.requires.0 c.loop-k.invariant.0 c.if-list-eq0.true (past_by c.args.task.end)) refl

pub next_list-requires : goal.next_list-requires
next_list-requires c =
    let q = c.requires.0 in
    let r = c.loop-k.invariant.0 in
    let more : c.loop-k.k < c.args.task.cycles.0 = omega (arith, c.loop-k-test.true, c.requires.4) in
    let zone : 1 ≤ c.loop-k.list.count = omega (arith, c.if-list-eq0.false) in
    building q r zone more (omega (arith, c.requires.1, c.loop-k.auto.seen))

pub returns-in_default : goal.returns-in_default
returns-in_default c =
    let e = past_by c.args.task.end in
    let q = c.requires.0 in
    let r = c.loop-k.invariant.0 in
    let more : c.loop-k.k < c.args.task.cycles.0 = omega (arith, c.loop-k-test.true, c.requires.4) in
    let zone : 1 ≤ c.loop-k.list.count = omega (arith, c.if-list-eq0.false) in
    rw (ended_full q r zone more c.next_list.new.work c.in_default.ensures.list e, add-one c.loop-k.k) refl

pub first_common-requires : goal.first_common-requires
first_common-requires c =
    let t = c.args.task in
    let q = c.requires.0 in
    let r = c.loop-k.invariant.0 in
    let more : c.loop-k.k < c.args.task.cycles.0 = omega (arith, c.loop-k-test.true, c.requires.4) in
    let zone : 1 ≤ c.loop-k.list.count = omega (arith, c.if-list-eq0.false) in
    let b = building q r zone more {seen = c.loop-k.seen} (omega (arith, c.requires.1, c.loop-k.auto.seen)) in
    let (at, next) = c.in-Some.ensures in
    rw at (meeting b c.next_list.auto.work (looking q r zone more) next.list)

pub returns-in-Some-first_common : goal.returns-in-Some-first_common
returns-in-Some-first_common c =
    let t = c.args.task in
    let q = c.requires.0 in
    let r = c.loop-k.invariant.0 in
    let more : c.loop-k.k < c.args.task.cycles.0 = omega (arith, c.loop-k-test.true, c.requires.4) in
    let zone : 1 ≤ c.loop-k.list.count = omega (arith, c.if-list-eq0.false) in
    let b = building q r zone more {seen = c.loop-k.seen} (omega (arith, c.requires.1, c.loop-k.auto.seen)) in
    let (at, next) = c.in-Some.ensures in
    let (z, found, times) = found_some t.n t.parts _ (rw at at c.in-Some-first_common.ensures) in
    answer_met times (add-one c.loop-k.k) (ended_met q r zone more c.next_list.new.work next.list found (past_by t.end))

pub find_move-requires : goal.find_move-requires
find_move-requires c =
    let t = c.args.task in
    let q = c.requires.0 in
    let r = c.loop-k.invariant.0 in
    let more : c.loop-k.k < c.args.task.cycles.0 = omega (arith, c.loop-k-test.true, c.requires.4) in
    let zone : 1 ≤ c.loop-k.list.count = omega (arith, c.if-list-eq0.false) in
    let b = building q r zone more {seen = c.loop-k.seen} (omega (arith, c.requires.1, c.loop-k.auto.seen)) in
    let (at, next) = c.in-Some.ensures in
    let after = c.next_list.new.work in
    let none = found_none t.n t.parts _ (rw at at c.in_default-first_common.ensures) in
    let on = onward q r zone more after next.list none c.next_list.auto.work (source_same after b next) in
    rw at (both_lists q r zone more on, zone)

pub move_on-requires : goal.move_on-requires
move_on-requires c =
    let t = c.args.task in
    let q = c.requires.0 in
    let r = c.loop-k.invariant.0 in
    let more : c.loop-k.k < c.args.task.cycles.0 = omega (arith, c.loop-k-test.true, c.requires.4) in
    let zone : 1 ≤ c.loop-k.list.count = omega (arith, c.if-list-eq0.false) in
    let b = building q r zone more {seen = c.loop-k.seen} (omega (arith, c.requires.1, c.loop-k.auto.seen)) in
    let (at, next) = c.in-Some.ensures in
    let after = c.next_list.new.work in
    let none = found_none t.n t.parts _ (rw at at c.in_default-first_common.ensures) in
    let on = onward q r zone more after next.list none c.next_list.auto.work (source_same after b next) in
    let moves = rw at at c.in-Some-find_move.ensures in
    rw (at, add-one c.loop-k.k) (moving_on q r zone more on _ moves.is moves.small)

pub returns-in-Some-find_move : goal.returns-in-Some-find_move
returns-in-Some-find_move c =
    let t = c.args.task in
    let q = c.requires.0 in
    let r = c.loop-k.invariant.0 in
    let more : c.loop-k.k < c.args.task.cycles.0 = omega (arith, c.loop-k-test.true, c.requires.4) in
    let zone : 1 ≤ c.loop-k.list.count = omega (arith, c.if-list-eq0.false) in
    let b = building q r zone more {seen = c.loop-k.seen} (omega (arith, c.requires.1, c.loop-k.auto.seen)) in
    let (at, next) = c.in-Some.ensures in
    let after = c.next_list.new.work in
    let none = found_none t.n t.parts _ (rw at at c.in_default-first_common.ensures) in
    let on = onward q r zone more after next.list none c.next_list.auto.work (source_same after b next) in
    let moves = rw at at c.in-Some-find_move.ensures in
    let rest = rw (add-one c.loop-k.k, at) at c.move_on.ensures in
    rest ∙ ap answered (sym (moved_answer q r zone more on _ moves.is (past_by t.end)))

pub repeats-requires : goal.repeats-requires
repeats-requires c =
    let t = c.args.task in
    let q = c.requires.0 in
    let r = c.loop-k.invariant.0 in
    let more : c.loop-k.k < c.args.task.cycles.0 = omega (arith, c.loop-k-test.true, c.requires.4) in
    let zone : 1 ≤ c.loop-k.list.count = omega (arith, c.if-list-eq0.false) in
    let b = building q r zone more {seen = c.loop-k.seen} (omega (arith, c.requires.1, c.loop-k.auto.seen)) in
    let (at, next) = c.in-Some.ensures in
    let after = c.next_list.new.work in
    let none = found_none t.n t.parts _ (rw at at c.in_default-first_common.ensures) in
    let on = onward q r zone more after next.list none c.next_list.auto.work (source_same after b next) in
    let last = next_recent q r zone more on (rw at at c.numbers-zones.ensures) c.loop-k.invariant.1 (rw (add-one c.loop-k.k) at c.keep-from.ensures)
    c.keep-from.auto.counts c.keep-from.auto.numbers in
    rw (add-one c.loop-k.k) (q.limits.table.departures.few, last.counted, omega (arith, last.upto), λ j from l h. (last.kept j from l h).placed)

pub take_turns-requires : goal.take_turns-requires
take_turns-requires c =
    let t = c.args.task in
    let q = c.requires.0 in
    let r = c.loop-k.invariant.0 in
    let more : c.loop-k.k < c.args.task.cycles.0 = omega (arith, c.loop-k-test.true, c.requires.4) in
    let zone : 1 ≤ c.loop-k.list.count = omega (arith, c.if-list-eq0.false) in
    let b = building q r zone more {seen = c.loop-k.seen} (omega (arith, c.requires.1, c.loop-k.auto.seen)) in
    let (at, next) = c.in-Some.ensures in
    let after = c.next_list.new.work in
    let none = found_none t.n t.parts _ (rw at at c.in_default-first_common.ensures) in
    let on = onward q r zone more after next.list none c.next_list.auto.work (source_same after b next) in
    let last = next_recent q r zone more on (rw at at c.numbers-zones.ensures) c.loop-k.invariant.1 (rw (add-one c.loop-k.k) at c.keep-from.ensures)
    c.keep-from.auto.counts c.keep-from.auto.numbers in
    let turns = rw (add-one c.loop-k.k) at c.in-Some-repeats.ensures in
    rw (add-one c.loop-k.k) (turning q last more turns)

pub returns-in-Some-repeats : goal.returns-in-Some-repeats
returns-in-Some-repeats c =
    let t = c.args.task in
    let q = c.requires.0 in
    let r = c.loop-k.invariant.0 in
    let more : c.loop-k.k < c.args.task.cycles.0 = omega (arith, c.loop-k-test.true, c.requires.4) in
    let zone : 1 ≤ c.loop-k.list.count = omega (arith, c.if-list-eq0.false) in
    let b = building q r zone more {seen = c.loop-k.seen} (omega (arith, c.requires.1, c.loop-k.auto.seen)) in
    let (at, next) = c.in-Some.ensures in
    let after = c.next_list.new.work in
    let none = found_none t.n t.parts _ (rw at at c.in_default-first_common.ensures) in
    let on = onward q r zone more after next.list none c.next_list.auto.work (source_same after b next) in
    let rest = rw (add-one c.loop-k.k) at c.take_turns.ensures in
    rest ∙ ap answered (sym (on.reached.rest (past_by t.end)))

pub loop-k-preserved : goal.loop-k-preserved
loop-k-preserved c =
    let t = c.args.task in
    let q = c.requires.0 in
    let r = c.loop-k.invariant.0 in
    let more : c.loop-k.k < c.args.task.cycles.0 = omega (arith, c.loop-k-test.true, c.requires.4) in
    let zone : 1 ≤ c.loop-k.list.count = omega (arith, c.if-list-eq0.false) in
    let b = building q r zone more {seen = c.loop-k.seen} (omega (arith, c.requires.1, c.loop-k.auto.seen)) in
    let (at, next) = c.in-Some.ensures in
    let after = c.next_list.new.work in
    let none = found_none t.n t.parts _ (rw at at c.in_default-first_common.ensures) in
    let on = onward q r zone more after next.list none c.next_list.auto.work (source_same after b next) in
    let last = next_recent q r zone more on (rw at at c.numbers-zones.ensures) c.loop-k.invariant.1 (rw (add-one c.loop-k.k) at c.keep-from.ensures)
    c.keep-from.auto.counts c.keep-from.auto.numbers in
    rw (at, add-one c.loop-k.k) (on.reached, last)

pub returns : goal.returns
returns c =
    let here : c.loop-k.k ≡ c.args.last = omega (arith, c.loop-k-test.false, c.loop-k.auto.k-end c.requires.3) in
    rw here at c.loop-k.invariant.0
