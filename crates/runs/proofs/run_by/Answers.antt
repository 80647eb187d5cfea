-- The start times, one cycle more, and the whole run.
use Rattle.std.proofs.Common.{◌≡◌, ◌∙◌, ap, sym, arith, Ok}
use Rattle.model.specs.Network.{cycles}
use Rattle.model.proofs.Outcomes.{judged_ok}
use Rattle.runs.proofs.Laws.{step_fits, step_gives, run_gives}
use Rattle.runs.proofs.run_by.Goals as goal

pub loop-init : goal.loop-init
unfolding cycles
loop-init c = c.first_times-times.ensures

pub next_times-times-requires : goal.next_times-times-requires
next_times-times-requires c =
    let a = c.args in
    let ok = judged_ok _ _ (sym c.in_ok-run_fault.ensures) in
    step_fits a.case a.start a.cycle.0 a.factor ok c.requires (omega arith) (omega arith) c.loop.times c.loop.counter (omega arith) c.loop.invariant

pub loop-preserved : goal.loop-preserved
loop-preserved c =
    let a = c.args in
    let ok = judged_ok _ _ (sym c.in_ok-run_fault.ensures) in
    c.next_times-times.ensures
    ∙ step_gives a.case a.start a.cycle.0 a.factor ok c.requires (omega arith) (omega arith) c.loop.times c.loop.counter (omega arith) c.loop.invariant

pub returns : goal.returns
returns c =
    let a = c.args in
    let ok = judged_ok _ _ (sym c.in_ok-run_fault.ensures) in
    let all : c.loop.counter ≡ a.cycle.0 = omega arith in
    ap Ok (rw all at c.loop.invariant) ∙ sym (run_gives a.factor a.case a.start a.cycle.0 ok)
