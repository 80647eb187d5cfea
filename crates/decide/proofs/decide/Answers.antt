-- Without a fault the case is decided.
use Rattle.std.proofs.Common.{sym, ◌∙◌}
use Rattle.model.proofs.Outcomes.{judged_ok}
use Rattle.decisions.proofs.DecideHolds.{decided_in, given}
use Rattle.decide.proofs.decide.Goals as goal

pub returns : goal.returns
returns c =
    let s = c.args in
    let ok = judged_ok _ _ (sym c.in_ok-fault.ensures) in
    given s.case s.horizon.0 s.steps (c.accepted.ensures ∙ sym (decided_in s.case s.horizon.0 ok s.steps))
