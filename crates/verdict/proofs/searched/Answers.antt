-- The case is put in memory and searched; then every number of the workspace is set to 0.
use Rattle.memory.specs.Networks.{CaseIn}
use Rattle.verdict.proofs.Within.{powers_ready, counted, searchable, outcome_found}
use Rattle.verdict.proofs.searched.Goals as goal
use Rattle.verdict.proofs.searched.Goals.{After-target-target}

in_memory : (c : After-target-target) → CaseIn c.args.case.now c.times-times.result.now c.start-start.result.now c.target-target.result.now
in_memory c = rw (← c.times-times.ensures, ← c.start-start.ensures, ← c.target-target.ensures) at c.of-loaded.ensures

pub differences-differences-requires : goal.differences-differences-requires
differences-differences-requires c = let l = in_memory (goal.at.differences-differences-requires c).After-target-target in (l.start_held, l.target_held)

pub first_repeat-requires : goal.first_repeat-requires
first_repeat-requires c = powers_ready c.args.case.now _ _ c.requires (in_memory (goal.at.first_repeat-requires c).After-target-target)

pub plan_of-plan-requires : goal.plan_of-plan-requires
plan_of-plan-requires c =
    counted c.args.case.now _ _ c.requires (in_memory (goal.at.plan_of-plan-requires c).After-target-target) _ c.first_repeat.ensures

pub search-answer-requires : goal.search-answer-requires
search-answer-requires c =
    searchable c.args.case.now _ _ c.requires (in_memory (goal.at.search-answer-requires c).After-target-target) _ c.first_repeat.ensures
    _ c.differences-differences.ensures _ c.plan_of-plan.ensures _ c.parts.ensures

pub returns-clause-answer : goal.returns-clause-answer
returns-clause-answer c =
    outcome_found c.args.case.now _ _ c.requires (in_memory (goal.at.returns-clause-answer c).After-target-target) _ c.first_repeat.ensures
    _ c.differences-differences.ensures _ c.plan_of-plan.ensures _ c.search-answer.ensures
