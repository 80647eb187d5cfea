-- The case is put in memory; the zones of both patterns in whole parts, and the decision between them.
use Rattle.std.proofs.Common.{refl}
use Rattle.model.specs.Faults.{network}
use Rattle.decide.proofs.Zoned.{Loaded, start_wholable, target_wholable, no_start, no_target, search_ready, decided_so}
use Rattle.decide.proofs.Loaded.{loaded}
use Rattle.decide.proofs.accepted.Goals as goal
use Rattle.decide.proofs.accepted.Goals.{After-parts-parts}

in_memory : (c : After-parts-parts) →
    Loaded (network c.args.case.now) c.args.case.now.n c.parts-parts.result c.args.horizon c.times-times.result.now c.start-start.result.now c.target-target.result.now
in_memory c =
    loaded c.args.case.now c.args.horizon c.requires (rw (← c.times-times.ensures, ← c.start-start.ensures, ← c.target-target.ensures) at c.of-loaded.ensures)
    c.parts-parts.ensures

pub whole_pattern-requires : goal.whole_pattern-requires
whole_pattern-requires c = start_wholable (in_memory (goal.at.whole_pattern-requires c).After-parts-parts)

pub returns-in_default : goal.returns-in_default
returns-in_default c = no_start (in_memory (goal.at.returns-in_default c).After-parts-parts) c.in_default.ensures c.args.steps

pub whole_pattern-requires-2 : goal.whole_pattern-requires-2
whole_pattern-requires-2 c = target_wholable (in_memory (goal.at.whole_pattern-requires-2 c).After-parts-parts)

pub returns-in_default-whole_pattern : goal.returns-in_default-whole_pattern
returns-in_default-whole_pattern c =
    no_target (in_memory (goal.at.returns-in_default-whole_pattern c).After-parts-parts) c.in_default-whole_pattern.ensures c.args.steps

pub search-requires : goal.search-requires
search-requires c =
    search_ready _ _ (in_memory (goal.at.search-requires c).After-parts-parts)
    c.in-Some.ensures c.in-Some-whole_pattern.ensures c.zone_size-zone.ensures refl

pub returns : goal.returns
returns c =
    decided_so _ _ (in_memory (goal.at.returns c).After-parts-parts) c.in-Some.ensures c.in-Some-whole_pattern.ensures c.zone_size-zone.ensures refl
    c.differences.ensures c.search.ensures
