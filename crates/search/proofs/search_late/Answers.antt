-- Past the last cycle.
use native.Mathlib.Omega.{arith}
use mathlib.Core.Path.{sym, ap, ◌∙◌}
use Rattle.model.specs.Answers.{answered}
use Rattle.search.specs.Searching.{past_by}
use Rattle.search.proofs.Searching.{ended}
use Rattle.search.proofs.search_late.Goals as goal

pub returns-in-Continue : goal.returns-in-Continue
returns-in-Continue g c =
    c.past.ensures
    ∙ ap answered (sym (ended c.requires.0 c.in-Continue.last.count c.args.task.cycles.0 c.in-Continue.ensures (omega arith) (past_by c.args.task.end)))
