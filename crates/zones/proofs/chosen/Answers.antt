-- By the row. What a blank adds is 0.
use native.Mathlib.Omega.{arith}
use mathlib.Core.Path.{sym, ap, ◌∙◌}
use Rattle.model.specs.Network.{secs_of}
use Rattle.model.specs.Search.{chosen}
use Rattle.zones.proofs.Columns.{chosen_secs, entry_secs}
use Rattle.zones.proofs.chosen.Goals as goal

pub returns-then-i-eq0 : goal.returns-then-i-eq0
unfolding chosen
returns-then-i-eq0 g c = record { is = rw c.if-i-eq0.true; small = omega arith }

pub returns : goal.returns
returns g c =
    let t = c.time_at.ensures in
    let e = ap (λ x. x.0) c.unwrap_or.ensures ∙ entry_secs c.time_at.result ∙ ap secs_of t.is in
    record { is = e ∙ sym (chosen_secs _ _ _ _ (omega arith)); small = rw e t.small }
