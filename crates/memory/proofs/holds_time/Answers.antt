-- An entry that has a value holds a time.
use mathlib.Core.Path.{sym, ap, ◌∙◌}
use Rattle.model.specs.Network.{is_time}
use Rattle.model.proofs.Stored.{has_time}
use Rattle.memory.proofs.holds_time.Goals as goal

pub returns : goal.returns
returns g c = let t = c.time_at in c.is_some.ensures ∙ sym (has_time t.result) ∙ ap is_time t.ensures.is
