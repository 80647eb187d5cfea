-- By the test.
use native.Mathlib.Omega.{arith}
use mathlib.Core.Path.{sym, ◌∙◌}
use lib.IntN.{pos}
use lib.ListN.{get_or-map}
use Rattle.model.specs.Network.{clocked}
use Rattle.model.specs.Answers.{seconds}
use Rattle.memory.proofs.Picked.{clocked_at}
use Rattle.starts.proofs.clocked.Goals as goal

pub returns-then-s-eq0 : goal.returns-then-s-eq0
unfolding clocked
returns-then-s-eq0 c = rw c.if-s-eq0.true

pub returns : goal.returns
returns c =
    sym (clocked_at _ c.args.s (omega arith) ∙ get_or-map (λ x. x.0) c.args.times.now _ (seconds (pos 0)))
