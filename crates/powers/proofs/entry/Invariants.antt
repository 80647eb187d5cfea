-- The latest of the first l sums.
use Rattle.std.proofs.Common.{◌≡◌, ◌+◌}
use Rattle.model.specs.Network.{time, after}
use Rattle.model.proofs.MaxPlus.{latest_of}
use Rattle.model.specs.Faults.{time_of}
use Rattle.memory.specs.Numbers.{times_in}
use Rattle.powers.proofs.entry.Given as goal

abbrev pub invariant-loop-l : goal.invariant-loop-l
invariant-loop-l v =
    time_of v.latest ≡ latest_of v.l (λ l. after (time v.n (times_in v.first) (v.i + 1) l) (time v.n (times_in v.second) l (v.j + 1)))
