-- All is alike if the first k are.
use Rattle.std.proofs.Common.{◌≡◌, take}
use Rattle.model.specs.Lists.{same_lists}
use Rattle.model.specs.Network.{added, same_time}
use Rattle.memory.specs.Numbers.{times_in}
use Rattle.powers.proofs.all_moved.Given as goal

abbrev pub invariant-loop-k : goal.invariant-loop-k
invariant-loop-k l =
    let ts = added l.c.0 (times_in l.first) in
    let us = times_in l.second in
    same_lists same_time ts us ≡ same_lists same_time (take l.k ts) (take l.k us)
