-- The first k times are there.
use Rattle.std.proofs.Common.{◌≡◌, take}
use Rattle.memory.specs.Numbers.{times_in}
use Rattle.powers.proofs.put_front.Given as goal

abbrev pub invariant-loop-k : goal.invariant-loop-k
invariant-loop-k l = times_in (take l.k l.tables) ≡ times_in (take l.k l.times)
