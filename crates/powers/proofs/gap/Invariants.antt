-- The gap is that of the entries from here on.
use Rattle.std.proofs.Common.{◌≡◌, length, drop}
use Rattle.model.specs.Network.{gap}
use Rattle.memory.specs.Numbers.{times_in}
use Rattle.powers.proofs.gap.Given as goal

abbrev pub invariant-loop-a : goal.invariant-loop-a
invariant-loop-a l =
    let k = length l.yielded in
    gap (times_in l.first) (times_in l.second) ≡ gap (drop k (times_in l.first)) (drop k (times_in l.second))
