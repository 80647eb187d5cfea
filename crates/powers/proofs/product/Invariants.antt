-- The first i rows are there.
use Rattle.std.proofs.Common.{◌≡◌, ◌*◌, ◌+◌, length, take, drop}
use Rattle.model.specs.Sizes.{table_size}
use Rattle.model.specs.Network as network
use Rattle.memory.specs.Numbers.{times_in}
use Rattle.powers.specs.Readings.{table_at}
use Rattle.powers.proofs.product.Given as goal

abbrev pub invariant-loop-i : goal.invariant-loop-i
invariant-loop-i l =
    let at = (l.r + 1) * table_size l.n in
    (times_in (take (l.i * l.n) (drop at l.powers)) ≡ take (l.i * l.n) (network.product l.n (times_in l.times) (table_at l.n l.fn.powers l.r)))
    × (take at l.powers ≡ take at l.fn.powers)
    × (length l.powers ≡ length l.fn.powers)
