-- The first j entries of the row are there.
use Rattle.std.proofs.Common.{◌≡◌, ◌*◌, length, take, drop}
use Rattle.model.specs.Network.{product}
use Rattle.memory.specs.Numbers.{times_in}
use Rattle.powers.specs.Readings.{table_at}
use Rattle.powers.proofs.product_row.Given as goal

abbrev pub invariant-loop-j : goal.invariant-loop-j
invariant-loop-j l =
    (times_in (take l.j (drop l.row l.powers)) ≡ take l.j (drop (l.i * l.n) (product l.n (times_in l.times) (table_at l.n l.fn.powers l.r))))
    × (take l.row l.powers ≡ take l.row l.fn.powers)
    × (length l.powers ≡ length l.fn.powers)
