-- The first entries are changed.
use mathlib.Core.Path.{◌≡◌}
use lib.ListN.{length, take}
use Rattle.std.specs.List.{AllZip}
use Rattle.memory.proofs.changed.Given as goal

abbrev pub invariant-loop-k : goal.invariant-loop-k
invariant-loop-k g l = AllZip (goal.F-post g l.fn.change) (take l.k l.entries) (take l.k l.made) × (length l.made ≡ g.row.SIZE)
