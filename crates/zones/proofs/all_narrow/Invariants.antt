-- The answer is true only while all that were passed are narrow.
use mathlib.Core.Path.{◌≡◌}
use mathlib.Core.Bool.{true}
use Rattle.zones.specs.Inner.{RowNarrow}
use Rattle.zones.proofs.all_narrow.Given as goal

abbrev pub invariant-loop-raw : goal.invariant-loop-raw
invariant-loop-raw l = l.all ≡ true → RowNarrow l.raw-index l.raw-items
