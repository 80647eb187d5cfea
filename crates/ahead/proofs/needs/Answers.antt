-- Row by row.
use native.Mathlib.Omega.{arith}
use mathlib.Core.Path.{◌∙◌}
use Rattle.memory.specs.Wide.{bounds_mapped}
use Rattle.memory.proofs.Fills.{rows_done}
use Rattle.memory.proofs.Places.{size_of}
use Rattle.ahead.specs.Needs.{needs}
use Rattle.ahead.proofs.needs.Goals as goal

pub returns : goal.returns
unfolding needs
returns c = rows_done c.loop-r.invariant (size_of bounds_mapped _ ∙ omega arith) (omega arith)
