-- Row by row.
use native.Mathlib.Omega.{arith}
use mathlib.Core.Path.{◌∙◌}
use Rattle.model.specs.Matrix.{everything}
use Rattle.memory.proofs.Fills.{rows_done}
use Rattle.memory.proofs.Places.{size_of}
use Rattle.zones.proofs.everything.Goals as goal

pub returns : goal.returns
unfolding everything
returns g c = rows_done c.loop-i.invariant (size_of g.met.T.Stored.bounds_are _ ∙ omega arith) (omega arith)
