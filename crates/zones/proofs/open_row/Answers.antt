-- Place by place.
use native.Mathlib.Omega.{arith}
use mathlib.Core.Path.{◌∙◌}
use Rattle.model.proofs.Size.{small_mono}
use Rattle.memory.proofs.Fills.{row_step}
use Rattle.memory.proofs.Places.{size_of}
use Rattle.zones.proofs.open_row.Goals as goal

pub put-requires : goal.put-requires
put-requires g c =
    (record { zone = record { few = omega arith; size = omega arith }; row = omega arith; col = omega arith }, small_mono (omega arith) c.diagonal.ensures.1)

pub loop-j-preserved : goal.loop-j-preserved
loop-j-preserved g c =
    rw c.put.ensures
    (row_step _ c.loop-j.invariant (size_of g.met.T.Stored.bounds_are _ ∙ omega arith) (omega arith) (omega arith) c.diagonal.ensures.0)
