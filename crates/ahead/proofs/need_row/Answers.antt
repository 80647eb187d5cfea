-- Place by place.
use native.Mathlib.Omega.{arith}
use mathlib.Core.Path.{◌∙◌}
use Rattle.model.proofs.Size.{small_mono}
use Rattle.memory.specs.Wide.{bounds_mapped}
use Rattle.memory.proofs.Fills.{row_step}
use Rattle.memory.proofs.Places.{size_of}
use Rattle.ahead.proofs.need_row.Goals as goal

pub put-requires : goal.put-requires
put-requires c =
    (record { zone = record { few = omega arith; size = omega arith }; row = omega arith; col = omega arith }, small_mono (omega arith) c.need.ensures.small)

pub loop-j-preserved : goal.loop-j-preserved
loop-j-preserved c =
    rw c.put.ensures (row_step _ c.loop-j.invariant (size_of bounds_mapped _ ∙ omega arith) (omega arith) (omega arith) c.need.ensures.is)
