-- A bound of a case is small.
use native.Mathlib.Omega.{arith}
use Rattle.model.specs.Sizes.{bound_limit}
use Rattle.model.proofs.Size.{small_mono}
use Rattle.memory.proofs.Slots.{small_entry}
use Rattle.memory.proofs.raw_bound.Goals as goal

pub of_bound-requires : goal.of_bound-requires
of_bound-requires c = rw c.of.ensures (small_mono {B = bound_limit} (omega arith) (small_entry _ c.requires))
