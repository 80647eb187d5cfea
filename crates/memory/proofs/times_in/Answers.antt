-- Entry by entry.
use native.Mathlib.Omega.{arith}
use Rattle.model.specs.Faults.{time_of}
use Rattle.model.proofs.Listed.{every_map}
use Rattle.memory.specs.Numbers.{time_in, times_in}
use Rattle.memory.proofs.Slots.{small_time}
use Rattle.memory.proofs.Zipped.{every_at, zip_map}
use Rattle.memory.proofs.times_in.Goals as goal

pub changed-requires : goal.changed-requires
changed-requires c = (omega arith, (c.requires.0, every_at (every_map small_time c.requires.1)))

pub returns : goal.returns
unfolding times_in
returns c = (zip_map time_in time_of (λ x y e. e) _ _ c.changed.ensures.front, c.changed.ensures.long)
