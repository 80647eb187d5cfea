-- Entry by entry.
use native.Mathlib.Omega.{arith}
use Rattle.model.specs.Faults.{bound_of}
use Rattle.memory.specs.Numbers.{bound_in, bounds_in}
use Rattle.memory.proofs.Zipped.{every_at, zip_map}
use Rattle.memory.proofs.bounds_in.Goals as goal

pub changed-requires : goal.changed-requires
changed-requires c = (omega arith, (c.requires.0, every_at c.requires.1))

pub returns : goal.returns
unfolding bounds_in
returns c = (zip_map bound_in bound_of (λ x y e. e) _ _ c.changed.ensures.front, c.changed.ensures.long)
