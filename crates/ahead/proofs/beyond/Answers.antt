-- The sums are in the room that a number in 64 bits has.
use native.Mathlib.Omega.{arith}
use Prim.Native.Nat.{◌+◌}
use Rattle.model.proofs.Size.{small_mono, small_sum}
use Rattle.memory.specs.Numbers.{InMemory}
use Rattle.memory.specs.Wide.{Largest}
use Rattle.ahead.proofs.beyond.Goals as goal

pub add-needed-requires : goal.add-needed-requires
add-needed-requires c = let (at, inside, own) = c.requires in small_mono {B = Largest + InMemory} (omega arith) (small_sum c.bound_at.ensures.small own.small)

pub add-requires : goal.add-requires
add-requires c =
    let (at, inside, own) = c.requires in
    small_mono (omega arith) (small_sum {C = Largest + InMemory} c.bound_at-2.ensures.small
    (rw c.add-needed.ensures (small_sum c.bound_at.ensures.small own.small)))
