use Rattle.std.proofs.Common.{◌≡◌, ◌-◌}
use Rattle.model.specs.Packed.{num_at}
use Rattle.packed.proofs.Cursor.bits.Given as goal

-- the bits passed are the number's so far
abbrev pub invariant-loop-place : goal.invariant-loop-place
invariant-loop-place l = l.number ≡ num_at l.self.bytes.now l.self.at (l.place - l.self.at)
