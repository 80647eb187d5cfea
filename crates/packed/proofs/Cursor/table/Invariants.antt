use Rattle.std.proofs.Common.{◌≡◌, ◌+◌, ◌*◌, [], length, take}
use Rattle.model.specs.Sizes.{time_width}
use Rattle.model.specs.Packed.{rows}
use Rattle.packed.specs.Readings.{Next}
use Rattle.packed.proofs.Cursor.table.Given as goal

-- the rows passed were read
abbrev pub invariant-loop-i : goal.invariant-loop-i
invariant-loop-i l =
    let n = l.fn.n in
    (length l.times ≡ n * n) × Next l.fn.self (l.i * n * (1 + time_width)) (λ s p. rows s n l.i p []) (take (l.i * n) l.times) l.self
