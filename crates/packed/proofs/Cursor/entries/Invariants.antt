use Rattle.std.proofs.Common.{◌≡◌, ◌+◌, ◌*◌, [], length, take}
use Rattle.model.specs.Packed.{entries}
use Rattle.packed.specs.Readings.{Next}
use Rattle.packed.proofs.Cursor.entries.Given as goal

-- the entries passed were read
abbrev pub invariant-loop-place : goal.invariant-loop-place
invariant-loop-place g l =
    let kind = g.E.Entry.kind l.fn.self.form in
    let i = l.place-index in
    (length l.place-items ≡ length l.fn.places) × Next l.fn.self (i * (1 + kind.width)) (λ s p. entries kind s i p []) (take i l.place-items) l.self
