use Rattle.std.proofs.Common.{◌≡◌, ◌+◌, ◌*◌}
use Rattle.model.specs.Writing.{field_bits}
use Rattle.packer.specs.Ink.{Extends}
use Rattle.packer.proofs.Pen.bits.Given as goal

abbrev pub invariant-loop : goal.invariant-loop
invariant-loop l = (l.self.held + 8 * l.counter ≡ l.fn.self.held + l.width) × Extends (field_bits l.width l.value) l.fn.self l.self
