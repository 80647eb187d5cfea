use Rattle.std.proofs.Common.{take}
use Rattle.model.specs.Writing.{entries_bits}
use Rattle.packer.specs.Ink.{Inks}
use Rattle.packer.proofs.Pen.entries.Given as goal

abbrev pub invariant-loop-entry : goal.invariant-loop-entry
invariant-loop-entry g l = Inks (entries_bits (g.E.Entry.kind l.fn.self.form) (take l.entry-index l.entries)) l.fn.self l.self
