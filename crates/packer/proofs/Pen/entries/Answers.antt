-- One entry more.
use Rattle.model.specs.declared.Form.{Form}
use Rattle.model.specs.Writing.{entry_bits}
use Rattle.packer.proofs.Inking.{inks_in}
use Rattle.packer.proofs.Parts.{entries_next}
use Rattle.packer.proofs.Pen.entries.Goals as goal

pub loop-entry-preserved : goal.loop-entry-preserved
loop-entry-preserved g c =
    rw (entries_next (g.E.Entry.kind c.args.self.now.form) c.args.entries.now _ c.entry-item.result c.loop-entry-test.true c.entry-item.is)
    (inks_in (λ (f : Form). entry_bits (g.E.Entry.kind f) c.entry-item.result) c.loop-entry.invariant c.entry.ensures)
