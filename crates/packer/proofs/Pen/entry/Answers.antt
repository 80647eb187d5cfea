-- A presence bit of 1, and the bits of the entry's number.
use Rattle.model.specs.declared.Form.{Form}
use Rattle.model.specs.Writing.{field_bits}
use Rattle.packer.proofs.Inking.{inks_in}
use Rattle.packer.proofs.Parts.{entry_present}
use Rattle.packer.proofs.Pen.entry.Goals as goal

pub returns-in-Some : goal.returns-in-Some
returns-in-Some g c =
    let form = c.args.self.now.form in
    let number = c.number.ensures form (record { limits = c.args.self.now.form_few; faultless = rw c.in-Some.is at c.requires.1 }) in
    rw (c.in-Some.is, entry_present (g.E.Entry.kind form) (g.met.E.Entry.has_is form), ← number.is)
    (inks_in (λ (f : Form). field_bits (g.E.Entry.kind f).width c.number.result) c.bits-in-Some.ensures (rw c.width.ensures.is at c.bits-in-Some-2.ensures))
