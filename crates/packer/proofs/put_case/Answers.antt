-- Part behind part, from a pen that holds nothing.
use Rattle.std.proofs.Common.{List, [], ◌+◌, ◌*◌, take, refl, rules}
use Rattle.model.specs.declared.Form.{Form}
use Rattle.model.specs.declared.Limit.{Limit}
use Rattle.model.specs.Faults.{Entry}
use Rattle.model.specs.Packed.{bound_kind}
use Rattle.model.specs.Writing.{entries_bits, packed_as}
use Rattle.packer.proofs.Inking.{inked_first, inks_then, inks_in}
use Rattle.packer.proofs.Sound.{case_parts}
use Rattle.packer.proofs.put_case.Goals as goal

pub returns : goal.returns
unfolding packed_as
returns c =
    let case = c.args.case.now in
    let size = case.n * (case.n + 1) in
    let bounds = λ (es : List (Entry Limit)) (f : Form). entries_bits (bound_kind f) es in
    let front = inks_in (bounds (take size case.start)) (inks_then c.head.ensures c.entries.ensures) c.entries-2.ensures in
    let written = inks_in (bounds (take size case.target)) front c.entries-3.ensures in
    let inked = written.0.inked c.args.out.now [] (inked_first _ refl refl refl) in
    let bytes = c.fill.ensures.bytes _ _ (rw (← (case_parts c.args.form c.args.case.now)) at inked) in
    search rules
