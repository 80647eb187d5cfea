-- A case that was judged to have no fault keeps to its limits.
use Rattle.std.proofs.Common.{sym, ◌∙◌}
use Rattle.packer.proofs.Sound.{sound}
use Rattle.packer.proofs.write_as.Goals as goal

pub put_case-requires-clause-sound : goal.put_case-requires-clause-sound
put_case-requires-clause-sound c = sound _ _ c.requires (sym c.form_fault.ensures ∙ c.in_ok-form_fault.was)
