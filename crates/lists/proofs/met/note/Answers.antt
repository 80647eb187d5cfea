-- Counted, if there is room.
use borrow.Author.Tests.{lt-ltb, le-ltb}
use mathlib.Core.Path.{refl}
use Rattle.lists.specs.Met.{noted_in}
use Rattle.lists.proofs.met.note.Goals as goal

pub returns-then-count-sets : goal.returns-then-count-sets
unfolding noted_in
returns-then-count-sets c = (rw (← c.sets.ensures, lt-ltb _ _ c.if-count-sets.true) refl, refl, refl)

pub returns-else-count-sets : goal.returns-else-count-sets
unfolding noted_in
returns-else-count-sets c = (rw (← c.sets.ensures, le-ltb _ _ c.if-count-sets.false) refl, refl, refl)
