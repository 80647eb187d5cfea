-- By the test.
use borrow.Author.Tests.{lt-ltb, le-ltb}
use Rattle.lists.specs.Lists.{sets_met}
use Rattle.lists.proofs.met.sets.Goals as goal

pub returns-then-n-gt-MIDDLE : goal.returns-then-n-gt-MIDDLE
unfolding sets_met
returns-then-n-gt-MIDDLE c = rw (lt-ltb _ _ c.if-n-gt-MIDDLE.true)

pub returns-else-n-gt-MIDDLE : goal.returns-else-n-gt-MIDDLE
unfolding sets_met
returns-else-n-gt-MIDDLE c = rw (le-ltb _ _ c.if-n-gt-MIDDLE.false)
