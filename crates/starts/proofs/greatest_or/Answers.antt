-- By the entries.
use Rattle.model.specs.Search.{greatest_or}
use Rattle.starts.proofs.greatest_or.Goals as goal

pub returns-in-Some-default : goal.returns-in-Some-default
unfolding greatest_or
returns-in-Some-default c = rw (c.in-Some-default.is-0, c.number.ensures)

pub returns-in-None-Some : goal.returns-in-None-Some
unfolding greatest_or
returns-in-None-Some c = rw (c.in-None-Some.is-0, c.in-None-Some.is-1, c.number-in-None-Some.ensures) c.neg.ensures

pub returns-in-None-None : goal.returns-in-None-None
unfolding greatest_or
returns-in-None-None c = rw (c.in-None-None.is-0, c.in-None-None.is-1)
