-- All rows, from row 1 on: the columns start with the clock's.
use native.Mathlib.Omega.{arith}
use mathlib.Core.Path.{refl}
use Rattle.descent.proofs.Descending.{meeting_ready, meeting_ends}
use Rattle.descent.proofs.meeting.Goals as goal

pub descend-requires : goal.descend-requires
descend-requires c = meeting_ready c.requires _ refl (omega (arith, c.args.target.times_in.departures.few))

pub returns : goal.returns
returns c = meeting_ends c.requires _ refl c.descend.ensures
