-- The table has room, by the departures.
use native.Mathlib.Omega.{arith}
use Rattle.lists.specs.Lists.{sets_met}
use Rattle.lists.proofs.Lengths.{small_room, middle_room, large_room}
use Rattle.search.proofs.search.Goals as goal

pub search_in-requires : goal.search_in-requires
unfolding sets_met
search_in-requires c = (c.requires, small_room c.if-task-le-SMALL.true, omega arith, omega arith)

pub search_in-requires-then-task-le-MIDDLE : goal.search_in-requires-then-task-le-MIDDLE
unfolding sets_met
search_in-requires-then-task-le-MIDDLE c = (c.requires, middle_room c.if-task-le-MIDDLE.true, omega arith, omega arith)

pub search_in-requires-2 : goal.search_in-requires-2
unfolding sets_met
search_in-requires-2 c = (c.requires, large_room (omega arith) c.requires.table.departures.few, omega arith, omega arith)
