-- The departures before t have their times.
use Rattle.memory.proofs.Picked.{Picking}
use Rattle.starts.specs.Numbers.{bounds_in, Largest}
use Rattle.starts.proofs.pick.Given as goal

abbrev pub invariant-loop-t : goal.invariant-loop-t
invariant-loop-t l = Picking l.n Largest (bounds_in l.zone) l.times l.t
