-- What the departures from the last before t down to s say.
use Rattle.model.specs.Network.{clocked}
use Rattle.memory.specs.Numbers.{as_bound}
use Rattle.memory.specs.Matrices.{values}
use Rattle.memory.proofs.Picked.{early_term, late_term, Tightest}
use Rattle.starts.specs.Numbers.{bounds_in, Largest}
use Rattle.starts.proofs.next_time.Given as goal

abbrev pub invariant-loop-s : goal.invariant-loop-s
invariant-loop-s l =
    Tightest Largest l.t (early_term l.n (bounds_in l.zone) l.t (clocked (values l.times))) l.s (as_bound l.early)
    × Tightest Largest l.t (late_term l.n (bounds_in l.zone) l.t (clocked (values l.times))) l.s (as_bound l.late)
