-- The rows have taken in the constraint as far as the loop has come.
use Rattle.memory.specs.Numbers.{of_halves}
use Rattle.memory.specs.Numbers.{bounds_in}
use Rattle.memory.proofs.Fills.{Filled}
use Rattle.memory.proofs.Relaxing.{via}
use Rattle.zones.proofs.I32Constrained.constrain.Given as goal

abbrev pub invariant-loop-i : goal.invariant-loop-i
invariant-loop-i l = Filled l.n (bounds_in l.fn.zone) (bounds_in l.zone) (via l.n (bounds_in l.fn.zone) l.a l.b (of_halves l.c.0)) l.i
