-- The tightest of the rows from row o on.
use Prim.Native.Nat.{suc}
use Rattle.model.specs.Matrix.{entry}
use Rattle.memory.specs.Numbers.{as_bound, bounds_in, times_in}
use Rattle.ahead.specs.Needs.{asks, row_time}
use Rattle.ahead.proofs.Tabled.{Least}
use Rattle.ahead.proofs.need.Given as goal

abbrev pub invariant-loop-o : goal.invariant-loop-o
invariant-loop-o l =
    let t = l.target in
    Least t.n (λ o. asks (entry (suc t.n) (bounds_in t.zone.now) o l.r) (row_time t.n (times_in t.times.now) o l.j)) l.o (as_bound l.least)
