-- The lists of the last cycles up to list at are kept.
use Rattle.search.proofs.Turning.{Turns}
use Rattle.search.proofs.take_turns.Given as goal

abbrev pub invariant-loop-at : goal.invariant-loop-at
invariant-loop-at l =
    let t = l.task in
    Turns t.n t.capacity t.cycles.0 t.times.now t.start.now t.target.now l.fn.k.0 l.turn.lag l.counts l.numbers l.at
