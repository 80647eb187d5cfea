-- List k stands at source, and the last lists are kept.
use Rattle.std.proofs.Common.{length}
use Rattle.memory.specs.Networks.{network_in}
use Rattle.search.specs.Searching.{Reached}
use Rattle.search.proofs.Recent.{Recent}
use Rattle.search.proofs.search_cycles.Given as goal

abbrev pub invariant-loop-k : goal.invariant-loop-k
invariant-loop-k l =
    let t = l.task in
    Reached t.n t.capacity t.cycles.0 (length l.fn.work) t.times.now t.start.now t.target.now l.work l.list.count l.list.base l.k
    × Recent (network_in t.n t.cycles.0 t.times.now t.start.now t.target.now) t.capacity l.from l.counts l.kept l.k
