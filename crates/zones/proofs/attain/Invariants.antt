-- What is left to be taken in.
use Prim.Native.Nat.{suc}
use Rattle.model.proofs.Tabulated.{from}
use Rattle.memory.proofs.Toward.{Toward}
use Rattle.zones.specs.Inner.{attained_by, attains_by}
use Rattle.zones.proofs.attain.Given as goal

abbrev pub invariant-loop-j : goal.invariant-loop-j
invariant-loop-j g l =
    let d = g.T.Stored.bounds_in in
    let a = g.T.Stored.times_in l.times in
    Toward l.n g.T.Stored.limit (d l.fn.part) (attains_by l.first l.n a l.c.row l.c.column) (d l.part)
    (from (attained_by l.first l.n a l.c.row l.c.column) (suc l.n) l.j)
