-- What is left to be taken in.
use Prim.Native.Nat.{ℕ, suc}
use Rattle.model.specs.Bound.{Bound}
use Rattle.model.proofs.Tabulated.{from}
use Rattle.memory.proofs.Toward.{Toward}
use Rattle.zones.specs.Said.{said, said_row, Saying}
use Rattle.zones.proofs.take_row.Given as goal

abbrev pub invariant-loop-j : goal.invariant-loop-j
invariant-loop-j g l =
    let T = g.T.Stored in
    let d = T.bounds_in in
    (f : ℕ → ℕ → Bound)
    → Saying l.n T.limit T.largest (d l.fn.zone) (goal.F-pre g l.bound) (goal.F-post g l.bound) f (said_row l.n l.i f)
    → Toward l.n T.limit (d l.fn.zone) (said_row l.n l.i f) (d l.zone) (from (said f l.i) (suc l.n) l.j)
