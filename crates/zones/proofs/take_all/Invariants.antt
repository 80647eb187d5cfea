-- What is left to be taken in.
use Prim.Native.Nat.{ℕ, suc}
use mathlib.Core.List.{flatten}
use Rattle.model.specs.Bound.{Bound}
use Rattle.model.proofs.Tabulated.{from}
use Rattle.memory.proofs.Toward.{Toward}
use Rattle.zones.specs.Said.{said_row, said_all, Saying}
use Rattle.zones.proofs.take_all.Given as goal

abbrev pub invariant-loop-i : goal.invariant-loop-i
invariant-loop-i g l =
    let T = g.T.Stored in
    let d = T.bounds_in in
    (f : ℕ → ℕ → Bound)
    → Saying l.n T.limit T.largest (d l.fn.zone) (goal.F-pre g l.bound) (goal.F-post g l.bound) f (said_all l.n f)
    → Toward l.n T.limit (d l.fn.zone) (said_all l.n f) (d l.zone) (flatten (from (λ i. said_row l.n i f) (suc l.n) l.i))
