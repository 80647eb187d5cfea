-- Row by row.
use native.Mathlib.Omega.{arith}
use Prim.Native.Nat.{suc}
use mathlib.Core.Path.{ap}
use mathlib.Core.List.{flatten}
use Rattle.model.proofs.Tabulated.{from_first}
use Rattle.memory.proofs.Toward.{toward_start, first_of, next_list, end_list}
use Rattle.memory.proofs.Leaving.{given_up, onward, arrived}
use Rattle.zones.proofs.take_all.Goals as goal

pub loop-i-init : goal.loop-i-init
loop-i-init g c = λ f s. toward_start s.taking (ap flatten (from_first _ (suc c.args.n) 0 (suc c.args.n) (omega arith)))

pub take_row-requires : goal.take_row-requires
take_row-requires g c =
    let (f, s) = c.requires in
    (omega arith, (f, record { taking = first_of (next_list _ _ _ (omega arith)) (c.loop-i.invariant f s); asks = s.asks; tells = s.tells }))

pub returns-then-not-take_row : goal.returns-then-not-take_row
returns-then-not-take_row g c = λ f s.
    given_up (next_list _ _ _ (omega arith)) (c.loop-i.invariant f s)
    (c.take_row.ensures f (record {
      taking = first_of (next_list _ _ _ (omega arith)) (c.loop-i.invariant f s);
      asks = s.asks;
      tells = s.tells;
    }))
    c.if-not-take_row.true

pub loop-i-preserved : goal.loop-i-preserved
loop-i-preserved g c = λ f s.
    onward (next_list _ _ _ (omega arith)) (c.loop-i.invariant f s)
    (c.take_row.ensures f (record {
      taking = first_of (next_list _ _ _ (omega arith)) (c.loop-i.invariant f s);
      asks = s.asks;
      tells = s.tells;
    }))
    c.if-not-take_row.false

pub returns : goal.returns
returns g c = λ f s. arrived (c.loop-i.invariant f s) (end_list _ _ _ (omega arith))
