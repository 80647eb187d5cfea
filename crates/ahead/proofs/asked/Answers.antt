-- Nothing where there is no time; else the zone's bound less the time.
use native.Mathlib.Omega.{arith}
use Prim.Native.Nat.{◌+◌}
use mathlib.Core.Path.{ap₂, ◌∙◌}
use Rattle.model.specs.Bound.{plus}
use Rattle.model.specs.Conditions.{free, sized}
use Rattle.model.proofs.Size.{small_mono, small_sum}
use Rattle.memory.specs.Numbers.{InMemory}
use Rattle.ahead.proofs.Tabled.{asks_none, asks_some, taken_off}
use Rattle.ahead.proofs.asked.Goals as goal

pub returns-in_default : goal.returns-in_default
returns-in_default c = record { is = asks_none c.row_time.ensures _ c.in_default.is; small = free }

pub difference-requires : goal.difference-requires
difference-requires c = let h = taken_off c.row_time.ensures c.in-Some.is in omega arith

pub add-requires : goal.add-requires
add-requires c =
    let off = taken_off c.row_time.ensures c.in-Some.is in
    small_mono {B = InMemory + InMemory} (omega arith) (rw c.difference.ensures (small_sum c.bound_at.ensures.small (sized off)))

pub returns : goal.returns
returns c =
    let off = taken_off c.row_time.ensures c.in-Some.is in
    record {
      is = c.add.ensures ∙ ap₂ plus c.bound_at.ensures.is c.difference.ensures ∙ asks_some c.row_time.ensures c.in-Some.is _;
      small = rw (c.add.ensures, c.difference.ensures) (small_sum c.bound_at.ensures.small (sized off));
    }
