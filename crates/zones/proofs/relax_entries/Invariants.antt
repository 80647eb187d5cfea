-- The row is filled as far as the loop has come.
use Prim.Native.Nat.{◌+◌, ◌-◌}
use borrow.Rule.Slice.PartMut.{put_mid}
use Rattle.memory.specs.Numbers.{of_halves, bounds_in}
use Rattle.memory.specs.Matrices.{RowFilled}
use Rattle.zones.specs.Inner.{beside}
use Rattle.zones.proofs.relax_entries.Given as goal

abbrev pub invariant-loop-j : goal.invariant-loop-j
invariant-loop-j l =
    let zone = put_mid l.base (l.base + l.rest.width - l.base) l.fn.zone l.number-items in
    RowFilled l.n (bounds_in l.fn.zone) (bounds_in zone) (beside l.n l.fn.zone l.rest.numbers.now l.i (of_halves l.way.0)) l.i l.j
