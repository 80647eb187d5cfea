-- Zone by zone, the last first: none of those behind is this one.
use Rattle.std.proofs.Common.{◌≡◌, ◌≤◌, false, length}
use Rattle.model.specs.Lists.{any_of}
use Rattle.model.specs.Matrix.{same_matrix}
use Rattle.model.proofs.Tabulated.{from}
use Rattle.memory.specs.Numbers.{bounds_in}
use Rattle.lists.specs.Lists.{zone_at}
use Rattle.lists.proofs.places.has.Given as goal

abbrev pub invariant-loop-k : goal.invariant-loop-k
invariant-loop-k l = record {
  lower : l.first ≤ l.k;
  none_behind : any_of (same_matrix (bounds_in l.zone)) (from (zone_at (length l.zone) l.list) l.end l.k) ≡ false;
}
