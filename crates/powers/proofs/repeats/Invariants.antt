-- The powers from the next place on are left, and what is found among them is found.
use Rattle.std.proofs.Common.{◌≡◌}
use Rattle.powers.specs.Readings.{table_at, repeats_at}
use Rattle.powers.proofs.Chunked.{place, Left}
use Rattle.powers.proofs.Searching.{found_from}
use Rattle.powers.proofs.repeats.Given as goal

abbrev pub invariant-loop-p : goal.invariant-loop-p
invariant-loop-p l = record {
  left : Left l.n l.r l.powers l.p-iterator;
  found : repeats_at l.n l.powers l.r ≡ found_from (table_at l.n l.powers) (table_at l.n l.powers l.r) l.r (place l.p-iterator);
}
