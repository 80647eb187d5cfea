-- No more bytes than there is room for.
use Rattle.std.proofs.Common.{◌≤◌, length}
use Rattle.vectors.proofs.read_all.Given as goal

abbrev pub invariant-loop : goal.invariant-loop
invariant-loop l = l.size ≤ length l.input
