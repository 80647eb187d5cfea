-- No more bytes than there is room for.
use Rattle.std.proofs.Common.{◌≤◌, length}
use Rattle.tramcheck.proofs.input.read_case.Given as goal

abbrev pub invariant-loop : goal.invariant-loop
invariant-loop l = l.size ≤ length l.bytes
