-- Powers 1 to r + 1 are at their places, and none of them repeats an earlier one.
use Rattle.memory.specs.Numbers.{times_in}
use Rattle.powers.proofs.Searching.{Looked}
use Rattle.powers.proofs.search.Given as goal

abbrev pub invariant-loop-r : goal.invariant-loop-r
invariant-loop-r l = Looked l.n (times_in l.times) l.initial.powers l.powers l.r
