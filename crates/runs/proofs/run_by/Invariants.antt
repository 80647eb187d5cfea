-- The times after so many cycles.
use Rattle.std.proofs.Common.{◌≡◌}
use Rattle.model.specs.Network.{cycles}
use Rattle.model.specs.Answers.{all_times}
use Rattle.runs.specs.Steps.{times_of, table_in}
use Rattle.runs.proofs.run_by.Given as goal

abbrev pub invariant-loop : goal.invariant-loop
invariant-loop l = l.times ≡ all_times (cycles l.n (table_in l.factor l.n l.fn.case.times) l.counter (times_of l.n l.fn.start))
