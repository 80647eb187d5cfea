-- The entries passed so far have no fault.
use Rattle.std.specs.Prelude.{ℕ}
use Rattle.std.proofs.Math.Option.{Option}
use Rattle.model.specs.declared.Fault.{Fault}
use Rattle.judge.specs.Judgement.{Says}
use Rattle.judge.proofs.Laws.{Passed}
use Rattle.judge.proofs.first_fault.Given as goal

abbrev pub invariant-loop-i : goal.invariant-loop-i
invariant-loop-i g l = (said : ℕ → g.row.E.Denot → Option Fault) → Says (goal.F-post g l.judge) said → Passed said l.first l.entries l.i
