-- A case without a fault, put in memory.
use Prim.Native.Nat.{ℕ}
use mathlib.Core.Path.{◌≡◌, ◌∙◌}
use mathlib.Core.List.{List}
use lib.IntN.{ℤ}
use Rattle.model.specs.declared.Case.{Case}
use Rattle.model.specs.Faults.{network}
use Rattle.model.proofs.Limits.{case_limits}
use Rattle.memory.specs.Networks.{CaseIn}
use Rattle.judge.specs.Judgement.{start_parts}
use Rattle.judge.proofs.Laws.{parts_are}
use Rattle.decisions.specs.Deciding.{Accepted}
use Rattle.decisions.proofs.DecideHolds.{accepted_case, accepted_horizon}
use Rattle.decide.proofs.Zoned.{Loaded}

pub loaded : (c : Case) (horizon : ℕ) → Accepted c horizon → {parts : ℕ} {times start target : List ℤ} → CaseIn c times start target
    → parts ≡ start_parts c → Loaded (network c) c.n parts horizon times start target
unfolding network
loaded c horizon ok h is-parts = record {
  is = h.is;
  limits = case_limits c (accepted_case c horizon ok);
  parts_are = is-parts ∙ parts_are c h.table.departures;
  far = (accepted_horizon c horizon ok).1;
  table = h.table;
  start_held = h.start_held;
  target_held = h.target_held;
}
