-- A run that is shown is one of a case within the limits: it has few times, in few lines.
use Prim.Native.Nat.{ℕ, suc, ◌≤◌}
use native.Mathlib.Omega.{arith}
use native.Mathlib.Nat.{mul-le-mul}
use native.Mathlib.Decide.{dec_le}
use borrow.Author.Tests.{le-leb, lt-leb}
use mathlib.Core.Path.{◌≡◌, refl}
use mathlib.Core.Option.{Option, none, some}
use Rattle.std.specs.Prelude.{Ok}
use Rattle.ints.proofs.Integers.{impossible}
use Rattle.model.specs.Sizes.{few_departures, most_departures, workspace_size}
use Rattle.model.specs.declared.Case.{Case}
use Rattle.model.specs.declared.Fault.{Fault}
use Rattle.model.specs.declared.StartTimes.{StartTimes}
use Rattle.model.specs.declared.Verdict.TheVariants as verdict
use Rattle.model.specs.Faults.{network, call_fault}
use Rattle.model.specs.Answers.{cycle_number, answer}
use Rattle.model.specs.Demands.{InLimits}
use Rattle.model.proofs.Limits.{limits_of}
use Rattle.model.proofs.DemandsHold.{demand2, answer_refused}
use Rattle.report.specs.Lengths.{FewLines}
use Rattle.report.specs.Text.{program_zones, program_space}

module _ (c : Case) (capacity size k : ℕ) (s : StartTimes) (reached : answer c capacity size ≡ Ok (verdict.Reached (cycle_number k) s)) where
  pub reached_in : InLimits c capacity size
  reached_in = go (call_fault c capacity size) refl
    where
      go : (o : Option Fault) → call_fault c capacity size ≡ o → InLimits c capacity size
      go none h = h
      go (some f) h = let w = rw (answer_refused c capacity size f h) at reached in impossible cc

  pub few : FewLines c k s
  unfolding network
  few =
      let limits = limits_of c capacity size reached_in in
      let demand = demand2 c capacity size reached_in in
      record {
        departures = omega (arith, limits);
        lines = omega (arith, (demand.first k (s, reached)).to_horizon, limits.few_cycles);
        parts = (demand.start k s reached).0;
      }

-- the program's workspace is long enough
pub space_enough : (n : ℕ) → n ≤ most_departures → workspace_size (program_zones n) n ≤ program_space
space_enough n h = go (dec_le n few_departures)
  where
    rows : {most : ℕ} → n ≤ most → suc n ≤ suc most
    rows l = omega arith

    go : Dec (n ≤ few_departures) → workspace_size (program_zones n) n ≤ program_space
    go (yes l) = rw (le-leb n few_departures l) (omega (arith, mul-le-mul (rows l) (rows l)))
    go (no l) = rw (lt-leb n few_departures (omega arith)) (omega (arith, mul-le-mul (rows h) (rows h)))
