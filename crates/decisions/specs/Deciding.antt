-- What is demanded of the exact answer, as types over the definitions.
use Rattle.std.specs.Prelude.{Result, Ok, Err, ℕ, suc, ◌*◌, ◌-◌, ◌≤◌, ◌≡◌, ◌↔◌, ◌⊎◌, map, ℤ, take}
use Rattle.std.proofs.Math.Option.{none, some}
use Rattle.model.specs.declared.Case.{Case}
use Rattle.model.specs.declared.Fault.{Fault}
use Rattle.model.specs.declared.Verdict.{Verdict}
use Rattle.model.specs.declared.Verdict.TheVariants as verdict
use Rattle.model.specs.declared.StartTimes.{StartTimes}
use Rattle.model.specs.Network.{Network, in_parts, Repeat}
use Rattle.model.specs.Search.{parts_of}
use Rattle.model.specs.Faults.{network}
use Rattle.model.specs.Answers.{cycle_number, answer}
use Rattle.model.specs.Demands.{Reaches, Witness, Met, NotBefore, Differences, Repeated, LeastRepeat}
use Rattle.decisions.specs.declared.Finding.TheVariants as finding
use Rattle.decisions.specs.declared.Finding.{Finding}
use Rattle.decisions.specs.Decide.{steps_for, decide_fault, decided}

-- a call is accepted if it meets none of the faults 2 to 6
abbrev pub Accepted : Case → ℕ → Type 0
Accepted c horizon = decide_fault c horizon ≡ none

-- the steps were enough
abbrev pub Decisive : Result Finding Fault → Type 0
Decisive r = (k : ℕ) → ¬ (r ≡ Ok (finding.Undecided (cycle_number k)))

-- a verdict
abbrev pub Settles : Verdict → Result Finding Fault → Type 0
Settles v r = r ≡ Ok (finding.Settled v)

-- reached at k, with some start
abbrev pub Finds : ℕ → Result Finding Fault → Type 0
Finds k r = (s : StartTimes) × Settles (verdict.Reached (cycle_number k) s) r

-- k is the first cycle from 1 to the horizon at which the target is met
pub record FirstTo (w : Network) (horizon k : ℕ) : Type 0 where
  pub from_one : 1 ≤ k
  pub to_horizon : k ≤ horizon
  pub not_before : NotBefore w k
  pub met : Met w k

-- a call is refused with its first fault, and only then
pub record Demand1 (c : Case) (horizon : ℕ) (r : Result Finding Fault) : Type 0 where
  pub refuses : (f : Fault) → decide_fault c horizon ≡ some f → r ≡ Err f
  pub answers : Accepted c horizon → (f : Fault) → ¬ (r ≡ Err f)

-- of an accepted call: reached exactly at the first cycle met, with a start that meets the target there; else clear or never. Undecided alone says neither
pub record Demand2 (c : Case) (horizon : ℕ) (r : Result Finding Fault) : Type 0 where
  pub first : (k : ℕ) → Finds k r → FirstTo (network c) horizon k
  pub exactly : Decisive r → (k : ℕ) → Finds k r ↔ FirstTo (network c) horizon k
  pub start : (k : ℕ) (s : StartTimes) → Settles (verdict.Reached (cycle_number k) s) r
      → (s.parts ≡ parts_of (network c)) × Witness (in_parts s.parts (network c)) k (map (λ x. x.0) (take c.n s.times))
  pub otherwise : Decisive r → NotBefore (network c) (suc horizon)
      → Settles (verdict.Clear (cycle_number horizon)) r ⊎ Settles verdict.Never r

-- clear: nothing is met up to the horizon. Never: nothing is met, without end. Undecided k: nothing is met before k.
-- So many steps are enough. A power q that repeats an earlier one tells never from a horizon of 3 (q - 1) on
pub record Demand3 (c : Case) (horizon steps : ℕ) (r : Result Finding Fault) : Type 0 where
  pub to_horizon : (k : ℕ) → Settles (verdict.Clear (cycle_number k)) r → (k ≡ horizon) × NotBefore (network c) (suc horizon)
  pub without_end : Settles verdict.Never r → (k : ℕ) → 1 ≤ k → Met (network c) k → ⊥
  pub so_far : (k : ℕ) → r ≡ Ok (finding.Undecided (cycle_number k)) → (1 ≤ k) × (k ≤ horizon) × NotBefore (network c) k
  pub enough : horizon * steps_for c.n c.n ≤ steps → Decisive r
  pub told_never : (q p : ℕ) (number : ℤ) → Repeated (network c) q p number → Differences (network c) → NotBefore (network c) q
      → 3 * (q - 1) ≤ horizon → Decisive r → Settles verdict.Never r

-- of an accepted call whose steps were enough, beside document 01's verdict on the case, for every capacity and length of the workspace.
-- The case's own horizon is the verdict's, and another may be asked here. A defined never, by either cause, is never or clear; where there is a first
-- repeated power q and start or target bounds only differences, it is never from a horizon of 3 (q - 1) on
pub record Agrees (c : Case) (horizon : ℕ) (r : Result Finding Fault) : Type 0 where
  pub reached : (capacity size k : ℕ) → c.horizon.0 ≤ horizon → Reaches k (answer c capacity size) → Finds k r
  pub clear : (capacity size k : ℕ) → horizon ≤ c.horizon.0 → answer c capacity size ≡ Ok (verdict.Clear (cycle_number k))
      → Settles (verdict.Clear (cycle_number horizon)) r ⊎ Settles verdict.Never r
  pub never : (capacity size : ℕ) → answer c capacity size ≡ Ok verdict.Never
      → Settles verdict.Never r ⊎ Settles (verdict.Clear (cycle_number horizon)) r
  pub never_too : (capacity size : ℕ) → answer c capacity size ≡ Ok verdict.Never → (again : Repeat) → LeastRepeat (network c) again
      → Differences (network c) → 3 * (again.q - 1) ≤ horizon → Settles verdict.Never r

pub record Decides (c : Case) (horizon steps : ℕ) (r : Result Finding Fault) : Type 0 where
  pub one : Demand1 c horizon r
  pub two : Accepted c horizon → Demand2 c horizon r
  pub three : Accepted c horizon → Demand3 c horizon steps r
  pub agrees : Accepted c horizon → Decisive r → Agrees c horizon r

-- what a call for the exact answer gives
pub record DecideGiven (c : Case) (horizon steps : ℕ) (r : Result Finding Fault) : Type 0 where
  pub answer : r ≡ decided c horizon steps
  pub demands : Decides c horizon steps r
