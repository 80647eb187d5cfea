-- What a case without a fault gives those who put it in memory.
use Prim.Native.Nat.{ℕ, ◌≤◌}
use native.Mathlib.Omega.{arith}
use mathlib.Core.Path.{◌≡◌}
use mathlib.Core.List.{List, map}
use mathlib.Core.Option.{none}
use lib.ListN.{length, take}
use lib.Seq.{length-take-le}
use Rattle.model.specs.declared.Case.{Case}
use Rattle.model.specs.Sizes.{bound_limit, table_size, pattern_size}
use Rattle.model.specs.Lists.{Every}
use Rattle.model.specs.Faults.{network, case_fault, table_fault, patterns_fault}
use Rattle.model.specs.Conditions.{Departures, InLimit, BoundInLimit}
use Rattle.model.proofs.Listed.{every_map}
use Rattle.model.proofs.Limits.{wider_limit, no_fault, rows_in, case_limits}
use Rattle.model.proofs.Places.{table_fits, pattern_fits}

module _ (c : Case) (h : case_fault c ≡ none) where
  pub departures : Departures c.n
  unfolding network
  departures = (case_limits c h).table.departures

  pub times_in_limit : Every (InLimit bound_limit) (take (table_size c.n) c.times)
  unfolding case_fault table_fault
  times_in_limit = let facts = simp no_fault at h in every_map (wider_limit (omega arith)) (rows_in facts.0.1.1)

  pub start_in_limit : Every BoundInLimit (take (pattern_size c.n) c.start)
  unfolding case_fault patterns_fault
  start_in_limit = let facts = simp no_fault at h in facts.1.0

  pub target_in_limit : Every BoundInLimit (take (pattern_size c.n) c.target)
  unfolding case_fault patterns_fault
  target_in_limit = let facts = simp no_fault at h in facts.1.1

pub ruleset without_fault = (departures, table_fits, pattern_fits, times_in_limit, start_in_limit, target_in_limit)

-- what stands at the front of an array for the first entries
pub front_is : {X Y Z : Type 0} (read : List X → List Z) (means : Y → Z) (made : List X) (entries : List Y) {count size : ℕ}
    → count ≡ size → count ≤ length entries → read (take (length (take count entries)) made) ≡ map means (take count entries)
    → read (take size made) ≡ map means (take size entries)
front_is read means made entries {count} e h is = rw (length-take-le count entries h, e) at is
