-- A change without a fault is of an entry of the table.
use Prim.Native.Nat.{ℕ, ◌≤◌}
use mathlib.Core.Path.{◌≡◌}
use mathlib.Core.Option.{none}
use Rattle.model.specs.declared.Case.{Case}
use Rattle.model.specs.Changes.{change_fault}
use Rattle.model.proofs.Changes.{no_change_fault, place_small}

module _ (c : Case) (i j : ℕ) (clean : change_fault c i j ≡ none) where
  pub row_from : 1 ≤ i
  row_from = ((no_change_fault c i j).0 clean).1.row_from

  pub column_from : 1 ≤ j
  column_from = ((no_change_fault c i j).0 clean).1.column_from

pub ruleset inside = (place_small, row_from, column_from)
