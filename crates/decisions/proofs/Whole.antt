-- Whole numbers: the target is met from a start in whole numbers, and the steps of a decision were enough.
use Prim.Native.Nat.{ℕ, ◌≤◌, ◌<◌}
use mathlib.Core.Path.{◌≡◌}
use mathlib.Core.List.{List}
use lib.IntN.{ℤ}
use Rattle.model.specs.Network.{Network}
use Rattle.model.specs.Demands.{Witness}
use Rattle.decisions.specs.Decide.{Decision, undecided}

-- the target is met at cycle k
abbrev pub MetWhole : Network → ℕ → Type 0
MetWhole w k = (xs : List ℤ) × Witness w k xs

-- it is met so at no cycle from 1 to k - 1
abbrev pub UnmetBefore : Network → ℕ → Type 0
UnmetBefore w k = (j : ℕ) → 1 ≤ j → j < k → MetWhole w j → ⊥

-- the steps were enough
abbrev pub Enough : Decision → Type 0
Enough o = (j : ℕ) → ¬ (o ≡ undecided j)
