-- Bounds of the wide form that were looked at, one after the other, for a mark that the old form has no place for.
use Rattle.std.specs.Prelude.{Result, Ok, Err, IfOk, ℕ, suc, ◌+◌, ◌*◌, ◌≤◌, ◌≡◌, List, ◌++◌, length}
use Rattle.std.proofs.Math.Option.{Option, some}
use Rattle.model.specs.Sizes.{most_width}
use Rattle.model.specs.declared.Limit.{Limit}
use Rattle.model.specs.declared.Fault.{Fault}
use Rattle.model.specs.Forms.{old, wide}
use Rattle.model.specs.Faults.{Entry, mark_fault, fault_along}
use Rattle.model.specs.Converting.{behind}

-- the first fault of bounds that start at place p
abbrev pub marks_from : ℕ → List (Entry Limit) → Option Fault
marks_from p es = fault_along (behind wide) (mark_fault old) p es

-- the fault that was found, else that of the bounds that are left
abbrev pub found : Result ℕ Fault → List (Entry Limit) → Option Fault
found (Err f) rest = some f
found (Ok q) rest = marks_from q rest

-- the bounds es, from place p on, were looked at, whatever comes after them
pub record LookedAt (es : List (Entry Limit)) (p : ℕ) (r : Result ℕ Fault) : Type 0 where
  pub is : (rest : List (Entry Limit)) → marks_from p (es ++ rest) ≡ found r rest
  pub near : IfOk r (λ q. q ≤ p + suc most_width * length es)
