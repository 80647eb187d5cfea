-- A preview by the fault of its change.
use Prim.Native.Nat.{ℕ}
use mathlib.Core.Path.{◌≡◌, ◌∙◌}
use mathlib.Core.List.{List}
use mathlib.Core.Option.{none}
use lib.IntN.{ℤ}
use lib.ListN.{length}
use Rattle.std.specs.Prelude.{Result}
use Rattle.ints.specs.declared.Seconds.{Seconds}
use Rattle.model.specs.declared.Case.{Case}
use Rattle.model.specs.declared.Fault.{Fault}
use Rattle.model.specs.declared.Verdict.{Verdict}
use Rattle.model.specs.Faults.{Entry}
use Rattle.model.specs.Demands.{Given}
use Rattle.model.specs.Changes.{changed, change_fault, preview, workspace_after_preview, PreviewGiven}
use Rattle.model.proofs.Outcomes.{judgements}
use Rattle.model.proofs.Changes.{preview_demands}

module _ {r : Result Verdict Fault} {after : List ℤ} (c : Case) (i j : ℕ) (e : Entry Seconds) (capacity : ℕ) (work : List ℤ) where
  -- the demands follow from the answer and the workspace of the definition
  pub given : r ≡ preview c i j e capacity (length work) → after ≡ workspace_after_preview c i j e capacity work → PreviewGiven c i j e capacity work r after
  given a w = record { answer = a; workspace = w; demands = rw (a, w) (preview_demands c i j e capacity work) }

  -- a change that is not refused is answered as the copy is
  pub answered : change_fault c i j ≡ none → Given (changed c i j e) capacity work r after → PreviewGiven c i j e capacity work r after
  unfolding preview workspace_after_preview
  answered h g = given (g.answer ∙ rw (h, preview)) (g.workspace ∙ rw (h, workspace_after_preview))

pub ruleset said = (judgements, given)
