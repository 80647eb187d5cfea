-- One time of the table replaced or blanked, request [2]: the verdict beforehand, and the case afterwards. Rows and columns count from 1.
use Rattle.std.specs.Prelude.{Result, Ok, Err, ℕ, ◌+◌, ◌-◌, ◌*◌, ◌≡◌, List, ◌||◌, ℤ, length, set}
use Rattle.std.proofs.Math.Option.{Option, none, some}
use Rattle.ints.specs.declared.Seconds.{Seconds}
use Rattle.model.specs.declared.Case.{Case}
use Rattle.model.specs.declared.Fault.{Fault}
use Rattle.model.specs.declared.Verdict.{Verdict}
use Rattle.model.specs.declared.Fault.TheVariants as fault
use Rattle.model.specs.Lists.{when, or_else}
use Rattle.model.specs.Faults.{Entry, outside, case_fault}
use Rattle.model.specs.Answers.{answer, workspace_after}
use Rattle.model.specs.Demands.{Demands}

-- the entry of row i and column j
abbrev pub time_place : ℕ → ℕ → ℕ → ℕ
time_place n i j = (i - 1) * n + (j - 1)

-- the copy with that entry changed
unfoldable pub changed : Case → ℕ → ℕ → Entry Seconds → Case
changed c i j e = record {
  n = c.n;
  horizon = c.horizon;
  times = set c.times (time_place c.n i j) e;
  start = c.start;
  target = c.target;
}

-- the case's own faults, 2 to 6, then 15
unfoldable pub change_fault : Case → ℕ → ℕ → Option Fault
change_fault c i j = or_else (case_fault c) (when (outside 1 c.n i || outside 1 c.n j) fault.Entry)

-- the verdict on the copy, with Z and the length of the workspace
unfoldable pub preview : Case → ℕ → ℕ → Entry Seconds → ℕ → ℕ → Result Verdict Fault
preview c i j e capacity size = elim (change_fault c i j) [ some f ↦ Err f | none ↦ answer (changed c i j e) capacity size ]

-- the workspace afterwards
unfoldable pub workspace_after_preview : Case → ℕ → ℕ → Entry Seconds → ℕ → List ℤ → List ℤ
workspace_after_preview c i j e capacity work = elim (change_fault c i j) [ some f ↦ work | none ↦ workspace_after (changed c i j e) capacity work ]

-- the preview is the verdict on the case c', with any Z and workspace
abbrev pub PreviewIs : Case → ℕ → ℕ → Entry Seconds → Case → Type 0
PreviewIs c i j e c' =
    (capacity : ℕ) (work : List ℤ) →
    (preview c i j e capacity (length work) ≡ answer c' capacity (length work))
    × (workspace_after_preview c i j e capacity work ≡ workspace_after c' capacity work)

-- then 4 and 5 of the copy
unfoldable pub commit_fault : Case → ℕ → ℕ → Entry Seconds → Option Fault
commit_fault c i j e = or_else (change_fault c i j) (case_fault (changed c i j e))

-- the copy, or its fault
unfoldable pub commit : Case → ℕ → ℕ → Entry Seconds → Result Case Fault
commit c i j e = elim (commit_fault c i j e) [ some f ↦ Err f | none ↦ Ok (changed c i j e) ]

-- the case afterwards: the copy, or the case as it was given
unfoldable pub case_after : Case → ℕ → ℕ → Entry Seconds → Case
case_after c i j e = elim (commit c i j e) [ Ok c' ↦ c' | Err f ↦ c ]

-- what is demanded of a preview's answer r and of the workspace afterwards: the demands on the copy, or the refusal
pub record PreviewDemands (c : Case) (i j : ℕ) (e : Entry Seconds) (capacity : ℕ) (work : List ℤ) (r : Result Verdict Fault) (after : List ℤ) : Type 0 where
  pub refuses : (f : Fault) → change_fault c i j ≡ some f → (r ≡ Err f) × (after ≡ work)
  pub changes : change_fault c i j ≡ none → Demands (changed c i j e) capacity work r after

-- what a preview gives
pub record PreviewGiven (c : Case) (i j : ℕ) (e : Entry Seconds) (capacity : ℕ) (work : List ℤ) (r : Result Verdict Fault) (after : List ℤ) : Type 0 where
  pub answer : r ≡ preview c i j e capacity (length work)
  pub workspace : after ≡ workspace_after_preview c i j e capacity work
  pub demands : PreviewDemands c i j e capacity work r after
