-- Times that are changed: one list, one claim.
use Rattle.std.specs.Prelude.{Ok, Err, None, ℕ, ℤ, pos, negsuc, ◌≡◌, refl, List, [], ◌∷◌, length, replicate}
use Rattle.ints.specs.declared.Seconds.{Seconds}
use Rattle.model.specs.declared.Case.{Case}
use Rattle.model.specs.declared.Fault.{Fault}
use Rattle.model.specs.declared.Fault.TheVariants as fault
use Rattle.model.specs.Lists.{any_of}
use Rattle.model.specs.Network.{is_time, regular}
use Rattle.model.specs.Faults as F
use Rattle.model.specs.Faults.{Entry, present}
use Rattle.model.specs.Packed.{case_of}
use Rattle.model.specs.Answers.{answer, workspace_after}
use Rattle.model.specs.Changes.{changed, change_fault, preview, workspace_after_preview, PreviewIs, commit_fault, commit}

-- a case, the row, the column and the new entry. A preview is the verdict on a case, or, with Z and the workspace, it is refused;
-- a commit gives a case, or it is refused
pub data Vector : Type 0 where
  previews : Case → ℕ → ℕ → Entry Seconds → Case → Vector
  not_previewed : Case → ℕ → ℕ → Entry Seconds → ℕ → List ℤ → Fault → Vector
  commits : Case → ℕ → ℕ → Entry Seconds → Case → Vector
  not_committed : Case → ℕ → ℕ → Entry Seconds → Fault → Vector

abbrev pub Right : Vector → Type 0
Right (previews c i j e c') = PreviewIs c i j e c'
Right (not_previewed c i j e capacity work f) =
    (preview c i j e capacity (length work) ≡ Err f) × (workspace_after_preview c i j e capacity work ≡ work)
Right (commits c i j e c') = commit c i j e ≡ Ok c'
Right (not_committed c i j e f) = commit c i j e ≡ Err f

abbrev pub AllRight : List Vector → Type 0
AllRight [] = Unit {0}
AllRight (v ∷ vs) = Right v × AllRight vs

-- n = 2, N = 1: the first row is a and b, the second 3 and blank
abbrev pub two : Entry Seconds → Entry Seconds → Case
two a b = case_of 2 1 (a ∷ b ∷ present (pos 3) ∷ None ∷ []) [] []

-- a blank replaced, a time replaced, a time blanked; 4 at the changed entry, 5 at the first entry of its row; 15; the case's own fault comes
-- before 15, even in the entry that would be replaced; then 9 and 10
abbrev pub vectors : List Vector
vectors =
    previews (two None (present (pos 5))) 1 1 (present (pos 2)) (two (present (pos 2)) (present (pos 5)))
    ∷ commits (two None (present (pos 5))) 1 1 (present (pos 2)) (two (present (pos 2)) (present (pos 5)))
    ∷ commits (two None (present (pos 5))) 1 2 (present (negsuc 4)) (two None (present (negsuc 4)))
    ∷ commits (two (present (pos 2)) (present (pos 5))) 1 2 None (two (present (pos 2)) None)
    ∷ not_committed (two None (present (pos 5))) 2 2 (present (pos 86401)) (fault.Time 3)
    ∷ not_committed (two None (present (pos 5))) 1 2 None (fault.EmptyRow 0)
    ∷ not_committed (two None (present (pos 5))) 2 1 None (fault.EmptyRow 2)
    ∷ not_committed (two None (present (pos 5))) 0 1 None fault.Entry
    ∷ not_committed (two None (present (pos 5))) 1 3 None fault.Entry
    ∷ not_committed (two (present (pos 86401)) (present (pos 5))) 1 1 None (fault.Time 0)
    ∷ not_committed (two (present (pos 86401)) (present (pos 5))) 0 3 None (fault.Time 0)
    ∷ not_previewed (two None (present (pos 5))) 3 1 None 0 [] fault.Entry
    ∷ not_previewed (two None (present (pos 5))) 1 2 None 0 [] (fault.EmptyRow 0)
    ∷ not_previewed (two None (present (pos 5))) 1 1 None 0 [] fault.Capacity
    ∷ not_previewed (two None (present (pos 5))) 1 1 None 1 (replicate 17 (pos 1)) fault.Workspace
    ∷ []

pub all_right : AllRight vectors
unfolding any_of is_time regular F.time_of F.beyond F.over F.bound_fault F.entry_fault F.rows_fault F.outside F.table_fault F.patterns_fault
    F.case_fault F.room_fault
    F.call_fault answer workspace_after changed change_fault preview workspace_after_preview commit_fault commit
all_right = (
  λ capacity work. (refl, refl),
  (refl, (refl, (refl, (refl, (refl, (refl, (refl, (refl, (refl, (refl, ((refl, refl), ((refl, refl), ((refl, refl), ((refl, refl), tt)))))))))))))),
)
