-- The answer and the workspace by what the judging and the reading say. The demands follow from them, whoever hands them back.
use Prim.Native.Nat.{ℕ}
use mathlib.Core.Path.{◌≡◌, ◌∙◌, refl}
use mathlib.Core.List.{List}
use mathlib.Core.Option.{none}
use lib.IntN.{ℤ, pos}
use lib.ListN.{length, replicate}
use Rattle.std.specs.Prelude.{Result, Ok}
use Rattle.ints.proofs.Integers.{impossible}
use Rattle.model.specs.declared.Case.{Case}
use Rattle.model.specs.declared.Fault.{Fault}
use Rattle.model.specs.declared.Verdict.{Verdict}
use Rattle.model.specs.Search.{outcome}
use Rattle.model.specs.Faults.{network, call_fault}
use Rattle.model.specs.Packed.{Reading, got, refused, parse}
use Rattle.model.specs.Answers.{answered, answer, workspace_after, answer_packed, workspace_after_packed, outcome_of}
use Rattle.model.specs.Demands.{Given, PackedGiven}
use Rattle.model.proofs.Outcomes.{judgements}
use Rattle.model.proofs.DemandsHold.{demands, packed_demands}

module _ {r : Result Verdict Fault} {after : List ℤ} (capacity : ℕ) (work : List ℤ) where
  pub given : (c : Case) → r ≡ answer c capacity (length work) → after ≡ workspace_after c capacity work → Given c capacity work r after
  given c e f = record { answer = e; workspace = f; demands = rw (e, f) (demands c capacity work) }

  pub packed_given : (s : List ℕ) → r ≡ answer_packed s capacity (length work) → after ≡ workspace_after_packed s capacity work
      → PackedGiven s capacity work r after
  packed_given s e f = record { answer = e; workspace = f; demands = rw (e, f) (packed_demands s capacity work) }

  -- a case within the limits is searched
  pub searched : (c : Case) → call_fault c capacity (length work) ≡ none
      → r ≡ answered (outcome (network c) capacity) → after ≡ replicate (length work) (pos 0) → Given c capacity work r after
  unfolding answer workspace_after
  searched c h e w = given c (e ∙ rw (h, answer)) (w ∙ rw (h, workspace_after))

  -- a packed case that can be read is answered as the case that it holds
  pub read : (s : List ℕ) (c : Case) → outcome_of (parse s) ≡ Ok c → Given c capacity work r after → PackedGiven s capacity work r after
  unfolding answer_packed workspace_after_packed
  read s c h g = go (parse s) refl h
    where
      go : (o : Reading Case) → parse s ≡ o → outcome_of o ≡ Ok c → PackedGiven s capacity work r after
      go (got d q) e k = let same : d ≡ c = cc in packed_given s (g.answer ∙ rw (e, answer_packed, same)) (g.workspace ∙ rw (e, workspace_after_packed, same))
      go (refused f) e k = impossible cc

pub ruleset said = (judgements, given)
