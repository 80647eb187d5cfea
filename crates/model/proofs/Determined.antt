-- The demands leave one verdict and one workspace: what meets them has those of the definition, whatever made it.
use Prim.Native.Nat.{ℕ}
use mathlib.Core.Path.{◌≡◌, refl, ap}
use mathlib.Core.Logic.{⊎_elim}
use mathlib.Core.List.{List, []}
use mathlib.Core.Option.{Option, none, some}
use lib.IntN.{ℤ}
use lib.ListN.{length}
use Rattle.ints.proofs.Integers.{impossible}
use Rattle.model.specs.declared.Case.{Case}
use Rattle.model.specs.declared.Fault.{Fault}
use Rattle.std.specs.Prelude.{Result, Ok, Err}
use Rattle.model.specs.declared.Verdict.{Verdict}
use Rattle.model.specs.declared.Verdict.TheVariants as verdict
use Rattle.model.specs.Search.{Outcome, outcome}
use Rattle.model.specs.Faults.{network, call_fault}
use Rattle.model.specs.Packed.{Reading, got, refused, parse}
use Rattle.model.specs.Answers.{start_of, answered, answer, workspace_after, answer_packed, workspace_after_packed}
use Rattle.model.specs.Demands.{InLimits, NeverHolds, Demands, PackedDemands}
use Rattle.model.proofs.Limits.{limits_of}
use Rattle.model.proofs.Concluded as concluded
use Rattle.model.proofs.Concluded.{Concluded, reached_at, clear_at, never_at, conclusion}
use Rattle.model.proofs.DemandsHold.{answer_in, answer_refused, demand3}

-- an answer but for the start that it hands back
abbrev pub told : Result Verdict Fault → Result Verdict Fault
told (Ok (verdict.Reached k s)) = Ok (verdict.Reached k (start_of 0 []))
told (Ok (verdict.Clear k)) = Ok (verdict.Clear k)
told (Ok verdict.Never) = Ok verdict.Never
told (Err f) = Err f

-- the verdict and the workspace are those of an answer
abbrev pub Same : Result Verdict Fault → List ℤ → Result Verdict Fault → List ℤ → Type 0
Same r after a work = (told r ≡ told a) × (after ≡ work)

module _ (c : Case) (capacity : ℕ) (work : List ℤ) (r : Result Verdict Fault) (after : List ℤ) (d : Demands c capacity work r after) where
  abbrev size : ℕ
  size = length work

  -- clear is not never
  not_both : {o : Outcome} → (l : InLimits c capacity size) → outcome (network c) capacity ≡ o → NeverHolds (network c) capacity
      → answered o ≡ Ok verdict.Never
  not_both l e h = rw (← e) (rw (answer_in c capacity size l) at ((demand3 c capacity size l).exactly.1 h))

  within : (l : InLimits c capacity size) {o : Outcome} → outcome (network c) capacity ≡ o → Concluded (network c) capacity o
      → told r ≡ told (answered o)
  unfolding network
  within l e (reached_at {k} f s a) = let (t, is) = ((d.two l).exactly a k).1 f in rw is refl
  within l e (concluded.is_table_full {k} f h) = ap told (((d.two l).full k).1 (f, h))
  within l e (clear_at s unmet a) =
      ⊎_elim (λ t. ap told t) (λ t. let q = not_both l e ((d.three l).exactly.0 t) in impossible cc) ((d.two l).otherwise a unmet)
  within l e (never_at h) = ap told ((d.three l).exactly.1 h)

  pub determined : Same r after (answer c capacity size) (workspace_after c capacity work)
  unfolding workspace_after
  determined = go (call_fault c capacity size) refl
    where
      go : (o : Option Fault) → call_fault c capacity size ≡ o → Same r after (answer c capacity size) (workspace_after c capacity work)
      go (some f) e = let (is, left) = d.one.refuses f e in (rw (is, answer_refused c capacity size f e), rw e left)
      go none e =
          let l = limits_of c capacity size e in
          let found = within e refl (conclusion (network c) capacity l.table.regular l.table.departures.some) in
          (rw (answer_in c capacity size e) found, rw e (d.one.ends e).1)

-- the same of a packed case
pub packed_determined : (s : List ℕ) (capacity : ℕ) (work : List ℤ) (r : Result Verdict Fault) (after : List ℤ) → PackedDemands s capacity work r after
    → Same r after (answer_packed s capacity (length work)) (workspace_after_packed s capacity work)
unfolding answer_packed workspace_after_packed
packed_determined s capacity work r after d = go (parse s) refl
  where
    go : (o : Reading Case) → parse s ≡ o → Same r after (answer_packed s capacity (length work)) (workspace_after_packed s capacity work)
    go (refused f) e = let (is, left) = d.refuses f e in rw (e, is, answer_packed, workspace_after_packed) (refl, left)
    go (got c q) e = rw (e, answer_packed, workspace_after_packed) (determined c capacity work r after (d.reads c q e).1)
