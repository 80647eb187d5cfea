-- The target is met at cycle k exactly if one step of power k takes some start to it: a try on that power finds a set, whose
-- picked start is a witness, or finds none, and then the target is not met at k.
use Prim.Native.Nat.{ℕ, suc, ◌+◌}
use mathlib.Core.Path.{◌≡◌, refl, sym}
use mathlib.Core.Logic.{◌↔◌}
use mathlib.Core.List.{List}
use lib.IntN.{ℤ}
use mathlib.Core.Option.{some}
use Rattle.model.specs.Matrix.{Matrix, Member}
use Rattle.model.specs.Pattern.{InPattern}
use Rattle.model.specs.Network.{Time, Network, time, clocked, cycle, power}
use Rattle.model.specs.Search.{chosen, attains, row_constraints, pick}
use Rattle.model.specs.Demands.{Witness}
use Rattle.model.specs.Lists.{Every}
use Rattle.model.specs.Conditions.{Closed, Regular}
use Rattle.model.proofs.Bounds.{Plain}
use Rattle.model.proofs.Listed.{every_append, every_split, every_tabulate}
use Rattle.model.proofs.Size.{PlainLimits}
use Rattle.model.proofs.Plain.{all_plain, constraints_plain, tighten_plain, pattern_plain, slack_plain, row_plain}
use Rattle.model.proofs.Powers.{power_regular}
use Rattle.model.proofs.Patterns.{closed_some, pattern_closed, pattern_in}
use Rattle.model.proofs.ZoneLists.{member_at, image_cycle}
use Rattle.model.proofs.Start.{pick_length, pick_member}
use Rattle.decisions.specs.Decide.{lead, attains_first, first_constraints, Tried, found, missed, spent, meeting}
use Rattle.decisions.specs.Conditions.{Posed}
use Rattle.decisions.proofs.Whole.{MetWhole}
use Rattle.decisions.proofs.FirstColumn.{leading}
use Rattle.decisions.proofs.OneShot.{one_shot}
use Rattle.decisions.proofs.Descent.{Ends, hit, miss, out, meeting_in, meeting_keeps}

-- the same, with the try that ends so
ends_tell : {H K : Matrix → Type 0} {M N : Type 0} {p : Tried} → ((z : Matrix) → p ≡ found z → H z → K z) → (M → N)
    → (o : Tried) → p ≡ o → Ends H M o → Ends K N o
ends_tell f g (found z) e (hit h) = hit (f z e h)
ends_tell f g (missed t) e (miss m) = miss (g m)
ends_tell f g spent e out = out

-- no bound of the patterns is strict
pub record PlainPatterns (w : Network) : Type 0 where
  pub start : Every Plain w.start
  pub target : Every Plain w.target

first_plain : (n : ℕ) (b : List Time) (d : Matrix) → Every Plain d → (cols : List ℕ) (i s : ℕ) → PlainLimits (first_constraints n b d cols i s)
unfolding first_constraints attains_first row_constraints
first_plain n b d p cols i s =
    let (_, q) = every_split (attains n b i s) _ (row_plain n b p cols i s) in
    every_append (every_tabulate n 1 (leading n b i s) (λ j h. slack_plain (lead (1 + j) s (chosen n b i s)) (time n b i (1 + j)))) q

module _ (w : Network) (reg : Regular w.n w.times) (plain : PlainPatterns w) {z d : Matrix} (posed : Posed w z d) where
  pub start_closed : Closed (suc w.n) z
  start_closed = closed_some (rw posed.start at (pattern_closed w.n w.start))

  pub target_closed : Closed (suc w.n) d
  target_closed = closed_some (rw posed.target at (pattern_closed w.n w.target))

  start_in_lem : (x : ℕ → ℤ) → Member (suc w.n) z x ↔ InPattern w.n w.start x
  start_in_lem x = rw posed.start at (pattern_in w.n w.start x)

  target_in : (x : ℕ → ℤ) → Member (suc w.n) d x ↔ InPattern w.n w.target x
  target_in x = rw posed.target at (pattern_in w.n w.target x)

  -- power r + 1
  abbrev pub power_at : ℕ → List Time
  power_at r = power w.n w.times r

  -- the set that is found has no strict bound
  found_plain : (b : List Time) (t : ℕ) {y : Matrix} → meeting w.n b z d t ≡ found y → Every Plain y
  found_plain b t e =
      meeting_keeps w.n b d (Every Plain)
      (λ i s cols u v h q c p f. constraints_plain (suc w.n) (some u) (λ x g. let same : u ≡ x = cc in rw (← same) p)
      (first_plain w.n b d (tighten_plain (suc w.n) (pattern_plain w.n plain.target) d posed.target) cols i s) v f)
      t (tighten_plain (suc w.n) (pattern_plain w.n plain.start) z posed.start) e

  -- at cycle r + 1
  pub meeting_ends : (r t : ℕ) → Ends (λ y. Witness w (suc r) (pick w.n y)) (MetWhole w (suc r) → ⊥) (meeting w.n (power_at r) z d t)
  meeting_ends r t =
      ends_tell
      (λ y f h.
      let xs = pick w.n y in
      let (mem, arrived) = h.1 (clocked xs) (pick_member h.0 (all_plain (found_plain (power_at r) t f) (suc w.n))) in
      record {
        size = pick_length w.n y;
        started = (start_in_lem (clocked xs)).0 mem;
        arrived = rw (one_shot w.n w.times reg r xs)
            ((target_in (clocked (cycle w.n (power_at r) xs))).0 (member_at (suc w.n) d (image_cycle w.n (power_at r) xs) arrived));
      })
      (λ barred m.
      let (xs, s) = m in
      barred (clocked xs) ((start_in_lem (clocked xs)).1 s.started)
      (member_at (suc w.n) d (λ i l. sym (image_cycle w.n (power_at r) xs i l))
      ((target_in (clocked (cycle w.n (power_at r) xs))).1 (rw (one_shot w.n w.times reg r xs) at s.arrived))))
      _ refl (meeting_in w.n (power_at r) d (power_regular w.n w.times reg r) target_closed start_closed t)
