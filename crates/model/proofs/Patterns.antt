-- Patterns as sets of times: what a pattern's constraints say, and what a zone has in common with a pattern.
-- Times are x(0), the clock's zero, and x(1) to x(n).
use Prim.Native.Nat.{ℕ, suc}
use native.Mathlib.Omega.{arith}
use native.Mathlib.Nat.{zero-add}
use mathlib.Core.Path.{◌≡◌}
use mathlib.Core.Logic.{◌↔◌}
use mathlib.Core.List.{List}
use mathlib.Core.Option.{none, some}
use lib.IntN.{ℤ}
use Rattle.model.specs.Bound.{Bound}
use Rattle.model.specs.Matrix.{Matrix, tighten, Member}
use Rattle.model.specs.Pattern.{pattern_constraints, InPattern}
use Rattle.model.specs.Search.{common}
use Rattle.model.specs.Lists.{Every}
use Rattle.model.specs.Conditions.{Closed, Fits}
use Rattle.model.proofs.Listed.{every_tabulate, at_tabulate, every_flatten, in_flatten}
use Rattle.model.proofs.Zones.{ClosedZone, closed, In, Keeps, all_closed, all_in, tighten_closed, tighten_in}

-- a zone that is there has a closed matrix
pub closed_some : {m : ℕ} {d : Matrix} → ClosedZone m (some d) → Closed m d
closed_some (closed cl) = cl

module _ (n : ℕ) (b : List Bound) where
  -- the constraints of a pattern are on x(0) to x(n)
  pub pattern_fits : Every (Fits (suc n)) (pattern_constraints n b)
  unfolding pattern_constraints
  pattern_fits =
      every_flatten (every_tabulate (suc n) 0 _ (λ i hi. every_tabulate (suc n) 0 _ (λ j hj.
      record { row_fits = omega arith; col_fits = omega arith })))

  -- the times that keep to them are those within the pattern
  pub keeps_pattern : (x : ℕ → ℤ) → Every (Keeps x) (pattern_constraints n b) ↔ InPattern n b x
  unfolding pattern_constraints
  keeps_pattern x = (
    λ h. record { keeps = λ i j hi hj. simp zero-add at (at_tabulate (suc n) 0 _ (at_tabulate (suc n) 0 _ (in_flatten _ h) i hi) j hj) },
    λ h. every_flatten (every_tabulate (suc n) 0 _ (λ i hi. every_tabulate (suc n) 0 _ (λ j hj.
        h.keeps _ _ (omega arith) (omega arith)))),
  )

  -- the pattern as a zone, whose members are the times within the pattern
  pub pattern_closed : ClosedZone (suc n) (tighten (suc n) (pattern_constraints n b))
  pattern_closed = tighten_closed (suc n) pattern_fits

  pub pattern_in : (x : ℕ → ℤ) → In (suc n) (tighten (suc n) (pattern_constraints n b)) x ↔ InPattern n b x
  pattern_in x =
      let zone = tighten_in (suc n) pattern_fits x in
      (λ h. (keeps_pattern x).0 (zone.0 h), λ h. zone.1 ((keeps_pattern x).1 h))

-- what a zone has in common with a pattern is a zone, whose members are those of the zone within the pattern
module _ {n : ℕ} {z : Matrix} (cl : Closed (suc n) z) (b : List Bound) where
  pub common_closed : ClosedZone (suc n) (common n z b)
  unfolding common
  common_closed = all_closed (suc n) (closed cl) (pattern_fits n b)

  pub common_in : (x : ℕ → ℤ) → In (suc n) (common n z b) x ↔ (Member (suc n) z x × InPattern n b x)
  unfolding common
  common_in x =
      let zone = all_in (suc n) (closed cl) (pattern_fits n b) x in
      let keeps = keeps_pattern n b x in
      (λ h. let (mem, ks) = zone.0 h in (mem, keeps.0 ks), λ h. zone.1 (h.0, keeps.1 h.1))

  -- the same where there is one, and where there is none
  pub common_some : {c : Matrix} → common n z b ≡ some c
      → Closed (suc n) c × ((x : ℕ → ℤ) → Member (suc n) c x ↔ (Member (suc n) z x × InPattern n b x))
  common_some e = (closed_some (rw e at common_closed), λ x. rw e at (common_in x))

  pub common_none : common n z b ≡ none → (x : ℕ → ℤ) → Member (suc n) z x → InPattern n b x → ⊥
  common_none e x h p = (rw e at (common_in x)).1 (h, p)
