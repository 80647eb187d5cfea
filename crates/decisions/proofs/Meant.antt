-- What each decision on a network means, with its strict bounds: the target is met from starts in any parts of a second.
use Prim.Native.Nat.{ℕ, suc, ◌*◌, ◌-◌, ◌≤◌}
use native.Mathlib.Omega.{arith}
use mathlib.Core.Path.{◌≡◌, sym, ap, ap₂, ◌∙◌}
use mathlib.Core.Bool.{◌||◌}
use mathlib.Core.List.{List, map}
use lib.IntN.{ℤ, pos, ◌*ℤ◌}
use Rattle.model.specs.Network.{Network, scale_time, in_parts, power, added}
use Rattle.model.specs.Search.{parts_of}
use Rattle.model.specs.Conditions.{Regular}
use Rattle.model.specs.Demands.{Witness, Met, NotBefore, Differences, Repeated}
use Rattle.model.proofs.PowersInParts.{power_parts, added_parts}
use Rattle.decisions.specs.Decide.{steps_for, Decision, reached, clear, never, undecided, wholly, decide_marked}
use Rattle.decisions.proofs.Whole.{UnmetBefore, Enough}
use Rattle.decisions.proofs.Steps.{enough_steps}
use Rattle.decisions.proofs.Judged as judged
use Rattle.decisions.proofs.Judged.{Judged, never_from, judged}
use Rattle.decisions.proofs.NeverFound.{never_found}
use Rattle.decisions.proofs.Wholly.{differences_read, witness_wholly, wholly_plain, wholly_regular, met_wholly, unmet_wholly}

pub data Meant (w : Network) (horizon : ℕ) : Decision → Type 0 where
  reached_at : {k : ℕ} {xs : List ℤ} → 1 ≤ k → k ≤ horizon → NotBefore w k → Witness (in_parts (parts_of w) w) k xs → Meant w horizon (reached k xs)
  clear_at : NotBefore w (suc horizon) → Meant w horizon (clear horizon)
  never_at : ((k : ℕ) → 1 ≤ k → Met w k → ⊥) → Meant w horizon never
  undecided_at : {k : ℕ} → 1 ≤ k → k ≤ horizon → NotBefore w k → Meant w horizon (undecided k)

module _ (w : Network) (reg : Regular w.n w.times) (horizon : ℕ) where
  abbrev W : Network
  W = wholly (parts_of w) w

  of_judged : {o : Decision} → Judged W horizon o → Meant w horizon o
  of_judged (judged.reached_at {k} {xs} l u before s) = reached_at l u ((unmet_wholly w reg k).0 before) ((witness_wholly w (parts_of w) k xs).0 s)
  of_judged (judged.clear_at before) = clear_at ((unmet_wholly w reg (suc horizon)).0 before)
  of_judged (judged.never_at none) = never_at (λ k l m. none k l ((met_wholly w reg k).0 m))
  of_judged (judged.undecided_at {k} l u before) = undecided_at l u ((unmet_wholly w reg k).0 before)

  pub meant : (t : ℕ) → Meant w horizon (decide_marked w horizon t)
  unfolding decide_marked
  meant t = of_judged (judged W (wholly_regular w reg (parts_of w)) (wholly_plain w (parts_of w)) horizon t)

  -- so many steps are enough
  pub enough_marked : (t : ℕ) → horizon * steps_for w.n w.n ≤ t → Enough (decide_marked w horizon t)
  unfolding decide_marked wholly
  enough_marked t h = enough_steps W horizon t h

  -- a repeated power, where start or target bounds only differences
  module _ {q p : ℕ} {number : ℤ} (s : Repeated w q p number) (differences : Differences w) where
    in_parts_lem : let a = map (scale_time (parts_of w)) w.times in power w.n a (q - 1) ≡ added (number *ℤ pos (parts_of w)) (power w.n a (p - 1))
    in_parts_lem =
        power_parts (parts_of w) w.n w.times (q - 1) ∙ ap (map (scale_time (parts_of w))) s.again ∙ added_parts (parts_of w) number _
        ∙ ap (added (number *ℤ pos (parts_of w))) (sym (power_parts (parts_of w) w.n w.times (p - 1)))

    differences_in_parts : Differences W
    unfolding wholly
    differences_in_parts = ap₂ ◌||◌ (differences_read (parts_of w) w.n w.start) (differences_read (parts_of w) w.n w.target) ∙ differences

    -- nothing is met before it, so nothing is met
    unmet_all : NotBefore w q → UnmetBefore W (suc horizon)
    unfolding wholly
    unmet_all before j l u =
        let lower = s.from_one in
        let upper = s.earlier in
        let q_is : suc (q - 1) ≡ q = omega arith in
        never_from W (wholly_regular w reg (parts_of w)) (p - 1) (q - 1) (number *ℤ pos (parts_of w)) (omega arith) in_parts_lem differences_in_parts
        (rw q_is ((unmet_wholly w reg q).1 before)) j l

    pub never_marked : 1 ≤ w.n → NotBefore w q → 3 * (q - 1) ≤ horizon → (t : ℕ) → Enough (decide_marked w horizon t) → decide_marked w horizon t ≡ never
    unfolding decide_marked wholly
    never_marked some_row before long t enough =
        let lower = s.from_one in
        let upper = s.earlier in
        never_found W (wholly_regular w reg (parts_of w)) (wholly_plain w (parts_of w)) some_row horizon t (p - 1) (q - 1) (number *ℤ pos (parts_of w))
        (omega arith) in_parts_lem differences_in_parts long (unmet_all before) enough
