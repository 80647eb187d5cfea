-- Never is found: where power q + 1 is an earlier one with a number added, the patterns allow it, nothing is met and the steps are
-- enough, a horizon of 3 * q cycles is enough too. The kept power is replaced at 2, 4, 8 and so on, so one is kept that is past the first
-- repeat, and for long enough.
use Prim.Native.Nat.{ℕ, zero, suc, ◌+◌, ◌*◌, ◌-◌, ◌≤◌, ◌<◌}
use native.Mathlib.Omega.{arith}
use native.Mathlib.Decide.{dec_le}
use mathlib.Core.Path.{◌≡◌, refl, ◌∙◌}
use mathlib.Core.Logic.{◌⊎◌, inl, inr, ⊎_elim}
use mathlib.Core.Bool.{Bool, true, false, cond}
use mathlib.Core.List.{List}
use mathlib.Core.Option.{Option, none, some}
use lib.IntN.{ℤ}
use lib.Dec.{eqb, eqb→eq, eqb_refl, T}
use Rattle.ints.proofs.Integers.{impossible}
use Rattle.model.specs.Matrix.{Matrix, tighten}
use Rattle.model.specs.Pattern.{pattern_constraints}
use Rattle.model.specs.Network.{Time, Network, added, power}
use Rattle.model.specs.Search.{pick}
use Rattle.model.specs.Demands.{Witness, Differences}
use Rattle.model.specs.Conditions.{Regular}
use Rattle.decisions.specs.Decide.{Tried, found, missed, spent, meeting, Decision, never, again, Kept, renewed, decide_from}
use Rattle.decisions.specs.Decide.{kept_from, follows, decide_zones, decide}
use Rattle.decisions.specs.Conditions.{Posed}
use Rattle.decisions.proofs.Whole.{MetWhole, UnmetBefore, Enough}
use Rattle.decisions.proofs.Descent.{Ends, hit, miss, out}
use Rattle.decisions.proofs.Repeating.{repeat_on, again_true}
use Rattle.decisions.proofs.Meeting.{PlainPatterns, meeting_ends}

-- ---- the run of a decision, by the cycles counted from 0
module _ (w : Network) (reg : Regular w.n w.times) (plain : PlainPatterns w) (horizon : ℕ) {z d : Matrix} (posed : Posed w z d)
    (unmet : (i : ℕ) → i < horizon → MetWhole w (suc i) → ⊥) where
  abbrev pw : ℕ → List Time
  pw = power w.n w.times

  abbrev run : ℕ → ℕ → Kept → ℕ → Decision
  run r i c t = decide_from w true z d horizon r (suc i) (pw i) c t

  -- what is kept after cycle i + 1, the run from there, and what follows the cycle
  abbrev kept_after : ℕ → Kept → Kept
  kept_after i c = renewed (suc (suc i)) (pw (suc i)) c

  abbrev rest : ℕ → ℕ → Kept → ℕ → Decision
  rest r i c u = run r (suc i) (kept_after i c) u

  abbrev onwards : ℕ → ℕ → Kept → ℕ → Decision
  onwards r i c u = cond (again c.table (pw (suc i))) never (rest r i c u)

  one_cycle : (r i : ℕ) (c : Kept) (t : ℕ) → i < horizon → Enough (run (suc r) i c t) → (u : ℕ) × (run (suc r) i c t ≡ onwards r i c u)
  unfolding decide_from power
  one_cycle r i c t h enough = go (meeting w.n (pw i) z d t) (meeting_ends w reg plain posed i t) enough
    where
      go : (o : Tried) → Ends (λ y. Witness w (suc i) (pick w.n y)) (MetWhole w (suc i) → ⊥) o
          → Enough (follows w true (suc i) (pw i) c (decide_from w true z d horizon r (suc (suc i))) o)
          → (u : ℕ) × (follows w true (suc i) (pw i) c (decide_from w true z d horizon r (suc (suc i))) o ≡ onwards r i c u)
      go (found y) (hit s) enough = absurd (unmet i h (pick w.n y, s))
      go spent out enough = absurd (enough (suc i) refl)
      go (missed u) (miss m) enough = (u, refl)

  -- the one that is kept: power e + 1, until cycle until
  pub record Keeping (e until : ℕ) (c : Kept) : Type 0 where
    pub table_is : c.table ≡ pw e
    pub until_is : c.until ≡ until

  not_yet : (i : ℕ) (b : List Time) (c : Kept) {e until : ℕ} → Keeping e until c → suc (suc i) < until → Keeping e until (renewed (suc (suc i)) b c)
  unfolding renewed
  not_yet i b c {e} {until} q h = go (eqb (suc (suc i)) c.until) refl
    where
      go : (s : Bool) → eqb (suc (suc i)) c.until ≡ s → Keeping e until (cond s (kept_from (suc (suc i)) b) c)
      go true f = absurd (let g = eqb→eq (suc (suc i)) c.until (rw f tt) in let k = q.until_is in omega arith)
      go false f = q

  now : (i : ℕ) (c : Kept) {e : ℕ} → Keeping e (suc (suc i)) c → Keeping (suc i) (suc (suc i) + suc (suc i)) (kept_after i c)
  unfolding renewed
  now i c q = go (eqb (suc (suc i)) c.until) (rw q.until_is (eqb_refl (suc (suc i))))
    where
      go : (s : Bool) → T s → Keeping (suc i) (suc (suc i) + suc (suc i)) (cond s (kept_from (suc (suc i)) (pw (suc i))) c)
      go true f = record { table_is = refl; until_is = refl }
      go false f = absurd f

  -- where the test on the kept power passes after j cycles more, never
  test_passes : (j r i : ℕ) (c : Kept) (t : ℕ) {e until : ℕ} → j < r → i + r ≡ horizon → Keeping e until c → suc (i + j) < until
      → again (pw e) (pw (suc (i + j))) ≡ true → Enough (run r i c t) → run r i c t ≡ never
  test_passes j zero i c t l s q h p enough = absurd (omega arith)
  test_passes j (suc r) i c t {e} {until} l s q h p enough =
      let (u, f) = one_cycle r i c t (omega arith) enough in
      f ∙ go j l h p (again c.table (pw (suc i))) refl u
      (λ j' l' h' p' enough'. test_passes j' r (suc i) _ u l' (omega arith) (not_yet i _ c q (omega arith)) h' p' enough') (rw f at enough)
    where
      go : (j : ℕ) → j < suc r → suc (i + j) < until → again (pw e) (pw (suc (i + j))) ≡ true → (b : Bool) → again c.table (pw (suc i)) ≡ b
          → (u : ℕ)
          → ((j : ℕ) → j < r → suc (suc i + j) < until → again (pw e) (pw (suc (suc i + j))) ≡ true
          → Enough (rest r i c u) → rest r i c u ≡ never)
          → Enough (cond b never (rest r i c u))
          → cond b never (rest r i c u) ≡ never
      go j l h p true g u more enough = refl
      go zero l h p false g u more enough =
          let x : i + 0 ≡ i = omega arith in
          let y = rw x at p in
          let k = rw q.table_is at g in
          impossible cc
      go (suc j) l h p false g u more enough = let x : i + suc j ≡ suc i + j = omega arith in more j (omega arith) (rw x at h) (rw x at p) enough

  -- at cycle i + 1 power i + 1 has just been kept, until twice that
  pub record Renewed (o : Decision) (i : ℕ) : Type 0 where
    pub left : ℕ
    pub kept : Kept
    pub steps : ℕ
    pub cycles : i + left ≡ horizon
    pub keeping : Keeping i (suc i + suc i) kept
    pub is : o ≡ run left i kept steps

  -- the run gets to the next of these, or to never before it
  next_renewed : (j r i : ℕ) (c : Kept) (t : ℕ) {e : ℕ} → j < r → i + r ≡ horizon → Keeping e (suc (suc (i + j))) c → Enough (run r i c t)
      → (run r i c t ≡ never) ⊎ Renewed (run r i c t) (suc (i + j))
  next_renewed j zero i c t l s q enough = absurd (omega arith)
  next_renewed j (suc r) i c t {e} l s q enough =
      let (u, f) = one_cycle r i c t (omega arith) enough in
      rw f (go j l q (again c.table (pw (suc i))) u
      (λ j' l' q' enough'. next_renewed j' r (suc i) _ u l' (omega arith) q' enough') (rw f at enough))
    where
      go : (j : ℕ) → j < suc r → Keeping e (suc (suc (i + j))) c → (b : Bool) (u : ℕ)
          → ((j : ℕ) → j < r → Keeping e (suc (suc (suc i + j))) (kept_after i c) → Enough (rest r i c u)
          → (rest r i c u ≡ never) ⊎ Renewed (rest r i c u) (suc (suc i + j)))
          → Enough (cond b never (rest r i c u))
          → (cond b never (rest r i c u) ≡ never) ⊎ Renewed (cond b never (rest r i c u)) (suc (i + j))
      go j l q true u more enough = inl refl
      go zero l q false u more enough =
          let x : i + 0 ≡ i = omega arith in
          rw x (inr (record { left = r; kept = _; steps = u; cycles = omega arith; keeping = now i c (rw x at q); is = refl }))
      go (suc j) l q false u more enough =
          let x : i + suc j ≡ suc i + j = omega arith in
          rw x (more j (omega arith) (not_yet i _ c (rw x at q) (omega arith)) enough)

  -- ---- power q + 1 is power p + 1 with a number added
  module _ (some_row : 1 ≤ w.n) (p q : ℕ) (number : ℤ) (before : p < q) (e : pw q ≡ added number (pw p)) (long : 3 * q ≤ horizon) where
    -- past the first repeat, the kept one is repeated before it is replaced
    late_enough : (r i : ℕ) (c : Kept) (t : ℕ) → q ≤ suc i → i < q + q → i + r ≡ horizon → Keeping i (suc i + suc i) c
        → Enough (run r i c t) → run r i c t ≡ never
    late_enough r i c t l u s k enough =
        let j = q - p - 1 in
        let m = i - p in
        let x : m + q ≡ suc (i + j) = omega arith in
        let y : m + p ≡ i = omega arith in
        test_passes j r i c t (omega arith) s k (omega arith)
        (again_true w.n w.times reg some_row i (suc (i + j)) number (rw (x, y) at (repeat_on w.n w.times p q number e m))) enough

    -- it is replaced by one at twice its cycle, until then
    doubling : (f r i : ℕ) (c : Kept) (t : ℕ) → q ≤ suc i + f → i < q + q → i + r ≡ horizon → Keeping i (suc i + suc i) c
        → Enough (run r i c t) → run r i c t ≡ never
    doubling zero r i c t l u s k enough = late_enough r i c t (omega arith) u s k enough
    doubling (suc f) r i c t l u s k enough = go (dec_le q (suc i)) (λ h n.
        doubling f n.left (suc (i + i)) n.kept n.steps (omega arith) (omega arith) n.cycles n.keeping (rw n.is at enough))
      where
        go : Dec (q ≤ suc i) → (¬ (q ≤ suc i) → (n : Renewed (run r i c t) (suc (i + i))) → run n.left (suc (i + i)) n.kept n.steps ≡ never)
            → run r i c t ≡ never
        go (yes h) more = late_enough r i c t h u s k enough
        go (no h) more =
            let x : suc i + suc i ≡ suc (suc (i + i)) = omega arith in
            ⊎_elim (λ g. g) (λ n. n.is ∙ more h n) (next_renewed i r i c t (omega arith) s (rw x at k) enough)

    pub from_start : (t : ℕ) → Enough (run horizon 0 (kept_from 1 w.times) t)
        → run horizon 0 (kept_from 1 w.times) t ≡ never
    unfolding power
    from_start t enough = doubling q horizon 0 _ t (omega arith) (omega arith) (omega arith) (record { table_is = refl; until_is = refl }) enough

pub never_found : (w : Network) → Regular w.n w.times → PlainPatterns w → 1 ≤ w.n → (horizon t p q : ℕ) (number : ℤ) → p < q
    → power w.n w.times q ≡ added number (power w.n w.times p) → Differences w → 3 * q ≤ horizon
    → UnmetBefore w (suc horizon) → Enough (decide w horizon t) → decide w horizon t ≡ never
unfolding decide decide_zones power
never_found w reg plain some_row horizon t p q number before e proviso long unmet =
    go (tighten (suc w.n) (pattern_constraints w.n w.start)) (tighten (suc w.n) (pattern_constraints w.n w.target)) refl refl
  where
    go : (o s : Option Matrix) → tighten (suc w.n) (pattern_constraints w.n w.start) ≡ o
        → tighten (suc w.n) (pattern_constraints w.n w.target) ≡ s → Enough (decide_zones w horizon t o s) → decide_zones w horizon t o s ≡ never
    go none s f g = λ enough. refl
    go (some z) none f g = λ enough. refl
    go (some z) (some d) f g =
        rw proviso (from_start w reg plain horizon (record { start = f; target = g }) (λ i l. unmet (suc i) (omega arith) (omega arith))
        some_row p q number before e long t)
