-- What each decision means.
use Prim.Native.Nat.{ℕ, zero, suc, ◌+◌, ◌-◌, ◌≤◌, ◌<◌}
use native.Mathlib.Omega.{arith}
use native.Mathlib.Decide.{ℕ_discrete, dec_lt}
use mathlib.Core.Path.{◌≡◌, refl}
use mathlib.Core.Bool.{Bool, true, false, ◌&&◌, cond}
use mathlib.Core.List.{List}
use mathlib.Core.Option.{Option, none, some}
use lib.IntN.{ℤ}
use lib.Dec.{eqb}
use Rattle.model.specs.Matrix.{Matrix, tighten}
use Rattle.model.specs.Pattern.{pattern_constraints}
use Rattle.model.specs.Network.{Network, clocked, cycles, added, power}
use Rattle.model.specs.Search.{pick}
use Rattle.model.specs.Demands.{Witness, Differences}
use Rattle.model.specs.Conditions.{Regular}
use Rattle.model.proofs.Same.{and_true}
use Rattle.model.proofs.Patterns.{pattern_in}
use Rattle.model.proofs.Beyond.{earlier_whole}
use Rattle.decisions.specs.Decide.{Tried, found, missed, spent, meeting, Decision, reached, clear, never, undecided, again, Kept, renewed}
use Rattle.decisions.specs.Decide.{kept_from, follows, decide_from, decide_zones, decide}
use Rattle.decisions.specs.Conditions.{Posed}
use Rattle.decisions.proofs.Whole.{MetWhole, UnmetBefore}
use Rattle.decisions.proofs.Descent.{Ends, hit, miss, out}
use Rattle.decisions.proofs.Repeating.{again_is}
use Rattle.decisions.proofs.Meeting.{PlainPatterns, meeting_ends}

pub data Judged (w : Network) (horizon : ℕ) : Decision → Type 0 where
  reached_at : {k : ℕ} {xs : List ℤ} → 1 ≤ k → k ≤ horizon → UnmetBefore w k → Witness w k xs → Judged w horizon (reached k xs)
  clear_at : UnmetBefore w (suc horizon) → Judged w horizon (clear horizon)
  never_at : ((k : ℕ) → 1 ≤ k → MetWhole w k → ⊥) → Judged w horizon never
  undecided_at : {k : ℕ} → 1 ≤ k → k ≤ horizon → UnmetBefore w k → Judged w horizon (undecided k)

-- one cycle more that does not meet it
not_at : (w : Network) (k : ℕ) → UnmetBefore w k → (MetWhole w k → ⊥) → UnmetBefore w (suc k)
not_at w k before here j l u m = go (ℕ_discrete j k)
  where
    go : Dec (j ≡ k) → ⊥
    go (yes e) = here (rw e at m)
    go (no ne) = before j l (omega arith) m

-- what is so at no cycle before q + 1, and from there on only where it is so at an earlier one, is so at none
no_later : (M : ℕ → Type 0) (p q : ℕ) → p < q → ((r : ℕ) → M (suc q + r) → M (suc p + r)) → ((j : ℕ) → 1 ≤ j → j < suc q → M j → ⊥)
    → (f k : ℕ) → k < f → 1 ≤ k → M k → ⊥
no_later M p q b back before zero k h l m = absurd (omega arith)
no_later M p q b back before (suc f) k h l m =
    go (dec_lt k (suc q)) (λ g m. no_later M p q b back before f (suc p + (k - suc q)) (omega arith) (omega arith) m)
  where
    go : Dec (k < suc q) → (suc q ≤ k → M (suc p + (k - suc q)) → ⊥) → ⊥
    go (yes u) rest = before k l u m
    go (no u) rest = let j : suc q + (k - suc q) ≡ k = omega arith in rest (omega arith) (back (k - suc q) (rw j m))

-- power q + 1 repeats an earlier one: a target that is met at no cycle up to q is met at none
pub never_from : (w : Network) → Regular w.n w.times → (p q : ℕ) (c : ℤ) → p < q → power w.n w.times q ≡ added c (power w.n w.times p)
    → Differences w → UnmetBefore w (suc q) → (k : ℕ) → 1 ≤ k → MetWhole w k → ⊥
never_from w reg p q c l e proviso before k h =
    no_later (MetWhole w) p q l (λ r m. earlier_whole w reg p q c e l proviso r m.1) before (suc k) k (omega arith) h

module _ (w : Network) (reg : Regular w.n w.times) (plain : PlainPatterns w) (horizon : ℕ) where
  -- ---- the table that is kept is a power, up to power k + 1
  abbrev Earlier : ℕ → Kept → Type 0
  Earlier k c = (p : ℕ) × (p ≤ k) × (c.table ≡ power w.n w.times p)

  renewed_earlier : (k m : ℕ) (c : Kept) → Earlier k c → Earlier (suc k) (renewed m (power w.n w.times (suc k)) c)
  unfolding renewed
  renewed_earlier k m c (p, l, e) = go (eqb m c.until)
    where
      go : (t : Bool) → Earlier (suc k) (cond t (kept_from m (power w.n w.times (suc k))) c)
      go true = (suc k, omega arith, refl)
      go false = (p, omega arith, e)

  module _ {z d : Matrix} (posed : Posed w z d) (may : Bool) (proviso : may ≡ true → Differences w) where
    -- power k + 2 repeats the one that is kept
    repeats_kept : (k : ℕ) (c : Kept) → Earlier k c → UnmetBefore w (suc (suc k))
        → may && again c.table (power w.n w.times (suc k)) ≡ true → Judged w horizon never
    repeats_kept k c (p, l, e) before t =
        let (m, s) = and_true may _ t in
        let q = again_is (power w.n w.times p) (power w.n w.times (suc k)) (rw e at s) in
        never_at (never_from w reg p (suc k) _ (omega arith) q (proviso m) before)

    -- r cycles from cycle k + 1 on
    from_is : (r k : ℕ) → k + r ≡ horizon → UnmetBefore w (suc k) → (c : Kept) → Earlier k c → (t : ℕ)
        → Judged w horizon (decide_from w may z d horizon r (suc k) (power w.n w.times k) c t)
    unfolding decide_from power
    from_is zero k e before c earlier t = clear_at (let f : suc k ≡ suc horizon = omega arith in rw f at before)
    from_is (suc r) k e before c earlier t =
        go (meeting w.n (power w.n w.times k) z d t) (meeting_ends w reg plain posed k t)
        (λ no u. from_is r (suc k) (omega arith) (not_at w (suc k) before no) _ (renewed_earlier k (suc (suc k)) c earlier) u)
      where
        rest : ℕ → Decision
        rest u = decide_from w may z d horizon r (suc (suc k)) (power w.n w.times (suc k)) (renewed (suc (suc k)) (power w.n w.times (suc k)) c) u

        on : (s : Bool) {o : Decision} → (s ≡ true → Judged w horizon never) → Judged w horizon o → Judged w horizon (cond s never o)
        on true h j = h refl
        on false h j = j

        go : (o : Tried) → Ends (λ y. Witness w (suc k) (pick w.n y)) (MetWhole w (suc k) → ⊥) o
            → ((MetWhole w (suc k) → ⊥) → (u : ℕ) → Judged w horizon (rest u))
            → Judged w horizon (follows w may (suc k) (power w.n w.times k) c (decide_from w may z d horizon r (suc (suc k))) o)
        go (found y) (hit s) more = reached_at {k = suc k} (omega arith) (omega arith) before s
        go spent out more = undecided_at {k = suc k} (omega arith) (omega arith) before
        go (missed u) (miss barred) more = on _ (repeats_kept k c earlier (not_at w (suc k) before barred)) (more barred u)

  -- ---- the start or the target is empty
  unstarted : tighten (suc w.n) (pattern_constraints w.n w.start) ≡ none → (k : ℕ) → MetWhole w k → ⊥
  unstarted e k (xs, s) = (rw e at (pattern_in w.n w.start (clocked xs))).1 s.started

  unaimed : tighten (suc w.n) (pattern_constraints w.n w.target) ≡ none → (k : ℕ) → MetWhole w k → ⊥
  unaimed e k (xs, s) = (rw e at (pattern_in w.n w.target (clocked (cycles w.n w.times k xs)))).1 s.arrived

  -- ---- every decision
  pub judged : (t : ℕ) → Judged w horizon (decide w horizon t)
  unfolding decide decide_zones power
  judged t = go _ _ refl refl
    where
      go : (o p : Option Matrix) → tighten (suc w.n) (pattern_constraints w.n w.start) ≡ o
          → tighten (suc w.n) (pattern_constraints w.n w.target) ≡ p → Judged w horizon (decide_zones w horizon t o p)
      go none p e f = never_at (λ k l. unstarted e k)
      go (some z) none e f = never_at (λ k l. unaimed f k)
      go (some z) (some d) e f =
          from_is (record { start = e; target = f }) _ (λ q. q) horizon 0 (omega arith) (λ j l u. absurd (omega arith)) _ (0, omega arith, refl) t
