-- What each outcome of a search means: the demands for a network.
use Prim.Native.Nat.{ℕ, suc, ◌≤◌, ◌<◌}
use native.Mathlib.Omega.{arith}
use native.Mathlib.Decide.{dec_lt}
use mathlib.Core.Path.{◌≡◌, refl, ap}
use mathlib.Core.Logic.{◌⊎◌, inl, inr, ⊎_elim}
use mathlib.Core.List.{[]}
use mathlib.Core.Option.{Option, none, some}
use lib.ListN.{length}
use Rattle.ints.proofs.Integers.{impossible}
use Rattle.model.specs.Matrix.{Matrix}
use Rattle.model.specs.Network.{Network}
use Rattle.model.specs.Search.{lists, first_common, Outcome, reached, clear, never, table_full, parts_of, start_in}
use Rattle.model.specs.Search.{Plan, plan, settled, outcome}
use Rattle.model.specs.Demands.{Met, NotBefore, First, EndsEarly, EndsAt, Repeats, RunsDry, NeverHolds}
use Rattle.model.specs.Conditions.{Regular}
use Rattle.model.proofs.Repeats.{repeat_is, repeat_found}
use Rattle.model.proofs.Dry.{dry_from, early_before}
use Rattle.model.proofs.Searched.{parts_some, met_by, unmet, Settled, full, met, unsettled, settled_is, Unended, Ending, stopped, dried}
use Rattle.model.proofs.Searched.{passed, outcome_ends, Short, Planned, whole, short, plan_is}

pub data Concluded (w : Network) (capacity : ℕ) : Outcome → Type 0 where
  reached_at : {d : Matrix} {k : ℕ} → First w k → first_common w.n w.start (lists w k) ≡ some d → (EndsEarly w capacity → ⊥)
      → Concluded w capacity (reached k (parts_of w) (start_in w.n (parts_of w) d))
  is_table_full : {k : ℕ} → EndsAt w capacity k → capacity < length (lists w k) → Concluded w capacity (table_full k)
  clear_at : (Repeats w ⊎ RunsDry w → ⊥) → NotBefore w (suc w.horizon) → (EndsEarly w capacity → ⊥) → Concluded w capacity (clear w.horizon)
  never_at : NeverHolds w capacity → Concluded w capacity never

module _ (w : Network) (capacity : ℕ) (reg : Regular w.n w.times) (some_row : 1 ≤ w.n) where
  -- a cycle that settles nothing
  open_at : (k : ℕ) {o : Option Outcome} → Settled w capacity k (lists w k) o → o ≡ none
      → (length (lists w k) ≤ capacity) × (Met w k → ⊥)
  open_at k (full h) e = impossible cc
  open_at k (met h f) e = impossible cc
  open_at k (unsettled h f) e = (h, unmet w reg k f)

  -- no cycle up to k ends the search
  abbrev Open : ℕ → Type 0
  Open k = Unended (lists w) (settled w capacity) k

  nothing_at : {k : ℕ} → Open k → (i : ℕ) → 1 ≤ i → i ≤ k → (length (lists w i) ≤ capacity) × (Met w i → ⊥)
  nothing_at all i l u = open_at i (settled_is w capacity i (lists w i)) (all i l u)

  not_before : {k : ℕ} → Open k → NotBefore w (suc k)
  not_before all i l u = (nothing_at all i l (omega arith)).1

  not_early : {k : ℕ} → Open k → (e : EndsEarly w capacity) → e.at ≤ k → ⊥
  not_early all e h = let fits = (nothing_at all e.at e.from_one h).0 in omega (arith, e.longer)

  -- where no list up to cycle j is too long, and the target is met there, the search does not end early
  met_first : (j : ℕ) → 1 ≤ j → Met w j → EndsAt w capacity j → length (lists w j) ≤ capacity → EndsEarly w capacity → ⊥
  met_first j l m ends f early = go (dec_lt early.at j) (dec_lt j early.at)
    where
      fits : (i : ℕ) → early.at ≡ i → length (lists w i) ≤ capacity → ⊥
      fits i e h = let longer = rw e at early.longer in omega arith

      go : Dec (early.at < j) → Dec (j < early.at) → ⊥
      go (yes h) d = fits early.at refl (ends.fit_before early.at early.from_one h)
      go (no h) (yes k) = early.unmet j l k m
      go (no h) (no k) = fits j (omega arith) f

  -- a cycle that settles the search
  settles : (j : ℕ) → 1 ≤ j → (plan w).cycles ≤ w.horizon → EndsAt w capacity j
      → {o : Option Outcome} → Settled w capacity j (lists w j) o → (p : Outcome) → o ≡ some p → Concluded w capacity p
  settles j l h ends (full f) p e = let q : table_full j ≡ p = cc in rw (← q) (is_table_full ends f)
  settles j l h ends (met {c} f k) p e =
      let q : reached j (parts_of w) (start_in w.n (parts_of w) c) ≡ p = cc in
      let u = ends.searched in
      let m : Met w j = (parts_of w, parts_some w, start_in w.n (parts_of w) c, met_by w reg j k) in
      rw (← q) (reached_at (record { from_one = l; to_horizon = omega arith; not_before = ends.unmet; met = m }) k (met_first j l m ends f))
  settles j l h ends (unsettled f k) p e = impossible cc

  -- past all cycles
  short_of : Repeats w → Short w
  short_of s =
      let (r, e, same) = repeat_found w reg some_row s.first in
      record { again = r; first = e; proviso = s.proviso; long_enough = omega (arith, s.long_enough) }

  past : {p : Plan} → Planned w p → plan w ≡ p → Open (plan w).cycles → (lists w (plan w).cycles ≡ [] → ⊥) → Concluded w capacity p.end
  past (whole no_short) e all wet =
      let last = ap (λ (p : Plan). p.cycles) e in
      clear_at (⊎_elim (λ s. no_short (short_of s)) (λ d. wet (dry_from w d.at (plan w).cycles d.searched d.empty)))
      (λ i l u. not_before all i l (omega (arith, last))) (λ f. not_early all f f.searched)
  past (short s) e all wet =
      let last = ap (λ (p : Plan). p.cycles) e in
      never_at (record {
        cause = inl (record {
          again = s.again;
          first = repeat_is w reg some_row s.first;
          proviso = s.proviso;
          long_enough = s.long_enough;
          unmet = λ i l u. not_before all i l (omega (arith, last));
        });
        not_early = λ f. not_early all f f.searched;
      })

  -- at an empty list
  dry_at : (j : ℕ) → j ≤ (plan w).cycles → Open j → lists w j ≡ [] → NeverHolds w capacity
  dry_at j l all d = record {
    cause = inr (record { at = j; searched = l; empty = d; unmet = λ i h u. not_before all i h (omega arith) });
    not_early = λ e. not_early all e (omega (arith, early_before w capacity j d e));
  }

  to_horizon : {p : Plan} → Planned w p → p.cycles ≤ w.horizon
  to_horizon (whole h) = omega arith
  to_horizon (short s) = s.long_enough

  concluded : {o : Outcome} → Ending w capacity o → Concluded w capacity o
  concluded (stopped {o} j u all e) =
      settles (suc j) (omega arith) (to_horizon (plan_is w)) (record {
        from_one = omega arith;
        searched = u;
        unmet = not_before all;
        fit_before = λ i l h. (nothing_at all i l (omega arith)).0;
      }) (settled_is w capacity (suc j) (lists w (suc j))) o e
  concluded (dried j l all d) = never_at (dry_at j l all d)
  concluded (passed all wet) = past (plan_is w) refl all wet

  pub conclusion : Concluded w capacity (outcome w capacity)
  conclusion = concluded (outcome_ends w capacity)
