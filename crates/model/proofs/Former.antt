-- A network without strict bounds keeps its answer. On bounds that are not strict the operations are those of before the marks; no
-- zone has a strict bound; times in parts exist exactly if whole ones do; the start is picked in the zone itself, with 1 part.
use Prim.Native.Nat.{ℕ, zero, suc}
use native.Mathlib.Omega.{arith}
use mathlib.Core.Path.{◌≡◌, refl, ap, ap₂, ◌∙◌}
use mathlib.Core.Logic.{◌↔◌}
use mathlib.Core.Bool.{Bool, true, false, cond, ◌&&◌}
use mathlib.Core.List.{List, [], ◌∷◌, map}
use mathlib.Core.Option
use mathlib.Core.Option.{Option, none, some}
use Rattle.model.specs.declared.Case.{Case}
use Rattle.std.specs.Prelude.{Some, None}
use Rattle.model.specs.declared.Limit.{Limit}
use lib.IntN.{ℤ, pos, ◌+ℤ◌}
use lib.Signed.{le_z, lt_z}
use lib.Dec.{ltb}
use lib.ListN.{length}
use Rattle.ints.proofs.Integers.{ints, pos_ud}
use Rattle.model.specs.Forms.{old}
use Rattle.model.specs.Lists.{when, or_else, any_of, Every}
use Rattle.model.specs.Bound.{most, halves, plus, tighter, negative, same_z, same_bound, scale}
use Rattle.model.specs.Matrix.{Matrix}
use Rattle.model.specs.Network.{Time, blank, secs, scale_time, Network, in_parts}
use Rattle.model.specs.Search.{lists, previous, first_common, pick, is_strict, some_strict, parts_of, start_in, Outcome, reached, never, table_full}
use Rattle.model.specs.Search.{dry, settled, search_by, search_from, plan, outcome}
use Rattle.model.specs.Faults.{Entry, marked, bound_of, network, patterns_fault, form_fault}
use Rattle.model.specs.Answers.{answered, answer}
use Rattle.model.specs.Demands.{InLimits, Witness, Met}
use Rattle.model.specs.Conditions.{BoundIn, Regular}
use Rattle.model.proofs.Bounds.{halves_ud, bit_most}
use Rattle.model.proofs.Scale.{mul_ud, scale_one}
use Rattle.model.proofs.Listed.{every_map, map_every}
use Rattle.model.proofs.Kept.{not_any}
use Rattle.model.proofs.Patterns.{common_some}
use Rattle.model.proofs.Parts.{same_test}
use Rattle.model.proofs.Plain.{parts_one}
use Rattle.model.proofs.Wholes.{start_same}
use Rattle.model.proofs.Searched.{first_common_lem, common_is_plain, met_by, unmet}
use Rattle.model.proofs.Limits.{or_is_false, no_fault, limits_of}
use Rattle.model.proofs.DemandsHold.{answer_in}

-- ---- the operations
plain_order : (b c : ℤ) → le_z (halves false b) (halves false c) ≡ le_z b c
plain_order b c =
    same_test _ _
    (λ h. omega (ints, halves_ud false b, halves_ud false c, bit_most))
    (λ h. omega (ints, halves_ud false b, halves_ud false c, bit_most))

pub plain_plus : (b c : ℤ) → plus (most b) (most c) ≡ most (b +ℤ c)
unfolding plus
plain_plus b c = refl

pub plain_tighter : (b c : ℤ) → tighter (most b) (most c) ≡ cond (le_z b c) (most b) (most c)
unfolding tighter
plain_tighter b c = rw (plain_order b c)

pub plain_same : (b c : ℤ) → same_bound (most b) (most c) ≡ same_z b c
unfolding same_bound same_z
plain_same b c = ap₂ ◌&&◌ (plain_order b c) (plain_order c b)

pub plain_negative : (b : ℤ) → negative (most b) ≡ lt_z b (pos 0)
unfolding negative
plain_negative b = go (lt_z (halves false b) (pos 0)) (lt_z b (pos 0)) refl refl
  where
    go : (s t : Bool) → lt_z (halves false b) (pos 0) ≡ s → lt_z b (pos 0) ≡ t → s ≡ t
    go true true e f = refl
    go false false e f = refl
    go true false e f = absurd (omega (ints, halves_ud false b, bit_most, pos_ud 0))
    go false true e f = absurd (omega (ints, halves_ud false b, bit_most, pos_ud 0))

-- ---- one part is the whole
map_same : {X : Type 0} (f : X → X) → ((x : X) → f x ≡ x) → (xs : List X) → map f xs ≡ xs
map_same f same [] = refl
map_same f same (x ∷ xs) = ap₂ ◌∷◌ (same x) (map_same f same xs)

time_one : (t : Time) → scale_time 1 t ≡ t
unfolding scale_time
time_one blank = refl
time_one (secs a) = ap secs (omega (ints, mul_ud a 1))

pub whole_network : (w : Network) → in_parts 1 w ≡ w
unfolding in_parts
whole_network w =
    rw (map_same (scale_time 1) time_one w.times, map_same (scale 1) scale_one w.start, map_same (scale 1) scale_one w.target)

module _ (w : Network) (reg : Regular w.n w.times) (none-strict : some_strict w ≡ false) where
  -- times in parts exist exactly if whole ones do
  pub met_whole : (k : ℕ) → Met w k ↔ ((xs : List ℤ) × Witness w k xs)
  met_whole k = (λ m. go (first_common w.n w.start (lists w k)) refl m, λ m. let (xs, s) = m in (1, omega arith, xs, rw (whole_network w) s))
    where
      go : (o : Option Matrix) → first_common w.n w.start (lists w k) ≡ o → Met w k → (xs : List ℤ) × Witness w k xs
      go none e m = absurd (unmet w reg k e m)
      go (some c) e m = (start_in w.n 1 c, rw (parts_one w none-strict, whole_network w) at (met_by w reg k e))

  -- the start is picked in the zone itself
  start_former : (k : ℕ) {c : Matrix} → first_common w.n w.start (lists w k) ≡ some c → start_in w.n (parts_of w) c ≡ pick w.n c
  start_former k {c} e =
      let f = first_common_lem w k e in
      rw (parts_one w none-strict) (start_same w.n c (common_some f.closed_zone w.start f.is).0 (common_is_plain w k none-strict f))

-- ---- the search as it was, with the whole second as the only part
settled_former : Network → ℕ → ℕ → List Matrix → Option Outcome
settled_former w capacity k zs =
    or_else (when (ltb capacity (length zs)) (table_full k))
    (Option.map (λ c. reached k 1 (pick w.n c)) (first_common w.n w.start zs))

search_former : Network → ℕ → ℕ → ℕ → List Matrix → Outcome → Outcome
search_former w capacity r k zs end = search_by (previous w.n w.times) (settled_former w capacity) r k zs end

pub outcome_former : Network → ℕ → Outcome
outcome_former w capacity = search_former w capacity (plan w).cycles 1 (lists w 0) (plan w).end

module _ (w : Network) (reg : Regular w.n w.times) (none-strict : some_strict w ≡ false) (capacity : ℕ) where
  settled_former_lem : (k : ℕ) → settled w capacity k (lists w k) ≡ settled_former w capacity k (lists w k)
  unfolding settled settled_former
  settled_former_lem k =
      let zs = lists w k in
      ap (λ (o : Option Outcome). or_else (when (ltb capacity (length zs)) (table_full k)) o)
      (go (first_common w.n w.start zs) refl)
    where
      go : (o : Option Matrix) → first_common w.n w.start (lists w k) ≡ o
          → Option.map (λ c. reached k (parts_of w) (start_in w.n (parts_of w) c)) o ≡ Option.map (λ c. reached k 1 (pick w.n c)) o
      go none e = refl
      go (some c) e = ap some (ap₂ (reached k) (parts_one w none-strict) (start_former w reg none-strict k e))

  search_former_lem : (r k : ℕ) (end : Outcome) → search_from w capacity r (suc k) (lists w k) end ≡ search_former w capacity r (suc k) (lists w k) end
  unfolding search_from search_former search_by lists
  search_former_lem zero k end = refl
  search_former_lem (suc r) k end =
      ap₂ (λ (o : Option Outcome) (e : Outcome). cond (dry (lists w k)) never (elim o [ some o ↦ o | none ↦ e ]))
      (settled_former_lem (suc k)) (search_former_lem r (suc k) end)

  -- the answer is the same
  pub same_outcome : outcome w capacity ≡ outcome_former w capacity
  unfolding outcome outcome_former
  same_outcome = search_former_lem (plan w).cycles 0 (plan w).end

-- so a call on a case without strict bounds keeps its answer
pub same_answer : (c : Case) (capacity size : ℕ) → InLimits c capacity size → some_strict (network c) ≡ false
    → answer c capacity size ≡ answered (outcome_former (network c) capacity)
same_answer c capacity size limits none-strict =
    answer_in c capacity size limits ∙ ap answered (same_outcome (network c) (limits_of c capacity size limits).table.regular none-strict capacity)

-- ---- a case for the old form, which has no place for a mark
unmarked_plain : {es : List (Entry Limit)} → Every (BoundIn old) es → any_of is_strict (map bound_of es) ≡ false
unfolding is_strict bound_of
unmarked_plain h = not_any is_strict (map_every bound_of (every_map (λ e b. plain e b.1) h))
  where
    plain : (e : Entry Limit) → marked e ≡ false → is_strict (bound_of e) ≡ false
    plain (Some e) h = h
    plain None h = refl

pub form_plain : (c : Case) → form_fault old c ≡ none → some_strict (network c) ≡ false
unfolding form_fault patterns_fault network
form_plain c h =
    let facts = simp no_fault at h in
    (or_is_false _ _).1 (unmarked_plain facts.1.1.1.0, unmarked_plain facts.1.1.1.1)
