-- A list that is empty stays so: from there on the target is met at no cycle, and no list is too long.
use Prim.Native.Nat.{ℕ, zero, suc, ◌+◌, ◌-◌, ◌≤◌, ◌<◌}
use native.Mathlib.Omega.{arith}
use native.Mathlib.Decide.{dec_lt}
use mathlib.Core.Path.{◌≡◌, refl}
use mathlib.Core.List.{[], flat_map}
use Rattle.model.specs.Network.{Network}
use Rattle.model.specs.Search.{lists, previous, first_common}
use Rattle.model.specs.Demands.{Met, RunsDry, EndsEarly}
use Rattle.model.specs.Conditions.{Regular}
use Rattle.model.proofs.Searched.{unmet}

module _ (w : Network) where
  stays : (j r : ℕ) → lists w j ≡ [] → lists w (r + j) ≡ []
  unfolding lists previous flat_map
  stays j zero e = let z : 0 + j ≡ j = omega arith in rw z e
  stays j (suc r) e = let z : suc r + j ≡ suc (r + j) = omega arith in rw (z, stays j r e) refl

  pub dry_from : (j k : ℕ) → j ≤ k → lists w j ≡ [] → lists w k ≡ []
  dry_from j k l e = let z : k - j + j ≡ k = omega arith in rw z at (stays j (k - j) e)

  -- so a search ends early before it, if at all
  pub early_before : (capacity j : ℕ) → lists w j ≡ [] → (e : EndsEarly w capacity) → e.at < j
  early_before capacity j d e = let no : ¬ (j ≤ e.at) = λ l. let h = rw (dry_from j e.at l d) at e.longer in omega arith in omega arith

  -- the target is met at no cycle
  pub dry_beyond : Regular w.n w.times → RunsDry w → (k : ℕ) → 1 ≤ k → Met w k → ⊥
  unfolding first_common
  dry_beyond reg d k l m = go (dec_lt k d.at)
    where
      go : Dec (k < d.at) → ⊥
      go (yes h) = d.unmet k l h m
      go (no h) = unmet w reg k (rw (dry_from d.at k (omega arith) d.empty)) m
