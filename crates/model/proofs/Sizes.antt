-- The size of what a search computes. A zone of list k is made of constraints of at most bound_limit + times_apart * k, so no finite
-- bound of it passes n times that.
use Prim.Native.Nat.{ℕ, zero, suc, ◌+◌, ◌*◌, ◌≤◌}
use native.Mathlib.Omega.{arith}
use native.Mathlib.Nat.{mul-le-mul}
use mathlib.Core.Path.{◌≡◌, refl}
use mathlib.Core.List.{List}
use Rattle.model.specs.Sizes.{times_apart, most_departures, most_cycles, bound_limit, list_limit}
use Rattle.model.specs.Lists.{Every, done, both}
use Rattle.model.specs.Bound.{Bound}
use Rattle.model.specs.Matrix.{everything, tighten}
use Rattle.model.specs.Pattern.{pattern_constraints}
use Rattle.model.specs.Network.{Network}
use Rattle.model.specs.Search.{preimage, lists, previous}
use Rattle.model.specs.Conditions.{Small, AllSmall, TimesSmall, PatternSmall}
use Rattle.model.specs.Demands.{AllWithin, ListLimits}
use Rattle.model.proofs.Listed.{every_map, every_tabulate, every_flatten, map_every, flat_map_every}
use Rattle.model.proofs.Entries.{every_entry}
use Rattle.model.proofs.Patterns.{pattern_fits}
use Rattle.model.proofs.Kept.{kept_every}
use Rattle.model.proofs.Selections.{selections_sound}
use Rattle.model.proofs.Size.{small_mono}
use Rattle.model.proofs.Spread.{Made, made, made_small}
use Rattle.model.proofs.PartSizes.{made_preimage}

-- ---- a pattern whose bounds are at most B in size
pub pattern_small : (n : ℕ) (b : List Bound) {B : ℕ} → PatternSmall n B b → AllSmall B (pattern_constraints n b)
unfolding pattern_constraints
pattern_small n b h = every_flatten (every_tabulate (suc n) 0 _ (λ i hi. every_tabulate (suc n) 0 _ (λ j hj. h _ _)))

-- ---- the zones of list k
module _ (w : Network) (ts : TimesSmall w.n w.times) (target_small : PatternSmall w.n bound_limit w.target) where
  pub made_lists : (k : ℕ) → Every (Made w.n (bound_limit + times_apart * k)) (lists w k)
  unfolding lists previous
  made_lists zero = kept_every done (both (λ z e.
      made (pattern_fits w.n w.target) (pattern_small w.n w.target target_small) e) done)
  made_lists (suc k) =
      let B = bound_limit + times_apart * k in
      let step : B + times_apart ≡ bound_limit + times_apart * suc k = omega arith in
      kept_every done (flat_map_every _ (every_map (λ d m.
      map_every (preimage w.n w.times d) (every_map (λ sel q z e.
      rw step at (made_preimage w.n w.times sel q ts {B = B} m e)) (selections_sound w.n w.times w.n 1)))
      (made_lists k)))

pub made_everything : (n B : ℕ) → Made n B (everything (suc n))
unfolding tighten
made_everything n B = made done done refl

-- n * B for the most departures and cycles
abbrev pub most_size : ℕ
most_size = most_departures * (bound_limit + times_apart * most_cycles)

pub most_zone : (n k : ℕ) → n ≤ most_departures → k ≤ most_cycles → n * (bound_limit + times_apart * k) ≤ most_size
most_zone n k h l = let b : bound_limit + times_apart * k ≤ bound_limit + times_apart * most_cycles = omega arith in mul-le-mul h b

-- ---- request [9]: no finite bound of a list passes its limit
-- the limit for at most a departures and b cycles
limit_most : {a b n k : ℕ} → n ≤ a → k ≤ b → list_limit n k ≤ list_limit a b
limit_most {b} {k} h l = let more : suc k ≤ suc b = omega arith in omega (arith, mul-le-mul h more)

module _ (w : Network) (ts : TimesSmall w.n w.times) (target_small : PatternSmall w.n bound_limit w.target) where
  limited : (k limit : ℕ) → list_limit w.n k ≤ limit → AllWithin limit (lists w k)
  limited k limit h =
      let each : bound_limit + times_apart * k ≤ suc k * bound_limit = omega arith in
      let same : w.n ≤ w.n = omega arith in
      let all = mul-le-mul same each in
      every_map (λ z m. every_entry (suc w.n) (Small limit) z m.is_closed.size (λ i j hi hj.
      small_mono (omega (arith, all)) (made_small m i j hi hj))) (made_lists w ts target_small k)

  pub list_limits : ListLimits w
  list_limits = record {
    each = λ k. limited k (list_limit w.n k) (omega arith);
    seven = λ few k l. limited k 455000000 (limit_most few l);
    fifteen = λ few k l. limited k 975000000 (limit_most few l);
  }
