-- No set that a search builds has a bound beyond what memory holds.
use Prim.Native.Nat.{ℕ, suc, ◌+◌, ◌*◌, ◌≤◌}
use native.Mathlib.Omega.{arith}
use native.Mathlib.Nat.{mul-le-mul}
use mathlib.Core.List.{List}
use Rattle.model.specs.Sizes.{times_apart, most_departures, most_cycles, bound_limit}
use Rattle.model.specs.Lists.{Every}
use Rattle.model.specs.Bound.{Bound}
use Rattle.model.specs.Matrix.{everything}
use Rattle.model.specs.Network.{Network}
use Rattle.model.specs.Search.{lists}
use Rattle.model.specs.Conditions.{TimesSmall, PatternSmall, Buildable, Meetable}
use Rattle.model.proofs.Fitted.{made_buildable, made_meetable}
use Rattle.model.proofs.Listed.{every_map}
use Rattle.model.proofs.Sizes.{made_everything, made_lists, most_zone}
use Rattle.memory.specs.Numbers.{Limit}

-- what is built of a zone of list k
building_room : (n k : ℕ) → n ≤ most_departures → k ≤ most_cycles → 4 * n * (bound_limit + times_apart * k + times_apart) ≤ Limit
building_room n k few cycles =
    let b : bound_limit + times_apart * k + times_apart ≤ bound_limit + times_apart * suc most_cycles = omega arith in
    let m : 4 * n ≤ 4 * most_departures = omega arith in
    omega (arith, mul-le-mul m b)

pub target_meetable : (n : ℕ) (b : List Bound) → n ≤ most_departures → PatternSmall n bound_limit b → Meetable n b Limit (everything (suc n))
target_meetable n b few small =
    made_meetable b small (omega arith) (omega (arith, most_zone n 0 few (omega arith))) (made_everything n (bound_limit + times_apart * 0))

module _ (w : Network) (few : w.n ≤ most_departures) (ts : TimesSmall w.n w.times) (target_small : PatternSmall w.n bound_limit w.target)
    (k : ℕ) (cycles : k ≤ most_cycles) where
  pub buildable : Every (Buildable w.n w.times Limit) (lists w k)
  buildable = every_map (λ d. made_buildable w.times ts (building_room w.n k few cycles)) (made_lists w ts target_small k)

  pub meetable : PatternSmall w.n bound_limit w.start → Every (Meetable w.n w.start Limit) (lists w k)
  meetable start_small =
      every_map (λ d. made_meetable w.start start_small (omega arith) (omega (arith, most_zone w.n k few cycles))) (made_lists w ts target_small k)
