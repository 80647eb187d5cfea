-- A start handed back with the verdict reached can be run, in its parts: its times are small, so that no fault of a run arises.
use Prim.Native.Nat.{ℕ, suc, ◌+◌, ◌*◌, ◌≤◌}
use native.Mathlib.Omega.{arith}
use native.Mathlib.Nat.{add-mul, mul-le-mul, mul-le-mul_right}
use mathlib.Core.Path.{◌≡◌, ap}
use mathlib.Core.List.{List, map}
use mathlib.Core.Option.{some}
use lib.IntN.{pos, nat_abs, ◌-ℤ◌, ◌*ℤ◌}
use lib.ListN.{take}
use Rattle.ints.proofs.Integers.{up, dn, ints, sub_ud, pos_ud, abs_ud}
use Rattle.model.specs.Sizes.{most_departures, most_cycles, start_limit}
use Rattle.ints.specs.declared.Seconds.{Seconds}
use Rattle.model.specs.declared.Case.{Case}
use Rattle.std.specs.Prelude.{Ok}
use Rattle.model.specs.declared.StartTimes.{StartTimes}
use Rattle.model.specs.declared.Verdict.TheVariants as verdict
use Rattle.model.specs.Lists.{Every}
use Rattle.model.specs.Bound.{Bound, bit, scale, whole}
use Rattle.model.specs.Matrix.{Matrix}
use Rattle.model.specs.Pattern.{pattern_constraints}
use Rattle.model.specs.Network.{Network, in_parts, cycles}
use Rattle.model.specs.Search.{lists, common, first_common, parts_of, wholes, start_in, Outcome}
use Rattle.model.specs.Faults.{network, run_fault}
use Rattle.model.specs.Answers.{seconds, cycle_number, all_times, answered, answer, ran, run, run_in_parts}
use Rattle.model.specs.Demands.{InLimits}
use Rattle.model.specs.Conditions.{Small, free, sized, Bounded, Limits}
use Rattle.model.proofs.Listed.{every_map, map_every, some_at, every_some}
use Rattle.model.proofs.Bounds.{bit_le}
use Rattle.model.proofs.Scale.{mul_ud}
use Rattle.model.proofs.Unique.{scaled}
use Rattle.model.proofs.Start.{pick_small}
use Rattle.model.proofs.Wholes.{Enough, W, bounds_fit, bounds_small, read_entry, entry_parts, start_is, start_length}
use Rattle.model.proofs.Spread.{Made, made, made_small}
use Rattle.model.proofs.Sizes.{most_size, made_lists, most_zone}
use Rattle.model.proofs.Former.{whole_network}
use Rattle.model.proofs.Searched.{first_some, parts_few, first_common_lem, parts_enough}
use Rattle.model.proofs.Fitted.{fitting_left, made_meetable}
use Rattle.model.proofs.Concluded.{Concluded, conclusion}
use Rattle.model.proofs.Limits.{StartsSmall, limits_of, run_without}
use Rattle.model.proofs.DemandsHold.{answer_in, first_times, reached_only}

-- ---- the size of a start in parts, where no finite bound of its zone passes S
pub small_scale : {S : ℕ} (k : ℕ) {b : Bound} → Small S b → Small (S * k) (scale k b)
unfolding scale
small_scale k free = free
small_scale {S} k (sized {z} h) =
    let more = mul-le-mul_right {m = up z + dn z} {n = S} k (omega (arith, abs_ud z)) in
    sized {z = z *ℤ pos k} (omega (ints, abs_ud z, abs_ud (z *ℤ pos k), mul_ud z k, add-mul (up z) (dn z) k))

pub small_whole : {S : ℕ} {b : Bound} → Small S b → Small (S + 1) (whole b)
unfolding whole
small_whole free = free
small_whole (sized {s} {z} h) =
    sized {z = z -ℤ pos (bit s)} (omega (ints, abs_ud z, abs_ud (z -ℤ pos (bit s)), sub_ud z (pos (bit s)), pos_ud (bit s), bit_le s))

module _ (n parts : ℕ) (z : Matrix) (enough : Enough (suc n) parts z) {S : ℕ} (small : Bounded (suc n) S z) where
  pub whole_made : Made n (S * parts + 1) (W n parts z enough).zone
  unfolding wholes
  whole_made = made (bounds_fit (suc n) (map whole (scaled parts z)))
      (bounds_small (suc n) (map whole (scaled parts z)) (λ i j hi hj.
      rw (read_entry (suc n) (scaled parts z) i j, entry_parts (suc n) parts z i j) (small_whole (small_scale parts (small i j hi hj)))))
      (W n parts z enough).is

  times_small : Every (λ x. nat_abs x ≤ n * (n * (S * parts + 1))) (start_in n parts z)
  times_small = rw (start_is n parts z enough) (pick_small n (W n parts z enough).zone (made_small whole_made))

-- it is in the limit of a run's start
start_limit_lem : (n parts : ℕ) → n ≤ most_departures → parts ≤ suc most_departures → n * (n * (most_size * parts + 1)) ≤ start_limit
start_limit_lem n parts few p =
    let widest : most_size * parts + 1 ≤ most_size * suc most_departures + 1 = omega arith in
    omega (arith, mul-le-mul few (mul-le-mul few widest))

module _ (w : Network) (limits : Limits w) where
  -- what a zone of list k has in common with the start does not pass it
  common_bounded : (k : ℕ) → k ≤ most_cycles → {d : Matrix} → first_common w.n w.start (lists w k) ≡ some d → Bounded (suc w.n) most_size d
  unfolding common
  common_bounded k h e =
      let made = made_lists w limits.table.times_small limits.target_small k in
      let (z, (m, c), at) = some_at (every_some made (first_some w.n w.start (lists w k) e)) in
      let room = most_zone w.n k limits.table.departures.few h in
      fitting_left (pattern_constraints w.n w.start) (made_meetable w.start limits.start_small (omega arith) room m) c

  reached_small : {capacity : ℕ} {o : Outcome} → Concluded w capacity o → (k : ℕ) (s : StartTimes)
      → answered o ≡ Ok (verdict.Reached (cycle_number k) s) → StartsSmall (take w.n s.times)
  reached_small c k s e =
      let r = reached_only c k s e in
      let parts = parts_of w in
      let few = limits.table.departures.few in
      let enough = parts_enough w k (first_common_lem w k r.in_common) in
      let bounded = common_bounded k (omega (arith, r.is_first.to_horizon, limits.few_cycles)) r.in_common in
      let limit = start_limit_lem w.n parts few (parts_few w few) in
      rw (r.start_is, first_times w.n _ (start_length w.n parts r.zone enough))
      (map_every seconds (every_map (λ x h. omega arith) (times_small w.n parts r.zone enough bounded)))

-- ---- runs
-- a run in one part is a run
pub run_whole : (c : Case) (xs : List Seconds) (k : ℕ) → run_in_parts 1 c xs k ≡ run c xs k
unfolding run_in_parts run
run_whole c xs k = ap (λ (w : Network). ran (run_fault c xs k) (cycles c.n w.times k (map (λ x. x.0) (take c.n xs)))) (whole_network (network c))

module _ (c : Case) (capacity size : ℕ) (limits : InLimits c capacity size) where
  start_small : (k : ℕ) (s : StartTimes) → answer c capacity size ≡ Ok (verdict.Reached (cycle_number k) s) → StartsSmall (take c.n s.times)
  unfolding network
  start_small =
      let l = limits_of c capacity size limits in
      rw (answer_in c capacity size limits) (reached_small (network c) l (conclusion (network c) capacity l.table.regular l.table.departures.some))

  -- a run in the answer's parts accepts the start, for every cycle in its limit, and its times are those of the definition
  pub start_runs : (k j : ℕ) (s : StartTimes) → answer c capacity size ≡ Ok (verdict.Reached (cycle_number k) s) → j ≤ most_cycles
      → let ts = cycles c.n (in_parts s.parts (network c)).times j (map (λ x. x.0) (take c.n s.times)) in
      run_in_parts s.parts c s.times j ≡ Ok (all_times ts)
  unfolding run_in_parts
  start_runs k j s e h = rw (run_without c capacity size limits _ j h (start_small k s e), run_in_parts)
