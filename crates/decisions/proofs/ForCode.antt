-- What code may keep and how large it gets: the tables stay in seconds, the two zones are in parts, and every set on the way fits.
use Prim.Native.Nat.{ℕ, zero, suc, ◌+◌, ◌*◌, ◌≤◌}
use native.Mathlib.Omega.{arith}
use native.Mathlib.Nat.{add-mul, mul-le-mul, mul-le-mul_right}
use mathlib.Core.Path.{◌≡◌, refl, sym, ◌∙◌}
use mathlib.Core.Bool.{Bool, ◌||◌}
use mathlib.Core.List.{List, [], ◌∷◌, ◌++◌, map, foldl}
use mathlib.Core.Option.{Option, none, some}
use lib.IntN.{ℤ, pos, ◌*ℤ◌, nat_abs}
use Rattle.ints.proofs.Integers.{impossible, up, dn, ints, abs_ud}
use Rattle.model.specs.Sizes.{most_departures, time_limit, bound_limit}
use Rattle.model.specs.Lists.{Every}
use Rattle.model.specs.Bound.{Bound, scale, whole}
use Rattle.model.specs.Matrix.{Matrix, constrain, tighten}
use Rattle.model.specs.Pattern.{pattern_constraints, only_differences}
use Rattle.model.specs.Network.{Time, blank, secs, scale_time, Network, time, product, power}
use Rattle.model.specs.Search.{parts_of, pick}
use Rattle.model.specs.Conditions.{Limits, PatternSmall, AllSmall, Bounded, Column, Fitting}
use Rattle.model.proofs.Listed.{every_map}
use Rattle.model.proofs.Scale.{mul_ud}
use Rattle.model.proofs.Parts.{time_parts, pair_parts}
use Rattle.model.proofs.PowersInParts.{product_parts, power_parts}
use Rattle.model.proofs.Size.{small_mono}
use Rattle.model.proofs.Sizes.{pattern_small}
use Rattle.model.proofs.Spread.{Made, made_small}
use Rattle.model.proofs.Runs.{small_scale, small_whole}
use Rattle.model.proofs.Searched.{parts_some, parts_few}
use Rattle.decisions.specs.Decide.{most_far, first_constraints, Tried, found, missed, spent, meeting, clear, never}
use Rattle.decisions.specs.Decide.{Kept, kept_from, follows, decide_from, decide_zones, decide, wholly, decide_marked}
use Rattle.decisions.specs.Conditions.{Posed, Parted, table_in, kept_in, from_seconds, Rowed, TimesTo, Tryable, last, more, most_time, most_bound, most_picked}
use Rattle.decisions.proofs.Descent.{clock_rowed, more_rowed}
use Rattle.decisions.proofs.PowerSizes as sizes
use Rattle.decisions.proofs.PowerSizes.{power_small, Sized, limit_at}
use Rattle.decisions.proofs.Repeating.{renewed_parts, again_parts}
use Rattle.decisions.proofs.Wholly.{pair_whole, differences_read, none_wholly}

-- ---- the tables in seconds
module _ (w : Network) (parts : ℕ) (may : Bool) (z d : Matrix) (horizon : ℕ) where
  pub from_end : (k : ℕ) (b : List Time) (c : Kept) (t : ℕ) → from_seconds w parts may z d horizon 0 k b c t ≡ clear horizon
  unfolding decide_from
  from_end k b c t = refl

  pub from_more : 1 ≤ parts → (r k : ℕ) (b : List Time) (c : Kept) (t : ℕ)
      → from_seconds w parts may z d horizon (suc r) k b c t
      ≡ follows w may k b c (from_seconds w parts may z d horizon r (suc k)) (meeting w.n (table_in parts b) z d t)
  unfolding decide_from wholly
  from_more some_parts r k b c t = go (meeting w.n (table_in parts b) z d t)
    where
      go : (o : Tried)
          → follows (wholly parts w) may k (table_in parts b) (kept_in parts c) (decide_from (wholly parts w) may z d horizon r (suc k)) o
          ≡ follows w may k b c (from_seconds w parts may z d horizon r (suc k)) o
      go (found y) = refl
      go spent = refl
      go (missed u) =
          let b' = product w.n w.times b in
          rw (product_parts parts w.n w.times b, again_parts parts some_parts c.table b', renewed_parts parts (suc k) b' c)

-- the whole decision, from the zones of start and target
module _ (w : Network) (horizon t : ℕ) where
  pub decide_parted : {z d z' d' : Matrix} → Parted w z d z' d' → decide_marked w horizon t
      ≡ from_seconds w (parts_of w) (only_differences w.n w.start || only_differences w.n w.target) z' d' horizon
      horizon 1 w.times (kept_from 1 w.times) t
  unfolding decide_marked decide decide_zones wholly
  decide_parted p = rw (p.posed.start, p.posed.target, differences_read (parts_of w) w.n w.start, differences_read (parts_of w) w.n w.target)

  pub decide_no_start : tighten (suc w.n) (pattern_constraints w.n w.start) ≡ none → decide_marked w horizon t ≡ never
  unfolding decide_marked decide decide_zones wholly
  decide_no_start e = rw (none_wholly (parts_of w) w.n w.start (parts_some w) e)

  pub decide_no_target : tighten (suc w.n) (pattern_constraints w.n w.target) ≡ none → decide_marked w horizon t ≡ never
  unfolding decide_marked decide decide_zones wholly
  decide_no_target e = rw (none_wholly (parts_of w) w.n w.target (parts_some w) e)
      (go (tighten (suc w.n) (pattern_constraints w.n (wholly (parts_of w) w).start)))
    where
      go : (o : Option Matrix) → decide_zones (wholly (parts_of w) w) horizon t o none ≡ never
      go none = refl
      go (some z) = refl

-- ---- sizes, in parts: times of at most 86,400 a part's worth, bounds of at most 1,000,000 and one part more
scale_size : {T : ℕ} (z : ℤ) (k : ℕ) → nat_abs z ≤ T → nat_abs (z *ℤ pos k) ≤ T * k
scale_size {T} z k h =
    let more = mul-le-mul_right {m = up z + dn z} {n = T} k (omega (arith, abs_ud z)) in
    omega (ints, abs_ud z, abs_ud (z *ℤ pos k), mul_ud z k, add-mul (up z) (dn z) k)

pub times_scaled : {T : ℕ} (n : ℕ) (a : List Time) (parts : ℕ) → TimesTo T n a → TimesTo (T * parts) n (map (scale_time parts) a)
unfolding scale_time
times_scaled {T} n a parts ts i j v e = go (time n a i j) refl (sym (time_parts parts n a i j) ∙ e)
  where
    go : (t : Time) → time n a i j ≡ t → scale_time parts t ≡ secs v → nat_abs v ≤ T * parts
    go blank f g = impossible cc
    go (secs u) f g = let z : u *ℤ pos parts ≡ v = cc in rw z at (scale_size u parts (ts i j u f))

pattern_scaled : {S : ℕ} (n : ℕ) (b : List Bound) (parts : ℕ) → PatternSmall n S b
    → AllSmall (S * parts + 1) (pattern_constraints n (map whole (map (scale parts) b)))
pattern_scaled n b parts h = pattern_small n (map whole (map (scale parts) b)) (λ i j.
    rw (pair_whole n (map (scale parts) b) i j, pair_parts parts n b i j) (small_whole (small_scale parts (h i j))))

pub marked_sized : (w : Network) → Limits w → (parts : ℕ) → Sized (wholly parts w) (time_limit * parts) (bound_limit * parts + 1)
unfolding wholly
marked_sized w l parts = record {
  some_row = l.table.departures.some;
  times = times_scaled w.n w.times parts l.table.times_small;
  start = pattern_scaled w.n w.start parts l.start_small;
  target = pattern_scaled w.n w.target parts l.target_small;
}

-- the largest constraint: fifteen departures, sixteen parts a second, powers to one beyond the farthest horizon
abbrev pub most_limit : ℕ
most_limit = 11567385616

pub limit_most : (n parts k : ℕ) → n ≤ most_departures → parts ≤ suc most_departures → k ≤ suc most_far
    → limit_at n (time_limit * parts) (bound_limit * parts + 1) k ≤ most_limit
unfolding limit_at
limit_most n parts k few p far =
    let bound : bound_limit * parts + 1 ≤ 16000001 = omega arith in
    let times : time_limit * parts ≤ 1382400 = omega arith in
    omega (arith, mul-le-mul few bound, mul-le-mul far times)

pub room_most : (n : ℕ) → n ≤ most_departures → n * most_limit ≤ most_bound
room_most n few = omega arith

-- a set on the way is bounded
pub way_bounded : {n : ℕ} → n ≤ most_departures → {L : ℕ} → most_bound ≤ L → {y : Matrix} → Made n most_limit y → Bounded (suc n) L y
way_bounded {n} few room m i j hi hj = small_mono (omega (arith, room_most n few)) (made_small m i j hi hj)

module _ (w : Network) (l : Limits w) where
  -- power r + 1 in seconds
  pub power_times : (r : ℕ) → TimesTo (suc r * time_limit) w.n (power w.n w.times r)
  power_times = power_small w.n w.times l.table.times_small

  pub power_most : (r : ℕ) → r ≤ most_far → TimesTo most_time w.n (power w.n w.times r)
  power_most r far i j v e = omega (arith, power_times r i j v e)

  few_parts : parts_of w ≤ suc most_departures
  few_parts = parts_few w l.table.departures.few

  module _ {z d : Matrix} (posed : Posed (wholly (parts_of w) w) z d) where
    abbrev sized_so : Sized (wholly (parts_of w) w) (time_limit * parts_of w) (bound_limit * parts_of w + 1)
    sized_so = marked_sized w l (parts_of w)

    -- the start zone
    pub start_made : Made w.n most_limit z
    unfolding wholly
    start_made =
        sizes.start_on_way (wholly (parts_of w) w) sized_so posed 0
        (limit_most w.n (parts_of w) 0 l.table.departures.few few_parts (omega arith))

    -- the sets on the way of a try on power r + 1
    module _ (r : ℕ) (far : r ≤ most_far) where
      abbrev pub table_at : List Time
      table_at = table_in (parts_of w) (power w.n w.times r)

      table_times : TimesTo (suc r * (time_limit * parts_of w)) w.n table_at
      table_times =
          let a = map (scale_time (parts_of w)) w.times in
          rw (← power_parts (parts_of w) w.n w.times r)
          (power_small w.n a (times_scaled w.n w.times (parts_of w) l.table.times_small) r)

      target_within : Bounded (suc w.n) (w.n * (bound_limit * parts_of w + 1)) d
      unfolding wholly
      target_within = sizes.target_bounded (wholly (parts_of w) w) sized_so posed

      wide : let T = suc r * (time_limit * parts_of w) in w.n * (bound_limit * parts_of w + 1) + (T + T + 1) ≤ most_limit
      unfolding limit_at
      wide = limit_most w.n (parts_of w) (suc r) l.table.departures.few few_parts (omega arith)

      module _ {i s : ℕ} (cols : List ℕ) (h : i ≤ w.n) (q : Rowed w.n table_at cols i) (c : Column w.n table_at i s) where
        pub row_limits : AllSmall most_limit (first_constraints w.n table_at d cols i s)
        row_limits = sizes.row_limits w.n table_at table_times d target_within wide cols h q c

        -- no set on the way through a row passes most_bound, and what is left is made of constraints of at most most_limit again
        pub row_fitting : {L : ℕ} → most_bound ≤ L → {y : Matrix} → Made w.n most_limit y
            → Fitting (suc w.n) L (some y) (first_constraints w.n table_at d cols i s)
        row_fitting {L} room m =
            let all : w.n * most_limit ≤ L = omega (arith, room_most w.n l.table.departures.few) in
            sizes.row_fitting w.n table_at table_times d target_within wide cols h q c all m

        pub row_left : {y v : Matrix} → Made w.n most_limit y
            → foldl (constrain (suc w.n)) (some y) (first_constraints w.n table_at d cols i s) ≡ some v → Made w.n most_limit v
        row_left m e = sizes.row_left w.n table_at table_times d target_within wide cols h q c m e

      -- so all rows can be tried
      rows : {L : ℕ} → most_bound ≤ L → (k i : ℕ) (cols : List ℕ) → Rowed w.n table_at cols i → k + i ≡ suc w.n → {y : Matrix}
          → Made w.n most_limit y → Tryable w.n table_at d L k i cols y
      rows room zero i cols q e m = last (way_bounded l.table.departures.few room m)
      rows room (suc k) i cols q e m = more (way_bounded l.table.departures.few room m)
          (λ s c. row_fitting cols (omega arith) q c room m)
          (λ s c y f. rows room k (suc i) (cols ++ (s ∷ [])) (more_rowed q c) (omega arith) (row_left cols (omega arith) q c m f))

      pub tryable : {L : ℕ} → most_bound ≤ L → Tryable w.n table_at d L w.n 1 (0 ∷ []) z
      tryable room = rows room w.n 1 (0 ∷ []) (clock_rowed w.n table_at) (omega arith) start_made

      -- the set that is found, and the times that are picked in it
      pub found_made : (t : ℕ) {y : Matrix} → meeting w.n table_at z d t ≡ found y → Made w.n most_limit y
      found_made t e = sizes.found_made w.n table_at table_times d target_within wide start_made t e

      pub found_small : (t : ℕ) {y : Matrix} → meeting w.n table_at z d t ≡ found y → Every (λ x. nat_abs x ≤ most_picked) (pick w.n y)
      found_small t e =
          let few = l.table.departures.few in
          every_map (λ x h. omega (arith, mul-le-mul few (room_most w.n few)))
          (sizes.found_small w.n table_at table_times d target_within wide start_made t e)
