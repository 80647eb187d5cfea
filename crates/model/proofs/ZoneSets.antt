-- The zones of a list are document 01's sets, in its order, with their tightest bounds.
use Prim.Native.Nat.{ℕ, zero, suc, ◌+◌, ◌-◌, ◌≤◌, ◌<◌}
use native.Mathlib.Omega.{arith}
use mathlib.Core.Path.{◌≡◌, refl, sym, ap, ◌∙◌}
use mathlib.Core.Logic.{◌↔◌}
use mathlib.Core.List.{List, [], ◌∷◌, map, flat_map, foldl, map-map, map-append}
use mathlib.Core.Option.{Option, none, some}
use lib.IntN.{ℤ, pos, ◌-ℤ◌}
use lib.ListN.{length, get_or}
use Rattle.ints.proofs.Integers.{up, dn, ints, sub_ud}
use Rattle.model.specs.Lists.{tabulate, Every, done, both}
use Rattle.model.specs.Bound.{scale}
use Rattle.model.specs.Matrix.{Matrix, Member, tighten}
use Rattle.model.specs.Pattern.{pattern_constraints}
use Rattle.model.specs.Network.{Time, secs, Network, in_parts, time, after, clocked, next}
use Rattle.model.specs.Search.{selections, preimage, keep, previous, lists}
use Rattle.model.specs.Zones.{Zone, Members, InTarget, Selected, Kept, no_more, empty, again, new, sources, ListsOfZones}
use Rattle.model.specs.Conditions.{Regular, Closed, image, Selection}
use Rattle.model.proofs.Bounds.{le_b_antisym}
use Rattle.model.proofs.MaxPlus.{latest_of_upper}
use Rattle.model.proofs.Listed.{every_map, map_every, flat_map_every, some_map}
use Rattle.model.proofs.Entries.{length_tabulate, get_d_tabulate, ext_entry}
use Rattle.model.proofs.Mapped.{entry_map, map_closed}
use Rattle.model.proofs.Inner.{scaling}
use Rattle.model.proofs.Ranked.{ranked, ranked_member, parts_member}
use Rattle.model.proofs.Unique.{scaled, entry_tightest}
use Rattle.model.proofs.Zones as Z
use Rattle.model.proofs.Zones.{ClosedZone, closed, In, zone_parts, tighten_parts}
use Rattle.model.proofs.Cycles.{next_is}
use Rattle.model.proofs.Patterns.{pattern_closed, pattern_in}
use Rattle.model.proofs.Parts.{regular_parts, selection_parts, preimage_parts, pattern_parts}
use Rattle.model.proofs.Selections.{selections_sound}
use Rattle.model.proofs.Preimage.{Attains, column_at, column_sum, image_attained, preimage_closed, preimage_in}
use Rattle.model.proofs.Kept as K
use Rattle.model.proofs.Kept.{keep_is}
use Rattle.model.proofs.ZoneLists.{member_at, image_cycle, lists_closed}

-- ---- a set has one matrix
pub zone_once : {n : ℕ} {P : ℕ → List ℤ → Type 0} {y z : Matrix} → Zone n P y → Zone n P z → y ≡ z
zone_once {n} {y} {z} a b = ext_entry (suc n) y z a.size b.size (λ i j hi hj.
    le_b_antisym (a.tightest i j hi hj _ (b.keep i j hi hj)) (b.tightest i j hi hj _ (a.keep i j hi hj)))

-- ---- a closed matrix, as a set of times with x(0) = 0
-- the times of a member, moved so that x(0) is 0
times_from : ℕ → (ℕ → ℤ) → List ℤ
times_from n x = tabulate n 1 (λ i. x i -ℤ x 0)

module _ (n : ℕ) (x : ℕ → ℤ) where
  from_at : (i : ℕ) → i < suc n → clocked (times_from n x) i ≡ x i -ℤ x 0
  unfolding clocked times_from up dn
  from_at zero h = omega (ints, sub_ud (x 0) (x 0))
  from_at (suc i) h = get_d_tabulate n 1 i (λ i. x i -ℤ x 0) (pos 0) (omega arith) ∙ ap (λ (k : ℕ). x k -ℤ x 0) (let e : 1 + i ≡ suc i = omega arith in e)

  from_apart : (i j : ℕ) → i < suc n → j < suc n → clocked (times_from n x) i -ℤ clocked (times_from n x) j ≡ x i -ℤ x j
  from_apart i j hi hj =
      rw (from_at i hi, from_at j hj)
      (omega (ints, sub_ud (x i) (x 0), sub_ud (x j) (x 0), sub_ud (x i) (x j), sub_ud (x i -ℤ x 0) (x j -ℤ x 0)))

  members_from : (z : Matrix) → Member (suc n) z x → (length (times_from n x) ≡ n) × Member (suc n) z (clocked (times_from n x))
  unfolding times_from
  members_from z mem = (length_tabulate n 1 _, λ i j hi hj. rw (from_apart i j hi hj) (mem i j hi hj))

-- bounds, with or without marks, have members in some parts exactly if they have members in n + 1 parts
pub members_rows : (n : ℕ) (z : Matrix) → ((parts : ℕ) × (1 ≤ parts) × (xs : List ℤ) × Members n z parts xs) ↔ ((xs : List ℤ) × Members n z (suc n) xs)
members_rows n z = (
  λ h.
      let (parts, some_parts, xs, (l, mem)) = h in
      let y = ranked (suc n) parts some_parts (clocked xs) in
      (times_from n y, members_from n y (scaled (suc n) z) (ranked_member (suc n) parts some_parts (clocked xs) z (omega arith) mem)),
  λ h. (suc n, omega arith, h.0, h.1),
)

module _ {n : ℕ} {P : ℕ → List ℤ → Type 0} {z : Matrix} (cl : Closed (suc n) z)
    (all : (parts : ℕ) → 1 ≤ parts → (xs : List ℤ) → P parts xs ↔ Members n z parts xs) where
  -- a member of the matrix is one of the set
  taken : (parts : ℕ) → 1 ≤ parts → (x : ℕ → ℤ) → Member (suc n) (scaled parts z) x → P parts (times_from n x)
  taken parts h x mem = (all parts h _).1 (members_from n x (scaled parts z) mem)

  pub closed_zone : Zone n P z
  closed_zone = record {
    times = let (x, mem) = parts_member (suc n) z (omega arith) cl in (suc n, omega arith, times_from n x, taken (suc n) (omega arith) x mem);
    size = cl.size;
    keep = λ i j hi hj parts h xs p. rw (entry_map (scaling parts h) (suc n) z i j) at (((all parts h xs).0 p).1 i j hi hj);
    tightest = λ i j hi hj b keep. entry_tightest (suc n) z cl i j hi hj b (λ parts h x mem.
        rw (from_apart n x i j hi hj) at (keep parts h (times_from n x) (taken parts h x mem)));
    all = all;
  }

-- ---- the sets that are put to a list
-- no times, or the zone of a set
data IsSet (n : ℕ) (P : ℕ → List ℤ → Type 0) : Option Matrix → Type 0 where
  no_times : ((parts : ℕ) → 1 ≤ parts → (xs : List ℤ) → P parts xs → ⊥) → IsSet n P none
  zone : {z : Matrix} → Zone n P z → IsSet n P (some z)

is_set : {n : ℕ} {P : ℕ → List ℤ → Type 0} {o : Option Matrix} → ClosedZone (suc n) o
    → ((parts : ℕ) → 1 ≤ parts → (xs : List ℤ) → P parts xs ↔ ((length xs ≡ n) × In (suc n) (zone_parts parts o) (clocked xs))) → IsSet n P o
is_set Z.ClosedZone.empty same = no_times (λ parts h xs p. ((same parts h xs).0 p).1)
is_set (closed cl) same = zone (closed_zone cl same)

module _ {X : Type 0} (n : ℕ) (set : X → ℕ → List ℤ → Type 0) (matrix : X → Option Matrix) where
  kept_next : {x : X} {rest : List X} {kept kept' all : List Matrix} {o : Option Matrix} → IsSet n (set x) o → K.Put kept o kept'
      → Kept n set kept' rest all → Kept n set kept (x ∷ rest) all
  kept_next (no_times h) K.Put.empty rest = empty h rest
  kept_next {x} (zone z) (K.Put.there_already s) rest = again {x = x} (some_map (λ y e. rw e z) s) rest
  kept_next (zone z) (K.Put.new others) rest = new z (every_map (λ y differs same. differs (zone_once same z)) others) rest

  kept_sets : (kept : List Matrix) {xs : List X} → Every (λ x. IsSet n (set x) (matrix x)) xs → Kept n set kept xs (foldl keep kept (map matrix xs))
  kept_sets kept done = no_more
  kept_sets kept (both {x} h hs) = kept_next h (keep_is kept (matrix x)) (kept_sets (keep kept (matrix x)) hs)

-- ---- the set of a zone and a selection
module _ (w : Network) (reg : Regular w.n w.times) where
  abbrev n : ℕ
  n = w.n

  abbrev a : List Time
  a = w.times

  module _ (d : Matrix) (cl : Closed (suc n) d) (sel : List ℕ) (q : Selection n a n 1 sel) where
    module _ (xs : List ℤ) where
      -- the selected column attains the largest sum, as the constraints say it
      abbrev Most : Type 0
      Most = (r : ℕ) → r < n → Attains n a (clocked xs) (suc r) (get_or sel r 0)

      -- and as document 01 does
      abbrev Largest : Type 0
      Largest = (i : ℕ) → 1 ≤ i → i ≤ n
          → after (secs (clocked xs (get_or sel (i - 1) 0))) (time n a i (get_or sel (i - 1) 0)) ≡ secs (next n a (clocked xs) i)

      largest : Most → Largest
      unfolding image
      largest at zero l u = absurd (omega arith)
      largest at (suc r) l u =
          let e : suc r - 1 ≡ r = omega arith in
          let c = column_at n a sel q r (omega arith) in
          rw e (column_sum n a (clocked xs) c ∙ ap secs (sym (image_attained n a (clocked xs) c (at r (omega arith)))))

      most_of : Largest → Most
      most_of at r h j l u =
          let e : suc r - 1 ≡ r = omega arith in
          rw (rw e at (at (suc r) (omega arith) (omega arith)), ← next_is n a reg (clocked xs) (suc r) (omega arith) (omega arith))
          (latest_of_upper n (λ j. after (secs (clocked xs j)) (time n a (suc r) j)) j l u)

      selected_in : Selected w d sel xs ↔ ((length xs ≡ n) × In (suc n) (preimage n a d sel) (clocked xs))
      selected_in = let is = preimage_in n a d sel q (clocked xs) cl in (
        λ p. (p.count, is.1 (most_of p.attains, member_at (suc n) d (λ i h. sym (image_cycle n a xs i h)) p.arrives)),
        λ p. record {
          count = p.0;
          attains = largest (is.0 p.1).0;
          arrives = member_at (suc n) d (image_cycle n a xs) (is.0 p.1).1;
        },
      )

module _ (w : Network) (reg : Regular w.n w.times) where
  selected_set : (d : Matrix) → Closed (suc w.n) d → (sel : List ℕ) → Selection w.n w.times w.n 1 sel
      → IsSet w.n (λ parts. Selected (in_parts parts w) (scaled parts d) sel) (preimage w.n w.times d sel)
  unfolding in_parts
  selected_set d cl sel q = is_set (preimage_closed w.n w.times d sel q) (λ parts h xs.
      let reg-parts = regular_parts parts w.n w.times reg in
      rw (preimage_parts parts h w.n w.times d sel)
      (selected_in (in_parts parts w) reg-parts (scaled parts d) (map_closed (scaling parts h) cl) sel (selection_parts parts w.n w.times q) xs))

  -- the sets of a list of zones, in order
  sets_of : (zs : List Matrix) → map (λ c. preimage w.n w.times c.0 c.1) (sources w zs)
      ≡ flat_map (λ d. map (preimage w.n w.times d) (selections w.n w.times w.n 1)) zs
  unfolding flat_map
  sets_of [] = refl
  sets_of (d ∷ zs) = rw (map-append, map-map, sets_of zs)

  later_sets : {zs : List Matrix} → Every (Closed (suc w.n)) zs
      → Kept w.n (λ c parts. Selected (in_parts parts w) (scaled parts c.0) c.1) [] (sources w zs) (previous w.n w.times zs)
  unfolding previous
  later_sets {zs} cl =
      rw (← sets_of zs) (kept_sets w.n _ _ []
      (flat_map_every _ (every_map (λ d c. map_every _ (every_map (λ sel q. selected_set d c sel q) (selections_sound w.n w.times w.n 1))) cl)))

  target_set : IsSet w.n (λ parts. InTarget (in_parts parts w)) (tighten (suc w.n) (pattern_constraints w.n w.target))
  unfolding in_parts
  target_set = is_set (pattern_closed w.n w.target) (λ parts h xs.
      let is = pattern_in w.n (map (scale parts) w.target) (clocked xs) in
      rw (tighten_parts (suc w.n) parts h (pattern_constraints w.n w.target), pattern_parts parts w.n w.target)
      (λ p. (p.count, is.1 p.within), λ p. record { count = p.0; within = is.0 p.1 }))

  -- ---- the theorem
  pub lists_of_zones : ListsOfZones w
  unfolding lists
  lists_of_zones = record {
    zones = λ k. every_map (λ z cl. closed_zone cl (λ parts h xs. (λ p. p, λ p. p))) (lists_closed w k);
    first = kept_sets w.n (λ target parts. InTarget (in_parts parts w)) (λ target. tighten (suc w.n) (pattern_constraints w.n w.target)) []
        (both target_set done);
    later = λ k. later_sets (lists_closed w k);
  }
