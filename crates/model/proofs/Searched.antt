-- The search, cycle by cycle: what list k settles, when the target is met, and how the search ends.
use Prim.Native.Nat.{ℕ, zero, suc, ◌+◌, ◌-◌, ◌≤◌, ◌<◌, min}
use native.Mathlib.Omega.{arith}
use mathlib.Core.Path.{◌≡◌, refl, sym, ap, ◌∙◌}
use mathlib.Core.Bool.{Bool, true, false, cond, ◌||◌}
use mathlib.Core.List.{List, [], ◌∷◌, map}
use mathlib.Core.Option
use mathlib.Core.Option.{Option, none, some}
use borrow.Author.Tests.{ltb-true, ltb-false, leb-true, leb-false}
use lib.ListN.{length}
use lib.Dec.{ltb, leb}
use Rattle.ints.proofs.Integers.{impossible}
use Rattle.model.specs.Sizes.{most_departures}
use Rattle.model.specs.Lists.{when, or_else, Every, done, both, Some, here, there}
use Rattle.model.specs.Bound.{Bound, scale}
use Rattle.model.specs.Matrix.{Matrix}
use Rattle.model.specs.Pattern.{only_differences}
use Rattle.model.specs.Network.{Network, in_parts, clocked, Repeat, repeat_of}
use Rattle.model.specs.Search.{lists, previous, common, first_common, some_strict, parts_of, start_in, Outcome, reached, clear, never, table_full}
use Rattle.model.specs.Search.{Plan, plan_with, plan, settled, dry, search_by, search_from, outcome}
use Rattle.model.specs.Demands.{Witness, Met, Differences}
use Rattle.model.specs.Conditions.{Regular, Closed}
use Rattle.model.proofs.Bounds.{Plain}
use Rattle.model.proofs.Listed.{one_more, some_map, some_at, every_some, in_map, of_map}
use Rattle.model.proofs.Patterns.{common_some, common_none}
use Rattle.model.proofs.ZoneLists.{lists_closed, list_in_lem}
use Rattle.model.proofs.Mapped.{map_closed}
use Rattle.model.proofs.Inner.{scaling}
use Rattle.model.proofs.Unique.{scaled}
use Rattle.model.proofs.Zones.{zone_parts}
use Rattle.model.proofs.Parts.{regular_parts, common_parts, lists_parts}
use Rattle.model.proofs.Plain.{lists_plain, common_plain}
use Rattle.model.proofs.Wholes.{Enough, rows_enough, one_enough, start_length, start_member}

-- ---- the first zone that has something in common with a pattern
module _ (n : ℕ) (b : List Bound) where
  pub first_some : {c : Matrix} (zs : List Matrix) → first_common n b zs ≡ some c → Some (λ z. common n z b ≡ some c) zs
  unfolding first_common
  first_some [] e = impossible cc
  first_some {c} (z ∷ zs) e = go (common n z b) refl e (first_some zs)
    where
      go : (o : Option Matrix) → common n z b ≡ o → or_else o (first_common n b zs) ≡ some c
          → (first_common n b zs ≡ some c → Some (λ y. common n y b ≡ some c) zs) → Some (λ y. common n y b ≡ some c) (z ∷ zs)
      go (some d) h e rest = here (h ∙ e)
      go none h e rest = there (rest e)

  first_none : (zs : List Matrix) → first_common n b zs ≡ none → Every (λ z. common n z b ≡ none) zs
  unfolding first_common
  first_none [] e = done
  first_none (z ∷ zs) e = go (common n z b) refl e (first_none zs)
    where
      go : (o : Option Matrix) → common n z b ≡ o → or_else o (first_common n b zs) ≡ none
          → (first_common n b zs ≡ none → Every (λ y. common n y b ≡ none) zs) → Every (λ y. common n y b ≡ none) (z ∷ zs)
      go (some d) h e rest = impossible cc
      go none h e rest = both h (rest e)

-- ---- what list k has in common with the start
-- c is what the zone of list k has in common with the start
pub record Common (w : Network) (k : ℕ) (c : Matrix) : Type 0 where
  pub zone : Matrix
  pub there : Some (λ y. y ≡ zone) (lists w k)
  pub is : common w.n zone w.start ≡ some c
  pub closed_zone : Closed (suc w.n) zone

pub parts_some : (w : Network) → 1 ≤ parts_of w
unfolding parts_of
parts_some w = elim (some_strict w) as (λ t. 1 ≤ cond t (suc w.n) 1) [ true ↦ omega arith | false ↦ omega arith ]

pub parts_few : (w : Network) → w.n ≤ most_departures → parts_of w ≤ suc most_departures
unfolding parts_of
parts_few w h = elim (some_strict w) as (λ t. cond t (suc w.n) 1 ≤ suc most_departures) [ true ↦ omega arith | false ↦ omega arith ]

module _ (w : Network) (k : ℕ) where
  pub first_common_lem : {c : Matrix} → first_common w.n w.start (lists w k) ≡ some c → Common w k c
  first_common_lem e =
      let (z, (cl, h), at) = some_at (every_some (lists_closed w k) (first_some w.n w.start (lists w k) e)) in
      record { zone = z; there = at; is = h; closed_zone = cl }

  -- without strict bounds it has none
  pub common_is_plain : {c : Matrix} → some_strict w ≡ false → Common w k c → Every Plain c
  common_is_plain {c} e f =
      let (z, (p, q), at) = some_at (every_some (lists_plain w e k) f.there) in
      common_plain w e (rw q at p) c f.is

  -- so the parts of the start are enough for it
  pub parts_enough : {c : Matrix} → Common w k c → Enough (suc w.n) (parts_of w) c
  unfolding parts_of
  parts_enough {c} f = go (some_strict w) refl
    where
      cl : Closed (suc w.n) c
      cl = (common_some f.closed_zone w.start f.is).0

      go : (t : Bool) → some_strict w ≡ t → Enough (suc w.n) (cond t (suc w.n) 1) c
      go true e = rows_enough (suc w.n) c (omega arith) cl
      go false e = one_enough (suc w.n) c cl (common_is_plain e f)

-- ---- the target is met at cycle k exactly if list k has something in common with the start
module _ (w : Network) (reg : Regular w.n w.times) (k : ℕ) where
  pub met_by : {c : Matrix} → first_common w.n w.start (lists w k) ≡ some c → Witness (in_parts (parts_of w) w) k (start_in w.n (parts_of w) c)
  unfolding in_parts
  met_by {c} e =
      let f = first_common_lem w k e in
      let parts = parts_of w in
      let some_parts = parts_some w in
      let xs = start_in w.n parts c in
      let cl = map_closed (scaling parts some_parts) f.closed_zone in
      let in_common = sym (common_parts parts some_parts w.n f.zone w.start) ∙ ap (zone_parts parts) f.is in
      let (closed, same) = common_some cl (map (scale parts) w.start) in_common in
      let (mem, start) = (same (clocked xs)).0 (start_member w.n parts c (parts_enough w k f)) in
      record {
        size = start_length w.n parts c (parts_enough w k f);
        started = start;
        arrived = (list_in_lem (in_parts parts w) (regular_parts parts w.n w.times reg) k xs).0
            (rw (lists_parts parts some_parts w k) (in_map (scaled parts) (some_map (λ y q. rw q mem) f.there)));
      }

  pub unmet : first_common w.n w.start (lists w k) ≡ none → Met w k → ⊥
  unfolding in_parts
  unmet e (parts, some_parts, xs, s) =
      let nothing = first_none w.n w.start (lists w k) e in
      let arrived = rw (lists_parts parts some_parts w k) at ((list_in_lem (in_parts parts w) (regular_parts parts w.n w.times reg) k xs).1 s.arrived) in
      let (z, (cl, (apart, mem)), at) = some_at (every_some (lists_closed w k) (every_some nothing (of_map (scaled parts) (lists w k) arrived))) in
      let nothing-in-parts = sym (common_parts parts some_parts w.n z w.start) ∙ ap (zone_parts parts) apart in
      common_none (map_closed (scaling parts some_parts) cl) (map (scale parts) w.start) nothing-in-parts (clocked xs) mem s.started

-- ---- what list k settles
pub data Settled (w : Network) (capacity k : ℕ) (zs : List Matrix) : Option Outcome → Type 0 where
  full : capacity < length zs → Settled w capacity k zs (some (table_full k))
  met : {c : Matrix} → length zs ≤ capacity → first_common w.n w.start zs ≡ some c
      → Settled w capacity k zs (some (reached k (parts_of w) (start_in w.n (parts_of w) c)))
  unsettled : length zs ≤ capacity → first_common w.n w.start zs ≡ none → Settled w capacity k zs none

pub settled_is : (w : Network) (capacity k : ℕ) (zs : List Matrix) → Settled w capacity k zs (settled w capacity k zs)
unfolding settled
settled_is w capacity k zs = go (ltb capacity (length zs)) (first_common w.n w.start zs) refl refl
  where
    go : (s : Bool) (o : Option Matrix) → ltb capacity (length zs) ≡ s → first_common w.n w.start zs ≡ o
        → Settled w capacity k zs (or_else (when s (table_full k)) (Option.map (λ c. reached k (parts_of w) (start_in w.n (parts_of w) c)) o))
    go true o e f = full (omega (arith, ltb-true))
    go false (some c) e f = met (omega (arith, ltb-false)) f
    go false none e f = unsettled (omega (arith, ltb-false)) f

-- ---- how a search ends, whatever makes its lists and ends it: at a cycle that ends it, at an empty list, or past all cycles
-- the cycles from 1 to k do not end it
abbrev pub Unended : (ℕ → List Matrix) → (ℕ → List Matrix → Option Outcome) → ℕ → Type 0
Unended list ends k = (i : ℕ) → 1 ≤ i → i ≤ k → ends i (list i) ≡ none

pub data EndingBy (list : ℕ → List Matrix) (ends : ℕ → List Matrix → Option Outcome) (last : ℕ) (end : Outcome) : Outcome → Type 0 where
  stopped : {o : Outcome} (j : ℕ) → j < last → Unended list ends j → ends (suc j) (list (suc j)) ≡ some o → EndingBy list ends last end o
  dried : (j : ℕ) → j ≤ last → Unended list ends j → list j ≡ [] → EndingBy list ends last end never
  passed : Unended list ends last → (list last ≡ [] → ⊥) → EndingBy list ends last end end

module _ (step : List Matrix → List Matrix) (list : ℕ → List Matrix) (next : (k : ℕ) → list (suc k) ≡ step (list k))
    (ends : ℕ → List Matrix → Option Outcome) (last : ℕ) (end : Outcome) where
  abbrev By : Outcome → Type 0
  By = EndingBy list ends last end

  -- the test of a list
  tested : {o : Outcome} (zs : List Matrix) → (zs ≡ [] → By never) → ((zs ≡ [] → ⊥) → By o) → By (cond (dry zs) never o)
  unfolding dry
  tested [] h g = h refl
  tested (z ∷ zs) h g = g (λ d. let q : suc (length zs) ≡ 0 = ap length d in omega arith)

  ending_from : (r k : ℕ) → last ≡ k + r → Unended list ends k → By (search_by step ends r (suc k) (list k) end)
  unfolding search_by
  ending_from zero k e before =
      let same : last ≡ k = omega arith in tested (list k) (dried k (omega arith) before) (λ no. passed (rw same before) (rw same no))
  ending_from (suc r) k e before =
      tested (list k) (dried k (omega arith) before) (λ no. go (step (list k)) (next k) (ends (suc k) (step (list k))) refl
      (λ h. ending_from r (suc k) (omega arith) (λ i l u.
      one_more (λ i. 1 ≤ i → ends i (list i) ≡ none) (suc k) (λ i u l. before i l (omega arith)) (λ l. h) i (omega arith) l)))
    where
      go : (zs : List Matrix) → list (suc k) ≡ zs → (o : Option Outcome) → ends (suc k) zs ≡ o
          → (ends (suc k) (list (suc k)) ≡ none → By (search_by step ends r (suc (suc k)) (list (suc k)) end))
          → By (elim o [ some o ↦ o | none ↦ search_by step ends r (suc (suc k)) zs end ])
      go zs same (some o) h rest = stopped {o = o} k (omega arith) before (rw same h)
      go zs same none h rest = rw same at (rest (rw same h))

  pub search_ends : By (search_by step ends last 1 (list 0) end)
  search_ends = ending_from last 0 (omega arith) (λ i l u. absurd (omega arith))

-- over the network's lists
abbrev pub Ending : Network → ℕ → Outcome → Type 0
Ending w capacity = EndingBy (lists w) (settled w capacity) (plan w).cycles (plan w).end

pub outcome_ends : (w : Network) (capacity : ℕ) → Ending w capacity (outcome w capacity)
unfolding outcome search_from lists
outcome_ends w capacity = search_ends (previous w.n w.times) (lists w) (λ k. refl) (settled w capacity) (plan w).cycles (plan w).end

-- ---- the plan: to the horizon, or to the cycle before a first repeated power within it
pub record Short (w : Network) : Type 0 where
  pub again : Repeat
  pub first : repeat_of w ≡ some again
  pub proviso : Differences w
  pub long_enough : again.q - 1 ≤ w.horizon

pub data Planned (w : Network) : Plan → Type 0 where
  whole : (Short w → ⊥) → Planned w (record { cycles = w.horizon; end = clear w.horizon })
  short : (s : Short w) → Planned w (record { cycles = s.again.q - 1; end = never })

pub plan_is : (w : Network) → Planned w (plan w)
unfolding plan plan_with
plan_is w = go (repeat_of w) (only_differences w.n w.start || only_differences w.n w.target) refl refl
  where
    far : (r : Repeat) → repeat_of w ≡ some r → Differences w → (b : Bool) → leb (r.q - 1) w.horizon ≡ b
        → Planned w (record { cycles = min w.horizon (r.q - 1); end = cond b never (clear w.horizon) })
    far r e d true h =
        let m : min w.horizon (r.q - 1) ≡ r.q - 1 = omega (arith, leb-true) in
        rw m (short (record { again = r; first = e; proviso = d; long_enough = omega (arith, leb-true) }))
    far r e d false h =
        let m : min w.horizon (r.q - 1) ≡ w.horizon = omega (arith, leb-false) in
        rw m (whole (λ s. let same : s.again.q ≡ r.q = let f = s.first in cc in omega (arith, leb-false, s.long_enough)))

    go : (o : Option Repeat) (b : Bool) → repeat_of w ≡ o → (only_differences w.n w.start || only_differences w.n w.target) ≡ b
        → Planned w (plan_with w.horizon o b)
    go none b e d = whole (λ s. let f = s.first in impossible cc)
    go (some r) false e d = whole (λ s. let f = s.proviso in impossible cc)
    go (some r) true e d = far r e d (leb (r.q - 1) w.horizon) refl
