-- The loop over the cycles: list k stands at one half, and what is left of the search is the search from cycle k + 1 on.
use Prim.Native.Nat.{ℕ, zero, suc, ◌+◌, ◌*◌, ◌-◌, ◌≤◌, ◌<◌}
use native.Mathlib.Omega.{arith}
use native.Mathlib.Nat.{mul-le-mul_right}
use mathlib.Core.Path.{◌≡◌, refl, sym, ap, ap₂, ◌∙◌}
use mathlib.Core.Logic.{inl, inr, ⊎_elim}
use mathlib.Core.Bool.{false, cond}
use mathlib.Core.List.{List, [], ◌∷◌, map}
use mathlib.Core.Option.{Option, none, some}
use lib.IntN.{ℤ, nat_abs}
use lib.ListN.{length, drop, length-map}
use borrow.Author.Tests.{lt-ltb, le-ltb}
use Rattle.model.specs.Sizes.{most_cycles, zone_size, workspace_size}
use Rattle.model.specs.Lists.{tabulate}
use Rattle.model.specs.Matrix.{Matrix, everything}
use Rattle.model.specs.Network.{Network}
use Rattle.model.specs.Search.{Outcome, reached, never, table_full, parts_of, start_in, lists, previous}
use Rattle.model.specs.Search.{first_common, settled, dry, search_by, search_from}
use Rattle.model.proofs.Listed.{every_both}
use Rattle.model.proofs.Entries.{length_tabulate}
use Rattle.model.proofs.ZoneLists.{lists_closed}
use Rattle.model.proofs.Wholes.{W}
use Rattle.model.proofs.Searched.{parts_few, first_common_lem, parts_enough}
use Rattle.memory.specs.Networks.{network_in}
use Rattle.memory.specs.Numbers.{bounds_in, times_in, InMemory}
use Rattle.memory.proofs.Room.{buildable, meetable}
use Rattle.lists.specs.Lists.{size_seen, list_in, ListHeld, Building, Meets, Startable}
use Rattle.lists.proofs.Held.{held_full, held_open, held_list}
use Rattle.lists.proofs.Patterned.{pattern_meets}
use Rattle.moves.specs.Moving.{moved, TwoLists}
use Rattle.moves.proofs.Previous.{previous_moved}
use Rattle.search.proofs.MovingOn.{not_dry}
use Rattle.std.specs.Prelude as std
use Rattle.search.specs.Searching.{Reached, Searchable, Lookable, met_by_cycle, moved_search, moved_on, MovingOn, past_list}

-- how list k ends the search
module _ (w : Network) (capacity k : ℕ) (zs : List Matrix) where
  settled_full : capacity < length zs → settled w capacity k zs ≡ some (table_full k)
  unfolding settled
  settled_full h = rw (lt-ltb capacity (length zs) h)

  module _ (room : length zs ≤ capacity) where
    pub settled_met : {c : Matrix} → first_common w.n w.start zs ≡ some c
        → settled w capacity k zs ≡ some (reached k (parts_of w) (start_in w.n (parts_of w) c))
    unfolding settled
    settled_met e = rw (le-ltb capacity (length zs) room, e)

    pub settled_on : first_common w.n w.start zs ≡ none → settled w capacity k zs ≡ none
    unfolding settled
    settled_on e = rw (le-ltb capacity (length zs) room, e)

  -- where there is room for it
  settled_room : length zs ≤ capacity → settled w capacity k zs ≡ met_by_cycle w.n (parts_of w) w.start k zs
  unfolding settled met_by_cycle
  settled_room h = rw (le-ltb capacity (length zs) h)

-- where a list is the one before it with the clock moved, so is each later one
module _ (w : Network) (c : ℤ) where
  abbrev move : List Matrix → List Matrix
  move zs = map (moved w.n c) zs

  next_moved : (k : ℕ) → lists w (suc k) ≡ move (lists w k) → lists w (suc (suc k)) ≡ move (lists w (suc k))
  unfolding lists
  next_moved k e = ap (previous w.n w.times) e ∙ previous_moved w.n w.times c (lists w k)

  moved_lists : (j k : ℕ) → lists w (suc k) ≡ move (lists w k) → moved_on w.n c j (lists w k) ≡ lists w (j + k)
  unfolding moved_on
  moved_lists zero k e = let z : 0 + k ≡ k = omega arith in rw z
  moved_lists (suc j) k e =
      let z : j + suc k ≡ suc j + k = omega arith in
      rw (← e) (rw z at (moved_lists j (suc k) (next_moved k e)))

  moved_search_lem : (capacity r k : ℕ) (zs : List Matrix) → previous w.n w.times zs ≡ move zs → length zs ≤ capacity → (e : Outcome)
      → search_from w capacity r k zs e ≡ moved_search w.n (parts_of w) c w.start r k zs e
  unfolding search_from moved_search search_by
  moved_search_lem capacity zero k zs same room e = refl
  moved_search_lem capacity (suc r) k zs same room e =
      let room' : length (move zs) ≤ capacity = rw (length-map zs (moved w.n c)) room in
      let same' : previous w.n w.times (move zs) ≡ move (move zs)
      = previous_moved w.n w.times c zs ∙ ap move same in
      ap₂ (λ (o : Option Outcome) (rest : Outcome). cond (dry zs) never (elim o [ some x ↦ x | none ↦ rest ]))
      (ap (settled w capacity k) same ∙ settled_room w capacity k (move zs) room')
      (ap (λ (ys : List Matrix). search_from w capacity r (suc k) ys e) same ∙ moved_search_lem capacity r (suc k) (move zs) same' room' e)

-- the search from an empty list on, and a list with a zone
from_dry : (w : Network) (capacity r k : ℕ) (e : Outcome) → search_from w capacity r k [] e ≡ never
unfolding search_from search_by dry
from_dry w capacity zero k e = refl
from_dry w capacity (suc r) k e = refl

pub length_list : (size count : ℕ) (work : List ℤ) → length (list_in size count work) ≡ count
unfolding list_in
length_list size count work = length_tabulate count 0 _

module _ {n parts capacity cycles size : ℕ} {times start target : List ℤ} (q : Searchable n parts capacity cycles size times start target) where
  abbrev w : Network
  w = network_in n cycles times start target

  pub parts_are : parts ≡ parts_of w
  unfolding parts_of
  parts_are = q.parts_told

  -- list k has a start in them, if it has one
  starts_in : (k : ℕ) → Startable n parts start (lists w k)
  starts_in k = record {
    few = rw parts_are (parts_few w q.limits.table.departures.few);
    times = λ c e. let z = W n (parts_of w) c (parts_enough w k (first_common_lem w k e)) in (z.zone, rw parts_are z.is);
  }

  -- and it can be looked through
  pub lookable : (k : ℕ) → k ≤ most_cycles → Lookable n parts start (lists w k)
  lookable k cycles =
      let l = q.limits in
      let t = l.table in record {
        meets = record {
          limits = q.start_held;
          each = every_both (λ d c m. record { closed = c; meetable = m }) (lists_closed w k)
              (meetable w t.departures.few t.times_small l.target_small k cycles l.start_small);
        };
        startable = starts_in k;
      }

  abbrev At : List ℤ → ℕ → ℕ → ℕ → Type 0
  At work count source k = Reached n capacity cycles size times start target work count source k

  -- list 0
  pub target_meets : Meets n target (everything (suc n) ∷ [])
  target_meets = pattern_meets q.target_held q.limits.target_small

  pub zone_room : zone_size n ≤ size
  zone_room = omega (arith, q.long, mul-le-mul_right (zone_size n) q.some_zones)

  pub begun : {work : List ℤ} {count : ℕ} → length work ≡ size → list_in (zone_size n) count work ≡ lists w 0 → count ≤ 1 → At work count 0 0
  begun l e h = record {
    upto = omega arith;
    inside = omega (arith, q.some_zones);
    long = l;
    at = inl refl;
    list = e;
    rest = λ o. let z : cycles - 0 ≡ cycles = omega arith in rw z;
  }

  pub source_in : {work : List ℤ} {count source k : ℕ} → At work count source k → source ≤ capacity * zone_size n
  source_in r = ⊎_elim (λ e. omega arith) (λ e. omega arith) r.at

  -- no zone is left
  pub dried : {work : List ℤ} {count source k : ℕ} → At work count source k → count ≡ 0 → (e : Outcome)
      → search_from w capacity cycles 1 (lists w 0) e ≡ never
  unfolding list_in tabulate
  dried {k} r h e = let none : lists w k ≡ [] = sym r.list ∙ rw h in r.rest e ∙ rw none (from_dry w capacity (cycles - k) (suc k) e)

  wet : {work : List ℤ} {count source k : ℕ} → At work count source k → 1 ≤ count → dry (lists w k) ≡ false
  wet {work} {count} {source} r h = rw (← r.list) (not_dry (zone_size n) count (drop source work) h)

  -- past the last cycle
  past : {work : List ℤ} {count source : ℕ} (k : ℕ) → At work count source k → 1 ≤ count → cycles ≤ k → (e : Outcome)
      → search_from w capacity cycles 1 (lists w 0) e ≡ e
  unfolding search_from search_by
  past k r zone h e = let z : cycles - k ≡ 0 = omega arith in r.rest e ∙ rw (z, wet r zone)

  pub ended : {work : List ℤ} (count : ℕ) {source : ℕ} (k : ℕ) → At work count source k → cycles ≤ k → (e : Outcome)
      → search_from w capacity cycles 1 (lists w 0) e ≡ past_list count e
  ended zero k r last e = dried r refl e
  ended (suc count) k r last e = past k r (omega arith) last e

  module _ {work : List ℤ} {count source k : ℕ} (r : At work count source k) (some_zone : 1 ≤ count) (more : k < cycles) where
    abbrev goal : ℕ
    goal = capacity * zone_size n - source

    few_cycles : suc k ≤ most_cycles
    few_cycles = omega (arith, q.limits.few_cycles, q.within)

    pub building : {seen : List ℤ} → size_seen n ≤ length seen → Building n capacity source goal count work times seen
    building s =
        let l = q.limits in
        let t = l.table in
        let few = t.departures.few in
        let to-here : k ≤ most_cycles = omega (arith, few_cycles) in
        record {
          halves = record { long = omega (arith, q.long, r.long); apart = ⊎_elim (λ e. inl (e, omega arith)) (λ e. inr (e, omega arith)) r.at };
          inside = r.inside;
          sources = record {
            table = q.table;
            regular = t.regular;
            closed = rw r.list (lists_closed w k);
            each = rw r.list (buildable w few t.times_small l.target_small k to-here);
          };
          seen_size = s;
        }

    -- the list made from it
    abbrev made : List Matrix
    made = previous n (times_in times) (list_in (zone_size n) count (drop source work))

    made_is : made ≡ lists w (suc k)
    unfolding lists
    made_is = ap (previous n (times_in times)) r.list

    pub looking : Lookable n parts start made
    looking = rw made_is (lookable (suc k) few_cycles)

    -- the search from cycle k + 1 on, by what its list says
    abbrev onwards : Outcome → Option Outcome → Outcome
    onwards e o = elim o [ some x ↦ x | none ↦ search_from w capacity (cycles - suc k) (suc (suc k)) (lists w (suc k)) e ]

    from_here : (o : Option Outcome) → settled w capacity (suc k) (lists w (suc k)) ≡ o → (e : Outcome)
        → search_from w capacity cycles 1 (lists w 0) e ≡ onwards e o
    unfolding search_from search_by lists
    from_here o s e =
        let d : cycles - k ≡ suc (cycles - suc k) = omega arith in
        r.rest e ∙ rw (d, wet r some_zone) (ap (onwards e) s)

    -- the search goes on with list k + 1 at goal; list k is still at source
    pub record Onward (after : List ℤ) (next : ℕ) : Type 0 where
      pub reached : At after next goal (suc k)
      pub room : length (lists w (suc k)) ≤ capacity
      pub apart : first_common n (bounds_in start) (lists w (suc k)) ≡ none
      pub old : list_in (zone_size n) count (drop source after) ≡ lists w k

    module _ {after : List ℤ} {next : ℕ} (o : Onward after next) where
      pub both_lists : TwoLists n source count goal next after
      both_lists =
          let old-room = mul-le-mul_right (zone_size n) r.inside in
          let new-room = mul-le-mul_right (zone_size n) o.reached.inside in
          let long : workspace_size capacity n ≤ length after = omega (arith, q.long, o.reached.long) in
          record {
            few = q.limits.table.departures.few;
            source_in = omega (arith, source_in r);
            goal_in = omega (arith, source_in r);
          }

      -- where it is list k with the clock moved
      module _ (c : ℤ)
          (is : list_in (zone_size n) next (drop goal after) ≡ map (moved n c) (list_in (zone_size n) count (drop source after))) where
        list_moved : lists w (suc k) ≡ map (moved n c) (lists w k)
        list_moved = sym o.reached.list ∙ is ∙ ap (map (moved n c)) o.old

        same_count : next ≡ count
        same_count =
            sym (length_list (zone_size n) next (drop goal after)) ∙ ap length is ∙ length-map (list_in (zone_size n) count (drop source after)) (moved n c)
            ∙ length_list (zone_size n) count (drop source after)

        pub moving_on : nat_abs c ≤ InMemory → MovingOn n parts goal next (cycles - suc k) c after start
        moving_on small = record {
          small = small;
          some_zone = rw same_count some_zone;
          inside = both_lists.goal_in;
          apart = rw o.reached.list o.apart;
          each = λ j h. rw (o.reached.list, moved_lists w c j (suc k) (next_moved w c k list_moved))
              (lookable (j + suc k) (omega (arith, q.limits.few_cycles, q.within)));
        }

        pub moved_answer : (e : Outcome) → search_from w capacity cycles 1 (lists w 0) e
            ≡ moved_search n parts c (bounds_in start) (cycles - suc k) (suc (suc k)) (list_in (zone_size n) next (drop goal after)) e
        unfolding lists
        moved_answer e =
            o.reached.rest e
            ∙ rw (o.reached.list, parts_are)
            (moved_search_lem w c capacity (cycles - suc k) (suc (suc k)) (lists w (suc k)) (next_moved w c k list_moved) o.room e)

    module _ (after : List ℤ) where
      abbrev Held : std.Option ℕ → Type 0
      Held o = ListHeld (zone_size n) capacity made o (drop goal work) (drop goal after)

      -- it has no room
      pub ended_full : Held std.None → (e : Outcome) → search_from w capacity cycles 1 (lists w 0) e ≡ table_full (suc k)
      ended_full h e = from_here _ (settled_full w capacity (suc k) (lists w (suc k)) (rw made_is at (held_full h))) e

      module _ {next : ℕ} (h : Held (std.Some next)) where
        new : list_in (zone_size n) next (drop goal after) ≡ lists w (suc k)
        new = (held_list h).1 ∙ made_is

        room : length (lists w (suc k)) ≤ capacity
        room = rw made_is at (held_open h)

        few : next ≤ capacity
        few = omega (arith, (held_list h).0, held_open h)

        -- it meets the start
        pub ended_met : {c : Matrix} → first_common n (bounds_in start) (list_in (zone_size n) next (drop goal after)) ≡ some c → (e : Outcome)
            → search_from w capacity cycles 1 (lists w 0) e ≡ reached (suc k) parts (start_in n parts c)
        ended_met found e = rw parts_are (from_here _ (settled_met w capacity (suc k) (lists w (suc k)) room (rw new at found)) e)

        -- it does not
        pub onward : first_common n (bounds_in start) (list_in (zone_size n) next (drop goal after)) ≡ none → length after ≡ length work
            → list_in (zone_size n) count (drop source after) ≡ list_in (zone_size n) count (drop source work) → Onward after next
        onward apart same old = record {
          reached = record {
            upto = omega arith;
            inside = few;
            long = same ∙ r.long;
            at = ⊎_elim (λ e. inr (omega arith)) (λ e. inl (omega arith)) r.at;
            list = new;
            rest = from_here none (settled_on w capacity (suc k) (lists w (suc k)) room (rw new at apart));
          };
          room = room;
          apart = rw new at apart;
          old = old ∙ r.list;
        }
