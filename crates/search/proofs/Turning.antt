-- The loop over the cycles where the lists take turns.
use Prim.Native.Nat.{ℕ, zero, suc, ◌+◌, ◌*◌, ◌-◌, ◌%◌, ◌≤◌, ◌<◌}
use native.Mathlib.Omega.{arith}
use native.Mathlib.Decide.{dec_lt}
use mathlib.Core.Path.{◌≡◌, refl, sym, ap, ◌∙◌}
use mathlib.Core.Bool.{false}
use mathlib.Core.List.{List, map}
use mathlib.Core.Option.{Option, none, some}
use lib.IntN.{ℤ, pos}
use lib.ListN.{length, drop, length-map}
use Rattle.model.specs.Sizes.{zone_size}
use Rattle.model.specs.Matrix.{Matrix}
use Rattle.model.specs.Network.{Network}
use Rattle.model.specs.Search.{Outcome, reached, start_in, first_common, settled, dry, lists, previous, search_by, search_from}
use Rattle.model.proofs.Fitted.{fitting_bounded}
use Rattle.model.proofs.Listed.{every_map}
use Rattle.model.proofs.ZoneLists.{lists_closed}
use Rattle.memory.specs.Numbers.{bounds_in}
use Rattle.memory.specs.Networks.{network_in}
use Rattle.lists.specs.Lists.{list_in, Meeting}
use Rattle.lists.specs.declared.ZoneList.{ZoneList}
use Rattle.moves.specs.Moving.{moved}
use Rattle.moves.proofs.Previous.{previous_moved, still_same}
use Rattle.search.specs.Searching.{Lookable}
use Rattle.search.specs.Keeping.{places, room_in, count_of, Kept, Turnable, Turned, Turning}
use Rattle.search.proofs.Keeping.{place_inside, stays_kept, new_count, counted_still}
use Rattle.search.proofs.MovingOn.{not_dry}
use Rattle.search.proofs.Searching.{length_list, settled_met, settled_on, lookable, parts_are}

-- where list m + lag is list m with the clock moved, so is each later one
module _ (w : Network) (c : ℤ) where
  turns : (j m lag : ℕ) → lists w (m + lag) ≡ map (moved w.n c) (lists w m) → lists w (j + (m + lag)) ≡ map (moved w.n c) (lists w (j + m))
  unfolding lists
  turns zero m lag e =
      let a : 0 + (m + lag) ≡ m + lag = omega arith in
      let b : 0 + m ≡ m = omega arith in
      rw (a, b) e
  turns (suc j) m lag e =
      let a : suc j + (m + lag) ≡ suc (j + (m + lag)) = omega arith in
      let b : suc j + m ≡ suc (j + m) = omega arith in
      rw (a, b) (ap (previous w.n w.times) (turns j m lag e) ∙ previous_moved w.n w.times c (lists w (j + m)))

  next_turn : (k lag at : ℕ) → lag ≤ k → k ≤ at → lists w k ≡ map (moved w.n c) (lists w (k - lag))
      → lists w (suc at) ≡ map (moved w.n c) (lists w (suc at - lag))
  next_turn k lag at h later e =
      let m = k - lag in
      let j = suc at - k in
      let a : m + lag ≡ k = omega arith in
      let b : j + (m + lag) ≡ suc at = omega arith in
      let d : j + m ≡ suc at - lag = omega arith in
      rw (b, d) at (turns j m lag (rw a e))

-- the lists of the last lag cycles up to list at are kept, and what is left of the search is the search from cycle at + 1 on
pub record Turns (n capacity cycles : ℕ) (times start target : List ℤ) (k lag : ℕ) (counts : List ℕ) (numbers : List ℤ) (at : ℕ) : Type 0 where
  pub later : k ≤ at
  pub counted : length counts ≡ places
  pub kept : (j : ℕ) → at < j + lag → j ≤ at → Kept (network_in n cycles times start target) capacity (room_in numbers) counts numbers j
  pub rest : (e : Outcome) → let w = network_in n cycles times start target in
      search_from w capacity (cycles - k) (suc k) (lists w k) e ≡ search_from w capacity (cycles - at) (suc at) (lists w at) e

module _ {n parts capacity cycles : ℕ} {times start target : List ℤ} {counts : List ℕ} {numbers : List ℤ} {k lag : ℕ} {c : ℤ}
    (q : Turning n parts capacity cycles times start target counts numbers k lag c) where
  abbrev w : Network
  w = network_in n cycles times start target

  abbrev At : List ℕ → List ℤ → ℕ → Type 0
  At counts' numbers' at = Turns n capacity cycles times start target k lag counts' numbers' at

  pub turns_start : At counts numbers k
  turns_start = record { later = omega arith; counted = q.counted; kept = q.kept; rest = λ e. refl }

  module _ {counts' : List ℕ} {numbers' : List ℤ} {at : ℕ} (g : At counts' numbers' at) where
    last : Kept w capacity (room_in numbers') counts' numbers' at
    last = g.kept at (omega (arith, q.some_lag)) (omega arith)

    wet : dry (lists w at) ≡ false
    wet = rw (← last.list) (not_dry (zone_size n) (count_of counts' at) (drop (at % places * room_in numbers') numbers') last.placed.some_zone)

    pub turns_done : cycles ≤ at → (e : Outcome) → search_from w capacity (cycles - k) (suc k) (lists w k) e ≡ e
    unfolding search_from search_by
    turns_done h e = let z : cycles - at ≡ 0 = omega arith in g.rest e ∙ rw (z, wet)

    module _ (more : at < cycles) where
      abbrev turn : ℕ
      turn = suc at - lag

      old : Kept w capacity (room_in numbers') counts' numbers' turn
      old = g.kept turn (omega (arith, q.some_lag, q.early, g.later)) (omega (arith, q.some_lag))

      moves : lists w (suc at) ≡ map (moved n c) (lists w turn)
      moves = next_turn w c k lag at q.early g.later q.moves

      looked : Lookable n parts start (lists w (suc at))
      looked =
          let s = q.searchable in
          lookable s (suc at) (omega (arith, s.limits.few_cycles, s.within))

      pub turnable : Turnable n counts' numbers' (suc at) lag c
      turnable = record {
        some_lag = q.some_lag;
        few = q.few;
        early = omega (arith, q.early, g.later);
        counted = g.counted;
        changing = record { few = looked.meets.limits.departures.few; small = q.small };
        placed = old.placed;
        each = rw (old.list, ← moves) (every_map (λ d j. fitting_bounded j.meetable) looked.meets.each);
      }

      room : length (lists w (suc at)) ≤ capacity
      room =
          let same : length (lists w (suc at)) ≡ count_of counts' turn
          = ap length moves ∙ length-map (lists w turn) (moved n c) ∙ sym (ap length old.list)
          ∙ length_list (zone_size n) (count_of counts' turn) (drop (turn % places * room_in numbers') numbers') in
          omega (arith, old.inside)

      -- what list at + 1 says
      onward : (o : Option Outcome) → settled w capacity (suc at) (lists w (suc at)) ≡ o → (e : Outcome)
          → search_from w capacity (cycles - k) (suc k) (lists w k) e
          ≡ elim o [ some x ↦ x | none ↦ search_from w capacity (cycles - suc at) (suc (suc at)) (lists w (suc at)) e ]
      unfolding search_from search_by lists
      onward o s e =
          let d : cycles - at ≡ suc (cycles - suc at) = omega arith in
          g.rest e
          ∙ rw (d, wet) (ap (λ (o : Option Outcome). elim o
          [ some x ↦ x | none ↦ search_from w capacity (cycles - suc at) (suc (suc at)) (lists w (suc at)) e ]) s)

      module _ {counts'' : List ℕ} {numbers'' : List ℤ} {r : ZoneList} (t : Turned n (room_in numbers') (suc at) lag c counts' numbers' counts'' numbers'' r)
          (same : length numbers'' ≡ length numbers') where
        new : list_in (zone_size n) r.count (drop r.base numbers'') ≡ lists w (suc at)
        new = rw (t.count, t.base) (t.list ∙ ap (map (moved n c)) old.list ∙ sym moves)

        pub meeting : Meeting n parts r.base r.count numbers'' start
        meeting = record {
          meets = rw new looked.meets;
          startable = rw new looked.startable;
          long = rw (t.base, t.count) (omega (arith, same, place_inside (room_in numbers') (suc at) (length numbers') (omega arith), old.placed.fits));
        }

        pub turns_met : {z : Matrix} → first_common n (bounds_in start) (list_in (zone_size n) r.count (drop r.base numbers'')) ≡ some z → (e : Outcome)
            → search_from w capacity (cycles - k) (suc k) (lists w k) e ≡ reached (suc at) parts (start_in n parts z)
        turns_met found e = rw (parts_are q.searchable) (onward _ (settled_met w capacity (suc at) (lists w (suc at)) room (rw new at found)) e)

        pub turns_on : first_common n (bounds_in start) (list_in (zone_size n) r.count (drop r.base numbers'')) ≡ none → At counts'' numbers'' (suc at)
        turns_on found =
            let apart : first_common n (bounds_in start) (lists w (suc at)) ≡ none = rw new at found in
            let is : count_of counts'' (suc at) ≡ count_of counts' turn = rw t.counted (new_count counts' (suc at) _ g.counted) in
            record {
              later = omega (arith, g.later);
              counted = counted_still counts' (suc at) _ g.counted t.counted;
              kept = λ j h l. rw same (elim (dec_lt at j) [
                | yes newest ↦
                    let here : j ≡ suc at = omega arith in
                    rw here (record {
                      placed = record { some_zone = rw is old.placed.some_zone; fits = rw is old.placed.fits };
                      inside = rw is old.inside;
                      list = rw is (t.list ∙ ap (map (moved n c)) old.list ∙ sym moves);
                      apart = apart;
                    })
                | no older ↦
                    stays_kept (suc at) _ (g.kept j (omega arith) (omega arith)) t.counted t.elsewhere (λ e. omega (arith, q.few))
              ]);
              rest = onward none (settled_on w capacity (suc at) (lists w (suc at)) room apart);
            }

  -- the clock stays: each later list is one of those kept
  record Idle (j : ℕ) : Type 0 where
    wet : dry (lists w j) ≡ false
    room : length (lists w j) ≤ capacity
    apart : first_common n (bounds_in start) (lists w j) ≡ none

  module _ (none_later : c ≡ pos 0) where
    idle : (most j : ℕ) → j ≤ most → k < j + lag → Idle j
    idle zero j h later = absurd (omega (arith, q.early))
    idle (suc most) j h later = elim (dec_lt k j) [
      | no here ↦
          let l = q.kept j later (omega arith) in
          let counted : length (lists w j) ≡ count_of counts j
          = ap length (sym l.list) ∙ length_list (zone_size n) (count_of counts j) (drop (j % places * room_in numbers) numbers) in
          record {
            wet = rw (← l.list) (not_dry (zone_size n) (count_of counts j) (drop (j % places * room_in numbers) numbers) l.placed.some_zone);
            room = omega (arith, counted, l.inside);
            apart = l.apart;
          }
      | yes after ↦
          let at : suc (j - 1) ≡ j = omega arith in
          let old = idle most (j - lag) (omega (arith, q.some_lag)) (omega (arith, q.some_lag)) in
          let moves = rw at at (next_turn w c k lag (j - 1) q.early (omega arith) q.moves) in
          let same : lists w j ≡ lists w (j - lag) = moves ∙ rw none_later (still_same n (lists_closed w (j - lag))) in
          record { wet = rw same old.wet; room = rw same old.room; apart = rw same old.apart }
    ]

    pub turns_stay : (r at : ℕ) → k ≤ at → (e : Outcome) → search_from w capacity r (suc at) (lists w at) e ≡ e
    unfolding search_from search_by lists
    turns_stay zero at h e = rw (idle at at (omega arith) (omega (arith, q.some_lag))).wet
    turns_stay (suc r) at h e =
        let next = idle (suc at) (suc at) (omega arith) (omega (arith, q.some_lag)) in
        rw ((idle at at (omega arith) (omega (arith, q.some_lag))).wet, settled_on w capacity (suc at) (lists w (suc at)) next.room next.apart)
        (turns_stay r (suc at) (omega arith) e)
