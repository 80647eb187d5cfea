-- The loop over the cycles, and the last lists: the new list is kept with them, and what it says where it is one of them with the clock moved.
use Prim.Native.Nat.{ℕ, suc, ◌+◌, ◌*◌, ◌-◌, ◌%◌, ◌≤◌, ◌<◌}
use native.Mathlib.Omega.{arith}
use native.Mathlib.Decide.{dec_lt}
use mathlib.Core.Path.{◌≡◌, sym, ap, ◌∙◌}
use mathlib.Core.Logic.{⊎_elim}
use mathlib.Core.List.{List, map}
use lib.IntN.{ℤ}
use lib.ListN.{length, take, drop, length-drop}
use lib.Seq.{length-take-le}
use Rattle.model.specs.Sizes.{zone_size}
use Rattle.model.specs.Network.{Network}
use Rattle.memory.specs.Networks.{network_in}
use Rattle.lists.specs.Lists.{list_in}
use Rattle.lists.proofs.Fronts.{list_front}
use Rattle.moves.specs.Moving.{moved}
use Rattle.search.specs.Searching.{Reached, Searchable}
use Rattle.search.specs.Keeping.{places, room_in, count_of, Kept, PutAt, ListKept, Repeats, Turning}
use Rattle.search.proofs.Keeping.{place_inside, put_else, put_list, stays_kept, new_count}
use Rattle.search.proofs.Searching.{Onward, both_lists}

-- all lists from that cycle on up to list k, of the last ones
pub record Recent (w : Network) (capacity from : ℕ) (counts : List ℕ) (numbers : List ℤ) (k : ℕ) : Type 0 where
  pub upto : from ≤ suc k
  pub counted : length counts ≡ places
  pub kept : (j : ℕ) → from ≤ j → j ≤ k → k < j + places → Kept w capacity (room_in numbers) counts numbers j

pub none_kept : (w : Network) (capacity k : ℕ) (counts : List ℕ) (numbers : List ℤ) → length counts ≡ places → Recent w capacity (suc k) counts numbers k
none_kept w capacity k counts numbers h = record { upto = omega arith; counted = h; kept = λ j a b d. absurd (omega arith) }

module _ {n parts capacity cycles size : ℕ} {times start target : List ℤ} (q : Searchable n parts capacity cycles size times start target) where
  abbrev w : Network
  w = network_in n cycles times start target

  module _ {work : List ℤ} {count source k : ℕ} (r : Reached n capacity cycles size times start target work count source k) (some_zone : 1 ≤ count)
      (more : k < cycles) {after : List ℤ} {next : ℕ} (o : Onward q r some_zone more after next) where
    abbrev goal : ℕ
    goal = capacity * zone_size n - source

    module _ {zones : List ℤ} (is : zones ≡ take (next * zone_size n) (drop goal after)) {counts counts' : List ℕ} {numbers numbers' : List ℤ}
        (counted : length counts ≡ places)
        (p : PutAt (room_in numbers) zones next (suc k) counts numbers counts' numbers') where
      long : length zones ≡ next * zone_size n
      long =
          let inside = (both_lists q r some_zone more o).goal_in in
          ap length is ∙ length-take-le (next * zone_size n) (drop goal after) (omega (arith, length-drop goal after))

      put_inside : suc k % places * room_in numbers + room_in numbers ≤ length numbers
      put_inside = place_inside (room_in numbers) (suc k) (length numbers) (omega arith)

      put_count : count_of counts' (suc k) ≡ next
      put_count = rw p.counted (new_count counts (suc k) next counted)

      put_kept : Kept w capacity (room_in numbers) counts' numbers' (suc k)
      put_kept =
          let put = rw long at p.list in
          record {
            placed = record { some_zone = rw put_count p.some_zone; fits = rw (put_count, ← long) p.fits };
            inside = rw put_count o.reached.inside;
            list = rw (put_count, put) (put_list (room_in numbers) (suc k % places) numbers zones (zone_size n) next (omega (arith, p.fits, long))
                (omega (arith, long)) put_inside
                ∙ ap (list_in (zone_size n) next) is ∙ list_front (zone_size n) next (drop goal after) ∙ o.reached.list);
            apart = o.apart;
          }

      older_kept : {j : ℕ} → Kept w capacity (room_in numbers) counts numbers j → (j % places ≡ suc k % places → ⊥)
          → Kept w capacity (room_in numbers) counts' numbers' j
      older_kept h other =
          stays_kept (suc k) next h p.counted
          (rw p.list (put_else (room_in numbers) (suc k % places) numbers zones (length zones) p.fits (omega arith) put_inside)) other

    -- the new list with those before it
    pub next_recent : {zones : List ℤ} → zones ≡ take (next * zone_size n) (drop goal after)
        → {from from' : ℕ} {counts counts' : List ℕ} {numbers numbers' : List ℤ}
        → Recent w capacity from counts numbers k → ListKept (room_in numbers) zones next (suc k) from counts numbers from' counts' numbers'
        → length counts' ≡ length counts → length numbers' ≡ length numbers → Recent w capacity from' counts' numbers' (suc k)
    next_recent is {from} {from'} {counts} {counts'} {numbers} {numbers'} l kept same same' = ⊎_elim (λ e.
        rw e (none_kept w capacity (suc k) counts' numbers' (same ∙ l.counted))) (λ (e, p).
        let still : room_in numbers' ≡ room_in numbers = rw same' in
        rw e (record {
          upto = omega (arith, l.upto);
          counted = same ∙ l.counted;
          kept = λ j a b d. rw still (elim (dec_lt k j) [
            | yes newest ↦ let here : j ≡ suc k = omega arith in rw here (put_kept is l.counted p)
            | no older ↦ older_kept is l.counted p (l.kept j a (omega arith) (omega arith)) (λ e. omega arith)
          ]);
        })) kept

  -- the lists take turns
  pub turning : {from k lag : ℕ} {c : ℤ} {counts : List ℕ} {numbers : List ℤ} → Recent w capacity from counts numbers k → k ≤ cycles
      → Repeats n counts numbers from k lag c → Turning n parts capacity cycles times start target counts numbers k lag c
  turning {k} {lag} {c} l upto t =
      let last = l.kept k (omega (arith, t.early)) (omega arith) (omega arith) in
      let first = l.kept (k - lag) (omega (arith, t.early)) (omega arith) (omega (arith, t.few, t.early)) in
      record {
        searchable = record {
          horizon = q.horizon;
          limits = q.limits;
          parts_told = q.parts_told;
          within = q.within;
          table = q.table;
          start_held = q.start_held;
          target_held = q.target_held;
          some_zones = q.some_zones;
          long = omega arith;
        };
        some_lag = t.some_lag;
        few = t.few;
        early = omega (arith, t.early);
        upto = upto;
        counted = l.counted;
        kept = λ j a b. l.kept j (omega (arith, t.early)) b (omega (arith, t.few));
        small = t.small;
        moves = sym last.list ∙ t.is ∙ ap (map (moved n c)) first.list;
      }
