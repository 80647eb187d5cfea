-- The last lists in their places: what is put to one place, and what stays in the others.
use Prim.Native.Nat.{ℕ, ◌+◌, ◌*◌, ◌-◌, ◌%◌, ◌≤◌, ◌<◌}
use native.Mathlib.Omega.{arith}
use native.Mathlib.Decide.{dec_lt}
use native.Mathlib.Nat.{mul-le-mul_right, suc-mul}
use mathlib.Core.Path.{◌≡◌, sym, ap, ◌∙◌}
use mathlib.Core.List.{List, ◌++◌, map, append_assoc}
use lib.IntN.{ℤ}
use lib.ListN.{length, take, drop, set, length-set, length-drop}
use lib.Seq.{paste, drop-drop, drop-paste, take_at, drop_at, length-take-le, length-paste, get_or-set_same, get_or-set_other}
use Rattle.model.specs.Sizes.{zone_size}
use Rattle.model.specs.Network.{Network}
use Rattle.model.proofs.Tabulated.{tabulate_ext}
use Rattle.memory.specs.Numbers.{bounds_in}
use Rattle.memory.specs.Side.{Elsewhere}
use Rattle.memory.proofs.Side.{part_of_lem, beyond_same}
use Rattle.lists.specs.Lists.{zone_at, list_in}
use Rattle.lists.proofs.Fronts.{list_front}
use Rattle.lists.specs.declared.ZoneList.{ZoneList}
use Rattle.moves.specs.Moving.{moved, Movable, MoveList}
use Rattle.search.specs.Keeping.{places, room_in, count_of, kept_list, Kept, Turnable, Turned}

-- a list that ends before place t
list_before : (size count b t : ℕ) (l : List ℤ) → b + count * size ≤ t → list_in size count (drop b (take t l)) ≡ list_in size count (drop b l)
unfolding list_in zone_at
list_before size count b t l h = tabulate_ext count 0 _ _ (λ k u v.
    let below : k < count = omega arith in
    ap bounds_in (ap (take size) (drop-drop (k * size) b (take t l))
    ∙ part_of_lem t (b + k * size) size l (omega (arith, mul-le-mul_right size below, suc-mul k size))
    ∙ sym (ap (take size) (drop-drop (k * size) b l))))

-- two places
before_place : (room q p : ℕ) → q < p → q * room + room ≤ p * room
before_place room q p h = omega (arith, mul-le-mul_right room h, suc-mul q room)

pub place_inside : (room k length : ℕ) → places * room ≤ length → k % places * room + room ≤ length
place_inside room k length h = omega (arith, before_place room (k % places) places (omega arith))

module _ {room p : ℕ} {before after : List ℤ} (e : Elsewhere room p before after) where
  list_stays : (size count q : ℕ) → count * size ≤ room → (q ≡ p → ⊥) → list_in size count (drop (q * room) after) ≡ list_in size count (drop (q * room) before)
  list_stays size count q fits other = elim (dec_lt q p) [
    | yes h ↦
        let ends : q * room + count * size ≤ p * room = omega (arith, before_place room q p h) in
        sym (list_before size count (q * room) (p * room) after ends) ∙ ap (λ (l : List ℤ). list_in size count (drop (q * room) l)) e.front
        ∙ list_before size count (q * room) (p * room) before ends
    | no h ↦
        let behind : p < q = omega arith in
        ap (list_in size count) (beyond_same e (q * room) (before_place room p q behind))
  ]

-- numbers that are put to a place
module _ (room p : ℕ) (list zones : List ℤ) (n : ℕ) (fits : n ≤ room) (some : n ≤ length zones) (inside : p * room + room ≤ length list) where
  abbrev put : List ℤ
  put = paste list (p * room) zones n

  at_place : length (take (p * room) list) ≡ p * room
  at_place = length-take-le (p * room) list (omega arith)

  parts : put ≡ take (p * room) list ++ (take n zones ++ drop (p * room + n) list)
  parts = append_assoc (take (p * room) list) (take n zones) (drop (p * room + n) list)

  pub put_else : Elsewhere room p list put
  put_else =
      let r = room - n in
      let end : p * room + n + r ≡ p * room + room = omega arith in
      record {
        front = rw parts (take_at (take (p * room) list) _ (p * room) at_place);
        back = rw end at (sym (drop-drop r (p * room + n) put) ∙ ap (drop r) (drop-paste list (p * room) zones n (omega arith) some)
            ∙ drop-drop r (p * room + n) list);
      }

  put_numbers : take n (drop (p * room) put) ≡ take n zones
  put_numbers =
      ap (λ (l : List ℤ). take n (drop (p * room) l)) parts ∙ ap (take n) (drop_at (take (p * room) list) _ (p * room) at_place)
      ∙ take_at (take n zones) _ n (length-take-le n zones some)

pub put_list : (room p : ℕ) (list zones : List ℤ) (size count : ℕ) → count * size ≤ room → count * size ≤ length zones → p * room + room ≤ length list
    → list_in size count (drop (p * room) (paste list (p * room) zones (count * size))) ≡ list_in size count zones
put_list room p list zones size count fits some inside =
    sym (list_front size count (drop (p * room) (paste list (p * room) zones (count * size))))
    ∙ ap (list_in size count) (put_numbers room p list zones (count * size) fits some inside)
    ∙ list_front size count zones

-- a list that is kept stays where another is put
pub stays_kept : {w : Network} {capacity room j : ℕ} (k x : ℕ) {counts counts' : List ℕ} {numbers numbers' : List ℤ}
    → Kept w capacity room counts numbers j → counts' ≡ set counts (k % places) x → Elsewhere room (k % places) numbers numbers'
    → (j % places ≡ k % places → ⊥) → Kept w capacity room counts' numbers' j
stays_kept {w} {j} k x {counts} {counts'} h counted e other =
    let same : count_of counts' j ≡ count_of counts j = rw counted (get_or-set_other counts (k % places) (j % places) x 0 other) in
    record {
      placed = record { some_zone = rw same h.placed.some_zone; fits = rw same h.placed.fits };
      inside = rw same h.inside;
      list = rw same (list_stays e (zone_size w.n) (count_of counts j) (j % places) h.placed.fits other ∙ h.list);
      apart = h.apart;
    }

-- the count of the list that is put
pub new_count : (counts : List ℕ) (k x : ℕ) → length counts ≡ places → count_of (set counts (k % places) x) k ≡ x
new_count counts k x h = get_or-set_same counts (k % places) x 0 (omega arith)

pub counted_still : (counts : List ℕ) {counts' : List ℕ} (k x : ℕ) → length counts ≡ places → counts' ≡ set counts (k % places) x → length counts' ≡ places
counted_still counts k x h e = rw e (length-set counts (k % places) x ∙ h)

-- ---- a list that is made from the one whose turn it is
module _ {n k lag : ℕ} {c : ℤ} {counts : List ℕ} {numbers : List ℤ} (t : Turnable n counts numbers k lag c) where
  abbrev room : ℕ
  room = room_in numbers

  abbrev count : ℕ
  count = count_of counts (k - lag)

  abbrev source : ℕ
  source = (k - lag) % places * room

  abbrev goal : ℕ
  goal = k % places * room

  goal_in : goal + room ≤ length numbers
  goal_in = place_inside room k (length numbers) (omega arith)

  some_numbers : count * zone_size n ≤ length (drop source numbers)
  some_numbers =
      let inside = place_inside room (k - lag) (length numbers) (omega arith) in
      omega (arith, t.placed.fits, length-drop source numbers)

  abbrev pub copied : List ℤ
  copied = paste numbers goal (drop source numbers) (count * zone_size n)

  copied_long : length copied ≡ length numbers
  copied_long = length-paste numbers goal (drop source numbers) (count * zone_size n) (omega (arith, goal_in, t.placed.fits)) some_numbers

  copied_list : list_in (zone_size n) count (drop goal copied) ≡ kept_list n room counts numbers (k - lag)
  copied_list = put_list room (k % places) numbers (drop source numbers) (zone_size n) count t.placed.fits some_numbers goal_in

  pub movable : Movable n goal count c copied
  movable = record {
    changing = t.changing;
    inside = omega (arith, goal_in, t.placed.fits, copied_long);
    each = rw copied_list t.each;
  }

  pub turned : {counts' : List ℕ} {after : List ℤ} {r : ZoneList} → MoveList n goal count c copied after → length after ≡ length copied → r.base ≡ goal
      → r.count ≡ count → counts' ≡ set counts (k % places) count → Turned n room k lag c counts numbers counts' after r
  turned m same b s e =
      let put = put_else room (k % places) numbers (drop source numbers) (count * zone_size n) t.placed.fits some_numbers goal_in in
      let r = room - count * zone_size n in
      let end : goal + count * zone_size n + r ≡ goal + room = omega (arith, t.placed.fits) in
      record {
        base = b;
        count = s;
        counted = e;
        list = m.list ∙ ap (map (moved n c)) copied_list;
        elsewhere = record {
          front = m.front ∙ put.front;
          back = rw end at (sym (drop-drop r (goal + count * zone_size n) _) ∙ ap (drop r) m.back ∙ drop-drop r (goal + count * zone_size n) copied) ∙ put.back;
        };
      }
