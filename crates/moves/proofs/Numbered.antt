-- Lists of zones by their numbers: one is another with the clock moved where each of its numbers is.
use Prim.Native.Nat.{ℕ, suc, ◌+◌, ◌*◌, ◌-◌, ◌/◌, ◌%◌, ◌≤◌, ◌<◌}
use native.Mathlib.Omega.{arith}
use native.Mathlib.Decide.{ℕ_discrete}
use native.Mathlib.Nat.{zero-add, mul-le-mul_right, suc-mul, add-mul, mul_assoc, div-add-mod', mod-lt, div-lt_iff_lt-mul}
use mathlib.Core.Path.{◌≡◌, refl, sym, ap, ap₂, ◌∙◌}
use mathlib.Core.List.{List, ◌++◌, map}
use lib.Arith.{digits_lt, digits_div, digits_mod}
use lib.IntN.{ℤ, pos, ◌-ℤ◌}
use lib.ListN.{length, take, drop, get_or, set, length-drop, length-set, length-append, get_or-append}
use lib.Seq.{length-take-le, get_or-take, get_or-drop, get_or-set_same, get_or-set_other, drop_at}
use borrow.Rule.Slice.PartMut.{put_mid, take_put, drop_put}
use Rattle.std.proofs.Common.{Bool, true, false, MatchBool}
use Rattle.std.specs.List.{zip, enumerate_from, AllWithin, HoldsAt}
use Rattle.std.proofs.lemmas.Slice.Zip.{length-zip, get_or-zip}
use Rattle.std.proofs.lemmas.List.FromFn.{length-enumerate_from, get_or-enumerate_from}
use Rattle.model.specs.Sizes.{zone_size}
use Rattle.model.specs.Bound.{Bound, most, plus}
use Rattle.model.specs.Matrix.{Matrix, entry}
use Rattle.model.specs.Conditions.{Small, Bounded}
use Rattle.model.proofs.Listed.{at_tabulate, of_map_every}
use Rattle.model.proofs.Entries.{each_place, ext_entry}
use Rattle.model.proofs.Tabulated.{tabulate_ext, map_tabulate}
use Rattle.memory.specs.Numbers.{bound_in, Limit}
use Rattle.memory.specs.Side.{numbers_at}
use Rattle.memory.proofs.Side.{length_numbers}
use Rattle.memory.proofs.Places.{get_d_bounds, bounds_size}
use Rattle.lists.specs.Lists.{zone_at, list_in}
use Rattle.lists.proofs.Fronts.{list_front}
use Rattle.std.specs.Bool.{then_some}
use Rattle.ints.specs.declared.Seconds.{Seconds}
use Rattle.moves.specs.Moving.{clock_by, moved, change_at, changed, Shiftable, Shifted, TwoLists, MovedBy, ClockMove, Movable, MoveList}
use Rattle.moves.proofs.Potentials.{move_size, move_entry}

-- ---- zone k of a list of them in these numbers
module _ (n count : ℕ) (numbers : List ℤ) (inside : count * zone_size n ≤ length numbers) {k : ℕ} (h : k < count) where
  abbrev zone : Matrix
  zone = zone_at (zone_size n) numbers k

  fits : k * zone_size n + zone_size n ≤ length numbers
  fits = omega (arith, inside, mul-le-mul_right (zone_size n) h, suc-mul k (zone_size n))

  zone_long : length (numbers_at (zone_size n) numbers k) ≡ zone_size n
  zone_long = length_numbers (zone_size n) numbers k fits

  zone_size_lem : length zone ≡ zone_size n
  unfolding zone_at
  zone_size_lem = bounds_size _ ∙ zone_long

  zone_entry : (i j : ℕ) → i < suc n → j < suc n → entry (suc n) zone i j ≡ bound_in (get_or numbers (k * zone_size n + (i * suc n + j)) (pos 0))
  unfolding zone_at entry
  zone_entry i j hi hj =
      let p = i * suc n + j in
      let l : p < zone_size n = digits_lt hi hj in
      get_d_bounds _ p (omega (arith, zone_long))
      ∙ ap bound_in (get_or-take (zone_size n) (drop (k * zone_size n) numbers) p (pos 0) l ∙ get_or-drop (k * zone_size n) numbers p (pos 0))

  -- its row and column, by its place
  at_place : (c : ℤ) (i j : ℕ) → i < suc n → j < suc n → change_at n c (k * zone_size n + (i * suc n + j)) ≡ clock_by c i -ℤ clock_by c j
  unfolding change_at
  at_place c i j hi hj =
      let m = suc n in
      let by_rows : k * (m * m) + (i * m + j) ≡ (k * m + i) * m + j = omega (arith, mul_assoc k m m, add-mul (k * m) i m) in
      rw (by_rows, digits_div (k * m + i) hj, digits_mod (k * m + i) hj, digits_mod k hi)

  moved_entry : (c : ℤ) (i j : ℕ) → i < suc n → j < suc n → entry (suc n) (moved n c zone) i j ≡ changed n c numbers (k * zone_size n + (i * suc n + j))
  unfolding moved changed
  moved_entry c i j hi hj =
      move_entry (suc n) (clock_by c) zone i j hi hj
      ∙ ap₂ (λ (b : Bound) (z : ℤ). plus b (most z)) (zone_entry i j hi hj) (sym (at_place c i j hi hj))

moved_size : (n : ℕ) (c : ℤ) (d : Matrix) → length (moved n c d) ≡ zone_size n
unfolding moved
moved_size n c d = move_size (suc n) (clock_by c) d

-- ---- a list whose numbers are those of another, changed
pub moved_numbers : (n count : ℕ) (c : ℤ) (before after : List ℤ) → count * zone_size n ≤ length before → count * zone_size n ≤ length after
    → ((p : ℕ) → p < count * zone_size n → bound_in (get_or after p (pos 0)) ≡ changed n c before p)
    → list_in (zone_size n) count after ≡ map (moved n c) (list_in (zone_size n) count before)
unfolding list_in
moved_numbers n count c before after b g each =
    tabulate_ext count 0 _ (λ k. moved n c (zone_at (zone_size n) before k)) (λ k l u.
    let h : k < count = omega arith in
    ext_entry (suc n) _ _ (zone_size_lem n count after g h) (moved_size n c _) (λ i j hi hj.
    zone_entry n count after g h i j hi hj
    ∙ each (k * zone_size n + (i * suc n + j)) (omega (arith, digits_lt hi hj, mul-le-mul_right (zone_size n) h, suc-mul k (zone_size n)))
    ∙ sym (moved_entry n count before b h c i j hi hj)))
    ∙ sym (map_tabulate (moved n c) count 0 (zone_at (zone_size n) before))

-- two numbers by their place: the second is the first, changed
abbrev pub Follows : ℕ → ℤ → ℕ × (ℤ × ℤ) → Type 0
Follows n c t = bound_in t.1.1 ≡ plus (bound_in t.1.0) (most (change_at n c t.0))

-- by what all tells of the pairs
pub numbers_follow : (n : ℕ) (c : ℤ) (before after : List ℤ) → length after ≡ length before → (r : Bool)
    → MatchBool r (AllWithin (Follows n c) (enumerate_from 0 (zip before after)) 0 (length (enumerate_from 0 (zip before after))))
    ((k : ℕ) × (k < length (enumerate_from 0 (zip before after))) × HoldsAt (λ t. Unit {0}) (enumerate_from 0 (zip before after)) k)
    → r ≡ true → Shifted n c before after
unfolding changed
numbers_follow n c before after same r all e p h =
    let long : length (zip before after) ≡ length before = length-zip before after ∙ omega arith in
    let there = (rw e at all) p (0, (pos 0, pos 0)) (omega arith) (omega (arith, length-enumerate_from 0 (zip before after))) in
    rw (
      get_or-enumerate_from 0 (zip before after) p (0, (pos 0, pos 0)) (omega arith),
      get_or-zip before after p (pos 0, pos 0) h (omega arith),
      zero-add p,
    ) at there

-- two lists of the workspace, one by the numbers of the other
pub found_move : {n source goal count : ℕ} {work : List ℤ} → TwoLists n source count goal count work → (by : Seconds) → ClockMove by.0
    → {first second : List ℤ} → first ≡ take (count * zone_size n) (drop source work) → second ≡ take (count * zone_size n) (drop goal work)
    → (r : Bool) → (r ≡ true → Shifted n by.0 first second) → MovedBy n source count goal count work (then_some r by)
found_move two by small e f false s = tt
found_move {n} {source} {goal} {count} {work} two by small {first} {second} e f true s =
    let size = count * zone_size n in
    let long : size ≤ length first = rw (e, length-take-le size (drop source work) (omega (arith, two.source_in, length-drop source work))) (omega arith) in
    let long' : size ≤ length second = rw (f, length-take-le size (drop goal work) (omega (arith, two.goal_in, length-drop goal work))) (omega arith) in
    let is = moved_numbers n count by.0 first second long long' (λ p h. s refl p (omega arith)) in
    record { small = small; is = rw (e, f, list_front (zone_size n) count (drop source work), list_front (zone_size n) count (drop goal work)) at is }

-- the part of the workspace from base on, lent
abbrev pub part : ℕ → List ℤ → ℕ → List ℤ
part size work base = take (base + size - base) (drop base work)

part_is : (size : ℕ) (work : List ℤ) (base : ℕ) → part size work base ≡ take size (drop base work)
part_is size work base = let e : base + size - base ≡ size = omega arith in rw e

part_long : (size : ℕ) (work : List ℤ) (base : ℕ) → base + size ≤ length work → length (part size work base) ≡ size
part_long size work base inside =
    rw (part_is size work base) (length-take-le size (drop base work) (omega (arith, length-drop base work)))

part_at : (size : ℕ) (work : List ℤ) (base p : ℕ) → p < size → get_or (part size work base) p (pos 0) ≡ get_or (drop base work) p (pos 0)
part_at size work base p h = rw (part_is size work base) (get_or-take size (drop base work) p (pos 0) h)

-- ---- numbers that can be changed, one by one
module _ {n : ℕ} {c : ℤ} {before : List ℤ} (able : Shiftable n c before) where
  -- the first p are
  pub record Shifting (numbers : List ℤ) (p : ℕ) : Type 0 where
    pub done : (q : ℕ) → q < p → bound_in (get_or numbers q (pos 0)) ≡ changed n c before q
    pub left : (q : ℕ) → p ≤ q → get_or numbers q (pos 0) ≡ get_or before q (pos 0)
    pub long : length numbers ≡ length before

  pub shifting_start : Shifting before 0
  shifting_start = record { done = λ q h. absurd (omega arith); left = λ q h. refl; long = refl }

  -- one more
  pub shifting_more : {numbers : List ℤ} {p : ℕ} → Shifting numbers p → p < length before → (x : ℤ) → bound_in x ≡ changed n c before p
      → Shifting (set numbers p x) (p + 1)
  shifting_more {numbers} {p} m h x e =
      let inside : p < length numbers = omega (arith, m.long) in
      record {
        done = λ q l. elim (ℕ_discrete q p) [
          | yes is ↦ rw is (ap bound_in (get_or-set_same numbers p x (pos 0) inside) ∙ e)
          | no other ↦ ap bound_in (get_or-set_other numbers p q x (pos 0) other) ∙ m.done q (omega arith)
        ];
        left = λ q l. get_or-set_other numbers p q x (pos 0) (λ same. omega arith) ∙ m.left q (omega arith);
        long = length-set numbers p x ∙ m.long;
      }

-- ---- a list that can be moved
module _ {n base count : ℕ} {c : ℤ} {before : List ℤ} (able : Movable n base count c before) where
  abbrev size : ℕ
  size = count * zone_size n

  list_long : size ≤ length (drop base before)
  list_long = omega (arith, able.inside, length-drop base before)

  -- each bound can be stored
  pub shiftable : Shiftable n c (part size before base)
  unfolding list_in changed
  shiftable = record {
    changing = able.changing;
    small = λ p u.
        let s = zone_size n in
        let h : p < size = omega (arith, part_long size before base able.inside) in
        let k = p / s in
        let some : 0 < s = omega arith in
        let place : k * s + p % s ≡ p = div-add-mod' p s in
        let below : k < count = (div-lt_iff_lt-mul {k = s} {x = p} {y = count} some).1 h in
        let zone : Bounded (suc n) Limit (moved n c (zone_at s (drop base before) k))
        = rw (zero-add k) at (at_tabulate count 0 (zone_at s (drop base before)) (of_map_every (moved n c) _ able.each) k below) in
        rw (part_at size before base p h)
        (rw place at (each_place (suc n) (λ q. Small Limit (changed n c (drop base before) (k * s + q))) (λ i j hi hj.
        rw (moved_entry n count (drop base before) list_long below c i j hi hj) at (zone i j hi hj)) (p % s) (mod-lt p some)));
  }

  -- and is, and the part put back
  module _ (out : List ℤ) (same : length out ≡ length (part size before base)) (is : Shifted n c (part size before base) out) where
    abbrev after : List ℤ
    after = put_mid base (base + size - base) before out

    long : length out ≡ size
    long = same ∙ part_long size before base able.inside

    behind : drop base after ≡ out ++ drop (base + size - base) (drop base before)
    behind = drop_at (take base before) _ base (length-take-le base before (omega (arith, able.inside)))

    pub moved_list : MoveList n base count c before after
    unfolding changed
    moved_list =
        let rest = drop (base + size - base) (drop base before) in
        let all : size ≤ length (drop base after) = rw behind (omega (arith, length-append out rest, long)) in
        record {
          list = moved_numbers n count c (drop base before) (drop base after) list_long all (λ p h.
              rw (behind, get_or-append out rest (pos 0) p (omega (arith, long)))
              (rw (part_at size before base p h) at (is p (omega (arith, part_long size before base able.inside)))));
          front = take_put base (base + size - base) before out (omega (arith, able.inside));
          back = drop_put base (base + size) before out (omega arith) able.inside (omega (arith, long));
        }
