-- The search for the first repeated power: among the earlier ones, and power by power.
use Prim.Native.Nat.{ℕ, suc, ◌+◌, ◌*◌, ◌≤◌, ◌<◌}
use native.Mathlib.Omega.{arith}
use native.Mathlib.Nat.{zero-add, zero-mul, suc-mul, mul-le-mul_right}
use native.Mathlib.Numerals.{add-one}
use borrow.Author.Count.{below_more}
use mathlib.Core.Path.{◌≡◌, refl, sym, ap, ◌∙◌}
use mathlib.Core.List.{List, []}
use mathlib.Core.Option.{Option, none, some}
use mathlib.Core.Bool.{Bool, true, false}
use lib.IntN.{ℤ}
use lib.ListN.{length, take}
use Rattle.model.specs.Sizes.{most_cycles, table_size}
use Rattle.model.specs.Lists.{tabulate, same_lists}
use Rattle.model.specs.Network.{Time, product, power, powers_from, added, gap, same_time, Repeat, repeats, first_repeat}
use Rattle.model.proofs.Tabulated.{tabulate_ext, tabulate_snoc, from, from_next, from_end}
use Rattle.model.proofs.Powers.{powers_from_is}
use Rattle.memory.specs.Numbers.{times_in}
use Rattle.powers.specs.Readings.{table_at, repeats_at, PlaceIn, Makeable, Made, Searchable}
use Rattle.powers.proofs.Bounded.{powers_small}
use Rattle.powers.proofs.Places.{length_at, same_part}

-- ---- b after the tables f 0 to f (r - 1)
module _ (f : ℕ → List Time) (b : List Time) (r : ℕ) where
  -- table p with the gap added is b
  abbrev Alike : ℕ → Bool
  Alike p = same_lists same_time (added (gap (f p) b) (f p)) b

  -- what is found from table p on
  abbrev pub found_from : ℕ → Option Repeat
  found_from p = repeats (suc r) (suc p) (from f r p) b

  module _ (p : ℕ) where
    pub found_later : p < r → Alike p ≡ false → found_from p ≡ found_from (p + 1)
    unfolding repeats
    found_later h e = rw (from_next f r p h, e, add-one p)

    pub found_here : p < r → Alike p ≡ true → found_from p ≡ some (record { q = r + 1; p = p + 1; number = gap (f p) b })
    unfolding repeats
    found_here h e = rw (from_next f r p h, e, add-one p, add-one r)

    pub found_none : r ≤ p → found_from p ≡ none
    unfolding repeats
    found_none h = rw (from_end f r p h)

-- ---- the powers of the table a
module _ (n : ℕ) (a : List Time) where
  -- what is found among them
  abbrev pub found : Option Repeat
  found = first_repeat 1 [] (powers_from most_cycles n a a)

  -- what is found from power q + 1 on, and what it repeats itself
  abbrev pub left : ℕ → Option Repeat
  left q = first_repeat (suc q) (tabulate q 0 (power n a)) (from (power n a) most_cycles q)

  abbrev pub again : ℕ → Option Repeat
  again q = repeats (suc q) 1 (tabulate q 0 (power n a)) (power n a q)

  left_all : found ≡ left 0
  unfolding tabulate power
  left_all = ap (first_repeat 1 []) (powers_from_is n a most_cycles 0)

  first_new : again 0 ≡ none
  unfolding repeats tabulate
  first_new = refl

  module _ (q : ℕ) where
    pub left_later : q < most_cycles → again q ≡ none → left q ≡ left (q + 1)
    unfolding first_repeat
    left_later h e =
        let f = power n a in
        rw (from_next f most_cycles q h, first_repeat, e, add-one q)
        (ap (λ (es : List (List Time)). first_repeat (suc (suc q)) es (from f most_cycles (suc q))) (rw (zero-add q) at (tabulate_snoc q 0 f)))

    pub left_here : {x : Repeat} → q < most_cycles → again q ≡ some x → left q ≡ some x
    unfolding first_repeat
    left_here h e = rw (from_next (power n a) most_cycles q h, first_repeat, e)

    pub left_none : most_cycles ≤ q → left q ≡ none
    unfolding first_repeat
    left_none h = rw (from_end (power n a) most_cycles q h)

  pub left_first : found ≡ left 1
  left_first = left_all ∙ left_later 0 (omega arith) first_new

-- ---- the search, as it goes on
-- powers 1 to r + 1 are at their places, and none of them repeats an earlier one
pub record Looked (n : ℕ) (a : List Time) (before after : List ℤ) (r : ℕ) : Type 0 where
  pub held : (s : ℕ) → s < r + 1 → table_at n after s ≡ power n a s
  pub new : found n a ≡ left n a (r + 1)
  pub long : length after ≡ length before

pub searchable : {n : ℕ} {times powers after : List ℤ} → Searchable n times powers → length after ≡ length powers → Searchable n times after
searchable s e = record { ready = s.ready; room = omega (arith, s.room) }

module _ {n : ℕ} {times powers : List ℤ} (s : Searchable n times powers) where
  abbrev a : List Time
  a = times_in times

  pub place_in : (r : ℕ) → r < most_cycles → (after : List ℤ) → length after ≡ length powers → PlaceIn n r after
  place_in r h after e = record {
    departures = s.ready.table.departures;
    among = h;
    inside = omega (arith, s.room, mul-le-mul_right (table_size n) h, suc-mul r (table_size n));
  }

  pub looked_first : times_in (take (length times) powers) ≡ times_in times → Looked n a powers powers 0
  unfolding power
  looked_first e = record {
    held = λ i h. let z : i ≡ 0 = omega arith in rw (z, zero-mul (table_size n), ← s.ready.table.size) e;
    new = left_first n a;
    long = refl;
  }

  module _ {after : List ℤ} {r : ℕ} (k : Looked n a powers after r) (h : r + 1 < most_cycles) where
    pub makeable : Makeable n r times after
    unfolding power
    makeable =
        let small = powers_small n a s.ready.limits.times_small in
        record {
          factors = record {
            first_in = s.ready.table;
            second_in = record { departures = s.ready.table.departures; size = length_at n r after (place_in r (omega arith) after k.long).inside };
            first_small = small 0 (omega arith);
            second_small = rw (k.held r (omega arith)) (small r (omega arith));
          };
          room = place_in (r + 1) h after k.long;
        }

    module _ {next : List ℤ} (m : Made n r times after next) (l : length next ≡ length after) where
      held_next : (s : ℕ) → s < r + 1 + 1 → table_at n next s ≡ power n a s
      unfolding power
      held_next =
          let size = table_size n in
          let room = place_in (r + 1) h after k.long in
          let goal : (r + 1) * size ≤ length after = omega (arith, room.inside) in
          below_more (λ s. table_at n next s ≡ power n a s) (r + 1)
          (λ s u. ap times_in (same_part ((r + 1) * size) next after m.front (omega arith) goal (s * size) size
          (omega (arith, mul-le-mul_right size u, suc-mul s size))) ∙ k.held s u)
          (m.is ∙ ap (product n a) (k.held r (omega arith)) ∙ rw (add-one r))

      -- power r + 2 beside those before it
      again_next : {x : Option Repeat} → x ≡ repeats_at n next (r + 1) → again n a (r + 1) ≡ x
      again_next e =
          sym (rw (held_next (r + 1) (omega arith), tabulate_ext (r + 1) 0 (table_at n next) (power n a) (λ s i j. held_next s (omega arith))) at e)

      pub looked_later : none ≡ repeats_at n next (r + 1) → Looked n a powers next (r + 1)
      looked_later e = record {
        held = held_next;
        new = k.new ∙ left_later n a (r + 1) h (again_next e);
        long = l ∙ k.long;
      }

      pub looked_here : {x : Repeat} → some x ≡ repeats_at n next (r + 1) → some x ≡ found n a
      looked_here e = sym (k.new ∙ left_here n a (r + 1) h (again_next e))
