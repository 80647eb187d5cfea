-- The loop over the zones of a list: those that are still to be pulled back, and what of the workspace stays as it was.
use Prim.Native.Nat.{ℕ, ◌+◌, ◌*◌, ◌-◌, ◌≤◌, ◌<◌}
use native.Mathlib.Omega.{arith}
use native.Mathlib.Nat.{mul-le-mul_right, suc-mul}
use mathlib.Core.Path.{◌≡◌, refl, sym, ap, ◌∙◌}
use mathlib.Core.Logic.{⊎_elim}
use mathlib.Core.List.{List, [], ◌∷◌, ◌++◌, map, flat_map, foldl, foldl-append, append-nil}
use mathlib.Core.Option.{Option}
use lib.IntN.{ℤ}
use lib.ListN.{length, take, drop, length-drop, length-append, drop_of_length-le}
use borrow.Rule.Slice.PartMut.{put_mid}
use lib.Seq.{take_all, take_at, drop_at, length-take-le}
use Rattle.model.specs.Sizes.{zone_size}
use Rattle.model.specs.Lists.{tabulate, done, both}
use Rattle.model.specs.Matrix.{Matrix}
use Rattle.model.specs.Search.{selections, preimage, keep, previous}
use Rattle.model.proofs.Listed.{at_tabulate}
use Rattle.model.proofs.Tabulated.{from, from_first, from_next, from_end}
use Rattle.memory.specs.Numbers.{bounds_in, times_in}
use Rattle.std.specs.Prelude as std
use Rattle.lists.specs.Lists.{zone_at, list_in, ListRoom, ListHeld, Sources, Building}
use Rattle.memory.specs.Side.{numbers_at}
use Rattle.memory.proofs.Side.{length_numbers, part_of_lem}
use Rattle.lists.proofs.Held.{held_list, held_room, held_since, held_still, held_as_is}

-- a part up to the end, lent and put back
pub lent_is : {X : Type 0} (a : ℕ) (xs : List X) → take (length xs - a) (drop a xs) ≡ drop a xs
lent_is a xs = take_all (length xs - a) (drop a xs) (rw (length-drop a xs) (omega arith))

pub put_is : {X : Type 0} (a : ℕ) (xs ys : List X) → put_mid a (length xs - a) xs ys ≡ take a xs ++ ys
put_is a xs ys =
    let rest = drop_of_length-le (drop a xs) {i = length xs - a} (rw (length-drop a xs) (omega arith)) in
    ap (λ (l : List _). take a xs ++ l) (rw rest (append-nil ys))

module _ (n : ℕ) (times : List ℤ) where
  -- the preimages of a zone
  abbrev pub back_of : Matrix → List (Option Matrix)
  back_of d = map (preimage n (times_in times) d) (selections n (times_in times) n 1)

  module _ (count : ℕ) (at_source : List ℤ) where
    -- those of the zones from zone k on
    abbrev left : ℕ → List (Option Matrix)
    left k = flat_map back_of (from (zone_at (zone_size n) at_source) count k)

    -- the list that is to be made
    abbrev pub listed : List Matrix
    listed = previous n (times_in times) (list_in (zone_size n) count at_source)

-- the list is zs, with the preimages of zones 0 to k - 1; nothing but the half at goal has changed
pub record Pulling (n capacity count source goal : ℕ) (times work₀ work : List ℤ) (built k : ℕ) : Type 0 where
  pub zs : List Matrix
  pub held : ListHeld (zone_size n) capacity zs (std.Some built) (drop goal work₀) (drop goal work)
  pub long : length work ≡ length work₀
  pub front : take goal work ≡ take goal work₀
  pub rest : listed n times count (drop source work₀) ≡ foldl keep zs (left n times count (drop source work₀) k)

module _ {n capacity count source goal : ℕ} {times work₀ : List ℤ} {seen : List ℤ} (b : Building n capacity source goal count work₀ times seen) where
  half_fits : goal + capacity * zone_size n ≤ length work₀
  half_fits = let l = b.halves.long in ⊎_elim (λ e. omega arith) (λ e. omega arith) b.halves.apart

  pub pulling_start : Pulling n capacity count source goal times work₀ work₀ 0 0
  unfolding previous list_in tabulate
  pulling_start = record {
    zs = [];
    held = held_as_is {size = zone_size n} {capacity = capacity} {count = 0} {list = drop goal work₀}
        (record { inside = omega arith; long = rw (length-drop goal work₀) (omega (arith, half_fits)) });
    long = refl;
    front = refl;
    rest = ap (λ (zs : List Matrix). foldl keep [] (flat_map (back_of n times) zs)) (from_first _ count 0 count (omega arith));
  }

  module _ {work : List ℤ} {built k : ℕ} (g : Pulling n capacity count source goal times work₀ work built k) where
    -- the half at goal has room
    pub goal_fits : goal ≤ length work
    goal_fits = omega (arith, half_fits, g.long)

    pub goal_room : ListRoom (zone_size n) capacity built (drop goal work)
    goal_room = held_room g.held (rw (length-drop goal work) (omega (arith, half_fits, g.long)))

    -- the half at source is as it was
    kept_source : take (capacity * zone_size n) (drop source work) ≡ take (capacity * zone_size n) (drop source work₀)
    kept_source = ⊎_elim
        (λ e. rw (e.0, ← e.1) g.front)
        (λ e. rw e.0 (ap (take (capacity * zone_size n)) (rw e.1 at g.held.beyond)))
        b.halves.apart

    pub pulling_done : count ≤ k
        → ListHeld (zone_size n) capacity (listed n times count (drop source work₀)) (std.Some built) (drop goal work₀) (drop goal work)
    unfolding flat_map
    pulling_done h = rw (g.rest, from_end (zone_at (zone_size n) (drop source work₀)) count k h) g.held

    module _ (inside : k < count) where
      zone_in : k * zone_size n + zone_size n ≤ capacity * zone_size n
      zone_in = omega (arith, mul-le-mul_right (zone_size n) inside, suc-mul k (zone_size n), mul-le-mul_right (zone_size n) b.inside)

      -- there is a zone to load
      pub source_place : source + k * zone_size n + zone_size n ≤ length work
      source_place = let l = b.halves.long in let same = g.long in ⊎_elim (λ e. omega (arith, zone_in)) (λ e. omega (arith, zone_in)) b.halves.apart

      pub source_long : length (numbers_at (zone_size n) (drop source work) k) ≡ zone_size n
      source_long = length_numbers (zone_size n) (drop source work) k (omega (arith, length-drop source work, source_place))

      -- and it is the zone of the list
      pub source_same : bounds_in (numbers_at (zone_size n) (drop source work) k) ≡ zone_at (zone_size n) (drop source work₀) k
      unfolding zone_at
      source_same =
          ap bounds_in
          (sym (part_of_lem (capacity * zone_size n) (k * zone_size n) (zone_size n) (drop source work) zone_in)
          ∙ ap (λ (l : List ℤ). take (zone_size n) (drop (k * zone_size n) l)) kept_source
          ∙ part_of_lem (capacity * zone_size n) (k * zone_size n) (zone_size n) (drop source work₀) zone_in)

      pub source_one : {d : Matrix} → d ≡ zone_at (zone_size n) (drop source work₀) k → Sources n times (d ∷ [])
      unfolding list_in
      source_one e =
          let z : 0 + k ≡ k = omega arith in
          let s = b.sources in
          record {
            table = s.table;
            regular = s.regular;
            closed = rw (e, ← z) (both (at_tabulate count 0 _ s.closed k inside) done);
            each = rw (e, ← z) (both (at_tabulate count 0 _ s.each k inside) done);
          }

      -- zone k, pulled back
      module _ (out : List ℤ) {r : std.Option ℕ} (same : length out ≡ length (drop goal work))
          (held : ListHeld (zone_size n) capacity
          (foldl keep (list_in (zone_size n) built (drop goal work)) (back_of n times (zone_at (zone_size n) (drop source work₀) k)))
          r (drop goal work) out) where
        -- the workspace then
        abbrev after : List ℤ
        after = take goal work ++ out

        at_goal : length (take goal work) ≡ goal
        at_goal = length-take-le goal work goal_fits

        pub goal_is : drop goal after ≡ out
        goal_is = drop_at (take goal work) out goal at_goal

        pub front_is : take goal after ≡ take goal work₀
        front_is = take_at (take goal work) out goal at_goal ∙ g.front

        pub long_is : length after ≡ length work₀
        long_is = length-append (take goal work) out ∙ omega (arith, at_goal, same, length-drop goal work, goal_fits, g.long)

        abbrev zs' : List Matrix
        zs' = foldl keep g.zs (back_of n times (zone_at (zone_size n) (drop source work₀) k))

        held_now : ListHeld (zone_size n) capacity zs' r (drop goal work₀) (drop goal after)
        held_now = rw goal_is (held_since (rw (held_list g.held).1 at held) g.held.beyond)

        rest_now : listed n times count (drop source work₀) ≡ foldl keep zs' (left n times count (drop source work₀) (k + 1))
        unfolding flat_map
        rest_now =
            g.rest ∙ rw (from_next (zone_at (zone_size n) (drop source work₀)) count k inside)
            (foldl-append keep g.zs (back_of n times (zone_at (zone_size n) (drop source work₀) k)) _)

      module _ (out : List ℤ) (same : length out ≡ length (drop goal work)) where
        abbrev pulled : std.Option ℕ → Type 0
        pulled r = ListHeld (zone_size n) capacity
            (foldl keep (list_in (zone_size n) built (drop goal work)) (back_of n times (zone_at (zone_size n) (drop source work₀) k)))
            r (drop goal work) out

        pub pulling_on : {more : ℕ} → pulled (std.Some more) → Pulling n capacity count source goal times work₀ (take goal work ++ out) more (k + 1)
        pulling_on held = record {
          zs = zs' out same held;
          held = held_now out same held;
          long = long_is out same held;
          front = front_is out same held;
          rest = rest_now out same held;
        }

        pub pulling_full : pulled std.None
            → ListHeld (zone_size n) capacity (listed n times count (drop source work₀)) std.None (drop goal work₀) (drop goal (take goal work ++ out))
        pulling_full held = rw (rest_now out same held) (held_still (held_now out same held) (left n times count (drop source work₀) (k + 1)))
