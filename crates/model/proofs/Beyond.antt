-- Why never is never: from a repeated power on, each cycle's times are those of an earlier cycle with one number added. Where
-- the start or the target bounds only differences, a target met at a cycle from there on is met at that earlier cycle too.
use Prim.Native.Nat.{ℕ, zero, suc, ◌+◌, ◌-◌, ◌≤◌, ◌<◌}
use native.Mathlib.Omega.{arith}
use native.Mathlib.Decide.{dec_lt}
use mathlib.Core.Path.{◌≡◌, refl, ap, ap₂, sym, ◌∙◌}
use mathlib.Core.Logic.{◌⊎◌, inl, inr, ⊎_elim}
use mathlib.Core.Bool.{Bool, true, false, ◌&&◌, ◌||◌}
use mathlib.Core.List.{List, [], ◌∷◌, map}
use lib.IntN.{ℤ, pos, ◌+ℤ◌, ◌-ℤ◌, ◌*ℤ◌}
use lib.ListN.{length, length-map}
use Rattle.ints.proofs.Integers.{impossible, ints, add_ud, sub_ud}
use Rattle.model.specs.Lists.{tabulate, all_of, Every, done, both}
use Rattle.model.specs.Bound as B
use Rattle.model.specs.Bound.{Bound, upto, any, Holds}
use Rattle.model.specs.Pattern.{pair_bound, is_none, only_differences, InPattern}
use Rattle.model.specs.Network.{after, power, added, Network, scale_time, in_parts, clocked, cycles, Repeat}
use Rattle.model.specs.Demands.{Witness, Met, NotBefore, Differences, LeastRepeat}
use Rattle.model.specs.Conditions.{Regular}
use Rattle.model.proofs.Same.{and_true}
use Rattle.model.proofs.Listed.{at_tabulate}
use Rattle.model.proofs.Cycles.{shift, clocked_shift, length_cycles, cycles_shift}
use Rattle.model.proofs.Powers.{repeats_from}
use Rattle.model.proofs.Parts.{regular_parts}
use Rattle.model.proofs.PowersInParts.{power_parts, added_parts, differences_parts}

-- ---- a pattern that bounds only differences
all_of_true : {X : Type 0} (p : X → Bool) (xs : List X) → all_of p xs ≡ true → Every (λ x. p x ≡ true) xs
unfolding all_of
all_of_true p [] e = done
all_of_true p (x ∷ xs) e = let (h, t) = and_true (p x) (all_of p xs) e in both h (all_of_true p xs t)

none_is : (b : Bound) → is_none b ≡ true → b ≡ B.Bound.none
unfolding is_none
none_is B.Bound.none e = refl
none_is (upto s b) e = impossible cc

module _ (n : ℕ) (b : List Bound) (only : only_differences n b ≡ true) where
  no_clock : (j : ℕ) → j < n → (pair_bound n b 0 (suc j) ≡ B.Bound.none) × (pair_bound n b (suc j) 0 ≡ B.Bound.none)
  unfolding only_differences
  no_clock j h =
      let e : 1 + j ≡ suc j = omega arith in
      let all = all_of_true (λ j. is_none (pair_bound n b 0 j) && is_none (pair_bound n b j 0)) (tabulate n 1 (λ j. j)) only in
      let (p, q) = and_true _ _ (rw e at (at_tabulate n 1 (λ j. j) all j h)) in
      (none_is _ p, none_is _ q)

  -- it is kept where a number is added to all times, or taken off
  pub differences_kept : (x y : ℕ → ℤ) → ((i j : ℕ) → 1 ≤ i → i ≤ n → 1 ≤ j → j ≤ n → x i -ℤ x j ≡ y i -ℤ y j) → InPattern n b x → InPattern n b y
  unfolding pair_bound
  differences_kept x y same h = record { keeps = λ i j hi hj. go i j hi hj }
    where
      go : (i j : ℕ) → i < suc n → j < suc n → Holds (y i -ℤ y j) (pair_bound n b i j)
      go zero zero hi hj = any
      go zero (suc j) hi hj = rw (no_clock j (omega arith)).0 any
      go (suc i) zero hi hj = rw (no_clock i (omega arith)).1 any
      go (suc i) (suc j) hi hj = rw (same (suc i) (suc j) (omega arith) (omega arith) (omega arith) (omega arith)) at (h.keeps (suc i) (suc j) hi hj)

apart_shift : (c : ℤ) (xs : List ℤ) (n : ℕ) → length xs ≡ n → (i j : ℕ) → 1 ≤ i → i ≤ n → 1 ≤ j → j ≤ n
    → clocked (shift c xs) i -ℤ clocked (shift c xs) j ≡ clocked xs i -ℤ clocked xs j
unfolding after
apart_shift c xs n e i j li ui lj uj =
    let p : clocked (shift c xs) i ≡ c +ℤ clocked xs i = let q = clocked_shift c xs i li (omega arith) in cc in
    let r : clocked (shift c xs) j ≡ c +ℤ clocked xs j = let q = clocked_shift c xs j lj (omega arith) in cc in
    let u = clocked xs i in
    let v = clocked xs j in
    rw (p, r) (omega (ints, add_ud c u, add_ud c v, sub_ud (c +ℤ u) (c +ℤ v), sub_ud u v))

or_true : (s t : Bool) → (s || t) ≡ true → (s ≡ true) ⊎ (t ≡ true)
or_true true t e = inl refl
or_true false t e = inr e

length_shift : (c : ℤ) (xs : List ℤ) → length (shift c xs) ≡ length xs
unfolding shift
length_shift c xs = length-map xs (λ x. x +ℤ c)

-- ---- cycles p + 1 + r and q + 1 + r, where power q + 1 is power p + 1 with c added
module _ (w : Network) (reg : Regular w.n w.times) (p q : ℕ) (c : ℤ)
    (e : power w.n w.times q ≡ added c (power w.n w.times p)) (before : p < q) (differences : Differences w) where
  -- a target met at the later, from whole times, is met at the earlier
  pub earlier_whole : (r : ℕ) {xs : List ℤ} → Witness w (suc q + r) xs → (ys : List ℤ) × Witness w (suc p + r) ys
  earlier_whole r {xs} s = ⊎_elim by_start by_target (or_true _ _ differences)
    where
      same : cycles w.n w.times (suc q + r) xs ≡ shift c (cycles w.n w.times (suc p + r) xs)
      same = repeats_from w.n w.times reg p q c e xs r

      -- from the start with c added
      by_start : only_differences w.n w.start ≡ true → (ys : List ℤ) × Witness w (suc p + r) ys
      by_start only = (
        shift c xs,
        record {
          size = length_shift c xs ∙ s.size;
          started = differences_kept w.n w.start only _ _ (λ i j li ui lj uj. sym (apart_shift c xs w.n s.size i j li ui lj uj)) s.started;
          arrived = rw (cycles_shift w.n w.times reg c (suc p + r) xs s.size, ← same) s.arrived;
        },
      )

      -- from the same start, since c does not matter to the target
      by_target : only_differences w.n w.target ≡ true → (ys : List ℤ) × Witness w (suc p + r) ys
      by_target only = (
        xs,
        record {
          size = s.size;
          started = s.started;
          arrived = differences_kept w.n w.target only _ _
              (apart_shift c _ w.n (length_cycles w.n w.times (suc p + r) xs s.size)) (rw same at s.arrived);
        },
      )

-- the same in parts: powers and patterns are those of the network, in parts
module _ (w : Network) (reg : Regular w.n w.times) (p q : ℕ) (c : ℤ)
    (e : power w.n w.times q ≡ added c (power w.n w.times p)) (before : p < q) (differences : Differences w) where
  module _ (parts : ℕ) where
    again_in_parts : let a = map (scale_time parts) w.times in power w.n a q ≡ added (c *ℤ pos parts) (power w.n a p)
    again_in_parts =
        power_parts parts w.n w.times q ∙ ap (map (scale_time parts)) e ∙ added_parts parts c _
        ∙ ap (added (c *ℤ pos parts)) (sym (power_parts parts w.n w.times p))

    differences_in_parts : Differences (in_parts parts w)
    unfolding in_parts
    differences_in_parts = ap₂ ◌||◌ (differences_parts parts w.n w.start) (differences_parts parts w.n w.target) ∙ differences

  earlier : (r : ℕ) → Met w (suc q + r) → Met w (suc p + r)
  unfolding in_parts
  earlier r (parts, some_parts, xs, s) =
      let reg-parts = regular_parts parts w.n w.times reg in
      let (ys, t) = earlier_whole (in_parts parts w) reg-parts p q (c *ℤ pos parts) (again_in_parts parts) before (differences_in_parts parts) r s in
      (parts, some_parts, ys, t)

  -- so, step by step, at one before cycle q + 1
  beyond_from : NotBefore w (suc q) → (f k : ℕ) → k < f → 1 ≤ k → Met w k → ⊥
  beyond_from none zero k h l m = absurd (omega arith)
  beyond_from none (suc f) k h l m = go (dec_lt k (suc q)) (λ g m. beyond_from none f (suc p + (k - suc q)) (omega arith) (omega arith) m)
    where
      go : Dec (k < suc q) → (suc q ≤ k → Met w (suc p + (k - suc q)) → ⊥) → ⊥
      go (yes u) rest = none k l u m
      go (no u) rest =
          let j : suc q + (k - suc q) ≡ k = omega arith in
          rest (omega arith) (earlier (k - suc q) (rw j m))

-- a target met at no cycle from 1 to q - 1 is met at no cycle
pub beyond : (w : Network) → Regular w.n w.times → (r : Repeat) → LeastRepeat w r → Differences w → NotBefore w r.q
    → (k : ℕ) → 1 ≤ k → Met w k → ⊥
beyond w reg r s differences none k l m =
    let is = s.repeated in
    let lower = is.from_one in
    let upper = is.earlier in
    let q_is : suc (r.q - 1) ≡ r.q = omega arith in
    beyond_from w reg (r.p - 1) (r.q - 1) r.number is.again (omega arith) differences (rw q_is none) (suc k) k (omega arith) l m
