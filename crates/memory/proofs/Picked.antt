-- The start that is picked, departure by departure.
use Prim.Native.Nat.{ℕ, zero, suc, ◌+◌, ◌-◌, ◌*◌, ◌≤◌, ◌<◌}
use native.Mathlib.Omega.{arith}
use mathlib.Core.Path.{◌≡◌, refl, sym, ap, ap₂, ◌∙◌}
use mathlib.Core.List.{List, [], ◌∷◌, ◌++◌, map, map-append}
use lib.IntN.{ℤ, pos, neg_ℤ, nat_abs}
use lib.ListN.{length, get_or, set, drop, length-append, length-map, get_or-append, get_or-map}
use Rattle.ints.specs.declared.Seconds.{Seconds}
use Rattle.model.specs.Sizes.{most_departures}
use Rattle.model.specs.Lists.{tabulate, padded, Every, done, both}
use Rattle.model.specs.Bound as B
use Rattle.model.specs.Bound.{Bound, most, plus, tighter}
use Rattle.model.specs.Matrix.{Matrix, entry}
use Rattle.model.specs.Network.{clocked}
use Rattle.model.specs.Search.{tightest, above, below, greatest_or, choices, pick}
use Rattle.model.specs.Answers.{seconds, all_times}
use Rattle.model.specs.Conditions.{how_early, how_late, Small, free}
use Rattle.model.proofs.Stored.{padded_set}
use Rattle.model.proofs.Bounds.{tighter_either}
use Rattle.model.proofs.Listed.{every_append, every_map, at_get_d}
use Rattle.model.proofs.Size.{term_small}
use Rattle.model.proofs.Tabulated.{tabulate_ext, from, from_next, from_end, from_first}
use Rattle.memory.specs.Matrices.{values}

pub clocked_at : (xs : List ℤ) (s : ℕ) → 1 ≤ s → clocked xs s ≡ get_or xs (s - 1) (pos 0)
unfolding clocked
clocked_at xs zero h = absurd (omega arith)
clocked_at xs (suc s) h = ap (λ (i : ℕ). get_or xs i (pos 0)) (omega arith)

-- ---- one departure
-- what the departure s, of time x s, says of how early departure t may be, negated, and how late
abbrev pub early_term : ℕ → Matrix → ℕ → (ℕ → ℤ) → ℕ → Bound
early_term n d t x s = plus (entry (suc n) d s t) (most (neg_ℤ (x s)))

abbrev pub late_term : ℕ → Matrix → ℕ → (ℕ → ℤ) → ℕ → Bound
late_term n d t x s = plus (entry (suc n) d t s) (most (x s))

-- b is the tightest of the terms f s, .., f (t - 1), where a number in memory is at most S in size
pub record Tightest (S t : ℕ) (f : ℕ → Bound) (s : ℕ) (b : Bound) : Type 0 where
  pub upto : s ≤ t
  pub is : b ≡ tightest (from f t s)
  pub small : Small (suc t * S) b

pub tightest_start : (S t : ℕ) (f : ℕ → Bound) → Tightest S t f t B.Bound.none
unfolding tightest
tightest_start S t f = record { upto = omega arith; is = rw (from_end f t t (omega arith)); small = free }

module _ {S t : ℕ} {f : ℕ → Bound} {s : ℕ} {b : Bound} (w : Tightest S t f s b) where
  -- one more
  pub tightest_step : (c : Bound) (x : ℤ) → 1 ≤ s → Small S c → nat_abs x ≤ t * S → plus c (most x) ≡ f (s - 1)
      → Tightest S t f (s - 1) (tighter (plus c (most x)) b)
  unfolding tightest
  tightest_step c x h small near e =
      let u = w.upto in
      let k : s - 1 + 1 ≡ s = omega arith in
      record {
        upto = omega arith;
        is = ap₂ tighter e w.is ∙ sym (ap tightest (from_next f t (s - 1) (omega arith)) ∙ ap (λ (r : ℕ). tighter (f (s - 1)) (tightest (from f t r))) k);
        small = tighter_either (Small (suc t * S)) (plus c (most x)) b (term_small t x small near) w.small;
      }

  -- all
  pub tightest_done : s ≤ 0 → b ≡ tightest (tabulate t 0 f)
  tightest_done h =
      let e : s ≡ 0 = omega arith in
      w.is ∙ rw e (ap tightest (sym (from_first f t 0 t (omega arith))))

-- ---- all departures
-- the times of the departures before t are picked, and small; the others are still to be picked
pub record Picking (n S : ℕ) (d : Matrix) (times : List Seconds) (t : ℕ) : Type 0 where
  pub ys : List ℤ
  pub count : suc (length ys) ≡ t
  pub upto : t ≤ suc n
  pub are : times ≡ all_times ys
  pub rest : choices (suc n) d (suc n - t) (pos 0 ∷ ys) ≡ choices (suc n) d n (pos 0 ∷ [])
  pub small : Every (λ y. nat_abs y ≤ t * S) ys

pub picking_start : (n S : ℕ) (d : Matrix) → Picking n S d (all_times []) 1
picking_start n S d = record {
  ys = [];
  count = refl;
  upto = omega arith;
  are = refl;
  rest = ap (λ (r : ℕ). choices (suc n) d r (pos 0 ∷ [])) (omega arith);
  small = done;
}

-- a time before t is that of the list
clocked_all : (ys : List ℤ) (s : ℕ) → s < suc (length ys) → clocked (values (all_times ys)) s ≡ get_or (pos 0 ∷ ys) s (pos 0)
unfolding clocked
clocked_all ys zero h = refl
clocked_all ys (suc i) h =
    get_or-map (λ x. x.0) (all_times ys) i (seconds (pos 0))
    ∙ ap (λ (x : Seconds). x.0)
    (get_or-append (map seconds ys) _ (seconds (pos 0)) i (rw (length-map ys seconds) (omega arith)) ∙ get_or-map seconds ys i (pos 0))

module _ {n S : ℕ} {d : Matrix} {times : List Seconds} {t : ℕ} (w : Picking n S d times t) where
  at_before : (s : ℕ) → s < t → clocked (values times) s ≡ get_or (pos 0 ∷ w.ys) s (pos 0)
  at_before s h = let c = w.count in rw w.are (clocked_all w.ys s (omega arith))

  pub times_small : (s : ℕ) → s < t → nat_abs (clocked (values times) s) ≤ t * S
  times_small s h = rw (at_before s h) (at_get_d (pos 0) (omega arith) (both (omega arith) w.small) s)

  -- the choice
  choice_is : greatest_or (how_early (suc n) d t (clocked (values times))) (how_late (suc n) d t (clocked (values times)))
      ≡ greatest_or (below (suc n) d (pos 0 ∷ w.ys)) (above (suc n) d (pos 0 ∷ w.ys))
  unfolding below above
  choice_is =
      let c = w.count in
      rw c (ap₂ (λ b e. greatest_or (tightest b) (tightest e))
      (tabulate_ext t 0 _ _ (λ s l u. rw (at_before s (omega arith))))
      (tabulate_ext t 0 _ _ (λ s l u. rw (at_before s (omega arith)))))

  pub picking_step : (v : Seconds) → t ≤ n → n ≤ most_departures → nat_abs v.0 ≤ suc t * S
      → v.0 ≡ greatest_or (how_early (suc n) d t (clocked (values times))) (how_late (suc n) d t (clocked (values times)))
      → Picking n S d (set times (t - 1) v) (t + 1)
  unfolding choices
  picking_step v h few small is =
      let c = w.count in
      let r : suc n - t ≡ suc (suc n - (t + 1)) = omega arith in
      let k : t - 1 ≡ length (map seconds w.ys) = omega (arith, length-map w.ys seconds) in
      record {
        ys = w.ys ++ (v.0 ∷ []);
        count = rw (length-append w.ys (v.0 ∷ [])) (omega arith);
        upto = omega arith;
        are = rw (w.are, k)
            (padded_set (seconds (pos 0)) most_departures (length (map seconds w.ys)) (map seconds w.ys) v refl (omega arith)
            ∙ ap (padded (seconds (pos 0)) most_departures) (sym (map-append seconds w.ys (v.0 ∷ []))));
        rest = rw (is ∙ choice_is) (rw r at w.rest);
        small = every_append (every_map (λ y l. omega arith) w.small) (both (omega arith) done);
      }

  pub picking_done : suc n ≤ t → times ≡ all_times (pick n d)
  unfolding pick choices
  picking_done h =
      let z : suc n - t ≡ 0 = omega arith in
      w.are ∙ ap (λ (xs : List ℤ). all_times (drop 1 xs)) (rw z at w.rest)
