-- The sizes of a decision: where no time of the table exceeds T and no bound of the patterns S, no time of power k exceeds k * T,
-- and no finite bound of a set on the way exceeds n * (n * S + 2 * k * T + 1).
use Prim.Native.Nat.{ℕ, zero, suc, ◌+◌, ◌*◌, ◌≤◌}
use native.Mathlib.Omega.{arith}
use native.Mathlib.Nat.{mul-le-mul_right, zero-add}
use mathlib.Core.Path.{◌≡◌, refl}
use mathlib.Core.Bool.{Bool, true, false, cond}
use mathlib.Core.List.{List, foldl}
use mathlib.Core.Option.{some}
use lib.IntN.{ℤ, pos, ◌+ℤ◌, ◌-ℤ◌, nat_abs}
use lib.Dec.{ltb}
use Rattle.ints.proofs.Integers.{impossible, ints, add_ud, sub_ud, abs_ud, pos_ud}
use Rattle.model.specs.Lists.{Every, done, both}
use Rattle.model.specs.Matrix.{Matrix, constrain}
use Rattle.model.specs.Pattern.{pattern_constraints}
use Rattle.model.specs.Network.{Time, blank, secs, Network, time, after, secs_of, product, power}
use Rattle.model.specs.Search.{chosen, slack, keeps, pick}
use Rattle.model.specs.Conditions.{Small, free, sized, AllSmall, Bounded, Fits, Fitting, Column, Chosen, clock, column}
use Rattle.model.proofs.Listed.{every_append, every_tabulate, every_flatten, at_get_d}
use Rattle.model.proofs.MaxPlus.{latest_either}
use Rattle.model.proofs.Size.{small_mono, small_sum, minus_small}
use Rattle.model.proofs.Selections.{chosen_at}
use Rattle.model.proofs.Patterns.{pattern_fits}
use Rattle.model.proofs.Spread.{Made, made, spread_each, spread_more, made_small}
use Rattle.model.proofs.Start.{pick_small}
use Rattle.model.proofs.Fitted.{made_fitting}
use Rattle.decisions.specs.Decide.{lead, attains_first, first_constraints, found, meeting}
use Rattle.decisions.specs.Conditions.{Posed, Rowed, TimesTo}
use Rattle.decisions.proofs.FirstColumn.{leading, first_fits}
use Rattle.decisions.proofs.Descent.{meeting_keeps}

-- ---- powers
-- a blank, or at most T in size
pub data SmallTime (T : ℕ) : Time → Type 0 where
  absent : SmallTime T blank
  sized_time : {v : ℤ} → nat_abs v ≤ T → SmallTime T (secs v)

small_time : {T : ℕ} (t : Time) → ((v : ℤ) → t ≡ secs v → nat_abs v ≤ T) → SmallTime T t
small_time blank h = absent
small_time (secs v) h = sized_time (h v refl)

time_size : {T : ℕ} {t : Time} {v : ℤ} → SmallTime T t → t ≡ secs v → nat_abs v ≤ T
time_size absent e = impossible cc
time_size {v} (sized_time {v = u} h) e = let d : u ≡ v = cc in rw d at h

after_small : {T U : ℕ} {t u : Time} → SmallTime T t → SmallTime U u → SmallTime (T + U) (after t u)
unfolding after
after_small absent k = absent
after_small (sized_time h) absent = absent
after_small (sized_time {v} h) (sized_time {v = u} k) = sized_time {v = v +ℤ u} (omega (ints, add_ud v u, abs_ud v, abs_ud u, abs_ud (v +ℤ u)))

pub product_small : {T U : ℕ} (n : ℕ) (a b : List Time) → TimesTo T n a → TimesTo U n b → TimesTo (T + U) n (product n a b)
unfolding product time
product_small {T} {U} n a b ta tb i j v e =
    time_size (at_get_d {P = SmallTime (T + U)} blank absent
    (every_flatten (every_tabulate n 1 _ (λ i hi. every_tabulate n 1 _ (λ j hj. latest_either (SmallTime (T + U)) absent (every_tabulate n 1 _ (λ l hl.
    after_small (small_time _ (ta _ _)) (small_time _ (tb _ _)))))))) _) e

-- power k has times of at most k * T
pub power_small : {T : ℕ} (n : ℕ) (a : List Time) → TimesTo T n a → (r : ℕ) → TimesTo (suc r * T) n (power n a r)
unfolding power
power_small {T} n a ts zero = λ i j v e. omega (arith, ts i j v e)
power_small {T} n a ts (suc r) =
    let e : suc (suc r) * T ≡ T + suc r * T = omega arith in
    rw e (product_small n a (power n a r) ts (power_small n a ts r))

-- ---- the constraints of a row, for a table with times of at most U and a zone with bounds of at most D
module _ (n : ℕ) (b : List Time) {U : ℕ} (ts : TimesTo U n b) where
  -- what a column adds, and its lead
  column_small : {i s : ℕ} → Chosen n b i s → nat_abs (chosen n b i s) ≤ U
  unfolding chosen secs_of
  column_small clock = omega arith
  column_small (column {r} {s} k) = rw k.is (ts (suc r) s k.value k.is)

  lead_small : (j s : ℕ) (c : ℤ) → nat_abs c ≤ U → nat_abs (lead j s c) ≤ U + 1
  unfolding lead
  lead_small j s c h = go (ltb j s)
    where
      go : (q : Bool) → nat_abs (cond q (c -ℤ pos 1) c) ≤ U + 1
      go true = omega (ints, sub_ud c (pos 1), pos_ud 1, abs_ud c, abs_ud (c -ℤ pos 1))
      go false = omega arith

  slack_small : (i j : ℕ) (c : ℤ) → nat_abs c ≤ U + 1 → Small (U + U + 1) (slack c (time n b i j))
  unfolding slack
  slack_small i j c h = go (time n b i j) refl
    where
      go : (t : Time) → time n b i j ≡ t → Small (U + U + 1) (slack c t)
      go blank e = free
      go (secs t) e = sized {z = c -ℤ t} (omega (ints, ts i j t e, sub_ud c t, abs_ud c, abs_ud t, abs_ud (c -ℤ t)))

  -- a row's constraints, against a zone with bounds of at most E
  module _ (d : Matrix) {E : ℕ} (ds : Bounded (suc n) E d) {B : ℕ} (wide : E + (U + U + 1) ≤ B) where
    keeps_small : {i l s t : ℕ} → i ≤ n → l ≤ n → Chosen n b i s → Chosen n b l t → Small B (keeps n b d i s l t).limit
    unfolding keeps
    keeps_small {i} {l} {s} {t} hi hl p q =
        small_mono (omega arith)
        (small_sum (ds i l (omega arith) (omega arith)) (sized (minus_small (chosen n b l t) (chosen n b i s) (column_small q) (column_small p))))

    module _ {i s : ℕ} (cols : List ℕ) (h : i ≤ n) (q : Rowed n b cols i) (c : Column n b i s) where
      now : Chosen n b i s
      now = chosen_at q.from_one c

      -- each is at most B, and is on x(0) to x(n)
      pub row_limits : AllSmall B (first_constraints n b d cols i s)
      unfolding first_constraints attains_first
      row_limits =
          every_append
          (every_tabulate n 1 (leading n b i s) (λ j k. small_mono (omega arith) (slack_small i (1 + j) _ (lead_small (1 + j) s _ (column_small now)))))
          (every_flatten (every_tabulate i 0 _ (λ l k. rw (zero-add l)
          (both (keeps_small h (omega arith) now (q.columns l k)) (both (keeps_small (omega arith) h (q.columns l k) now) done)))))

      pub row_fits : Every (Fits (suc n)) (first_constraints n b d cols i s)
      row_fits = first_fits n b d cols i s q.columns now

      -- so no set on the way through the row passes n * B, and what is left is made of constraints of at most B again
      pub row_fitting : {L : ℕ} → n * B ≤ L → {y : Matrix} → Made n B y → Fitting (suc n) L (some y) (first_constraints n b d cols i s)
      row_fitting room m = made_fitting room m row_fits row_limits

      pub row_left : {y v : Matrix} → Made n B y → foldl (constrain (suc n)) (some y) (first_constraints n b d cols i s) ≡ some v → Made n B v
      row_left m e = spread_more m row_fits row_limits e

    -- and so is the set that is found
    pub found_made : {z : Matrix} → Made n B z → (t : ℕ) {y : Matrix} → meeting n b z d t ≡ found y → Made n B y
    found_made m t e = meeting_keeps n b d (Made n B) (λ i s cols u v h q c m f. row_left cols h q c m f) t m e

    -- the times that are picked in it
    pub found_small : {z : Matrix} → Made n B z → (t : ℕ) {y : Matrix} → meeting n b z d t ≡ found y
        → Every (λ x. nat_abs x ≤ n * (n * B)) (pick n y)
    found_small m t {y} e = pick_small n y (made_small (found_made m t e))

-- ---- a network with times of at most T and patterns with bounds of at most S
pub record Sized (w : Network) (T S : ℕ) : Type 0 where
  pub some_row : 1 ≤ w.n
  pub times : TimesTo T w.n w.times
  pub start : AllSmall S (pattern_constraints w.n w.start)
  pub target : AllSmall S (pattern_constraints w.n w.target)

-- the largest constraint of a try on power k
unfoldable pub limit_at : ℕ → ℕ → ℕ → ℕ → ℕ
limit_at n T S k = n * S + (k * T + k * T + 1)

pub made_mono : {n B C : ℕ} {z : Matrix} → B ≤ C → Made n B z → Made n C z
made_mono l m = spread_each (λ k. small_mono l) m

module _ (w : Network) {T S : ℕ} (sized_so : Sized w T S) {z d : Matrix} (posed : Posed w z d) where
  -- the start zone and the target zone
  pub start_made : Made w.n S z
  start_made = made (pattern_fits w.n w.start) sized_so.start posed.start

  pub target_made : Made w.n S d
  target_made = made (pattern_fits w.n w.target) sized_so.target posed.target

  pub target_bounded : Bounded (suc w.n) (w.n * S) d
  target_bounded = made_small target_made

  -- the start zone as a set on the way
  pub start_on_way : (k : ℕ) {B : ℕ} → limit_at w.n T S k ≤ B → Made w.n B z
  unfolding limit_at
  start_on_way k wide = made_mono (let one : 1 * S ≤ w.n * S = mul-le-mul_right S sized_so.some_row in omega arith) start_made
