-- The start that is picked in a zone without strict bounds: it is a member of the zone, and each departure has the greatest time possible,
-- given those before it; if there is no greatest, the least; if neither, 0. No time is larger than n of the zone's finite bounds.
use Prim.Native.Nat.{ℕ, zero, suc, ◌+◌, ◌*◌, ◌≤◌, ◌<◌}
use native.Mathlib.Omega.{arith}
use native.Mathlib.Decide.{ℕ_discrete}
use native.Mathlib.Nat.{mul-le-mul_right}
use mathlib.Core.Path.{◌≡◌, refl, sym, ap, ap₂, ◌∙◌, fun_ext}
use mathlib.Core.List.{List, [], ◌∷◌, ◌++◌}
use lib.IntN.{ℤ, pos, neg_ℤ, ◌-ℤ◌, nat_abs}
use lib.Signed.{◌≤ℤ◌}
use lib.ListN.{length, get_or, length-append, length-drop, get_or-append}
use lib.Seq.{get_or-append_seam, get_or-drop}
use Rattle.ints.proofs.Integers.{ints, add_ud, sub_ud, neg_ud}
use Rattle.model.specs.Lists.{tabulate, Every}
use Rattle.model.specs.Bound as B
use Rattle.model.specs.Bound.{Bound, most, any, Holds, plus}
use Rattle.model.specs.Matrix.{Matrix, Member}
use Rattle.model.specs.Network.{clocked}
use Rattle.model.specs.Search.{tightest, above, below, greatest_or, choices, pick}
use Rattle.model.specs.Conditions.{Closed, how_late, how_early, Small, free, Bounded}
use Rattle.model.proofs.Bounds.{bounds, Plain, unbounded, at_most, le_b_refl, le_b_trans, holds_sum, between, tighter_either, tighter_left, tighter_right}
use Rattle.model.proofs.Listed.{one_more, every_get_d}
use Rattle.model.proofs.Tabulated.{tabulate_ext}
use Rattle.model.proofs.Attained.{AllPlain, tightest_of_either, Upto, Possible, late_plain, early_plain, next_time_lem, upto_next, takes_next}
use Rattle.model.proofs.Size.{small_mono, term_small, neg_small, taken_small}

-- where any time is between two bounds, the one taken is
taken_between : {w u : Bound} → Plain w → Plain u → (v : ℤ) → Holds v u → Holds (neg_ℤ v) w → Holds (greatest_or w u) u × Holds (neg_ℤ (greatest_or w u)) w
unfolding greatest_or
taken_between p (at_most {b = c}) v hu hw = (le_b_refl (most c), le_b_trans (omega (bounds, neg_ud c, neg_ud v)) hw)
taken_between (at_most {b}) unbounded v hu hw = (any, omega (bounds, neg_ud b, neg_ud (neg_ℤ b)))
taken_between unbounded unbounded v hu hw = (any, any)

-- the times of a list
abbrev at : List ℤ → ℕ → ℤ
at xs s = get_or xs s (pos 0)

module _ (m : ℕ) (z : Matrix) where
  -- the time that is taken for t, given x(0), .., x(t - 1)
  abbrev taken : ℕ → (ℕ → ℤ) → ℤ
  taken t x = greatest_or (how_early m z t x) (how_late m z t x)

  -- it depends on these alone
  taken_same : (t : ℕ) (x y : ℕ → ℤ) → ((s : ℕ) → s < t → x s ≡ y s) → taken t x ≡ taken t y
  taken_same t x y same =
      ap₂ (λ b c. greatest_or (tightest b) (tightest c))
      (tabulate_ext t 0 _ _ (λ s l u. rw (same s (omega arith)))) (tabulate_ext t 0 _ _ (λ s l u. rw (same s (omega arith))))

  -- r times are chosen
  length_choices : (r : ℕ) (xs : List ℤ) → length (choices m z r xs) ≡ r + length xs
  unfolding choices
  length_choices zero xs = omega arith
  length_choices (suc r) xs = length_choices r _ ∙ simp length-append (omega arith)

  -- those chosen before stay
  choices_keep : (r : ℕ) (xs : List ℤ) (s : ℕ) → s < length xs → at (choices m z r xs) s ≡ at xs s
  unfolding choices
  choices_keep zero xs s h = refl
  choices_keep (suc r) xs s h = choices_keep r _ s (simp length-append (omega arith)) ∙ get_or-append xs _ (pos 0) s h

  -- each time chosen is the one taken, given those before it
  choices_taken : (r : ℕ) (xs : List ℤ) (t : ℕ) → length xs ≤ t → t < r + length xs
      → at (choices m z r xs) t ≡ taken t (at (choices m z r xs))
  unfolding choices above below
  choices_taken zero xs t h l = absurd (omega arith)
  choices_taken (suc r) xs t h l =
      let v = greatest_or (below m z xs) (above m z xs) in
      let more : length (xs ++ (v ∷ [])) ≡ length xs + 1 = length-append xs (v ∷ []) in
      elim (ℕ_discrete t (length xs)) [
        | yes e ↦ rw e (choices_keep r (xs ++ (v ∷ [])) (length xs) (omega arith) ∙ get_or-append_seam xs v [] (pos 0)
            ∙ taken_same (length xs) (at xs) (at (choices m z (suc r) xs)) (λ s k. sym (choices_keep (suc r) xs s k)))
        | no ne ↦ choices_taken r (xs ++ (v ∷ [])) t (omega arith) (omega arith)
      ]

  -- each time of a member is possible
  member_possible : (t : ℕ) (x y : ℕ → ℤ) → t < m → Member m z y → ((s : ℕ) → s < t → y s ≡ x s) → Possible m z t x (y t)
  member_possible t x y ht mem same = (
    tightest_of_either (Holds (y t)) t _ any (λ s h. rw (← same s h) (holds_sum (y t -ℤ y s) (y s) (y t)
        (mem t s ht (omega arith)) (le_b_refl (most (y s))) (omega (ints, sub_ud (y t) (y s), add_ud (y t -ℤ y s) (y s))))),
    tightest_of_either (Holds (neg_ℤ (y t))) t _ any (λ s h. rw (← same s h) (holds_sum (y s -ℤ y t) (neg_ℤ (y s)) (neg_ℤ (y t))
        (mem s t (omega arith) ht) (le_b_refl (most (neg_ℤ (y s))))
        (omega (ints, neg_ud (y s), neg_ud (y t), sub_ud (y s) (y t), add_ud (y s -ℤ y t) (neg_ℤ (y s)))))),
  )

module _ (n : ℕ) (z : Matrix) where
  -- a time is picked for each departure
  pub pick_length : length (pick n z) ≡ n
  unfolding pick
  pick_length = simp (length-drop, length_choices) (omega arith)

  -- the times picked, the clock's zero first
  abbrev picked : ℕ → ℤ
  picked = clocked (pick n z)

  -- they are the times chosen from none on: with none chosen, 0 is taken
  picked_choices : picked ≡ at (choices (suc n) z (suc n) [])
  unfolding clocked pick choices above below greatest_or tightest tabulate
  picked_choices = let first = pos 0 ∷ [] in fun_ext (elim [
    | zero ↦ sym (choices_keep (suc n) z n first 0 (omega arith))
    | suc i ↦ get_or-drop 1 (choices (suc n) z n first) i (pos 0) ∙ ap (at (choices (suc n) z n first)) (omega arith)
  ])

  -- so each is the one taken, given those before it
  picked_taken : (t : ℕ) → t < suc n → picked t ≡ taken (suc n) z t picked
  picked_taken t h = rw picked_choices (choices_taken (suc n) z (suc n) [] t (omega arith) (omega arith))

  -- where no finite bound is larger than S, time t is at most t * S in size
  module _ {S : ℕ} (small : Bounded (suc n) S z) where
    one_small : (t : ℕ) → t < suc n → ((s : ℕ) → s < t → nat_abs (picked s) ≤ s * S) → nat_abs (picked t) ≤ t * S
    one_small t h before = rw (picked_taken t h) (taken_small
        (tightest_of_either (Small (t * S)) t _ free (λ s l. term s l (neg_ℤ (picked s)) (small s t (omega arith) h) (neg_small (picked s) (before s l))))
        (tightest_of_either (Small (t * S)) t _ free (λ s l. term s l (picked s) (small t s h (omega arith)) (before s l))))
      where
        term : (s : ℕ) → s < t → {b : Bound} (v : ℤ) → Small S b → nat_abs v ≤ s * S → Small (t * S) (plus b (most v))
        term s l v d k = small_mono (mul-le-mul_right S l) (term_small s v d k)

    picked_small : (t : ℕ) → t ≤ suc n → (s : ℕ) → s < t → nat_abs (picked s) ≤ s * S
    picked_small zero h = λ s l. absurd (omega arith)
    picked_small (suc t) h =
        let before = picked_small t (omega arith) in one_more (λ s. nat_abs (picked s) ≤ s * S) t before (one_small t h before)

    pub pick_small : Every (λ x. nat_abs x ≤ n * S) (pick n z)
    unfolding clocked
    pick_small = every_get_d (pos 0) (pick n z) (λ i l.
        let m : suc i ≤ n = omega (arith, pick_length) in
        omega (arith, picked_small (suc n) (omega arith) (suc i) (omega arith), mul-le-mul_right S m))

-- a member of the zone with the times picked for departures 1 to i, and for the clock, j = 0
pub record Agrees (n : ℕ) (z : Matrix) (i : ℕ) (x : ℕ → ℤ) : Type 0 where
  pub member : Member (suc n) z x
  pub chosen : (j : ℕ) → j ≤ i → x j ≡ clocked (pick n z) j

-- departure i + 1 has no greatest, and no least, time in the members that agree
abbrev pub NoGreatest : ℕ → Matrix → ℕ → Type 0
NoGreatest n z i = (u : ℤ) → (x : ℕ → ℤ) × Agrees n z i x × u ≤ℤ x (suc i)

abbrev pub NoLeast : ℕ → Matrix → ℕ → Type 0
NoLeast n z i = (u : ℤ) → (x : ℕ → ℤ) × Agrees n z i x × x (suc i) ≤ℤ u

-- document 02's rule for the time v of departure i + 1, given those picked for departures 1 to i
pub data Picked (n : ℕ) (z : Matrix) (i : ℕ) (v : ℤ) : Type 0 where
  greatest : ((x : ℕ → ℤ) → Agrees n z i x → x (suc i) ≤ℤ v) → Picked n z i v
  least : NoGreatest n z i → ((x : ℕ → ℤ) → Agrees n z i x → v ≤ℤ x (suc i)) → Picked n z i v
  neither : NoGreatest n z i → NoLeast n z i → v ≡ pos 0 → Picked n z i v

module _ {n : ℕ} {z : Matrix} (cl : Closed (suc n) z) (plain : AllPlain (suc n) z) where
  -- the times picked keep to the bounds among them, one by one
  pick_upto : (t : ℕ) → t ≤ suc n → Upto (suc n) z t (picked n z)
  pick_upto zero h = λ i j hi hj. absurd (omega arith)
  pick_upto (suc t) h =
      let ok = pick_upto t (omega arith) in
      let (v, f) = next_time_lem (suc n) z cl plain t (picked n z) h ok in
      let late = late_plain (suc n) z cl plain t (picked n z) h ok in
      let early = early_plain (suc n) z cl plain t (picked n z) h ok in
      upto_next (suc n) z cl plain t (picked n z) h ok (picked n z) (λ s k. refl) (rw (picked_taken n z t h) (taken_between early late v f.0 f.1))

  -- the start picked is a member of the zone
  pub pick_member : Member (suc n) z (clocked (pick n z))
  pick_member = pick_upto (suc n) (omega arith)

  module _ (i : ℕ) (h : i < n) where
    -- how early departure i + 1 may be, negated, and how late
    abbrev early : Bound
    early = how_early (suc n) z (suc i) (picked n z)

    abbrev late : Bound
    late = how_late (suc n) z (suc i) (picked n z)

    early_is : Plain early
    early_is = early_plain (suc n) z cl plain (suc i) (picked n z) (omega arith) (pick_upto (suc i) (omega arith))

    late_is : Plain late
    late_is = late_plain (suc n) z cl plain (suc i) (picked n z) (omega arith) (pick_upto (suc i) (omega arith))

    -- a member that agrees has a possible time for departure i + 1, and each possible time is that of one
    possible : (x : ℕ → ℤ) → Agrees n z i x → Possible (suc n) z (suc i) (picked n z) (x (suc i))
    possible x a = member_possible (suc n) z (suc i) (picked n z) x (omega arith) a.member (λ s l. a.chosen s (omega arith))

    agreeing : (v : ℤ) → Holds v late → Holds (neg_ℤ v) early → (x : ℕ → ℤ) × Agrees n z i x × x (suc i) ≡ v
    agreeing v hu hw =
        let (x, mem, same, e) = takes_next (suc n) z cl plain (suc i) (picked n z) (omega arith) (pick_upto (suc i) (omega arith)) v (hu, hw) in
        (x, record { member = mem; chosen = λ j l. same j (omega arith) }, e)

    -- with no bound on how late there is no greatest time, and with none on either side no least
    no_greatest : late ≡ B.Bound.none → NoGreatest n z i
    unfolding plus
    no_greatest f u =
        let (v, w, hv) = between unbounded (tighter_either Plain (most (neg_ℤ u)) early at_most early_is) any in
        let (x, a, q) = agreeing v (rw f any) (le_b_trans hv (tighter_right (most (neg_ℤ u)) early)) in
        let k = le_b_trans hv (tighter_left (most (neg_ℤ u)) early) in
        (x, a, omega (bounds, neg_ud u, neg_ud v))

    no_least : early ≡ B.Bound.none → late ≡ B.Bound.none → NoLeast n z i
    no_least e f u = let (x, a, q) = agreeing u (rw f any) (rw e any) in (x, a, omega ints)

    -- the rule, by these two bounds
    rule : {w u : Bound} → Plain w → Plain u → early ≡ w → late ≡ u → Picked n z i (greatest_or w u)
    unfolding greatest_or
    rule p (at_most {b = c}) e f = greatest (λ x a. let k = rw f at (possible x a).0 in omega bounds)
    rule (at_most {b}) unbounded e f = least (no_greatest f) (λ x a. let k = rw e at (possible x a).1 in omega (bounds, neg_ud b, neg_ud (x (suc i))))
    rule unbounded unbounded e f = neither (no_greatest f) (no_least e f) refl

    -- each departure is picked by the rule
    pub pick_rule : Picked n z i (clocked (pick n z) (suc i))
    pick_rule = rw (picked_taken n z (suc i) (omega arith)) (rule early_is late_is refl refl)
