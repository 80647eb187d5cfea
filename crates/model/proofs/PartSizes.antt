-- A set that is being built for the preimage of a zone, after rows 1 to r. It is given by constraints on its times and, for each row that
-- is still to come, on one time more, which stands for the image in that row: of at most B + times_apart if the zone is made of
-- constraints of at most B. After all rows it is the preimage. What the next row adds is on one column.
use Prim.Native.Nat.{ℕ, suc, ◌+◌, ◌*◌, ◌-◌, ◌≤◌, ◌<◌}
use native.Mathlib.Omega.{arith}
use native.Mathlib.Nat.{suc-mul, mul-le-mul_left}
use native.Mathlib.Decide.{dec_lt}
use mathlib.Core.Path.{◌≡◌, refl, sym, ◌∙◌}
use mathlib.Core.Logic.{◌↔◌, inl, inr}
use mathlib.Core.Bool.{Bool, true, false, cond}
use mathlib.Core.List.{List, ◌∷◌, ◌++◌, map, flatten}
use mathlib.Core.Option.{some}
use lib.IntN.{ℤ, pos, ◌+ℤ◌, ◌-ℤ◌, nat_abs}
use lib.Dec.{leb}
use borrow.Author.Tests.{leb-false, le-leb, lt-leb}
use Rattle.ints.proofs.Integers.{ints, add_ud, pos_ud}
use Rattle.model.specs.Sizes.{times_apart, time_limit}
use Rattle.model.specs.Lists.{tabulate, Every}
use Rattle.model.specs.Bound.{most, plus}
use Rattle.model.specs.Matrix.{Matrix, Constraint, tighten, Member}
use Rattle.model.specs.Network.{Time, blank, secs, time, secs_of}
use Rattle.model.specs.Search.{chosen, slack, attains, keeps, preimage}
use Rattle.model.specs.Conditions.{Fits, Chosen, clock, column, Small, free, sized, AllSmall, TimesSmall, Selection}
use Rattle.model.proofs.Bounds.{weak}
use Rattle.model.proofs.Listed.{every_append, every_split, every_map, every_both, every_tabulate, at_tabulate, every_flatten, in_flatten}
use Rattle.model.proofs.Listed.{map_every, of_map_every}
use Rattle.model.proofs.Attained.{Upto, set_all}
use Rattle.model.proofs.Mapped.{entry_map, map_closed}
use Rattle.model.proofs.Inner.{weakening}
use Rattle.model.proofs.Zones.{tighten_closed}
use Rattle.model.proofs.Patterns.{closed_some}
use Rattle.model.proofs.Rows.{behind, of_row}
use Rattle.model.proofs.Selections.{chosen_fits}
use Rattle.model.proofs.Preimage.{col, cols, value, holds_sums, Behind, row_of, front, front_fits, front_says, preimage_front}
use Rattle.model.proofs.Size.{small_mono, small_sum, minus_small}
use Rattle.model.proofs.Spread.{Weakly, tighten_weakly, weakly_same, weakly_plain, Spread, Made, made_small, Near, small, large}

-- ---- the sizes of what columns add
module _ (n : ℕ) (a : List Time) (ts : TimesSmall n a) where
  added_small : {i s : ℕ} → Chosen n a i s → nat_abs (chosen n a i s) ≤ time_limit
  unfolding chosen secs_of
  added_small clock = omega arith
  added_small (column {r} {s} k) = rw k.is (ts (suc r) s k.value k.is)

  slack_small : (i j : ℕ) (c : ℤ) → nat_abs c ≤ time_limit → Small times_apart (slack c (time n a i j))
  unfolding slack
  slack_small i j c h = go (time n a i j) refl
    where
      go : (t : Time) → time n a i j ≡ t → Small times_apart (slack c t)
      go blank e = free
      go (secs t) e = sized (minus_small c t h (ts i j t e))

  between_small : {i l s t : ℕ} → Chosen n a i s → Chosen n a l t → nat_abs (chosen n a i s -ℤ chosen n a l t) ≤ times_apart
  between_small {i} {l} {s} {t} p q = minus_small (chosen n a i s) (chosen n a l t) (added_small p) (added_small q)

plus_zero : (z : ℤ) → z +ℤ pos 0 ≡ z
plus_zero z = omega (ints, add_ud z (pos 0), pos_ud 0)

module _ (n : ℕ) (a : List Time) (sel : List ℕ) (q : Selection n a n 1 sel) (r : ℕ) (few : r ≤ n) where
  abbrev c : ℕ → ℕ
  c = col sel

  in_row : (l : ℕ) → l < suc n → Chosen n a l (c l)
  in_row = cols n a sel q

  -- ---- the constraints after rows 1 to r
  -- the columns of these rows attain the largest sums
  abbrev attained : List Constraint
  attained = flatten (tabulate r 1 (λ i. attains n a i (c i)))

  module _ (P : Constraint → Type 0) where
    of_attained : Every P attained → Behind n a sel P r
    unfolding attains
    of_attained e i h j k =
        let z : 1 + i ≡ suc i = omega arith in
        rw z at (at_tabulate n 1 _ (at_tabulate r 1 (λ i. attains n a i (c i)) (in_flatten _ e) i h) j k)

    in_attained : Behind n a sel P r → Every P attained
    unfolding attains
    in_attained b = every_flatten (every_tabulate r 1 (λ i. attains n a i (c i)) (λ i h.
        let z : 1 + i ≡ suc i = omega arith in
        rw z (every_tabulate n 1 (behind n a (suc i) (c (suc i))) (b i h))))

  -- the time that the image in row l comes from, and what is added to it
  abbrev from : ℕ → ℕ
  from l = cond (leb l r) (c l) (n + (l - r))

  abbrev add : ℕ → ℤ
  add l = cond (leb l r) (chosen n a l (c l)) (pos 0)

  abbrev images : (ℕ → ℤ) → ℕ → ℤ
  images w l = w (from l) +ℤ add l

  -- a constraint on the images, as one on these times
  abbrev back : Constraint → Constraint
  back k = record { row = from k.row; col = from k.col; limit = plus k.limit (most (add k.col -ℤ add k.row)) }

  back_says : (w : ℕ → ℤ) (k : Constraint) → Weakly w (back k) ↔ Weakly (images w) k
  unfolding weak
  back_says w k = rw (weakening.keeps_sum k.limit (most (add k.col -ℤ add k.row)))
      (holds_sums (w (from k.row)) (w (from k.col)) (add k.row) (add k.col) (weak k.limit))

  -- those on the images by, and that the columns attain
  abbrev given : List Constraint → List Constraint
  given by = attained ++ map back by

  -- they are on so many times
  attained_fits : {m : ℕ} → n ≤ m → Every (Fits (suc m)) attained
  attained_fits {m} l = in_attained (Fits (suc m)) (λ i h j k.
      record { row_fits = omega arith; col_fits = omega (arith, chosen_fits (in_row (suc i) (omega arith))) })

  from_fits : (l : ℕ) → l < suc n → from l < suc (n + (n - r))
  from_fits l h = go (leb l r) refl
    where
      go : (b : Bool) → leb l r ≡ b → cond b (c l) (n + (l - r)) < suc (n + (n - r))
      go true e = omega (arith, chosen_fits (in_row l h))
      go false e = omega (arith, leb-false l r e)

  given_fits : {by : List Constraint} → Every (Fits (suc n)) by → Every (Fits (suc (n + (n - r)))) (given by)
  given_fits f = every_append (attained_fits (omega arith)) (map_every back (every_map
      (λ k g. record { row_fits = from_fits k.row g.row_fits; col_fits = from_fits k.col g.col_fits }) f))

  -- and so large
  module _ (ts : TimesSmall n a) where
    add_small : (l : ℕ) → l < suc n → nat_abs (add l) ≤ time_limit
    add_small l h = go (leb l r)
      where
        go : (b : Bool) → nat_abs (cond b (chosen n a l (c l)) (pos 0)) ≤ time_limit
        go true = added_small n a ts (in_row l h)
        go false = omega arith

    given_small : {B : ℕ} {by : List Constraint} → Every (Fits (suc n)) by → AllSmall B by → AllSmall (B + times_apart) (given by)
    given_small {B} f s = every_append
        (in_attained (λ k. Small (B + times_apart) k.limit) (λ i h j k.
        small_mono (omega arith) (slack_small n a ts (suc i) (1 + j) _ (added_small n a ts (in_row (suc i) (omega arith))))))
        (map_every back (every_both (λ k g l. small_sum l
        (sized (minus_small (add k.col) (add k.row) (add_small k.col g.col_fits) (add_small k.row g.row_fits)))) f s))

  -- ---- times
  images_before : (w : ℕ → ℤ) (l : ℕ) → l < suc r → images w l ≡ value n a sel w l
  images_before w l h = rw (le-leb l r (omega arith)) refl

  -- x, and then the images y of the rows that are still to come
  abbrev beside : (ℕ → ℤ) → (ℕ → ℤ) → ℕ → ℤ
  beside x y t = cond (leb t n) (x t) (y (t - n + r))

  beside_own : (x y : ℕ → ℤ) (t : ℕ) → t < suc n → beside x y t ≡ x t
  beside_own x y t h = rw (le-leb t n (omega arith)) refl

  -- where y has the images of the rows before, it has all images of x beside y
  images_beside : (x y : ℕ → ℤ) → ((l : ℕ) → l < suc r → y l ≡ value n a sel x l) → (l : ℕ) → l < suc n → images (beside x y) l ≡ y l
  images_beside x y same l h = go (dec_lt r l)
    where
      go : Dec (r < l) → images (beside x y) l ≡ y l
      go (no ne) =
          images_before (beside x y) l (omega arith)
          ∙ rw (beside_own x y (c l) (chosen_fits (in_row l h))) (sym (same l (omega arith)))
      go (yes k) =
          let e : n + (l - r) - n + r ≡ l = omega arith in
          rw (lt-leb l r k, lt-leb (n + (l - r)) n (omega arith), e) (plus_zero (y l))

  -- ---- the set p, for a zone d that is made of constraints of at most B
  module _ (ts : TimesSmall n a) {B : ℕ} {d : Matrix} (m : Made n B d) {p : Matrix} (left : tighten (suc n) (front n a d sel r) ≡ some p) where
    -- the columns attain the largest sums, and the images keep to the zone
    says : (x : ℕ → ℤ) → Member (suc n) (map weak p) x ↔ (Behind n a sel (Weakly x) r × Upto (suc n) (map weak d) (suc r) (value n a sel x))
    unfolding weak
    says x =
        let zone = tighten_weakly (front_fits n a d sel q r few) left x in
        let say = front_says n a d sel weak (λ c. refl) weakening.keeps_sum x m.is_closed r few in
        let is = entry_map weakening (suc n) d in (
          λ h. let (b, u) = say.0 (zone.0 h) in (b, λ i l hi hl. rw (is i l) (u i l hi hl)),
          λ h. zone.1 (say.1 (h.0, λ i l hi hl. rw (is i l) at (h.1 i l hi hl))),
        )

    into : (w : ℕ → ℤ) → Every (Weakly w) (given m.by) → Member (suc n) (map weak p) w
    into w e =
        let (b, k) = every_split attained (map back m.by) e in
        let in-d = m.into (images w) (every_map (λ k. (back_says w k).0) (of_map_every back m.by k)) in
        (says w).1 (of_attained (Weakly w) b, λ i l hi hl. rw (← images_before w i hi, ← images_before w l hl) (in-d i l (omega arith) (omega arith)))

    onto : (x : ℕ → ℤ) → Member (suc n) (map weak p) x → (w : ℕ → ℤ) × Every (Weakly w) (given m.by) × ((t : ℕ) → t < suc n → w t ≡ x t)
    onto x mem =
        let (b, upto) = (says x).0 mem in
        let (y, in-d, before)
        = set_all (suc n) (map weak d) (map_closed weakening m.is_closed) (weakly_plain (suc n) d) (n - r) (suc r) (value n a sel x) (omega arith) upto in
        let (z, keeps, same) = m.onto y in-d in
        let now = images_beside x z (λ l h. same l (omega arith) ∙ before l h) in (
          beside x z,
          every_append
              (weakly_same (attained_fits (omega arith)) (λ t h. sym (beside_own x z t h)) (in_attained (Weakly x) b))
              (map_every back (every_map (λ k. (back_says (beside x z) k).1) (weakly_same m.fits (λ l h. sym (now l h)) keeps))),
          beside_own x z,
        )

    pub part : Spread n (n + (n - r)) (λ k. Small (B + times_apart) k.limit) p
    part = record {
      by = given m.by;
      fits = given_fits m.fits;
      each = given_small ts m.fits m.each;
      wide = omega arith;
      is_closed = closed_some (rw left at (tighten_closed (suc n) (front_fits n a d sel q r few)));
      into = into;
      onto = onto;
    }

module _ (n : ℕ) (a : List Time) (sel : List ℕ) (q : Selection n a n 1 sel) (ts : TimesSmall n a) {B : ℕ} {d : Matrix} (m : Made n B d) where
  -- after all rows: the preimage
  pub made_preimage : {z : Matrix} → preimage n a d sel ≡ some z → Made n (B + times_apart) z
  made_preimage e =
      let no_row : n + (n - n) ≡ n = omega arith in
      rw no_row at (part n a sel q n (omega arith) ts m (sym (preimage_front n a d sel q) ∙ e))

  -- what the next row adds
  pub next_near : (r : ℕ) → r < n → Every (Near (B + times_apart) n (col sel (suc r))) (row_of n a d sel (suc r))
  unfolding keeps
  next_near r h =
      let before : (l : ℕ) → l ≤ suc r → Chosen n a l (col sel l) = λ l k. cols n a sel q l (omega arith) in
      let now = before (suc r) (omega arith) in
      let room : n * B + times_apart ≤ suc n * (B + times_apart)
      = omega (arith, suc-mul n (B + times_apart), mul-le-mul_left {m = B} {n = B + times_apart} n (omega arith)) in
      let entries = made_small m in
      of_row (Near (B + times_apart) n (col sel (suc r))) n a d (0 ∷ sel) (suc r) (col sel (suc r)) (record {
        attained = λ j k. small (small_mono (omega arith) (slack_small n a ts (suc r) (1 + j) _ (added_small n a ts now)));
        ahead = λ l k. large (inl refl) (small_mono room
            (small_sum (entries (suc r) l (omega arith) (omega arith)) (sized (between_small n a ts (before l (omega arith)) now))));
        back = λ l k. large (inr refl) (small_mono room
            (small_sum (entries l (suc r) (omega arith) (omega arith)) (sized (between_small n a ts now (before l (omega arith))))));
      })
