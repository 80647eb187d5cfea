-- How large a tightest bound can be. Marks aside, a set is given by constraints on its times x(0) to x(n) and on others, m + 1 in all.
-- Constraints of at most B, those on one time s of at most (r + 1) * B, leave no finite bound beyond (m + 2 r) * B: if two times are
-- further apart, some times are more than B before all the others, and more than (r + 1) * B if s is one of the two, and can be moved
-- by 1 together. The place is found by `interval`, which is given r more numbers above s and r below it, B apart.
use Prim.Native.Nat.{ℕ, zero, suc, ◌+◌, ◌*◌, ◌-◌, ◌≤◌, ◌<◌}
use native.Mathlib.Omega.{arith}
use native.Mathlib.Nat.{suc-mul, zero-mul}
use native.Mathlib.Decide.{dec_lt}
use mathlib.Core.Path.{◌≡◌, refl, sym, ap, ◌∙◌}
use mathlib.Core.Logic.{◌↔◌, ◌⊎◌, inl, inr, ⊎_elim}
use mathlib.Core.Bool.{Bool, true, false, cond}
use mathlib.Core.List.{List, ◌++◌, map, foldl}
use mathlib.Core.Option.{some}
use lib.IntN.{ℤ, pos, neg_ℤ, nat_abs, ◌+ℤ◌, ◌-ℤ◌}
use lib.Signed.{◌≤ℤ◌, ◌<ℤ◌}
use lib.Dec.{leb}
use borrow.Author.Tests.{leb-true, leb-false, le-leb, lt-leb}
use Rattle.ints.proofs.Integers.{up, dn, ints, add_ud, sub_ud, neg_ud, pos_ud, abs_ud}
use Rattle.model.specs.Lists.{Every, done, both}
use Rattle.model.specs.Bound.{Bound, none, upto, most, any, Holds}
use Rattle.model.specs.Matrix.{Matrix, entry, Constraint, constrain, tighten, Member}
use Rattle.model.specs.Conditions.{Closed, Fits, Small, free, sized, AllSmall, Bounded}
use Rattle.model.proofs.Bounds.{bounds, weak}
use Rattle.model.proofs.Listed.{every_map, every_both, every_append, every_split, map_every, of_map_every}
use Rattle.model.proofs.Attained.{AllPlain, meets}
use Rattle.model.proofs.Mapped.{through, entry_map, map_closed, map_some, map_everything}
use Rattle.model.proofs.Inner.{weakening, weak_plain}
use Rattle.model.proofs.Closed.{everything_closed}
use Rattle.model.proofs.Members.{everything_member}
use Rattle.model.proofs.Zones.{Keeps, closed, all_closed, all_in}
use Rattle.model.proofs.Patterns.{closed_some}
use Rattle.model.proofs.Gap.{interval}

-- ---- the numbers among which the interval is found
module _ (m B r : ℕ) (y : ℕ → ℕ) (s : ℕ) (hs : s < suc m) where
  -- y 0 to y m, then r above y s, then r below it
  abbrev ladder : ℕ → ℕ
  ladder t = cond (leb t m) (y t) (cond (leb t (m + r)) (y s + (t - m) * B) (y s - (t - (m + r)) * B))

  here : (t : ℕ) → t < suc m → ladder t ≡ y t
  here t h = rw (le-leb t m (omega arith)) refl

  above : (j : ℕ) → 1 ≤ j → j ≤ r → ladder (m + j) ≡ y s + j * B
  above j l u =
      let e : m + j - m ≡ j = omega arith in
      rw (lt-leb (m + j) m (omega arith), le-leb (m + j) (m + r) (omega arith), e) refl

  below : (j : ℕ) → 1 ≤ j → ladder (m + r + j) ≡ y s - j * B
  below j l =
      let e : m + r + j - (m + r) ≡ j = omega arith in
      rw (lt-leb (m + r + j) m (omega arith), lt-leb (m + r + j) (m + r) (omega arith), e) refl

  -- where none of them lies in (c, c + B], y s is r * B further from it
  module _ (c : ℕ) (clear : (t : ℕ) → t < suc (m + r + r) → c < ladder t → c + B < ladder t) where
    clear_of : (t : ℕ) → t < suc m → c < y t → c + B < y t
    clear_of t h l = rw (here t h) at (clear t (omega arith) (rw (here t h) l))

    far_below : c < y s → (j : ℕ) → j ≤ r → c + B < y s - j * B
    far_below l zero h = rw (zero-mul B) (omega (arith, clear_of s hs l))
    far_below l (suc j) h =
        let is = below (suc j) (omega arith) in
        rw is at (clear (m + r + suc j) (omega arith) (rw is (omega (arith, far_below l j (omega arith), suc-mul j B))))

    far_above : y s ≤ c → (j : ℕ) → j ≤ r → y s + j * B ≤ c
    far_above l zero h = rw (zero-mul B) (omega arith)
    far_above l (suc j) h = go (far_above l j (omega arith)) (dec_lt c (y s + suc j * B))
      where
        go : y s + j * B ≤ c → Dec (c < y s + suc j * B) → y s + suc j * B ≤ c
        go before (no ne) = omega arith
        go before (yes k) =
            let is = above (suc j) (omega arith) h in
            let beyond = rw is at (clear (m + suc j) (omega arith) (rw is k)) in
            absurd (omega (arith, before, beyond, suc-mul j B))

-- ---- times
-- one of the two is s
abbrev On : ℕ → ℕ → ℕ → Type 0
On s a b = (a ≡ s) ⊎ (b ≡ s)

-- a is more than W before b
abbrev Apart : (ℕ → ℤ) → ℕ → ℕ → ℕ → Type 0
Apart x W a b = (x a +ℤ pos W) <ℤ x b

-- the times that are early are so far before those that are not
record Split (m B r s : ℕ) (x : ℕ → ℤ) (early : ℕ → Bool) : Type 0 where
  all : (a b : ℕ) → a < suc m → b < suc m → early a ≡ true → early b ≡ false → Apart x B a b
  on : (a b : ℕ) → a < suc m → b < suc m → On s a b → early a ≡ true → early b ≡ false → Apart x (suc r * B) a b

-- at most c after v, and more than c + W after v: more than W apart
more_apart : (a b v : ℤ) (c W : ℕ) → up (a -ℤ v) ≤ c → c + W < up (b -ℤ v) → (a +ℤ pos W) <ℤ b
more_apart a b v c W ha hb = omega (ints, sub_ud a v, sub_ud b v, abs_ud (b -ℤ v), add_ud a (pos W), pos_ud W)

-- two times that are more than (m + 2 r) * B apart can be separated
separate : (m B r s : ℕ) (x : ℕ → ℤ) (p q : ℕ) → s < suc m → p < suc m → q < suc m → (m + r + r) * B < up (x q -ℤ x p)
    → (early : ℕ → Bool) × Split m B r s x early × early p ≡ true × early q ≡ false
separate m B r s x p q hs hp hq far =
    let y : ℕ → ℕ = λ t. up (x t -ℤ x p) in
    let start : y p ≡ 0 = omega (ints, sub_ud (x p) (x p), abs_ud (x p -ℤ x p)) in
    let at_p = here m B r y s hs p hp in
    let at-q = here m B r y s hs q hq in
    let (c, l, clear) = interval (m + r + r) B (ladder m B r y s hs) p q (omega arith) (omega arith) (rw at_p start) (rw at-q far) in
    let soon : (t : ℕ) → leb (y t) c ≡ true → y t ≤ c = λ t. leb-true (y t) c in
    let late : (t : ℕ) → leb (y t) c ≡ false → c < y t = λ t. leb-false (y t) c in
    let beyond : c + B < y q = rw at-q at l in (
      λ t. leb (y t) c,
      record {
        all = λ a b ha hb ea eb. more_apart (x a) (x b) (x p) c B (soon a ea) (clear_of m B r y s hs c clear b hb (late b eb));
        on = λ a b ha hb o ea eb. elim o [
          | inl e ↦
              let low : y a + r * B ≤ c = rw e (far_above m B r y s hs c clear (rw e at (soon a ea)) r (omega arith)) in
              let high = clear_of m B r y s hs c clear b hb (late b eb) in
              more_apart (x a) (x b) (x p) (y a) (suc r * B) (omega arith) (omega (arith, suc-mul r B))
          | inr e ↦
              let high : c + B < y b - r * B = rw e (far_below m B r y s hs c clear (rw e at (late b eb)) r (omega arith)) in
              more_apart (x a) (x b) (x p) c (suc r * B) (soon a ea) (omega (arith, suc-mul r B))
        ];
      },
      le-leb (y p) c (omega arith),
      lt-leb (y q) c (omega arith),
    )

-- the early times moved by e
moved : (ℕ → ℤ) → (ℕ → Bool) → ℤ → ℕ → ℤ
moved x early e t = cond (early t) (x t +ℤ e) (x t)

-- ---- constraints without their marks
abbrev pub Weakly : (ℕ → ℤ) → Constraint → Type 0
Weakly x k = Keeps x (through weak k)

-- a constraint of at most B, or one on s of at most (r + 1) * B
pub data Near (B r s : ℕ) (k : Constraint) : Type 0 where
  small : Small B k.limit → Near B r s k
  large : On s k.row k.col → Small (suc r * B) k.limit → Near B r s k

-- where e is at most 1, the times keep to each such constraint that they kept to before
module _ {m B r s : ℕ} {x : ℕ → ℤ} {early : ℕ → Bool} {e : ℤ} (split : Split m B r s x early) (le : e ≤ℤ pos 1) where
  -- one of at most W, if the early times are more than W before the others
  moved_holds : (a b : ℕ) {W : ℕ} {limit : Bound} → Small W limit
      → (early a ≡ true → early b ≡ false → Apart x W a b) → (early b ≡ true → early a ≡ false → Apart x W b a)
      → Holds (x a -ℤ x b) (weak limit) → Holds (moved x early e a -ℤ moved x early e b) (weak limit)
  unfolding moved weak
  moved_holds a b free ab ba h = any
  moved_holds a b {W} (sized {z} l) ab ba h = go (early a) (early b) refl refl
    where
      go : (u v : Bool) → early a ≡ u → early b ≡ v → Holds (cond u (x a +ℤ e) (x a) -ℤ cond v (x b +ℤ e) (x b)) (most z)
      go true true ea eb = omega (bounds, add_ud (x a) e, add_ud (x b) e, sub_ud (x a +ℤ e) (x b +ℤ e), sub_ud (x a) (x b))
      go true false ea eb = omega (bounds, ab ea eb, add_ud (x a) e, sub_ud (x a +ℤ e) (x b), add_ud (x a) (pos W), pos_ud W, pos_ud 1, abs_ud z)
      go false true ea eb = absurd (omega (bounds, ba eb ea, sub_ud (x a) (x b), add_ud (x b) (pos W), pos_ud W, abs_ud z))
      go false false ea eb = h

  moved_near : {k : Constraint} → Fits (suc m) k → Near B r s k → Weakly x k → Weakly (moved x early e) k
  moved_near {k} f (small l) h =
      moved_holds k.row k.col l
      (split.all k.row k.col f.row_fits f.col_fits) (split.all k.col k.row f.col_fits f.row_fits) h
  moved_near {k} f (large o l) h =
      moved_holds k.row k.col l
      (split.on k.row k.col f.row_fits f.col_fits o) (split.on k.col k.row f.col_fits f.row_fits (⊎_elim inr inl o)) h

  -- a list of them
  moved_keeps : {ks : List Constraint} → Every (Fits (suc m)) ks → Every (Near B r s) ks → Every (Weakly x) ks → Every (Weakly (moved x early e)) ks
  moved_keeps done done done = done
  moved_keeps (both f fs) (both n ns) (both h hs) = both (moved_near f n h) (moved_keeps fs ns hs)

module _ {m B r s : ℕ} {ks : List Constraint} (hs : s < suc m) (fits : Every (Fits (suc m)) ks) (near : Every (Near B r s) ks)
    (x : ℕ → ℤ) (keeps : Every (Weakly x) ks) where
  -- of two times that are more than (m + 2 r) * B apart, the earlier can be moved by e while the later stays
  move : (p q : ℕ) → p < suc m → q < suc m → (m + r + r) * B < up (x q -ℤ x p) → (e : ℤ) → e ≤ℤ pos 1
      → (y : ℕ → ℤ) × Every (Weakly y) ks × y p ≡ (x p +ℤ e) × y q ≡ x q
  unfolding moved
  move p q hp hq far e le =
      let (early, split, lp, lq) = separate m B r s x p q hs hp hq far in
      (moved x early e, moved_keeps split le fits near keeps, rw lp, rw lq)

  -- the greatest difference of two times is no larger: a larger one still grows, as the earlier time moves by 1 or -1
  greatest_small : (i j : ℕ) → i < suc m → j < suc m → ((y : ℕ → ℤ) → Every (Weakly y) ks → Holds (y i -ℤ y j) (most (x i -ℤ x j)))
      → nat_abs (x i -ℤ x j) ≤ (m + r + r) * B
  greatest_small i j hi hj greatest = omega (arith, not_above, not_below, abs_ud (x i -ℤ x j))
    where
      not_above : ¬ ((m + r + r) * B < up (x i -ℤ x j))
      not_above h =
          let (y, k, ej, ei) = move j i hj hi h (neg_ℤ (pos 1)) (omega (ints, neg_ud (pos 1), pos_ud 1)) in
          omega (bounds, greatest y k, sub_ud (x i) (x j), sub_ud (y i) (y j), add_ud (x j) (neg_ℤ (pos 1)), neg_ud (pos 1), pos_ud 1)

      not_below : ¬ ((m + r + r) * B < dn (x i -ℤ x j))
      not_below h =
          let (y, k, ei, ej) = move i j hi hj (omega (ints, sub_ud (x i) (x j), sub_ud (x j) (x i), abs_ud (x i -ℤ x j))) (pos 1) (omega ints) in
          omega (bounds, greatest y k, sub_ud (x i) (x j), sub_ud (y i) (y j), add_ud (x i) (pos 1), pos_ud 1)

-- ---- sets that are given by constraints
-- what further constraints leave of a set
left_weakly : {m : ℕ} {z c : Matrix} → Closed m z → {ks : List Constraint} → Every (Fits m) ks → foldl (constrain m) (some z) ks ≡ some c
    → (x : ℕ → ℤ) → Member m (map weak c) x ↔ (Member m (map weak z) x × Every (Weakly x) ks)
left_weakly {m} {z} cl {ks} fits e x =
    let weakly-fits : Every (Fits m) (map (through weak) ks)
    = map_every (through weak) (every_map (λ k f. record { row_fits = f.row_fits; col_fits = f.col_fits }) fits) in
    let zone = rw (map_some weakening m ks (some z) e) at (all_in m (closed (map_closed weakening cl)) weakly-fits x) in
    (λ h. let (u, k) = zone.0 h in (u, of_map_every (through weak) ks k), λ h. zone.1 (h.0, map_every (through weak) h.1))

-- and of all times
pub tighten_weakly : {m : ℕ} {c : Matrix} {ks : List Constraint} → Every (Fits m) ks → tighten m ks ≡ some c → (x : ℕ → ℤ)
    → Member m (map weak c) x ↔ Every (Weakly x) ks
unfolding tighten
tighten_weakly {m} fits e x =
    let zone = left_weakly (everything_closed m) fits e x in
    (λ h. (zone.0 h).1, λ h. zone.1 (rw (map_everything weakening m) (everything_member m x), h))

-- other times that are the same
pub weakly_same : {m : ℕ} {x y : ℕ → ℤ} {ks : List Constraint} → Every (Fits m) ks → ((t : ℕ) → t < m → x t ≡ y t)
    → Every (Weakly x) ks → Every (Weakly y) ks
weakly_same f same h = every_both (λ k g u. rw (same k.row g.row_fits, same k.col g.col_fits) at u) f h

-- marks aside, z has the first n + 1 times of those that keep to constraints on m + 1 times, each with Q
pub record Spread (n m : ℕ) (Q : Constraint → Type 0) (z : Matrix) : Type 0 where
  pub by : List Constraint
  pub fits : Every (Fits (suc m)) by
  pub each : Every Q by
  pub wide : n ≤ m
  pub is_closed : Closed (suc n) z
  pub into : (w : ℕ → ℤ) → Every (Weakly w) by → Member (suc n) (map weak z) w
  pub onto : (x : ℕ → ℤ) → Member (suc n) (map weak z) x → (w : ℕ → ℤ) × Every (Weakly w) by × ((t : ℕ) → t < suc n → w t ≡ x t)

-- all times of constraints of at most B on them
abbrev pub Made : ℕ → ℕ → Matrix → Type 0
Made n B z = Spread n n (λ k. Small B k.limit) z

pub made : {n B : ℕ} {z : Matrix} {ks : List Constraint} → Every (Fits (suc n)) ks → AllSmall B ks → tighten (suc n) ks ≡ some z → Made n B z
unfolding tighten
made {n} {ks} fits limits e = record {
  by = ks;
  fits = fits;
  each = limits;
  wide = omega arith;
  is_closed = closed_some (rw e at (all_closed (suc n) (closed (everything_closed (suc n))) fits));
  into = λ w. (tighten_weakly fits e w).1;
  onto = λ x mem. (x, (tighten_weakly fits e x).0 mem, λ t h. refl);
}

-- each with another property
pub spread_each : {n m : ℕ} {Q R : Constraint → Type 0} {z : Matrix} → ((k : Constraint) → Q k → R k) → Spread n m Q z → Spread n m R z
spread_each f sp = record {
  by = sp.by;
  fits = sp.fits;
  each = every_map f sp.each;
  wide = sp.wide;
  is_closed = sp.is_closed;
  into = sp.into;
  onto = sp.onto;
}

-- further constraints on its times
pub spread_more : {n m : ℕ} {Q : Constraint → Type 0} {z c : Matrix} {ks : List Constraint} → Spread n m Q z → Every (Fits (suc n)) ks → Every Q ks
    → foldl (constrain (suc n)) (some z) ks ≡ some c → Spread n m Q c
spread_more {n} {m} {ks} sp fits each e = record {
  by = sp.by ++ ks;
  fits = every_append sp.fits (every_map
      (λ k f. record { row_fits = omega (arith, f.row_fits, sp.wide); col_fits = omega (arith, f.col_fits, sp.wide) }) fits);
  each = every_append sp.each each;
  wide = sp.wide;
  is_closed = closed_some (rw e at (all_closed (suc n) (closed sp.is_closed) fits));
  into = λ w k. let (before, more) = every_split sp.by ks k in (left_weakly sp.is_closed fits e w).1 (sp.into w before, more);
  onto = λ x mem.
      let (before, more) = (left_weakly sp.is_closed fits e x).0 mem in
      let (w, keeps, same) = sp.onto x before in
      (w, every_append keeps (weakly_same fits (λ t h. sym (same t h)) more), same);
}

-- no bound without its mark is strict
pub weakly_plain : (m : ℕ) (z : Matrix) → AllPlain m (map weak z)
weakly_plain m z i j hi hj = rw (entry_map weakening m z i j) (weak_plain (entry m z i j))

-- none of its finite bounds passes (m + 2 r) * B
pub spread_small : {n m B r s : ℕ} {z : Matrix} → s < suc m → Spread n m (Near B r s) z → Bounded (suc n) ((m + r + r) * B) z
unfolding weak
spread_small {n} {m} {B} {r} {s} {z} hs sp i j hi hj = go (entry (suc n) z i j) refl
  where
    go : (b : Bound) → entry (suc n) z i j ≡ b → Small ((m + r + r) * B) b
    go none e = free
    go (upto t v) e =
        let at : entry (suc n) (map weak z) i j ≡ most v = entry_map weakening (suc n) z i j ∙ ap weak e in
        let (x, mem, met) = meets (suc n) (map weak z) (map_closed weakening sp.is_closed) (weakly_plain (suc n) z) i j hi hj v at in
        let (w, keeps, same) = sp.onto x mem in
        let difference : w i -ℤ w j ≡ v = rw (same i hi, same j hj) met in
        sized (rw difference at (greatest_small hs sp.fits sp.each w keeps i j (omega (arith, sp.wide)) (omega (arith, sp.wide))
        (λ y k. rw (at, ← difference) at (sp.into y k i j hi hj))))

pub made_small : {n B : ℕ} {z : Matrix} → Made n B z → Bounded (suc n) (n * B) z
made_small {n} {B} m =
    let e : n + 0 + 0 ≡ n = omega arith in
    rw e at (spread_small {B = B} {r = 0} {s = 0} (omega arith) (spread_each (λ k. small) m))
