-- A closed matrix has members in parts of a second: each strict bound is kept by some whole times that keep to all others without
-- their marks, and the sum of such times for all bounds, in as many parts, keeps to all.
use Prim.Native.Nat.{ℕ, suc, ◌≤◌, ◌<◌}
use native.Mathlib.Omega.{arith}
use mathlib.Core.Path.{◌≡◌, refl, ap, ap₂, sym, ◌∙◌}
use mathlib.Core.Bool.{Bool, true, false, ◌||◌}
use mathlib.Core.List.{List, map}
use lib.IntN.{ℤ, pos, ◌+ℤ◌, ◌-ℤ◌, ◌*ℤ◌}
use Rattle.ints.proofs.Integers.{ints, add_ud, sub_ud, pos_ud}
use Rattle.model.specs.Lists.{Every, done, both}
use Rattle.model.specs.Bound as B
use Rattle.model.specs.Bound.{Bound, upto, most, less, LeB, any, fin, Holds, plus, scale}
use Rattle.model.specs.Matrix.{Matrix, entry, Constraint, Member}
use Rattle.model.specs.Conditions.{Closed}
use Rattle.model.proofs.Listed.{every_both}
use Rattle.model.proofs.Entries.{every_bound, at_bound}
use Rattle.model.proofs.Bounds.{bounds, weak, holds_sum, Plain, unbounded, at_most, or_bit, bit_le}
use Rattle.model.proofs.Scale.{scale_plus, scale_zero, scale_le, scale_one, mul_ud}
use Rattle.model.proofs.Attained.{AllPlain, has_member, reaches}
use Rattle.model.proofs.Mapped.{Map, entry_map, map_closed}

-- ---- the two maps
pub scaling : (k : ℕ) → 1 ≤ k → Map (scale k)
unfolding scale
scaling k some = record {
  keeps_none = refl;
  keeps_finite = λ s b. record { mark = s; limit = b *ℤ pos k; is = refl };
  keeps_zero = scale_zero k;
  keeps_sum = scale_plus k;
  keeps_order = scale_le k some;
}

pub weakening : Map weak
unfolding weak plus
weakening = record {
  keeps_none = refl;
  keeps_finite = λ s b. record { mark = false; limit = b; is = refl };
  keeps_zero = refl;
  keeps_sum = sums;
  keeps_order = order;
}
  where
    sums : (b c : Bound) → weak (plus b c) ≡ plus (weak b) (weak c)
    sums B.Bound.none c = refl
    sums (upto s b) B.Bound.none = refl
    sums (upto s b) (upto t c) = refl

    order : {b c : Bound} → LeB b c → LeB (weak b) (weak c)
    order any = any
    order (fin {s} {t} {b} {c} h) = let k : LeB (upto s b) (upto t c) = fin h in omega (bounds, bit_le s, bit_le t)

-- a bound in parts, and without its mark once more, is the bound in one part more
one_part_more : (k : ℕ) (b : Bound) → plus (scale k b) (weak b) ≡ scale (suc k) b
unfolding plus scale weak
one_part_more k B.Bound.none = refl
one_part_more k (upto s b) = ap₂ upto (or_false s) (omega (ints, mul_ud b k, mul_ud b (suc k), add_ud (b *ℤ pos k) b))
  where
    or_false : (s : Bool) → (s || false) ≡ s
    or_false true = refl
    or_false false = refl

weak_first : (k : ℕ) (b : Bound) → plus (scale k (weak b)) b ≡ scale (suc k) b
unfolding plus scale weak
weak_first k B.Bound.none = refl
weak_first k (upto s b) = ap (upto s) (omega (ints, mul_ud b k, mul_ud b (suc k), add_ud (b *ℤ pos k) b))

weak_weak : (b : Bound) → weak (weak b) ≡ weak b
unfolding weak
weak_weak B.Bound.none = refl
weak_weak (upto s b) = refl

pub weak_plain : (b : Bound) → Plain (weak b)
unfolding weak
weak_plain B.Bound.none = unbounded
weak_plain (upto s b) = at_most

-- ---- one bound
module _ (m : ℕ) (d : Matrix) (cl : Closed m d) where
  abbrev W : Matrix
  W = map weak d

  W-closed : Closed m W
  W-closed = map_closed weakening cl

  W-plain : AllPlain m W
  W-plain i j hi hj = rw (entry_map weakening m d i j) (weak_plain (entry m d i j))

  -- there is room for 1 where a bound is strict
  room : (t : Bool) (b c : ℤ) → LeB (most (pos 0)) (plus (less b) (upto t c)) → Holds (pos 1 -ℤ b) (most c)
  unfolding plus
  room t b c h = omega (bounds, add_ud b c, sub_ud (pos 1) b, pos_ud 0, pos_ud 1, or_bit true t)

  -- whole times that keep to it, and to all others without their marks
  keeping : (i j : ℕ) → i < m → j < m → (x : ℕ → ℤ) × Member m W x × Holds (x i -ℤ x j) (entry m d i j)
  unfolding weak
  keeping i j hi hj = go (entry m d i j) (entry m d j i) refl refl
    where
      around : LeB (most (pos 0)) (plus (entry m d i j) (entry m d j i))
      around = rw (cl.diag i hi) at (cl.triangle i i j hi hi hj)

      any_time : (b : Bound) → weak b ≡ b → entry m d i j ≡ b → (x : ℕ → ℤ) × Member m W x × Holds (x i -ℤ x j) b
      any_time b w e = let (x, mem) = has_member m W W-closed W-plain in (x, mem, rw (entry_map weakening m d i j, e, w) at (mem i j hi hj))

      go : (b c : Bound) → entry m d i j ≡ b → entry m d j i ≡ c → (x : ℕ → ℤ) × Member m W x × Holds (x i -ℤ x j) b
      go B.Bound.none c e f = any_time B.Bound.none refl e
      go (upto false b) c e f = any_time (most b) refl e
      go (upto true b) c e f =
          let (x, mem, le) = reaches m W W-closed W-plain j i hj hi (pos 1 -ℤ b) (rw (entry_map weakening m d j i, f) (allowed c f)) in
          (x, mem, omega (bounds, sub_ud (pos 1) b, pos_ud 1, sub_ud (x i) (x j), sub_ud (x j) (x i)))
        where
          allowed : (c : Bound) → entry m d j i ≡ c → Holds (pos 1 -ℤ b) (weak c)
          allowed B.Bound.none f = any
          allowed (upto t c) f = room t b c (rw (e, f) at around)

  -- ---- a list of them
  -- a bound of the matrix
  pub record Of (k : Constraint) : Type 0 where
    pub row_fits : k.row < m
    pub col_fits : k.col < m
    pub is : k.limit ≡ entry m d k.row k.col

  -- x in parts keeps to it
  abbrev pub In : ℕ → (ℕ → ℤ) → Constraint → Type 0
  In parts x k = Holds (x k.row -ℤ x k.col) (scale parts k.limit)

  added : (x y : ℕ → ℤ) → ℕ → ℤ
  added x y i = x i +ℤ y i

  -- times in parts, and whole times, in one part more
  more : (x y : ℕ → ℤ) (i j : ℕ) {b c e : Bound} → Holds (x i -ℤ x j) b → Holds (y i -ℤ y j) c → plus b c ≡ e
      → Holds (added x y i -ℤ added x y j) e
  unfolding added
  more x y i j h k e =
      let u = x i -ℤ x j in
      let v = y i -ℤ y j in
      let sums : (x i +ℤ y i) -ℤ (x j +ℤ y j) ≡ u +ℤ v
      = omega (ints, add_ud (x i) (y i), add_ud (x j) (y j), sub_ud (x i) (x j), sub_ud (y i) (y j), sub_ud (x i +ℤ y i) (x j +ℤ y j), add_ud u v) in
      rw (← e) (holds_sum u v _ h k sums)

  pub record Kept (ks : List Constraint) : Type 0 where
    pub parts : ℕ
    pub some : 1 ≤ parts
    pub times : ℕ → ℤ
    pub weakly : (i j : ℕ) → i < m → j < m → Holds (times i -ℤ times j) (scale parts (weak (entry m d i j)))
    pub all : Every (In parts times) ks

  kept : {ks : List Constraint} → Every Of ks → Kept ks
  kept done =
      let (x, mem) = has_member m W W-closed W-plain in record {
        parts = 1;
        some = omega arith;
        times = x;
        weakly = λ i j hi hj. rw (scale_one, ← entry_map weakening m d i j) (mem i j hi hj);
        all = done;
      }
  kept (both {x = k} o os) =
      let r = kept os in
      let x = r.times in
      let (y, mem, new) = keeping k.row k.col o.row_fits o.col_fits in
      let weak-y : (i j : ℕ) → i < m → j < m → Holds (y i -ℤ y j) (weak (entry m d i j)) = λ i j hi hj. rw (← entry_map weakening m d i j) (mem i j hi hj) in
      let this : In (suc r.parts) (added x y) k
      = more x y k.row k.col (r.weakly _ _ o.row_fits o.col_fits) new (rw (← o.is) (weak_first r.parts k.limit)) in
      record {
        parts = suc r.parts;
        some = omega arith;
        times = added x y;
        weakly = λ i j hi hj. more x y i j (r.weakly i j hi hj) (weak-y i j hi hj)
            (ap (plus (scale r.parts (weak (entry m d i j)))) (sym (weak_weak (entry m d i j))) ∙ one_part_more r.parts (weak (entry m d i j)));
        all = both {x = k} this (every_both (λ l p q.
            more x y l.row l.col q (weak-y _ _ p.row_fits p.col_fits) (rw (← p.is) (one_part_more r.parts l.limit))) os r.all);
      }

  -- ---- all of them
  -- a closed matrix has a member in some parts
  pub inner : (parts : ℕ) × (1 ≤ parts) × (x : ℕ → ℤ) × Member m (map (scale parts) d) x
  inner =
      let r = kept (every_bound Of m d (λ i j hi hj. record { row_fits = hi; col_fits = hj; is = refl })) in (
        r.parts,
        r.some,
        r.times,
        λ i j hi hj. rw (entry_map (scaling r.parts r.some) m d i j) (at_bound (In r.parts r.times) m d r.all i j hi hj),
      )
