-- The laws of bounds: an ordered commutative monoid with the tighter of two, and what it is for a number to keep to one.
-- The theory goes by these alone: another kind of bound needs these laws anew and nothing else.
use Prim.Native.Nat.{◌+◌, ◌≤◌}
use mathlib.Core.Path.{◌≡◌, refl, ap, ap₂, sym, ◌∙◌}
use mathlib.Core.Logic.{◌↔◌}
use mathlib.Core.Bool.{Bool, true, false, cond, ◌||◌}
use lib.IntN.{ℤ, pos, neg_ℤ, ◌+ℤ◌, ◌-ℤ◌}
use lib.Signed.{◌≤ℤ◌, ◌<ℤ◌, le_z}
use Rattle.model.specs.Bound as B
use Rattle.model.specs.Bound.{Bound, upto, most, less, bit, halves, LeB, any, fin, Holds, plus, tighter, negative}
use Rattle.ints.proofs.Integers.{impossible, up, dn, ints, add_ud, sub_ud, neg_ud, pos_ud}

-- ---- marks, and bounds in halves, for omega
pub bit_le : (s : Bool) → bit s ≤ 1
unfolding bit
bit_le true = omega ints
bit_le false = omega ints

pub record Or (s t : Bool) : Type 0 where
  pub left : bit s ≤ bit (s || t)
  pub right : bit t ≤ bit (s || t)
  pub sum : bit (s || t) ≤ bit s + bit t
  pub one : bit (s || t) ≤ 1

pub or_bit : (s t : Bool) → Or s t
unfolding bit
or_bit true true = omega ints
or_bit true false = omega ints
or_bit false true = omega ints
or_bit false false = omega ints

pub record Halves (s : Bool) (b : ℤ) : Type 0 where
  pub exact : up (halves s b) + (dn b + dn b + bit s) ≡ up b + up b + dn (halves s b)
  pub mark : bit s ≤ 1

pub halves_ud : (s : Bool) (b : ℤ) → Halves s b
unfolding halves
halves_ud s b = omega (ints, add_ud b b, pos_ud (bit s), sub_ud (b +ℤ b) (pos (bit s)), bit_le s)

pub same_bit : (s t : Bool) → bit s ≡ bit t → s ≡ t
unfolding bit
same_bit true true e = refl
same_bit false false e = refl
same_bit true false e = absurd (omega ints)
same_bit false true e = absurd (omega ints)

-- the same in halves is the same
pub same_halves : {s t : Bool} {b c : ℤ} → halves s b ≡ halves t c → upto s b ≡ upto t c
same_halves {s} {t} {b} {c} e =
    let z : b ≡ c = omega (ints, halves_ud s b, halves_ud t c) in
    ap₂ upto (same_bit s t (omega (ints, halves_ud s b, halves_ud t c))) z

-- omega's way in and out of the order at two finite bounds
pub le_b_nat : {s t : Bool} {a b : ℤ} → LeB (upto s a) (upto t b) → (up a + up a) + (dn b + dn b) + bit t ≤ (up b + up b) + (dn a + dn a) + bit s
le_b_nat {s} {t} {a} {b} (fin h) = omega (ints, halves_ud s a, halves_ud t b)

pub nat_le_b : {s t : Bool} {a b : ℤ} → (up a + up a) + (dn b + dn b) + bit t ≤ (up b + up b) + (dn a + dn a) + bit s → LeB (upto s a) (upto t b)
nat_le_b {s} {t} {a} {b} h = fin {s = s} {t = t} {b = a} {c = b} (omega (ints, halves_ud s a, halves_ud t b))

pub bit_most : bit false ≡ 0
unfolding bit
bit_most = refl

pub bit_less : bit true ≡ 1
unfolding bit
bit_less = refl

pub ruleset bounds = (ints, le_b_nat, nat_le_b, bit_most, bit_less)

pub le_b_refl : (b : Bound) → LeB b b
le_b_refl B.Bound.none = any
le_b_refl (upto s b) = omega bounds

pub le_b_trans : {b c d : Bound} → LeB b c → LeB c d → LeB b d
le_b_trans h any = any
le_b_trans (fin {s} {b} h) (fin {t} {c} k) = fin {s = s} {t = t} {b = b} {c = c} (omega ints)

pub le_b_antisym : {b c : Bound} → LeB b c → LeB c b → b ≡ c
le_b_antisym any any = refl
le_b_antisym (fin h) (fin k) = same_halves (omega ints)

-- what it is to keep to a bound: that the definition says this is checked here, and nothing else cites it
pub holds_most : (v b : ℤ) → Holds v (most b) ↔ v ≤ℤ b
holds_most v b = (λ h. omega bounds, λ h. omega bounds)

pub holds_less : (v b : ℤ) → Holds v (less b) ↔ v <ℤ b
holds_less v b = (λ h. omega bounds, λ h. omega bounds)

-- the sum: monotone, and a commutative monoid
pub plus_mono : {b c d e : Bound} → LeB b c → LeB d e → LeB (plus b d) (plus c e)
unfolding plus
plus_mono any k = any
plus_mono (fin h) any = any
plus_mono (fin {s} {t} {b} {c} h) (fin {s = p} {t = q} {b = d} {c = e} k) =
    omega (bounds, add_ud b d, add_ud c e, halves_ud s b, halves_ud t c, halves_ud p d, halves_ud q e, or_bit s p, or_bit t q)

or_assoc : (s t u : Bool) → ((s || t) || u) ≡ (s || (t || u))
or_assoc true t u = refl
or_assoc false t u = refl

or_comm : (s t : Bool) → (s || t) ≡ (t || s)
or_comm true true = refl
or_comm true false = refl
or_comm false true = refl
or_comm false false = refl

pub plus_assoc : (b c d : Bound) → plus (plus b c) d ≡ plus b (plus c d)
unfolding plus
plus_assoc B.Bound.none c d = refl
plus_assoc (upto s b) B.Bound.none d = refl
plus_assoc (upto s b) (upto t c) B.Bound.none = refl
plus_assoc (upto s b) (upto t c) (upto u d) = ap₂ upto (or_assoc s t u) (omega (ints, add_ud b c, add_ud (b +ℤ c) d, add_ud c d, add_ud b (c +ℤ d)))

pub plus_comm : (b c : Bound) → plus b c ≡ plus c b
unfolding plus
plus_comm B.Bound.none B.Bound.none = refl
plus_comm B.Bound.none (upto t c) = refl
plus_comm (upto s b) B.Bound.none = refl
plus_comm (upto s b) (upto t c) = ap₂ upto (or_comm s t) (omega (ints, add_ud b c, add_ud c b))

pub plus_left_comm : (b c d : Bound) → plus b (plus c d) ≡ plus c (plus b d)
plus_left_comm b c d = sym (plus_assoc b c d) ∙ ap (λ (e : Bound). plus e d) (plus_comm b c) ∙ plus_assoc c b d

pub plus_none : (b : Bound) → plus b B.Bound.none ≡ B.Bound.none
unfolding plus
plus_none B.Bound.none = refl
plus_none (upto s b) = refl

pub plus_zero : (b : Bound) → plus (most (pos 0)) b ≡ b
unfolding plus up dn
plus_zero B.Bound.none = refl
plus_zero (upto s b) = ap (upto s) (omega (ints, add_ud (pos 0) b))

-- the tighter of two is one of them, and at least as tight as both
pub tighter_either : (P : Bound → Type 0) (b c : Bound) → P b → P c → P (tighter b c)
unfolding tighter
tighter_either P B.Bound.none c p q = q
tighter_either P (upto s b) B.Bound.none p q = p
tighter_either P (upto s b) (upto t c) p q = elim (le_z (halves s b) (halves t c)) as (λ r. P (cond r (upto s b) (upto t c))) [ true ↦ p | false ↦ q ]

pub tighter_left : (b c : Bound) → LeB (tighter b c) b
unfolding tighter
tighter_left B.Bound.none c = any
tighter_left (upto s b) B.Bound.none = le_b_refl (upto s b)
tighter_left (upto s b) (upto t c) = go (le_z (halves s b) (halves t c)) refl
  where
    go : (r : Bool) → le_z (halves s b) (halves t c) ≡ r → LeB (cond r (upto s b) (upto t c)) (upto s b)
    go true e = le_b_refl (upto s b)
    go false e = omega (bounds, halves_ud s b, halves_ud t c)

pub tighter_right : (b c : Bound) → LeB (tighter b c) c
unfolding tighter
tighter_right B.Bound.none c = le_b_refl c
tighter_right (upto s b) B.Bound.none = any
tighter_right (upto s b) (upto t c) = go (le_z (halves s b) (halves t c)) refl
  where
    go : (r : Bool) → le_z (halves s b) (halves t c) ≡ r → LeB (cond r (upto s b) (upto t c)) (upto t c)
    go true e = omega (bounds, halves_ud s b, halves_ud t c)
    go false e = le_b_refl (upto t c)

pub tighter_of_le : {b c : Bound} → LeB b c → tighter b c ≡ b
tighter_of_le {b} {c} h = le_b_antisym (tighter_left b c) (tighter_either (LeB b) b c (le_b_refl b) h)

-- one that is at least as tight as both, and is one of them, is the tighter
pub tighter_is : {b c d : Bound} → LeB d b → LeB d c → LeB (tighter b c) d → tighter b c ≡ d
tighter_is {b} {c} {d} l r h = le_b_antisym h (tighter_either (LeB d) b c l r)

-- the test for a negative bound
pub negative_false : (b : Bound) → negative b ≡ false → LeB (most (pos 0)) b
unfolding negative
negative_false B.Bound.none e = any
negative_false (upto s b) e = omega (bounds, halves_ud s b, pos_ud 0)

pub negative_true : (b : Bound) → negative b ≡ true → LeB (most (pos 0)) b → ⊥
unfolding negative
negative_true B.Bound.none e h = impossible cc
negative_true (upto s b) e h = omega (bounds, halves_ud s b, pos_ud 0)

pub not_negative : {b : Bound} → LeB (most (pos 0)) b → negative b ≡ false
not_negative {b} h = go (negative b) refl
  where
    go : (t : Bool) → negative b ≡ t → t ≡ false
    go true e = absurd (negative_true b e h)
    go false e = refl

pub is_negative : {b : Bound} → (LeB (most (pos 0)) b → ⊥) → negative b ≡ true
is_negative {b} h = go (negative b) refl
  where
    go : (t : Bool) → negative b ≡ t → t ≡ true
    go true e = refl
    go false e = absurd (h (negative_false b e))

-- ---- numbers that keep to a bound

-- no difference keeps to 0
pub holds_none : (x : ℤ) → Holds (x -ℤ x) (most (pos 0))
unfolding up dn
holds_none x = omega (bounds, sub_ud x x)

-- a sum keeps to the sum of the bounds
pub holds_sum : (u v w : ℤ) {b c : Bound} → Holds u b → Holds v c → w ≡ u +ℤ v → Holds w (plus b c)
unfolding plus
holds_sum u v w h k e = rw e (plus_mono h k)

-- a number moves across
pub across : (v a : ℤ) (b : Bound) → Holds v (plus b (most a)) ↔ Holds (v -ℤ a) b
unfolding plus
across v a B.Bound.none = (λ h. any, λ h. any)
across v a (upto s b) = (λ h. omega (bounds, add_ud b a, sub_ud v a, or_bit s false), λ h. omega (bounds, add_ud b a, sub_ud v a, or_bit s false))

pub over : (v a : ℤ) (b : Bound) → Holds (neg_ℤ v) (plus b (most (neg_ℤ a))) → Holds (a -ℤ v) b
over v a b h =
    let e : neg_ℤ v -ℤ neg_ℤ a ≡ a -ℤ v = omega (ints, neg_ud v, neg_ud a, sub_ud (neg_ℤ v) (neg_ℤ a), sub_ud a v) in
    rw e at ((across (neg_ℤ v) (neg_ℤ a) b).0 h)

-- ---- bounds that are not strict: for these the numbers are enough
-- the same bound without its mark
unfoldable pub weak : Bound → Bound
weak B.Bound.none = B.Bound.none
weak (upto s b) = most b

pub data Plain : Bound → Type 0 where
  unbounded : Plain B.Bound.none
  at_most : {b : ℤ} → Plain (most b)

pub plus_plain : {b c : Bound} → Plain b → Plain c → Plain (plus b c)
unfolding plus
plus_plain unbounded q = unbounded
plus_plain at_most unbounded = unbounded
plus_plain at_most at_most = at_most

-- a number between two bounds that leave room
pub between : {u w : Bound} → Plain u → Plain w → LeB (most (pos 0)) (plus u w) → (v : ℤ) × Holds v u × Holds (neg_ℤ v) w
unfolding plus up dn
between unbounded unbounded h = (pos 0, any, any)
between unbounded (at_most {b = w}) h = (neg_ℤ w, any, omega (bounds, neg_ud w, neg_ud (neg_ℤ w)))
between (at_most {b = u}) unbounded h = (u, le_b_refl (most u), any)
between (at_most {b = u}) (at_most {b = w}) h = (u, le_b_refl (most u), omega (bounds, neg_ud u, add_ud u w))
