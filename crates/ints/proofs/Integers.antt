-- The rules by which omega, which reads natural numbers alone, proves linear facts of integers: z is up z - dn z, and one of the two is 0.
-- `omega (ints, add_ud x y, ..)`: list one `-ud` for each sum, difference, negation, `pos n` and `nat_abs` that the fact names, inner ones too.
use mathlib.Core.Path.{◌≡◌, refl, sym, ap, subst}
use mathlib.Core.Bool.{Bool, true, false, cond}
use Prim.Native.Nat.{ℕ, zero, suc, ◌+◌, ◌-◌, ◌^◌, ◌≤◌, ◌<◌, min}
use native.Mathlib.Omega.{arith}
use borrow.Author.Tests.{ltb-true, ltb-false, leb-false}
use lib.Dec.{T, ltb, ltb→lt, leb→le, le→leb, lt→ltb}
use lib.IntN.{ℤ, pos, negsuc, neg_ℤ, nat_abs, ◌+ℤ◌, ◌-ℤ◌}
use lib.Signed.{◌≤ℤ◌, ◌<ℤ◌, le_z, lt_z, lt_z_no}
use mir.Syntax.{Width}
use mir.Val.{SFits, hbits}

-- cases that exclude each other, found by `cc`: `impossible cc`
pub impossible {ℓ} : {A : Type ℓ} → ◌≡◌ {A = ℕ} 0 1 → A
impossible z = absurd (omega arith)

unfoldable pub up : ℤ → ℕ
up (pos n) = n
up (negsuc n) = 0

unfoldable pub dn : ℤ → ℕ
dn (pos n) = 0
dn (negsuc n) = suc n

-- ---- the order and equality, both ways
pub le_nat : {a b : ℤ} → a ≤ℤ b → up a + dn b ≤ up b + dn a
unfolding up dn
le_nat {a = pos a} {b = pos b} h = omega (arith, leb→le)
le_nat {a = pos a} {b = negsuc b} h = absurd h.le
le_nat {a = negsuc a} {b = pos b} h = omega arith
le_nat {a = negsuc a} {b = negsuc b} h = omega (arith, leb→le)

pub nat_le : {a b : ℤ} → up a + dn b ≤ up b + dn a → a ≤ℤ b
unfolding up dn
nat_le {a = pos a} {b = pos b} h = omega (arith, le→leb)
nat_le {a = pos a} {b = negsuc b} h = absurd (omega arith)
nat_le {a = negsuc a} {b = pos b} h = record { le = tt }
nat_le {a = negsuc a} {b = negsuc b} h = omega (arith, le→leb)

pub lt_nat : {a b : ℤ} → a <ℤ b → up a + dn b < up b + dn a
unfolding up dn
lt_nat {a = pos a} {b = pos b} h = omega (arith, ltb→lt)
lt_nat {a = pos a} {b = negsuc b} h = absurd h.lt
lt_nat {a = negsuc a} {b = pos b} h = omega arith
lt_nat {a = negsuc a} {b = negsuc b} h = omega (arith, ltb→lt)

pub nat_lt : {a b : ℤ} → up a + dn b < up b + dn a → a <ℤ b
unfolding up dn
nat_lt {a = pos a} {b = pos b} h = omega (arith, lt→ltb)
nat_lt {a = pos a} {b = negsuc b} h = absurd (omega arith)
nat_lt {a = negsuc a} {b = pos b} h = record { lt = tt }
nat_lt {a = negsuc a} {b = negsuc b} h = omega (arith, lt→ltb)

pub eq_nat : {a b : ℤ} → a ≡ b → up a + dn b ≡ up b + dn a
eq_nat e = omega (arith, ap up e, ap dn e)

pub nat_eq : {a b : ℤ} → up a + dn b ≡ up b + dn a → a ≡ b
unfolding up dn
nat_eq {a = pos a} {b = pos b} h = ap pos (omega arith)
nat_eq {a = pos a} {b = negsuc b} h = absurd (omega arith)
nat_eq {a = negsuc a} {b = pos b} h = absurd (omega arith)
nat_eq {a = negsuc a} {b = negsuc b} h = ap negsuc (omega arith)

-- ---- a test passed or failed
pub le_z_true : (a b : ℤ) → le_z a b ≡ true → up a + dn b ≤ up b + dn a
le_z_true a b e = le_nat {a = a} {b = b} (record { le = rw e tt })

pub lt_z_true : (a b : ℤ) → lt_z a b ≡ true → up a + dn b < up b + dn a
lt_z_true a b e = lt_nat {a = a} {b = b} (record { lt = rw e tt })

pub lt_z_false : (a b : ℤ) → lt_z a b ≡ false → up b + dn a ≤ up a + dn b
lt_z_false a b e = le_nat (lt_z_no {a = a} {b = b} (rw e tt))

pub le_z_false : (a b : ℤ) → le_z a b ≡ false → up b + dn a < up a + dn b
unfolding up dn
le_z_false (pos a) (pos b) e = omega (arith, leb-false)
le_z_false (pos a) (negsuc b) e = omega arith
le_z_false (negsuc a) (pos b) e = absurd (subst T e tt)
le_z_false (negsuc a) (negsuc b) e = omega (arith, leb-false)

pub nat_le_z : (a b : ℤ) → up a + dn b ≤ up b + dn a → le_z a b ≡ true
nat_le_z a b h = go (le_z a b) refl
  where
    go : (t : Bool) → le_z a b ≡ t → t ≡ true
    go true e = refl
    go false e = absurd (omega (arith, le_z_false a b e))

pub nat_gt_z : (a b : ℤ) → up b + dn a < up a + dn b → le_z a b ≡ false
nat_gt_z a b h = go (le_z a b) refl
  where
    go : (t : Bool) → le_z a b ≡ t → t ≡ false
    go true e = absurd (omega (arith, le_z_true a b e))
    go false e = refl

-- tests that pass and fail together
pub same_test : (s t : Bool) → (s ≡ true → t ≡ true) × (s ≡ false → t ≡ false) → s ≡ t
same_test true t h = sym (h.0 refl)
same_test false t h = sym (h.1 refl)

-- ---- natural numbers, sizes, negations, sums and differences
pub record Pos (n : ℕ) : Type 0 where
  pub up_is : up (pos n) ≡ n
  pub dn_is : dn (pos n) ≡ 0

pub pos_ud : (n : ℕ) → Pos n
unfolding up dn
pos_ud n = omega arith

pub record Abs (a : ℤ) : Type 0 where
  pub size : nat_abs a ≡ up a + dn a
  pub apart : min (up a) (dn a) ≡ 0

pub abs_ud : (a : ℤ) → Abs a
unfolding up dn
abs_ud (pos n) = omega arith
abs_ud (negsuc n) = omega arith

pub record Neg (a : ℤ) : Type 0 where
  pub up_is : up (neg_ℤ a) ≡ dn a
  pub dn_is : dn (neg_ℤ a) ≡ up a

pub neg_ud : (a : ℤ) → Neg a
unfolding up dn
neg_ud (pos zero) = omega arith
neg_ud (pos (suc n)) = omega arith
neg_ud (negsuc n) = omega arith

pub record Sum (a b : ℤ) : Type 0 where
  pub exact : up (a +ℤ b) + (dn a + dn b) ≡ up a + up b + dn (a +ℤ b)
  pub up_le : up (a +ℤ b) ≤ up a + up b
  pub dn_le : dn (a +ℤ b) ≤ dn a + dn b

-- a - b, by the test that it makes
diff : (a b : ℕ) (t : Bool) → ltb a b ≡ t → let z = cond t (negsuc (b - suc a)) (pos (a - b)) in (up z + b ≡ a + dn z) × (up z ≤ a) × (dn z ≤ b)
unfolding up dn
diff a b true e = omega (arith, ltb-true)
diff a b false e = omega (arith, ltb-false)

pub add_ud : (a b : ℤ) → Sum a b
unfolding up dn
add_ud (pos a) (pos b) = omega arith
add_ud (pos a) (negsuc b) = omega (arith, diff a (suc b) (ltb a (suc b)) refl)
add_ud (negsuc a) (pos b) = omega (arith, diff b (suc a) (ltb b (suc a)) refl)
add_ud (negsuc a) (negsuc b) = omega arith

pub record Difference (a b : ℤ) : Type 0 where
  pub exact : up (a -ℤ b) + (dn a + up b) ≡ up a + dn b + dn (a -ℤ b)
  pub up_le : up (a -ℤ b) ≤ up a + dn b
  pub dn_le : dn (a -ℤ b) ≤ dn a + up b

pub sub_ud : (a b : ℤ) → Difference a b
sub_ud a b = omega (arith, add_ud a (neg_ℤ b), neg_ud b)

-- ---- what fits a signed width
pub record Range (limit : ℕ) (a : ℤ) : Type 0 where
  pub up_lt : up a < limit
  pub dn_le : dn a ≤ limit

pub range : {w : Width} {a : ℤ} → SFits w a → Range (2 ^ hbits w) a
unfolding up dn
range {a = pos n} f = omega arith
range {a = negsuc n} f = omega arith

pub fits : {w : Width} {a : ℤ} → Range (2 ^ hbits w) a → SFits w a
unfolding up dn
fits {a = pos n} r = omega arith
fits {a = negsuc n} r = omega arith

pub sized_fits : {w : Width} (a : ℤ) → nat_abs a < 2 ^ hbits w → SFits w a
sized_fits a h = fits (omega (arith, abs_ud a))

pub ruleset ints = (arith, le_nat, nat_le, lt_nat, nat_lt, eq_nat, nat_eq, le_z_true, le_z_false, lt_z_true, lt_z_false, nat_le_z, nat_gt_z)
