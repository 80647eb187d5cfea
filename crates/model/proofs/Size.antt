-- The sizes of bounds: of sums, differences and negations, and of the time that is taken between two bounds.
use Prim.Native.Nat.{ℕ, suc, ◌+◌, ◌*◌, ◌≤◌}
use native.Mathlib.Omega.{arith}
use mathlib.Core.Path.{◌≡◌}
use mathlib.Core.Bool.{Bool}
use mathlib.Core.List.{List}
use lib.IntN.{ℤ, neg_ℤ, nat_abs, ◌+ℤ◌, ◌-ℤ◌}
use Rattle.ints.proofs.Integers.{ints, add_ud, sub_ud, neg_ud, abs_ud}
use Rattle.model.specs.Lists.{Every}
use Rattle.model.specs.Bound.{Bound, upto, most, plus}
use Rattle.model.specs.Matrix.{Constraint}
use Rattle.model.specs.Search.{greatest_or}
use Rattle.model.specs.Conditions.{Small, free, sized}
use Rattle.model.proofs.Bounds.{Plain}

-- the size of a finite bound, as a rule for omega
pub small_size : {B : ℕ} {s : Bool} {z : ℤ} → Small B (upto s z) → nat_abs z ≤ B
small_size (sized h) = h

-- the same, for a bound that is equal to a finite one
pub small_at : {B : ℕ} {b : Bound} {s : Bool} {z : ℤ} → Small B b → b ≡ upto s z → nat_abs z ≤ B
small_at h e = small_size (rw e at h)

-- what is small for B is small for any greater number
pub small_mono : {B C : ℕ} {b : Bound} → B ≤ C → Small B b → Small C b
small_mono l free = free
small_mono l (sized {z} h) = sized {z = z} (omega arith)

-- sums, differences and negations
pub small_sum : {B C : ℕ} {b c : Bound} → Small B b → Small C c → Small (B + C) (plus b c)
unfolding plus
small_sum free k = free
small_sum (sized h) free = free
small_sum (sized {z} h) (sized {z = y} k) = sized {z = z +ℤ y} (omega (ints, add_ud z y, abs_ud z, abs_ud y, abs_ud (z +ℤ y)))

pub minus_small : {B : ℕ} (x y : ℤ) → nat_abs x ≤ B → nat_abs y ≤ B → nat_abs (x -ℤ y) ≤ B + B
minus_small x y h k = omega (ints, abs_ud x, abs_ud y, abs_ud (x -ℤ y), sub_ud x y)

pub neg_small : {B : ℕ} (z : ℤ) → nat_abs z ≤ B → nat_abs (neg_ℤ z) ≤ B
neg_small z h = omega (ints, neg_ud z, abs_ud z, abs_ud (neg_ℤ z))

-- a bound of at most S, and a time of at most t * S
pub term_small : {S : ℕ} (t : ℕ) {b : Bound} (z : ℤ) → Small S b → nat_abs z ≤ t * S → Small (suc t * S) (plus b (most z))
term_small {S} t z h k = small_mono (omega arith) (small_sum {C = t * S} h (sized {z = z} k))

-- the time that is taken between two bounds
pub taken_small : {B : ℕ} {w u : Bound} → Small B w → Small B u → nat_abs (greatest_or w u) ≤ B
unfolding greatest_or
taken_small h (sized k) = k
taken_small (sized {z} h) free = neg_small z h
taken_small free free = omega arith

-- no limit is strict
abbrev pub PlainLimits : List Constraint → Type 0
PlainLimits ks = Every (λ k. Plain k.limit) ks
