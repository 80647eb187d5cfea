-- The tests of equality are equality.
use mathlib.Core.Path.{◌≡◌, refl, ap, ap₂}
use mathlib.Core.List.{List, [], ◌∷◌}
use mathlib.Core.Bool.{Bool, true, false, ◌&&◌}
use lib.IntN.{ℤ}
use lib.Signed.{le_z}
use Rattle.ints.proofs.Integers.{ints}
use Rattle.model.proofs.Bounds.{same_halves}
use Rattle.model.specs.Lists.{same_lists}
use Rattle.model.specs.Bound as B
use Rattle.model.specs.Bound.{Bound, upto, halves, same_z, same_bound}
use Rattle.model.specs.Matrix.{Matrix, same_matrix}
use Rattle.model.specs.Network.{Time, blank, secs, same_time}

pub and_true : (s t : Bool) → s && t ≡ true → (s ≡ true) × (t ≡ true)
and_true true t e = (refl, e)
and_true false t e = (e, cc)

-- lists, where the test of their elements is equality
pub same_lists_true : {X : Type 0} (p : X → X → Bool) → ((x y : X) → p x y ≡ true → x ≡ y)
    → (xs ys : List X) → same_lists p xs ys ≡ true → xs ≡ ys
unfolding same_lists
same_lists_true p same [] [] e = refl
same_lists_true p same [] (y ∷ ys) e = cc
same_lists_true p same (x ∷ xs) [] e = cc
same_lists_true p same (x ∷ xs) (y ∷ ys) e =
    let (h, t) = and_true (p x y) (same_lists p xs ys) e in
    ap₂ ◌∷◌ (same x y h) (same_lists_true p same xs ys t)

pub same_lists_refl : {X : Type 0} (p : X → X → Bool) → ((x : X) → p x x ≡ true) → (xs : List X) → same_lists p xs xs ≡ true
unfolding same_lists
same_lists_refl p same [] = refl
same_lists_refl p same (x ∷ xs) = rw (same x) (same_lists_refl p same xs)

pub same_z_true : (a b : ℤ) → same_z a b ≡ true → a ≡ b
unfolding same_z
same_z_true a b e =
    let (p, q) = and_true (le_z a b) (le_z b a) e in
    omega ints

pub same_z_refl : (a : ℤ) → same_z a a ≡ true
unfolding same_z
same_z_refl a = let e : le_z a a ≡ true = omega ints in rw e

pub same_bound_true : (b c : Bound) → same_bound b c ≡ true → b ≡ c
unfolding same_bound
same_bound_true B.Bound.none B.Bound.none e = refl
same_bound_true B.Bound.none (upto t c) e = cc
same_bound_true (upto s b) B.Bound.none e = cc
same_bound_true (upto s b) (upto t c) e = same_halves (same_z_true (halves s b) (halves t c) e)

pub same_bound_refl : (b : Bound) → same_bound b b ≡ true
unfolding same_bound
same_bound_refl B.Bound.none = refl
same_bound_refl (upto s b) = same_z_refl (halves s b)

pub same_time_true : (t u : Time) → same_time t u ≡ true → t ≡ u
unfolding same_time
same_time_true blank blank e = refl
same_time_true blank (secs b) e = cc
same_time_true (secs a) blank e = cc
same_time_true (secs a) (secs b) e = ap secs (same_z_true a b e)

pub same_time_refl : (t : Time) → same_time t t ≡ true
unfolding same_time
same_time_refl blank = refl
same_time_refl (secs a) = same_z_refl a

pub same_matrix_true : (d e : Matrix) → same_matrix d e ≡ true → d ≡ e
unfolding same_matrix
same_matrix_true d e h = same_lists_true same_bound same_bound_true d e h

pub same_matrix_refl : (d : Matrix) → same_matrix d d ≡ true
unfolding same_matrix
same_matrix_refl d = same_lists_refl same_bound same_bound_refl d
