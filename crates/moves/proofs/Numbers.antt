-- Numbers in memory that stand for bounds on times that are later.
use Prim.Native.Nat.{ℕ, zero, suc, ◌*◌, ◌≤◌}
use native.Mathlib.Omega.{arith}
use mathlib.Core.Path.{◌≡◌, refl, ◌∙◌}
use mathlib.Core.Bool.{false, ◌||◌}
use lib.IntN.{ℤ, pos, nat_abs, ◌+ℤ◌, ◌-ℤ◌}
use mir.Syntax.{w32, w64}
use mir.Val.{SFits, of_z}
use Rattle.ints.proofs.Integers.{ints, range, fits, add_ud, sub_ud, abs_ud}
use Rattle.model.specs.Bound as B
use Rattle.model.specs.Bound.{most, halves, plus}
use Rattle.model.specs.Conditions.{Small}
use Rattle.model.proofs.Bounds.{halves_ud, or_bit, bit_most}
use Rattle.memory.specs.Numbers.{none_in, of_halves, bound_in, Limit, InMemory}
use Rattle.memory.proofs.InHalves.{halved, of_halves_lem, HalvesWithin, halves_size}
use Rattle.memory.proofs.Numbers.{test_none, test_other, bound_stored, narrow}
use Rattle.moves.specs.Moving.{clock_by}

-- ---- the clock alone is later
pub on_time : (c : ℤ) (i : ℕ) → 1 ≤ i → clock_by c i ≡ pos 0
unfolding clock_by
on_time c zero h = absurd (omega arith)
on_time c (suc i) h = refl

clock_small : (c : ℤ) (i : ℕ) → nat_abs (clock_by c i) ≤ nat_abs c
unfolding clock_by
clock_small c zero = omega arith
clock_small c (suc i) = omega arith

pub change_small : (c : ℤ) (i j : ℕ) → nat_abs c ≤ InMemory → nat_abs (clock_by c i -ℤ clock_by c j) ≤ 2 * InMemory
change_small c i j h =
    let u = clock_by c i in
    let v = clock_by c j in
    omega (ints, abs_ud u, abs_ud v, abs_ud (u -ℤ v), sub_ud u v, clock_small c i, clock_small c j)

-- ---- a bound that is larger by c, in halves
pub twice_more : (z c : ℤ) → of_halves ((z +ℤ c) +ℤ c) ≡ plus (of_halves z) (most c)
unfolding plus
twice_more z c =
    let h = halved z in
    let s = h.mark in
    let b = h.number in
    let e : (z +ℤ c) +ℤ c ≡ halves (s || false) (b +ℤ c)
    = omega (ints, halves_ud s b, halves_ud (s || false) (b +ℤ c), or_bit s false, bit_most, add_ud b c, add_ud z c, add_ud (z +ℤ c) c, h.up_is, h.dn_is) in
    rw (h.is, e) (of_halves_lem (s || false) (b +ℤ c))

module _ (z : ℤ) where
  pub none_there : SFits w32 z → of_z w32 z ≡ none_in → bound_in z ≡ B.Bound.none
  unfolding bound_in
  none_there f e = rw (test_none z f e)

  pub halves_there : (of_z w32 z ≡ none_in → ⊥) → bound_in z ≡ of_halves z
  unfolding bound_in
  halves_there ne = rw (test_other z ne)

  module _ (f : SFits w32 z) (c : ℤ) (h : nat_abs c ≤ 2 * InMemory) where
    pub twice_fits : SFits w64 ((z +ℤ c) +ℤ c)
    twice_fits = fits (omega (ints, range f, add_ud z c, add_ud (z +ℤ c) c, abs_ud c))

-- where it is not beyond the limit, it can be stored
module _ (z c : ℤ) (s : Small Limit (plus (of_halves z) (most c))) where
  sum_within : HalvesWithin Limit ((z +ℤ c) +ℤ c)
  sum_within = halves_size _ (rw (twice_more z c) s)

  pub sum_narrow : SFits w32 ((z +ℤ c) +ℤ c)
  sum_narrow = narrow _ (omega (arith, sum_within)) (omega (arith, sum_within))

  pub sum_stored : bound_in ((z +ℤ c) +ℤ c) ≡ plus (of_halves z) (most c)
  sum_stored = bound_stored _ (omega (arith, sum_within)) ∙ twice_more z c
