-- One number in memory: one number stands for none, any other for a bound, or a time.
use Prim.Native.Nat.{◌≤◌, ◌<◌}
use mathlib.Core.Path.{◌≡◌, refl, sym, ap, ◌∙◌}
use mathlib.Core.Bool.{Bool, true, false, not}
use lib.IntN.{ℤ, pos, nat_abs}
use mir.Syntax.{w32, w64}
use mir.Val.{SFits, of_z, to_z}
use mir.ValLaws.{to_z-of_z}
use Rattle.ints.proofs.Integers.{impossible, up, dn, ints, range, fits, abs_ud, pos_ud}
use Rattle.model.specs.Bound as B
use Rattle.model.specs.Bound.{same_z}
use Rattle.model.specs.Network.{secs}
use Rattle.model.proofs.Same.{same_z_true, same_z_refl}
use Rattle.std.proofs.Common.{Option, is_some, Some, None}
use Rattle.memory.specs.declared.Halves.{Halves}
use Rattle.memory.specs.declared.Number.{Number}
use Rattle.memory.specs.Numbers.{as_bound, of_halves, none_in, bound_in, time_in, InMemory, Widest}

-- ---- the test for the number that stands for none
module _ (z : ℤ) where
  pub test_none : SFits w32 z → of_z w32 z ≡ none_in → same_z z (pos none_in) ≡ true
  test_none f e = let is : z ≡ pos none_in = sym (to_z-of_z w32 z f) ∙ ap (to_z w32) e in rw is (same_z_refl (pos none_in))

  differs : (z ≡ pos none_in → ⊥) → same_z z (pos none_in) ≡ false
  differs ne = go (same_z z (pos none_in)) refl
    where
      go : (t : Bool) → same_z z (pos none_in) ≡ t → t ≡ false
      go true e = absurd (ne (same_z_true z (pos none_in) e))
      go false e = refl

  pub test_other : (of_z w32 z ≡ none_in → ⊥) → same_z z (pos none_in) ≡ false
  test_other ne = differs (λ e. ne (ap (of_z w32) e))

  -- a stored number
  module _ (h : up z < none_in) where
    other : same_z z (pos none_in) ≡ false
    other = differs (λ e. omega (ints, pos_ud none_in))

    pub bound_stored : bound_in z ≡ of_halves z
    unfolding bound_in
    bound_stored = rw other

    pub time_stored : time_in z ≡ secs z
    unfolding time_in
    time_stored = rw other

    pub narrow : dn z ≤ none_in → SFits w32 z
    narrow k = fits (omega ints)

  -- any number in memory
  pub small_read : SFits w32 z → nat_abs z ≤ InMemory
  small_read f = omega (ints, range f, abs_ud z)

  pub widened : SFits w32 z → SFits w64 z
  widened f = fits (omega (ints, range f))

  pub wide : nat_abs z ≤ Widest → SFits w64 z
  wide h = fits (omega (ints, abs_ud z))

-- ---- a bound that was read
pub blank_is : (r : Number) {t : Bool} → t ≡ true → is_some r.0 ≡ not t → as_bound r ≡ B.Bound.none
blank_is r e s = go r.0 (s ∙ ap not e)
  where
    go : (o : Option Halves) → is_some o ≡ false → as_bound (record { 0 = o }) ≡ B.Bound.none
    go None e = refl
    go (Some c) e = impossible cc
