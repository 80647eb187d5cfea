-- One number of a row and a sum: the smaller number stands for the tighter bound, since the greatest of 32 bits stands for none.
use Prim.Native.Nat.{◌+◌, ◌≤◌, ◌<◌}
use mathlib.Core.Path.{◌≡◌, refl, ◌∙◌}
use mathlib.Core.Bool.{Bool, true, false, cond}
use lib.IntN.{ℤ, pos, nat_abs, ◌+ℤ◌}
use mir.Syntax.{w32, w64}
use mir.Val.{SFits, to_z, of_z}
use mir.ValLaws.{to_z-of_z}
use Rattle.std.specs.Int.{int_min}
use Rattle.std.specs.Prelude.{int_lt}
use Rattle.ints.proofs.Integers.{up, dn, ints, range, fits, add_ud, pos_ud, abs_ud, lt_z_true, lt_z_false, nat_le_z, nat_gt_z}
use Rattle.model.specs.Bound as B
use Rattle.model.specs.Bound.{Bound, same_z, tighter}
use Rattle.model.specs.Conditions.{Small}
use Rattle.model.proofs.Same.{same_z_true}
use Rattle.memory.specs.Numbers.{of_halves, bound_in, none_in, Limit}
use Rattle.zones.specs.Inner.{narrow_most}
use Rattle.memory.proofs.InHalves.{both_odd, odd_one, halves_size, tighter_halves}
use Rattle.memory.proofs.Numbers.{bound_stored, narrow, widened}

-- ---- the bits of a number
-- read back from its bits, as a number of 64
pub read_wide : (z : ℤ) → SFits w32 z → to_z w64 (of_z w64 (to_z w32 (of_z w32 z))) ≡ z
read_wide z f = rw (to_z-of_z w32 z f) (to_z-of_z w64 z (widened z f))

-- ---- a sum in 32 bits
pub narrow_sums : (u v : ℤ) → nat_abs u ≤ narrow_most → nat_abs v ≤ narrow_most → SFits w32 (u +ℤ v) × SFits w32 ((u +ℤ v) +ℤ pos (both_odd u v))
narrow_sums u v h k =
    let o = both_odd u v in (
      fits (omega (ints, abs_ud u, abs_ud v, add_ud u v)),
      fits (omega (ints, abs_ud u, abs_ud v, add_ud u v, add_ud (u +ℤ v) (pos o), pos_ud o, odd_one u v)),
    )

-- ---- the two numbers
module _ (old new : ℤ) (f : SFits w32 old) where
  -- of what an old number stands for
  abbrev read : Bool → Bound
  read t = cond t B.Bound.none (of_halves old)

  module _ (l : up new + dn old < up old + dn new) where
    below : up new < none_in
    below = omega (ints, range f, abs_ud new)

    new_tighter : bound_in new ≡ tighter (bound_in old) (of_halves new)
    unfolding bound_in tighter
    new_tighter = bound_stored new below ∙ go (same_z old (pos none_in))
      where
        go : (t : Bool) → of_halves new ≡ tighter (read t) (of_halves new)
        go true = refl
        go false = rw (tighter_halves old new, nat_gt_z old new l)

    new_fits : Small Limit (tighter (bound_in old) (of_halves new)) → SFits w32 new
    new_fits s =
        let h = halves_size new (rw (← new_tighter, bound_stored new below) at s) in
        narrow new below (omega (ints, h))

  old_tighter : up old + dn new ≤ up new + dn old → Small Limit (tighter (bound_in old) (of_halves new))
      → bound_in old ≡ tighter (bound_in old) (of_halves new)
  unfolding bound_in tighter
  old_tighter l s = go (same_z old (pos none_in)) refl s
    where
      go : (t : Bool) → same_z old (pos none_in) ≡ t → Small Limit (tighter (read t) (of_halves new)) → read t ≡ tighter (read t) (of_halves new)
      go true e s = let is = same_z_true old (pos none_in) e in absurd (omega (ints, is, pos_ud none_in, halves_size new s))
      go false e s = rw (tighter_halves old new, nat_le_z old new l)

  -- the smaller of both has 32 bits
  pub least : (m : ℤ) → m ≡ int_min old new → Small Limit (tighter (bound_in old) (of_halves new))
      → SFits w32 m × (bound_in m ≡ tighter (bound_in old) (of_halves new))
  least m e s = rw e (go (int_lt new old) refl)
    where
      go : (t : Bool) → int_lt new old ≡ t → SFits w32 (cond t new old) × (bound_in (cond t new old) ≡ tighter (bound_in old) (of_halves new))
      go true e = let l = lt_z_true new old e in (new_fits l s, new_tighter l)
      go false e = (f, old_tighter (lt_z_false new old e) s)
