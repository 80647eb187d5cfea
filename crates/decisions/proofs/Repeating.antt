-- The test for a repeated power does not depend on parts, and a repeat goes on: what is added to a table is added to its product.
use Prim.Native.Nat.{ℕ, zero, suc, ◌+◌, ◌≤◌}
use native.Mathlib.Omega.{arith}
use native.Mathlib.Nat.{zero-add}
use mathlib.Core.Path.{◌≡◌, refl, sym, ap, ap₂, ◌∙◌}
use mathlib.Core.Bool.{Bool, true, false, ◌&&◌, cond}
use mathlib.Core.List.{List, [], ◌∷◌, map, flatten}
use lib.Dec.{eqb}
use lib.IntN.{ℤ, pos, ◌*ℤ◌}
use Rattle.ints.proofs.Integers.{impossible}
use Rattle.model.specs.Lists.{same_lists}
use Rattle.model.specs.Bound.{most, scale}
use Rattle.model.specs.Network.{Time, blank, secs, scale_time, time, after, product, power, added, gap, same_time}
use Rattle.model.specs.Conditions.{Regular}
use Rattle.model.proofs.Bounds.{le_b_refl, le_b_antisym}
use Rattle.model.proofs.Scale.{mul_sub, mul_zero, le_scale}
use Rattle.model.proofs.Same.{same_lists_true, same_lists_refl, same_time_true, same_time_refl}
use Rattle.model.proofs.Tabulated.{tabulate_ext, map_tabulate}
use Rattle.model.proofs.MaxPlus.{after_left_comm, latest_of_cong, after_latest_of}
use Rattle.model.proofs.Parts.{map_flatten, same_test}
use Rattle.model.proofs.Powers.{power_regular, time_added}
use Rattle.model.proofs.PowersInParts.{added_parts}
use Rattle.model.proofs.Repeats.{gap_added}
use Rattle.decisions.specs.Decide.{again, Kept, kept_from, renewed}
use Rattle.decisions.specs.Conditions.{kept_in}

-- ---- in parts
module _ (parts : ℕ) where
  gap_parts : (a b : List Time) → gap (map (scale_time parts) a) (map (scale_time parts) b) ≡ gap a b *ℤ pos parts
  unfolding gap scale_time
  gap_parts [] us = sym (mul_zero parts)
  gap_parts (t ∷ ts) [] = sym (mul_zero parts)
  gap_parts (blank ∷ ts) (u ∷ us) = gap_parts ts us
  gap_parts (secs a ∷ ts) (blank ∷ us) = gap_parts ts us
  gap_parts (secs a ∷ ts) (secs b ∷ us) = sym (mul_sub b a parts)

  pub renewed_parts : (k : ℕ) (b : List Time) (c : Kept) → renewed k (map (scale_time parts) b) (kept_in parts c) ≡ kept_in parts (renewed k b c)
  unfolding renewed
  renewed_parts k b c = go (eqb k c.until)
    where
      go : (s : Bool) → cond s (kept_from k (map (scale_time parts) b)) (kept_in parts c) ≡ kept_in parts (cond s (kept_from k b) c)
      go true = refl
      go false = refl

  module _ (some_parts : 1 ≤ parts) where
    secs_injective : (a b : ℤ) → a *ℤ pos parts ≡ b *ℤ pos parts → a ≡ b
    unfolding scale
    secs_injective a b e =
        let same : most a ≡ most b = le_b_antisym
        (le_scale parts some_parts (most a) (most b) (rw e (le_b_refl (most (b *ℤ pos parts)))))
        (le_scale parts some_parts (most b) (most a) (rw e (le_b_refl (most (b *ℤ pos parts))))) in
        cc

    time_injective : (t u : Time) → scale_time parts t ≡ scale_time parts u → t ≡ u
    unfolding scale_time
    time_injective blank blank e = refl
    time_injective blank (secs b) e = impossible cc
    time_injective (secs a) blank e = impossible cc
    time_injective (secs a) (secs b) e = ap secs (secs_injective a b cc)

    same_time_lem : (t u : Time) → same_time (scale_time parts t) (scale_time parts u) ≡ same_time t u
    same_time_lem t u = same_test _ _
        (λ h. rw (time_injective t u (same_time_true _ _ h)) (same_time_refl u))
        (λ h. rw (same_time_true t u h) (same_time_refl (scale_time parts u)))

    same_tables : (a b : List Time) → same_lists same_time (map (scale_time parts) a) (map (scale_time parts) b) ≡ same_lists same_time a b
    unfolding same_lists
    same_tables [] [] = refl
    same_tables [] (u ∷ us) = refl
    same_tables (t ∷ ts) [] = refl
    same_tables (t ∷ ts) (u ∷ us) = ap₂ ◌&&◌ (same_time_lem t u) (same_tables ts us)

    pub again_parts : (a b : List Time) → again (map (scale_time parts) a) (map (scale_time parts) b) ≡ again a b
    unfolding again
    again_parts a b = rw (gap_parts a b, ← added_parts parts (gap a b) a) (same_tables (added (gap a b) a) b)

-- ---- a later power that is this one with a number added
pub again_is : (a b : List Time) → again a b ≡ true → b ≡ added (gap a b) a
unfolding again
again_is a b e = sym (same_lists_true same_time same_time_true _ _ e)

module _ (n : ℕ) (a : List Time) where
  product_added : (c : ℤ) (b : List Time) → product n a (added c b) ≡ added c (product n a b)
  unfolding product added
  product_added c b =
      ap flatten
      (tabulate_ext n 1 _ _ (λ i li ui. tabulate_ext n 1 _ _ (λ j lj uj.
      latest_of_cong n _ _ (λ l ll ul. ap (after (time n a i l)) (time_added n c b l j) ∙ after_left_comm (time n a i l) (secs c) (time n b l j))
      ∙ after_latest_of n (secs c) (λ l. after (time n a i l) (time n b l j)))
      ∙ sym (map_tabulate (after (secs c)) n 1 _))
      ∙ sym (map_tabulate (map (after (secs c))) n 1 _))
      ∙ sym (map_flatten (after (secs c)) _)

  pub repeat_on : (p q : ℕ) (c : ℤ) → power n a q ≡ added c (power n a p) → (m : ℕ) → power n a (m + q) ≡ added c (power n a (m + p))
  unfolding power
  repeat_on p q c e zero = rw (zero-add q, zero-add p) e
  repeat_on p q c e (suc m) =
      let f : suc m + q ≡ suc (m + q) = omega arith in
      let g : suc m + p ≡ suc (m + p) = omega arith in
      rw (f, g) (ap (product n a) (repeat_on p q c e m) ∙ product_added c (power n a (m + p)))

  -- the test finds it
  pub again_true : Regular n a → 1 ≤ n → (p q : ℕ) (c : ℤ) → power n a q ≡ added c (power n a p) → again (power n a p) (power n a q) ≡ true
  unfolding again time
  again_true reg h p q c e =
      let (j, k) = power_regular n a reg p 1 (omega arith) h in
      let g : gap (power n a p) (added c (power n a p)) ≡ c = gap_added c (power n a p) _ k.is in
      rw (e, g) (same_lists_refl same_time same_time_refl (added c (power n a p)))
