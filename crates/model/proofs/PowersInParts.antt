-- Powers of a table in parts are the powers, in parts; and a pattern that bounds only differences does so in parts.
use Prim.Native.Nat.{ℕ, zero, suc, ◌+◌, ◌*◌, ◌≤◌}
use native.Mathlib.Nat.{add-mul, mul-le-mul_right}
use mathlib.Core.Path.{◌≡◌, refl, ap, ap₂, sym, ◌∙◌}
use mathlib.Core.Bool.{◌&&◌}
use mathlib.Core.List.{List, [], ◌∷◌, map, flatten}
use lib.IntN.{ℤ, pos, ◌*ℤ◌}
use Rattle.ints.proofs.Integers.{up, dn, ints, le_nat}
use Rattle.model.specs.Lists.{tabulate, all_of}
use Rattle.model.specs.Bound as B
use Rattle.model.specs.Bound.{Bound, upto, scale}
use Rattle.model.specs.Pattern.{pair_bound, is_none, only_differences}
use Rattle.model.specs.Network.{Time, blank, secs, scale_time, time, later, latest, after, product, power, added}
use Rattle.model.proofs.Scale.{mul_ud, mul_add}
use Rattle.model.proofs.Tabulated.{tabulate_ext, map_tabulate}
use Rattle.model.proofs.MaxPlus.{LeT, low, fin, nat_le_t, le_t_antisym, later_either, later_upper, later_least}
use Rattle.model.proofs.Parts.{map_flatten, time_parts, pair_parts}

module _ (parts : ℕ) where
  abbrev st : Time → Time
  st t = scale_time parts t

  after_parts : (t u : Time) → st (after t u) ≡ after (st t) (st u)
  unfolding after scale_time
  after_parts blank u = refl
  after_parts (secs a) blank = refl
  after_parts (secs a) (secs b) = ap secs (mul_add a b parts)

  order_parts : {t u : Time} → LeT t u → LeT (st t) (st u)
  unfolding scale_time
  order_parts low = low
  order_parts (fin {a} {b} h) =
      let m : (up a + dn b) * parts ≤ (up b + dn a) * parts = mul-le-mul_right parts (le_nat h) in
      nat_le_t (omega (ints, mul_ud a parts, mul_ud b parts, add-mul (up a) (dn b) parts, add-mul (up b) (dn a) parts))

  later_parts : (t u : Time) → st (later t u) ≡ later (st t) (st u)
  later_parts t u =
      let (a, b) = later_upper (st t) (st u) in
      let (c, d) = later_upper t u in
      le_t_antisym (later_either (λ x. LeT (st x) (later (st t) (st u))) t u a b) (later_least (order_parts c) (order_parts d))

  latest_parts : (ts : List Time) → st (latest ts) ≡ latest (map (scale_time parts) ts)
  unfolding latest scale_time
  latest_parts [] = refl
  latest_parts (t ∷ ts) = later_parts t (latest ts) ∙ ap (later (st t)) (latest_parts ts)

  pub product_parts : (n : ℕ) (a b : List Time) → product n (map (scale_time parts) a) (map (scale_time parts) b) ≡ map (scale_time parts) (product n a b)
  unfolding product
  product_parts n a b = sym (
      map_flatten (scale_time parts) _ ∙ ap flatten (map_tabulate (map (scale_time parts)) n 1 _
      ∙ tabulate_ext n 1 _ _ (λ i l u. map_tabulate (scale_time parts) n 1 _
      ∙ tabulate_ext n 1 _ _ (λ j p q. latest_parts _ ∙ ap latest (map_tabulate (scale_time parts) n 1 _
      ∙ tabulate_ext n 1 _ _ (λ k r s.
      after_parts (time n a i k) (time n b k j) ∙ ap₂ after (sym (time_parts parts n a i k)) (sym (time_parts parts n b k j))))))))

  pub power_parts : (n : ℕ) (a : List Time) (r : ℕ) → power n (map (scale_time parts) a) r ≡ map (scale_time parts) (power n a r)
  unfolding power
  power_parts n a zero = refl
  power_parts n a (suc r) = ap (product n (map (scale_time parts) a)) (power_parts n a r) ∙ product_parts n a (power n a r)

  pub added_parts : (c : ℤ) (a : List Time) → map (scale_time parts) (added c a) ≡ added (c *ℤ pos parts) (map (scale_time parts) a)
  unfolding added scale_time
  added_parts c [] = refl
  added_parts c (t ∷ ts) = ap₂ ◌∷◌ (after_parts (secs c) t) (added_parts c ts)

  none_parts : (b : Bound) → is_none (scale parts b) ≡ is_none b
  unfolding is_none scale
  none_parts B.Bound.none = refl
  none_parts (upto s b) = refl

  pub differences_parts : (n : ℕ) (b : List Bound) → only_differences n (map (scale parts) b) ≡ only_differences n b
  unfolding only_differences all_of
  differences_parts n b = go (tabulate n 1 (λ j. j))
    where
      go : (js : List ℕ) → all_of (λ j. is_none (pair_bound n (map (scale parts) b) 0 j) && is_none (pair_bound n (map (scale parts) b) j 0)) js
          ≡ all_of (λ j. is_none (pair_bound n b 0 j) && is_none (pair_bound n b j 0)) js
      go [] = refl
      go (j ∷ js) = ap₂ ◌&&◌ (ap₂ ◌&&◌ (ap is_none (pair_parts parts n b 0 j) ∙ none_parts _) (ap is_none (pair_parts parts n b j 0) ∙ none_parts _)) (go js)
