-- k cycles are one cycle of power k.
use Prim.Native.Nat.{ℕ, suc, ◌≤◌}
use native.Mathlib.Omega.{arith}
use mathlib.Core.Path.{◌≡◌, sym, ◌∙◌}
use mathlib.Core.List.{List}
use lib.IntN.{ℤ}
use Rattle.model.specs.Network.{Time, secs, clocked, next, cycle, cycles, power}
use Rattle.model.specs.Conditions.{Regular}
use Rattle.model.proofs.Tabulated.{tabulate_ext}
use Rattle.model.proofs.Cycles.{next_is, clocked_cycle}
use Rattle.model.proofs.Powers.{power_regular, cycles_are}

module _ (n : ℕ) (a : List Time) (reg : Regular n a) (r : ℕ) (xs : List ℤ) where
  next_power : (i : ℕ) → 1 ≤ i → i ≤ n → next n a (clocked (cycles n a r xs)) i ≡ next n (power n a r) (clocked xs) i
  unfolding cycles
  next_power i l u =
      let e : secs (clocked (cycles n a (suc r) xs) i) ≡ secs (next n (power n a r) (clocked xs) i)
      = cycles_are n a reg r xs i l u ∙ next_is n (power n a r) (power_regular n a reg r) (clocked xs) i l u in
      let f : clocked (cycles n a (suc r) xs) i ≡ next n (power n a r) (clocked xs) i = cc in
      sym (clocked_cycle n a (cycles n a r xs) i l u) ∙ f

  pub one_shot : cycles n a (suc r) xs ≡ cycle n (power n a r) xs
  unfolding cycles cycle
  one_shot = tabulate_ext n 1 _ _ (λ i l u. next_power i l (omega arith))
