-- Powers of a table: r + 1 cycles are the product with power r + 1,
-- and from a power that is an earlier one with a number added, the times repeat with that number added.
use Prim.Native.Nat.{ℕ, zero, suc, ◌+◌, ◌*◌, ◌-◌, ◌≤◌}
use native.Mathlib.Omega.{arith}
use mathlib.Core.Path.{◌≡◌, refl, ap, sym, fun_ext, ◌∙◌}
use mathlib.Core.List.{List, ◌∷◌, flatten}
use lib.IntN.{ℤ}
use lib.ListN.{length, get_or-map}
use Rattle.model.specs.Sizes.{table_size}
use Rattle.model.specs.Lists.{tabulate}
use Rattle.model.specs.Network.{Time, blank, secs, time, after, clocked, next, cycle, cycles, product, powers_from, power, added}
use Rattle.model.specs.Conditions.{Regular}
use Rattle.model.proofs.Entries.{rows, length_rows, get_d_rows}
use Rattle.model.proofs.Tabulated.{tabulate_suc}
use Rattle.model.proofs.MaxPlus.{le_t_secs, after_left_comm, latest_of_upper, latest_of_cong, after_latest_of, latest_sum, latest_sum_assoc}
use Rattle.model.proofs.Cycles.{shift, length_cycle, cycles_add, clocked_cycle, cycle_is, shifted, cycles_shift}

-- `powers_from` lists k powers, from power r + 1 on
pub powers_from_is : (n : ℕ) (a : List Time) (k r : ℕ) → powers_from k n a (power n a r) ≡ tabulate k r (power n a)
unfolding powers_from tabulate power
powers_from_is n a zero r = refl
powers_from_is n a (suc k) r = ap (◌∷◌ (power n a r)) (powers_from_is n a k (suc r))

-- an entry of a table with c added
pub time_added : (n : ℕ) (c : ℤ) (a : List Time) (i j : ℕ) → time n (added c a) i j ≡ after (secs c) (time n a i j)
unfolding time added after
time_added n c a i j = get_or-map (after (secs c)) a ((i - 1) * n + (j - 1)) blank

module _ (n : ℕ) (a b : List Time) where
  -- a product is a table by rows
  product_rows : product n a b ≡ rows n n 1 (λ i j. latest_sum n (time n a i) (λ l. time n b l (suc j)))
  unfolding product
  product_rows = ap (λ (f : ℕ → List Time). flatten (tabulate n 1 f)) (fun_ext (λ i. tabulate_suc n 0 _))

  -- it has as many entries as a table
  pub length_product : length (product n a b) ≡ table_size n
  length_product = rw product_rows (length_rows n n 1 _)

  -- entry (i, j) is row i of the first by column j of the second
  pub time_product : (i j : ℕ) → 1 ≤ i → i ≤ n → 1 ≤ j → j ≤ n → time n (product n a b) i j ≡ latest_sum n (time n a i) (λ l. time n b l j)
  unfolding time
  time_product i j li ui lj uj =
      let ei : 1 + (i - 1) ≡ i = omega arith in
      let ej : suc (j - 1) ≡ j = omega arith in
      rw product_rows (get_d_rows n n 1 (i - 1) (j - 1) _ blank (omega arith) (omega arith) ∙ rw (ei, ej))

  -- the product of regular tables is regular
  pub product_regular : Regular n a → Regular n b → Regular n (product n a b)
  unfolding after
  product_regular ra rb i li ui =
      let (l, c) = ra i li ui in
      let (j, d) = rb l c.from_one c.to_n in
      let (z, f, le) = le_t_secs (rw (c.is, d.is) at (latest_of_upper n (λ l. after (time n a i l) (time n b l j)) l c.from_one c.to_n)) in
      (j, record { from_one = d.from_one; to_n = d.to_n; value = z; is = time_product i j li ui d.from_one d.to_n ∙ f })

module _ (n : ℕ) (a : List Time) (reg : Regular n a) where
  -- powers of a regular table are regular
  pub power_regular : (r : ℕ) → Regular n (power n a r)
  unfolding power
  power_regular zero = reg
  power_regular (suc r) = product_regular n a (power n a r) reg (power_regular r)

  -- r + 1 cycles are the product with power r + 1
  pub cycles_are : (r : ℕ) (xs : List ℤ) (i : ℕ) → 1 ≤ i → i ≤ n
      → secs (clocked (cycles n a (suc r) xs) i) ≡ latest_sum n (λ j. secs (clocked xs j)) (time n (power n a r) i)
  unfolding cycles power
  cycles_are zero xs i l u = cycle_is n a reg xs i l u
  cycles_are (suc r) xs i l u =
      cycle_is n a reg (cycles n a (suc r) xs) i l u
      ∙ latest_of_cong n _ _ (λ j lj uj. ap (λ (t : Time). after t (time n a i j)) (cycles_are r xs j lj uj))
      ∙ latest_sum_assoc n (λ j. secs (clocked xs j)) (time n a i) (time n (power n a r))
      ∙ latest_of_cong n _ _ (λ j lj uj. ap (after (secs (clocked xs j))) (sym (time_product n a (power n a r) i j l u lj uj)))

  -- where power q + 1 is power p + 1 with c added
  module _ (p q : ℕ) (c : ℤ) (e : power n a q ≡ added c (power n a p)) (xs : List ℤ) where
    -- q + 1 cycles give the times of p + 1 cycles with c added
    repeats_at_lem : cycles n a (suc q) xs ≡ shift c (cycles n a (suc p) xs)
    unfolding cycles cycle
    repeats_at_lem = shifted n c (next n a (clocked (cycles n a q xs))) (next n a (clocked (cycles n a p xs))) (λ i l u.
        sym (ap secs (clocked_cycle n a (cycles n a q xs) i l u)) ∙ cycles_are q xs i l u
        ∙ latest_of_cong n _ _ (λ j _ _. rw (e, time_added n c (power n a p) i j) (after_left_comm (secs (clocked xs j)) (secs c) _))
        ∙ after_latest_of n (secs c) _
        ∙ ap (after (secs c)) (sym (cycles_are p xs i l u) ∙ ap secs (clocked_cycle n a (cycles n a p xs) i l u)))

    -- and so do r more of each
    pub repeats_from : (r : ℕ) → cycles n a (suc q + r) xs ≡ shift c (cycles n a (suc p + r) xs)
    unfolding cycles
    repeats_from r =
        rw (cycles_add n a (suc q) r xs, cycles_add n a (suc p) r xs, repeats_at_lem)
        (cycles_shift n a reg c r (cycles n a (suc p) xs) (length_cycle n a _))
