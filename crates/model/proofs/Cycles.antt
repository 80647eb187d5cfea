-- Cycles of a regular table: the latest sum of each row is a time,
-- and a number added to all the times of one cycle is added to all of the next.
use Prim.Native.Nat.{ℕ, zero, suc, ◌+◌, ◌≤◌}
use native.Mathlib.Omega.{arith}
use native.Mathlib.Nat.{add-zero, add-suc}
use mathlib.Core.Path.{◌≡◌, refl, ap, sym, ◌∙◌}
use mathlib.Core.List.{List, [], ◌∷◌, map}
use lib.IntN.{ℤ, pos, ◌+ℤ◌}
use lib.ListN.{length}
use Rattle.ints.proofs.Integers.{ints, add_ud}
use Rattle.model.specs.Lists.{tabulate}
use Rattle.model.specs.Network.{Time, secs, time, after, secs_of, clocked, next, cycle, cycles}
use Rattle.model.specs.Conditions.{Regular}
use Rattle.model.proofs.Entries.{length_tabulate, get_d_tabulate}
use Rattle.model.proofs.Tabulated.{tabulate_ext, map_tabulate}
use Rattle.model.proofs.MaxPlus.{le_t_secs, after_assoc, latest_of_upper, latest_of_cong, after_latest_of, latest_sum}

-- c added to every time
unfoldable pub shift : ℤ → List ℤ → List ℤ
shift c xs = map (λ x. x +ℤ c) xs

-- time i of the list with c added
pub clocked_shift : (c : ℤ) (xs : List ℤ) (i : ℕ) → 1 ≤ i → i ≤ length xs → secs (clocked (shift c xs) i) ≡ after (secs c) (secs (clocked xs i))
unfolding clocked after shift
clocked_shift c [] i l u = absurd (omega arith)
clocked_shift c (x ∷ xs) zero l u = absurd (omega arith)
clocked_shift c (x ∷ xs) (suc zero) l u = ap secs (omega (ints, add_ud x c, add_ud c x))
clocked_shift c (x ∷ xs) (suc (suc i)) l u = clocked_shift c xs (suc i) (omega arith) (omega arith)

-- where each f i is g i with c added, so is the list
pub shifted : (n : ℕ) (c : ℤ) (f g : ℕ → ℤ) → ((i : ℕ) → 1 ≤ i → i ≤ n → secs (f i) ≡ after (secs c) (secs (g i)))
    → tabulate n 1 f ≡ shift c (tabulate n 1 g)
unfolding shift after
shifted n c f g h =
    tabulate_ext n 1 f _ (λ i l u. let d : f i ≡ c +ℤ g i = cc (h i l (omega arith)) in omega (ints, add_ud (g i) c, add_ud c (g i)))
    ∙ sym (map_tabulate (λ x. x +ℤ c) n 1 g)

module _ (n : ℕ) (a : List Time) where
  -- a cycle gives n times, and so do k cycles
  pub length_cycle : (xs : List ℤ) → length (cycle n a xs) ≡ n
  unfolding cycle
  length_cycle xs = length_tabulate n 1 (next n a (clocked xs))

  pub length_cycles : (k : ℕ) (xs : List ℤ) → length xs ≡ n → length (cycles n a k xs) ≡ n
  unfolding cycles
  length_cycles zero xs e = e
  length_cycles (suc k) xs e = length_cycle (cycles n a k xs)

  -- k + r cycles are k cycles and then r
  pub cycles_add : (k r : ℕ) (xs : List ℤ) → cycles n a (k + r) xs ≡ cycles n a r (cycles n a k xs)
  unfolding cycles
  cycles_add k zero xs = rw add-zero
  cycles_add k (suc r) xs = rw add-suc (ap (cycle n a) (cycles_add k r xs))

  -- time i of one cycle
  pub clocked_cycle : (xs : List ℤ) (i : ℕ) → 1 ≤ i → i ≤ n → clocked (cycle n a xs) i ≡ next n a (clocked xs) i
  unfolding clocked cycle
  clocked_cycle xs zero l u = absurd (omega arith)
  clocked_cycle xs (suc i) l u = get_d_tabulate n 1 i (next n a (clocked xs)) (pos 0) (omega arith) ∙ ap (next n a (clocked xs)) (omega arith)

module _ (n : ℕ) (a : List Time) (reg : Regular n a) where
  -- the latest that `next` takes the seconds of is not blank
  pub next_is : (x : ℕ → ℤ) (i : ℕ) → 1 ≤ i → i ≤ n → latest_sum n (λ j. secs (x j)) (time n a i) ≡ secs (next n a x i)
  unfolding next after secs_of
  next_is x i l u =
      let (j, k) = reg i l u in
      let (w, d, le) = le_t_secs (rw k.is at (latest_of_upper n (λ j. after (secs (x j)) (time n a i j)) j k.from_one k.to_n)) in
      rw d

  -- one cycle is the product with the table
  pub cycle_is : (xs : List ℤ) (i : ℕ) → 1 ≤ i → i ≤ n
      → secs (clocked (cycle n a xs) i) ≡ latest_sum n (λ j. secs (clocked xs j)) (time n a i)
  cycle_is xs i l u = ap secs (clocked_cycle n a xs i l u) ∙ sym (next_is (clocked xs) i l u)

  -- a number added before a cycle, or before k, is added after
  pub cycle_shift : (c : ℤ) (xs : List ℤ) → length xs ≡ n → cycle n a (shift c xs) ≡ shift c (cycle n a xs)
  unfolding cycle
  cycle_shift c xs e = shifted n c (next n a (clocked (shift c xs))) (next n a (clocked xs)) (λ i l u.
      sym (next_is (clocked (shift c xs)) i l u)
      ∙ latest_of_cong n _ _ (λ j lj uj. rw (clocked_shift c xs j lj (omega arith)) (after_assoc (secs c) _ _))
      ∙ after_latest_of n (secs c) _
      ∙ ap (after (secs c)) (next_is (clocked xs) i l u))

  pub cycles_shift : (c : ℤ) (k : ℕ) (xs : List ℤ) → length xs ≡ n → cycles n a k (shift c xs) ≡ shift c (cycles n a k xs)
  unfolding cycles
  cycles_shift c zero xs e = refl
  cycles_shift c (suc k) xs e = rw (cycles_shift c k xs e) (cycle_shift c (cycles n a k xs) (length_cycles n a k xs e))
