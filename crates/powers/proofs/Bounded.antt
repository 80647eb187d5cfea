-- Sizes: the times of power r + 1 are at most r + 1 times the table's limit, so that sums of them are numbers in memory.
use Prim.Native.Nat.{ℕ, zero, suc, ◌+◌, ◌*◌, ◌≤◌, ◌<◌}
use native.Mathlib.Omega.{arith}
use mathlib.Core.Path.{◌≡◌}
use mathlib.Core.List.{List}
use lib.IntN.{nat_abs}
use lib.ListN.{get_or}
use Rattle.model.specs.Sizes.{time_limit}
use Rattle.model.specs.Network.{Time, blank, time, after, secs_of, product, power}
use Rattle.model.specs.Conditions.{TimesSmall}
use Rattle.model.proofs.Listed.{every_map, at_get_d, every_tabulate, every_flatten}
use Rattle.model.proofs.Sums.{after_small, latest_small, entries_small}
use Rattle.memory.specs.Numbers.{none_in}
use Rattle.powers.specs.Readings.{AtMost, most_powers, power_limit}

-- an entry of such a table
entry_small : {limit : ℕ} {a : List Time} → AtMost limit a → (k : ℕ) → nat_abs (secs_of (get_or a k blank)) ≤ limit
unfolding secs_of
entry_small {limit} small = at_get_d {P = λ t. nat_abs (secs_of t) ≤ limit} blank (omega arith) small

product_small : (n : ℕ) {x y : ℕ} {a b : List Time} → AtMost x a → AtMost y b → AtMost (x + y) (product n a b)
unfolding product time
product_small n p q =
    every_flatten (every_tabulate n 1 _ (λ i hi. every_tabulate n 1 _ (λ j hj. latest_small (every_tabulate n 1 _ (λ l hl.
    after_small _ _ (entry_small p _) (entry_small q _))))))

power_small : (n : ℕ) (a : List Time) → AtMost time_limit a → (r : ℕ) → AtMost (suc r * time_limit) (power n a r)
unfolding power
power_small n a p zero = p
power_small n a p (suc r) =
    let e : time_limit + suc r * time_limit ≡ suc (suc r) * time_limit = omega arith in
    rw e at (product_small n p (power_small n a p r))

-- the powers of a table of small times
pub powers_small : (n : ℕ) (a : List Time) → TimesSmall n a → (r : ℕ) → r < most_powers → AtMost power_limit (power n a r)
powers_small n a small r h = every_map (λ t l. omega arith) (power_small n a (entries_small n a small) r)

-- the sum of an entry of each
pub sum_small : {a b : List Time} → AtMost power_limit a → AtMost power_limit b → (k l : ℕ)
    → nat_abs (secs_of (after (get_or a k blank) (get_or b l blank))) < none_in
sum_small {a} {b} p q k l = omega (arith, after_small (get_or a k blank) (get_or b l blank) (entry_small p k) (entry_small q l))

-- an entry of their product
pub product_entry : (n : ℕ) {a b : List Time} → AtMost power_limit a → AtMost power_limit b → (k : ℕ)
    → nat_abs (secs_of (get_or (product n a b) k blank)) < none_in
product_entry n p q k = omega (arith, entry_small (product_small n p q) k)
