-- Tables side by side: a part that lies within the first numbers, and a table that is put behind another, entry by entry.
use Prim.Native.Nat.{ℕ, ◌+◌, ◌*◌, ◌-◌, ◌≤◌, ◌<◌}
use native.Mathlib.Omega.{arith}
use mathlib.Core.Path.{◌≡◌, sym, ap, ◌∙◌}
use mathlib.Core.List.{List, map-id, map-append}
use lib.Arith.{digits_lt}
use lib.IntN.{ℤ}
use lib.ListN.{length, get_or, set, take, drop, length-drop}
use lib.Seq.{take-add, take-take, drop_at, drop-drop, drop-set-add, length-take-le}
use Rattle.model.specs.Sizes.{table_size}
use Rattle.model.specs.Network.{Time, blank}
use Rattle.memory.specs.Numbers.{time_in, times_in}
use Rattle.memory.specs.Conditions.{TableIn}
use Rattle.memory.proofs.Slots.{next_in}
use Rattle.powers.specs.Readings.{numbers_at}

-- ---- parts
-- an entry of a table, with rows and columns from 0 on
pub entry_inside : {n i j : ℕ} {table : List ℤ} → TableIn n table → i < n → j < n → i * n + j < length table
entry_inside t h k = rw t.size (digits_lt h k)

-- what is lent from place r on
pub lent_at : (n r : ℕ) (powers : List ℤ) → let base = r * table_size n in take (base + table_size n - base) (drop base powers) ≡ numbers_at n powers r
lent_at n r powers = let e : r * table_size n + table_size n - r * table_size n ≡ table_size n = omega arith in rw e

pub length_at : (n r : ℕ) (powers : List ℤ) → r * table_size n + table_size n ≤ length powers → length (numbers_at n powers r) ≡ table_size n
length_at n r powers h = length-take-le (table_size n) (drop (r * table_size n) powers) (omega (arith, length-drop (r * table_size n) powers))

part_is : {X : Type 0} (at size : ℕ) (xs : List X) → at ≤ length xs → take size (drop at xs) ≡ drop at (take (at + size) xs)
part_is at size xs h = sym (ap (drop at) (take-add at size xs) ∙ drop_at (take at xs) (take size (drop at xs)) at (length-take-le at xs h))

-- where the first m are the same
pub same_part : {X : Type 0} (m : ℕ) (xs ys : List X) → take m xs ≡ take m ys → m ≤ length xs → m ≤ length ys → (at size : ℕ) → at + size ≤ m
    → take size (drop at xs) ≡ take size (drop at ys)
same_part m xs ys e k l at size h =
    part_is at size xs (omega arith)
    ∙ ap (drop at) (sym (take-take (at + size) m xs h) ∙ ap (take (at + size)) e ∙ take-take (at + size) m ys h)
    ∙ sym (part_is at size ys (omega arith))

-- what is lent from place r on, where the first m are the same
pub lent_same : (n r m : ℕ) (xs ys : List ℤ) → take m xs ≡ take m ys → length xs ≡ length ys → r * table_size n + table_size n ≤ m → m ≤ length ys
    → take (r * table_size n + table_size n - r * table_size n) (drop (r * table_size n) xs) ≡ numbers_at n ys r
lent_same n r m xs ys e l h k = lent_at n r xs ∙ same_part m xs ys e (omega arith) k (r * table_size n) (table_size n) h

-- ---- a table that is put entry by entry, or row by row
-- the next entry
pub next_entry : (at j : ℕ) (zs : List ℤ) (ts : List Time) (x : ℤ) → at + j < length zs → j < length ts → time_in x ≡ get_or ts j blank
    → times_in (take j (drop at zs)) ≡ take j ts → times_in (take (j + 1) (drop at (set zs (at + j) x))) ≡ take (j + 1) ts
unfolding times_in
next_entry at j zs ts x h k e p =
    rw (drop-set-add at zs j x)
    (next_in time_in (λ t. t) (drop at zs) ts j x blank (omega (arith, length-drop at zs)) k (p ∙ sym (map-id (take j ts))) e ∙ map-id (take (j + 1) ts))

-- the next n entries
pub next_row : (n at k : ℕ) (zs : List ℤ) (ts : List Time) → times_in (take k (drop at zs)) ≡ take k ts
    → times_in (take n (drop (at + k) zs)) ≡ take n (drop k ts) → times_in (take (k + n) (drop at zs)) ≡ take (k + n) ts
unfolding times_in
next_row n at k zs ts p q =
    rw (take-add k n (drop at zs), drop-drop k at zs, map-append time_in (take k (drop at zs)) (take n (drop (at + k) zs)), p, q) (sym (take-add k n ts))
