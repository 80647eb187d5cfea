-- Where the entries of a case stand: within its arrays, and which slot an entry of the table is.
use Prim.Native.Nat.{ℕ, suc, ◌+◌, ◌*◌, ◌-◌, ◌≤◌, ◌<◌}
use native.Mathlib.Omega.{arith}
use native.Mathlib.Nat.{add-mul, mul-le-mul}
use mathlib.Core.Path.{◌≡◌, ap, ◌∙◌}
use mathlib.Core.List.{List, map}
use lib.Arith.{digits_lt}
use lib.ListN.{get_or, take, get_or-map}
use lib.Seq.{get_or-take}
use Rattle.std.specs.Prelude.{None}
use Rattle.ints.specs.declared.Seconds.{Seconds}
use Rattle.model.specs.Sizes.{most_departures, table_size, pattern_size, most_times, most_bounds}
use Rattle.model.specs.Network.{Time, blank, time}
use Rattle.model.specs.Faults.{Entry, time_of, table_of}
use Rattle.model.specs.Conditions.{Departures}

-- the table, one of its rows, and a pattern
module _ {n : ℕ} (d : Departures n) where
  pub table_fits : table_size n ≤ most_times
  table_fits = mul-le-mul d.few d.few

  pub row_fits : {i : ℕ} → i < n → i * n + n ≤ most_times
  row_fits {i} h = let m : i + 1 ≤ most_departures = omega arith in omega (arith, mul-le-mul m d.few, add-mul i 1 n)

  pub pattern_fits : pattern_size n ≤ most_bounds
  pattern_fits = let m : suc n ≤ suc most_departures = omega arith in mul-le-mul d.few m

-- an entry of the first m
pub get_d_times : (m : ℕ) (es : List (Entry Seconds)) (p : ℕ) → p < m → get_or (map time_of (take m es)) p blank ≡ time_of (get_or es p None)
unfolding time_of
get_d_times m es p h = get_or-map time_of (take m es) p None ∙ ap time_of (get_or-take m es p None h)

-- entry (i + 1, j + 1) of a table, by its place; and as a slot
pub time_at : (n : ℕ) (a : List Time) (i j : ℕ) → time n a (i + 1) (j + 1) ≡ get_or a (i * n + j) blank
unfolding time
time_at n a i j = let d : i + 1 - 1 ≡ i = omega arith in let e : j + 1 - 1 ≡ j = omega arith in rw (d, e)

pub slot_at_lem : (n : ℕ) (es : List (Entry Seconds)) (i j : ℕ) → i < n → j < n → time n (table_of n es) (i + 1) (j + 1) ≡ time_of (get_or es (i * n + j) None)
slot_at_lem n es i j h l = time_at n (table_of n es) i j ∙ get_d_times (table_size n) es (i * n + j) (digits_lt h l)
