-- How the answer and the powers in memory are read, and the conditions of the functions on them.
use Rattle.std.specs.Prelude.{ℕ, suc, ◌+◌, ◌*◌, ◌≤◌, ◌<◌, ℤ, nat_abs, length, take, drop, ◌≡◌, List, []}
use Rattle.std.specs.Prelude as std
use Rattle.std.proofs.Math.Option.{Option, none, some}
use Rattle.model.specs.Sizes.{most_cycles, time_limit, table_size}
use Rattle.model.specs.Lists.{tabulate, Every}
use Rattle.model.specs.Network.{Time, secs_of, product, powers_from, Repeat, repeats, first_repeat}
use Rattle.model.specs.Conditions.{Departures, TableLimits}
use Rattle.memory.specs.Numbers.{times_in}
use Rattle.memory.specs.Conditions.{TableIn}
use Rattle.powers.specs.declared.Again.{Again}

-- the answer
abbrev pub repeat_read : std.Option Again → Option Repeat
repeat_read std.None = none
repeat_read (std.Some a) = some (record { q = a.q; p = a.p; number = a.number.0 })

-- the first repeated power of a table in memory
abbrev pub repeat_in : ℕ → List ℤ → Option Repeat
repeat_in n times = first_repeat 1 [] (powers_from most_cycles n (times_in times) (times_in times))

-- ---- tables of n departures side by side
-- the numbers and the table at place r
abbrev pub numbers_at : ℕ → List ℤ → ℕ → List ℤ
numbers_at n powers r = take (table_size n) (drop (r * table_size n) powers)

abbrev pub table_at : ℕ → List ℤ → ℕ → List Time
table_at n powers r = times_in (numbers_at n powers r)

-- the first of the tables before place r that the one there repeats
abbrev pub repeats_at : ℕ → List ℤ → ℕ → Option Repeat
repeats_at n powers r = repeats (suc r) 1 (tabulate r 0 (table_at n powers)) (table_at n powers r)

-- there is a place r
pub record PlaceIn (n r : ℕ) (powers : List ℤ) : Type 0 where
  pub departures : Departures n
  pub among : r < most_cycles
  pub inside : r * table_size n + table_size n ≤ length powers

-- ---- products
-- no time of the table is more than limit in size
abbrev pub AtMost : ℕ → List Time → Type 0
AtMost limit a = Every (λ t. nat_abs (secs_of t) ≤ limit) a

-- the most powers of a table that are made one after the other
abbrev pub most_powers : ℕ
most_powers = 4096

-- the most that a time of such a power is in size
abbrev pub power_limit : ℕ
power_limit = most_powers * time_limit

-- tables of n departures whose product can be made
pub record Factors (n : ℕ) (first second : List ℤ) : Type 0 where
  pub first_in : TableIn n first
  pub second_in : TableIn n second
  pub first_small : AtMost power_limit (times_in first)
  pub second_small : AtMost power_limit (times_in second)

-- an entry of their product, with rows and columns from 0 on
pub record EntryOf (n : ℕ) (first second : List ℤ) (i j : ℕ) : Type 0 where
  pub factors : Factors n first second
  pub row : i < n
  pub column : j < n

-- the product with the table at place r can be put behind it
pub record Makeable (n r : ℕ) (times powers : List ℤ) : Type 0 where
  pub factors : Factors n times (numbers_at n powers r)
  pub room : PlaceIn n (r + 1) powers

-- its row i, counted from 0, is put there behind those before it, and nothing before them is changed
pub record RowMade (n r i : ℕ) (times before after : List ℤ) : Type 0 where
  pub is : times_in (take n (drop ((r + 1) * table_size n + i * n) after)) ≡ take n (drop (i * n) (product n (times_in times) (table_at n before r)))
  pub front : take ((r + 1) * table_size n + i * n) after ≡ take ((r + 1) * table_size n + i * n) before

-- it is put there, and nothing before it is changed
pub record Made (n r : ℕ) (times before after : List ℤ) : Type 0 where
  pub is : table_at n after (r + 1) ≡ product n (times_in times) (table_at n before r)
  pub front : take ((r + 1) * table_size n) after ≡ take ((r + 1) * table_size n) before

-- the product with the table at the front can be put in its place: there is room for one more behind it
pub record Advancing (n : ℕ) (times tables : List ℤ) : Type 0 where
  pub table : TableIn n times
  pub room : 2 * table_size n ≤ length tables
  pub table_small : AtMost power_limit (times_in times)
  pub front_small : AtMost power_limit (times_in (take (table_size n) tables))

-- ---- the search
-- a table whose powers can be searched; with room for all of them
pub record TableReady (n : ℕ) (times : List ℤ) : Type 0 where
  pub table : TableIn n times
  pub limits : TableLimits n (times_in times)

pub record Searchable (n : ℕ) (times powers : List ℤ) : Type 0 where
  pub ready : TableReady n times
  pub room : most_cycles * table_size n ≤ length powers
