-- A selection under way: where its sets stand, and how one more is built.
use Prim.Native.Nat.{ℕ, ◌+◌, ◌*◌, ◌-◌, ◌≤◌, ◌<◌}
use native.Mathlib.Omega.{arith}
use mathlib.Core.Path.{◌≡◌, ap}
use mathlib.Core.Bool.{Bool}
use mathlib.Core.List.{List}
use lib.IntN.{ℤ}
use lib.ListN.{length, take}
use lib.Seq.{paste}
use Rattle.model.specs.Sizes.{zone_size}
use Rattle.model.specs.Conditions.{Departures, Column}
use Rattle.memory.specs.Numbers.{bounds_in, times_in}
use Rattle.memory.specs.Side.{numbers_at, Elsewhere}
use Rattle.lists.specs.Lists.{zone_at}
use Rattle.lists.specs.Met.{free_at}
use Rattle.lists.specs.Selecting.{with_column}
use Rattle.lists.specs.Inner.{PlacedAt, AddReady, parent_in, Underway, left_of}
use Rattle.memory.proofs.Side.{length_numbers, stored_else, stored_numbers, else_trans}
use Rattle.lists.proofs.met.Seen.{free_fits, free_later}

module _ {n : ℕ} {times zone seen : List ℤ} {counts cols : List ℕ} {i : ℕ} (u : Underway n times zone seen counts cols i) where
  pub departures : Departures n
  departures = u.selecting.backward.table.departures

  -- its places lie in the table, the set of the row before before the free place
  pub here_fits : free_at n counts i * zone_size n + zone_size n ≤ length seen
  here_fits = free_fits u.tables u.row

  pub here_long : (seen' : List ℤ) → length seen' ≡ length seen → length (numbers_at (zone_size n) seen' (free_at n counts i)) ≡ zone_size n
  here_long seen' e = length_numbers (zone_size n) seen' (free_at n counts i) (rw e here_fits)

  pub parent_fits : free_at n counts (i - 1) * zone_size n + zone_size n ≤ length seen
  parent_fits = free_fits u.tables (omega (arith, u.row))

  pub parent_before : free_at n counts (i - 1) < free_at n counts i
  parent_before = free_later u.tables u.selecting.before.from_one

  abbrev parent : List ℤ
  parent = numbers_at (zone_size n) seen (free_at n counts (i - 1))

  pub parent_long : length parent ≡ zone_size n
  parent_long = length_numbers (zone_size n) seen (free_at n counts (i - 1)) parent_fits

  -- that set, copied to place k of a list
  module _ (list : List ℤ) (k : ℕ) (inside : k * zone_size n + zone_size n ≤ length list) where
    abbrev copied : List ℤ
    copied = paste list (k * zone_size n) parent (zone_size n)

    pub copied_else : Elsewhere (zone_size n) k list copied
    copied_else = stored_else (zone_size n) k list parent parent_long inside

    pub copied_at : zone_at (zone_size n) copied k ≡ parent_in n seen counts i
    unfolding zone_at
    copied_at = ap bounds_in (stored_numbers (zone_size n) k list parent parent_long inside)

    -- and what a column leaves of it there
    pub added_left : (s : ℕ) {list' : List ℤ} {r : Bool} {list'' : List ℤ} → list' ≡ copied
        → PlacedAt (zone_size n) k (with_column n (times_in times) (bounds_in zone) (zone_at (zone_size n) list' k) (take i cols) i s) list' r list''
        → PlacedAt (zone_size n) k (left_of n times zone seen counts cols i s) list r list''
    added_left s {list'} e p =
        let there : zone_at (zone_size n) list' k ≡ parent_in n seen counts i = rw e copied_at in
        record { elsewhere = else_trans (rw e copied_else) p.elsewhere; left = rw there at p.left }

  -- can take in what a column adds
  pub add_ready : {list : List ℤ} (k : ℕ) {s : ℕ} → k * zone_size n + zone_size n ≤ length list → zone_at (zone_size n) list k ≡ parent_in n seen counts i
      → Column n (times_in times) i s → AddReady n k list times zone cols i s
  add_ready k inside is c = record {
    inside = inside;
    cols_in = omega (arith, u.cols_size, u.row, departures.few);
    row = u.row;
    selecting = rw is u.selecting;
    column = c;
  }
