-- The loop over the columns of a row: the list so far, and the sets that are still to be put to it.
use Prim.Native.Nat.{ℕ, suc, ◌+◌, ◌-◌, ◌≤◌, ◌<◌}
use native.Mathlib.Omega.{arith}
use mathlib.Core.Path.{◌≡◌, refl, ap, ◌∙◌}
use mathlib.Core.Bool.{false}
use mathlib.Core.List.{List, flat_map, foldl, foldl-append}
use mathlib.Core.Option.{Option, some}
use lib.IntN.{ℤ}
use lib.ListN.{length, take}
use Rattle.model.specs.Sizes.{zone_size}
use Rattle.model.specs.Matrix.{Matrix}
use Rattle.model.specs.Search.{keep}
use Rattle.model.specs.Conditions.{Column}
use Rattle.model.specs.Network.{time, is_time}
use Rattle.memory.specs.Numbers.{bounds_in, times_in}
use Rattle.memory.specs.Conditions.{TimeCell}
use Rattle.std.specs.Prelude as std
use Rattle.lists.specs.Lists.{list_in}
use Rattle.lists.specs.Selecting.{extensions}
use Rattle.lists.specs.Inner.{parent_in, column_sets, SelectReady, TakeReady, Selected}
use Rattle.lists.proofs.Held.{held_list, held_room, held_since, held_still, held_as_is}
use Rattle.lists.proofs.Extensions.{columns_from, columns_here, columns_end, column_past, by_columns}
use Rattle.lists.proofs.Rows.{rows_same, rows_then, parent_same, still_underway}
use Rattle.lists.proofs.met.Covered.{noted_on}

module _ (n count : ℕ) (list₀ times zone seen₀ : List ℤ) (counts₀ cols₀ : List ℕ) (i : ℕ) where
  -- the sets of column s, and those from column s on
  abbrev sets : ℕ → List (Option Matrix)
  sets = column_sets n (times_in times) (bounds_in zone) (parent_in n seen₀ counts₀ i) (take i cols₀) i

  abbrev later : ℕ → List (Option Matrix)
  later s = flat_map sets (columns_from n (times_in times) i s)

  -- the list that is to be made
  abbrev whole : List Matrix
  whole =
      foldl keep (list_in (zone_size n) count list₀)
      (extensions n (times_in times) (bounds_in zone) (some (parent_in n seen₀ counts₀ i)) (take i cols₀) i (suc n - i))

  -- the list is zs, with the sets of columns 1 to s - 1
  pub record Going (capacity : ℕ) (list seen : List ℤ) (counts cols : List ℕ) (so_far s : ℕ) : Type 0 where
    pub zs : List Matrix
    pub made : Selected n capacity i times zone zs list₀ seen₀ counts₀ cols₀ (std.Some so_far) list seen counts cols
    pub list_size : length list ≡ length list₀
    pub seen_size : length seen ≡ length seen₀
    pub rest : whole ≡ foldl keep zs (later s)

module _ {n capacity count : ℕ} {list₀ times zone seen₀ : List ℤ} {counts₀ cols₀ : List ℕ} {i : ℕ}
    {table : List ℤ} (ready : SelectReady n capacity count list₀ times zone table seen₀ counts₀ cols₀ i) where
  abbrev At : List ℤ → List ℤ → List ℕ → List ℕ → ℕ → ℕ → Type 0
  At list seen counts cols so_far s = Going n count list₀ times zone seen₀ counts₀ cols₀ i capacity list seen counts cols so_far s

  abbrev all : List Matrix
  all = whole n count list₀ times zone seen₀ counts₀ cols₀ i

  abbrev from : ℕ → List (Option Matrix)
  from s = later n count list₀ times zone seen₀ counts₀ cols₀ i s

  abbrev sets_of : ℕ → List (Option Matrix)
  sets_of = sets n count list₀ times zone seen₀ counts₀ cols₀ i

  -- an entry of the row
  pub entry_ready : (s : ℕ) → 1 ≤ s → s ≤ n → TimeCell n times i s
  entry_ready s l u =
      let sel = ready.ready.selecting in
      record { table = sel.backward.table; row_from = sel.before.from_one; row_to = ready.ready.row; col_from = l; col_to = u }

  pub going_start : At list₀ seen₀ counts₀ cols₀ count 1
  going_start = record {
    zs = list_in (zone_size n) count list₀;
    made = record { held = held_as_is ready.room; noted = ready.noted; rows = rows_same };
    list_size = refl;
    seen_size = refl;
    rest = ap (foldl keep (list_in (zone_size n) count list₀)) (by_columns n (times_in times) (bounds_in zone) _ _ i ready.ready.row);
  }

  module _ {list seen : List ℤ} {counts cols : List ℕ} {so_far s : ℕ} (g : At list seen counts cols so_far s) where
    list_is : list_in (zone_size n) so_far list ≡ g.zs
    list_is = (held_list g.made.held).1

    -- the sets of the next column can be put to it
    pub going_ready : Column n (times_in times) i s → TakeReady n capacity so_far list times zone table seen counts cols i s
    going_ready c = record {
      select = record {
        room = held_room g.made.held (omega (arith, ready.room.long, g.list_size));
        tabled = ready.tabled;
        ready = still_underway g.made.rows ready.ready g.made.noted.tables;
        noted = rw list_is g.made.noted;
      };
      column = c;
    }

    -- all columns are done
    pub going_done : n < s → Selected n capacity i times zone all list₀ seen₀ counts₀ cols₀ (std.Some so_far) list seen counts cols
    unfolding flat_map
    going_done h = let e : all ≡ g.zs = g.rest ∙ rw (columns_end n (times_in times) i s h) in rw e g.made

    -- a blank column is passed over
    pub going_past : s ≤ n → is_time (time n (times_in times) i s) ≡ false → At list seen counts cols so_far (s + 1)
    going_past h e = record {
      zs = g.zs;
      made = g.made;
      list_size = g.list_size;
      seen_size = g.seen_size;
      rest = g.rest ∙ ap (λ (ss : List ℕ). foldl keep g.zs (flat_map sets_of ss)) (column_past n (times_in times) i s h e);
    }

    -- the sets of any other are put to it
    module _ (c : Column n (times_in times) i s) {r : std.Option ℕ} {list' seen' : List ℤ} {counts' cols' : List ℕ}
        (made : Selected n capacity i times zone
        (foldl keep (list_in (zone_size n) so_far list)
        (column_sets n (times_in times) (bounds_in zone) (parent_in n seen counts i) (take i cols) i s))
        list seen counts cols r list' seen' counts' cols') where
      abbrev with_column_lem : List Matrix
      with_column_lem = foldl keep g.zs (sets_of s)

      made_since : Selected n capacity i times zone with_column_lem list₀ seen₀ counts₀ cols₀ r list' seen' counts' cols'
      made_since =
          let parent = parent_same g.made.rows ready.ready.tables.counted ready.ready.selecting.before.from_one in
          let m = rw (list_is, parent, g.made.rows.cols_same) at made in
          record { held = held_since m.held g.made.held.beyond; noted = m.noted; rows = rows_then g.made.rows m.rows }

      here : all ≡ foldl keep with_column_lem (from (s + 1))
      unfolding flat_map
      here = g.rest ∙ rw (columns_here n (times_in times) i s c) (foldl-append keep g.zs (sets_of s) _)

  module _ {list seen : List ℤ} {counts cols : List ℕ} {so_far s : ℕ} (g : At list seen counts cols so_far s) (c : Column n (times_in times) i s)
      {list' seen' : List ℤ} {counts' cols' : List ℕ} where
    pub going_on : {k : ℕ} → Selected n capacity i times zone
        (foldl keep (list_in (zone_size n) so_far list)
        (column_sets n (times_in times) (bounds_in zone) (parent_in n seen counts i) (take i cols) i s))
        list seen counts cols (std.Some k) list' seen' counts' cols'
        → length list' ≡ length list → length seen' ≡ length seen → At list' seen' counts' cols' k (s + 1)
    going_on made l t = record {
      zs = with_column_lem g c made;
      made = made_since g c made;
      list_size = l ∙ g.list_size;
      seen_size = t ∙ g.seen_size;
      rest = here g c made;
    }

    -- the list has no room for them
    pub going_full : Selected n capacity i times zone
        (foldl keep (list_in (zone_size n) so_far list)
        (column_sets n (times_in times) (bounds_in zone) (parent_in n seen counts i) (take i cols) i s))
        list seen counts cols std.None list' seen' counts' cols'
        → Selected n capacity i times zone all list₀ seen₀ counts₀ cols₀ std.None list' seen' counts' cols'
    going_full made = rw (here g c made) (record {
      held = held_still (made_since g c made).held (from (s + 1));
      noted = noted_on (made_since g c made).noted (from (s + 1));
      rows = (made_since g c made).rows;
    })
