-- One column of a row: its set is put to the list, or is nothing new, or the rows below go on from it.
use Prim.Native.Nat.{ℕ, suc, ◌+◌, ◌-◌, ◌≤◌}
use native.Mathlib.Omega.{arith}
use native.Mathlib.Numerals.{add-one}
use mathlib.Core.Path.{◌≡◌, ◌∙◌}
use mathlib.Core.Bool.{Bool, true, false}
use mathlib.Core.List.{List, [], ◌∷◌, ◌++◌, foldl}
use mathlib.Core.Option.{some}
use lib.IntN.{ℤ}
use lib.ListN.{length, take, set, length-set}
use lib.Seq.{take-suc-set}
use Rattle.model.specs.Sizes.{most_departures, zone_size}
use Rattle.model.specs.Matrix.{Matrix}
use Rattle.model.specs.Network.{Time}
use Rattle.model.specs.Search.{keep}
use Rattle.memory.specs.Numbers.{bounds_in, times_in}
use Rattle.memory.proofs.Leaving.{left_none, left_some}
use Rattle.std.specs.Prelude as std
use Rattle.lists.specs.Lists.{zone_at, list_in}
use Rattle.starts.specs.Numbers as Starts
use Rattle.zones.specs.Inner.{choice}
use Rattle.ahead.specs.Needs.{Unfit, Barred}
use Rattle.ahead.specs.Outlook.{Outlook}
use Rattle.ahead.proofs.Needed.{lost_unfit, shut_barred}
use Rattle.lists.specs.Selecting.{extensions, with_column, Selecting}
use Rattle.lists.specs.Met.{free_at, met_in, unmet, noted_in, Covered, Noted}
use Rattle.lists.specs.Inner.{PlacedAt, parent_in, Underway, left_of, column_sets, PutLast, RowsFrom, SelectReady, TakeReady, Selected, ShutReady}
use Rattle.lists.proofs.Held.{held_as_is}
use Rattle.lists.proofs.Columns.{outlook, next_before, next_selecting}
use Rattle.lists.proofs.Extensions.{extensions_end, nothing_kept, columns_none}
use Rattle.lists.proofs.Rows.{rows_same, rows_then, rows_fewer, rows_placed, rows_picked, rows_noted, free_same}
use Rattle.lists.proofs.met.Seen.{unmet_some}
use Rattle.lists.proofs.met.Growing.{departures}
use Rattle.lists.proofs.met.Covered.{covered_new, noted_on, noted_placed, noted_more, nothing_new}

-- the list with the sets of column s
abbrev taken : ℕ → ℕ → List ℤ → List ℤ → List ℤ → List ℤ → List ℕ → List ℕ → ℕ → ℕ → List Matrix
taken n count list times zone seen counts cols i s =
    foldl keep (list_in (zone_size n) count list) (column_sets n (times_in times) (bounds_in zone) (parent_in n seen counts i) (take i cols) i s)

-- ---- the last row
last_sets : (n : ℕ) (a : List Time) (d part : Matrix) (cols : List ℕ) (s : ℕ) → column_sets n a d part cols n s ≡ with_column n a d part cols n s ∷ []
unfolding column_sets
last_sets n a d part cols s = extensions_end n a d (with_column n a d part cols n s) (cols ++ (s ∷ [])) (suc n) (omega arith)

pub taken_last : {n capacity count : ℕ} {list times zone table seen : List ℤ} {counts cols : List ℕ} {s : ℕ} {r : std.Option ℕ} {list' seen' : List ℤ}
    → TakeReady n capacity count list times zone table seen counts cols n s
    → {counts' cols' : List ℕ} → PutLast n capacity count n (left_of n times zone seen counts cols n s) list seen counts cols r list' seen' counts' cols'
    → length seen' ≡ length seen
    → Selected n capacity n times zone (taken n count list times zone seen counts cols n s) list seen counts cols r list' seen' counts' cols'
taken_last {n} {times} {zone} {seen} {counts} {cols} {s} t p long =
    let one = last_sets n (times_in times) (bounds_in zone) (parent_in n seen counts n) (take n cols) s in
    rw (p.counts_same, p.cols_same) (record {
      held = rw one p.held;
      noted = rw one (noted_on (noted_placed t.select.noted n p.elsewhere long) (left_of n times zone seen counts cols n s ∷ []));
      rows = rows_placed (omega arith) p.elsewhere;
    })

-- ---- a column that does not fit
module _ {n capacity count : ℕ} {list times zone table seen : List ℤ} {counts cols : List ℕ} {i s : ℕ}
    (t : TakeReady n capacity count list times zone table seen counts cols i s) where
  pub taken_unfit : Unfit n (times_in times) (Starts.bounds_in table) (parent_in n seen counts i) (choice i s)
      → Selected n capacity i times zone (taken n count list times zone seen counts cols i s) list seen counts cols
      (std.Some count) list seen counts cols
  taken_unfit unfit =
      let u = t.select.ready in
      let sel = u.selecting in
      let lost = lost_unfit (outlook sel u.row t.column) {c = choice i s} u.row t.column.to_n (rw t.select.tabled.is at unfit) in
      rw (columns_none n (times_in times) (bounds_in zone) (parent_in n seen counts i) (take i cols) i s (list_in (zone_size n) count list)
      sel.before.long u.row t.column lost)
      (record { held = held_as_is t.select.room; noted = t.select.noted; rows = rows_same })

-- ---- a row before it: the set is built at the free place
module _ {n capacity count : ℕ} {list times zone table seen : List ℤ} {counts cols : List ℕ} {i s : ℕ}
    (t : TakeReady n capacity count list times zone table seen counts cols i s) {seen' : List ℤ} (long : length seen' ≡ length seen) {r : Bool}
    (p : PlacedAt (zone_size n) (free_at n counts i) (unmet (met_in n seen counts i) (left_of n times zone seen counts cols i s)) seen r seen') where
  abbrev a : List Time
  a = times_in times

  abbrev d : Matrix
  d = bounds_in zone

  abbrev zs : List Matrix
  zs = list_in (zone_size n) count list

  u : Underway n times zone seen counts cols i
  u = t.select.ready

  still_noted : Noted n times zone zs seen' counts
  still_noted = noted_placed t.select.noted i p.elsewhere long

  rows_before : RowsFrom n i seen seen' counts counts cols cols
  rows_before = rows_placed (omega arith) p.elsewhere

  -- there is none, or it was met
  adds_nothing : r ≡ false → taken n count list times zone seen counts cols i s ≡ zs
  unfolding column_sets
  adds_nothing e = nothing_new t.select.noted i (left_of n times zone seen counts cols i s) (take i cols ++ (s ∷ []))
      (λ q is. next_before u.selecting u.row t.column is) (left_none p.left e)

  pub taken_none : r ≡ false → Selected n capacity i times zone (taken n count list times zone seen counts cols i s) list seen counts cols
      (std.Some count) list seen' counts cols
  taken_none e = rw (adds_nothing e) (record { held = held_as_is t.select.room; noted = still_noted; rows = rows_before })

  -- the rows below go on from it
  module _ (e : r ≡ true) where
    left : left_of n times zone seen counts cols i s ≡ some (zone_at (zone_size n) seen' (free_at n counts i))
    unfolding zone_at
    left = unmet_some _ _ (left_some p.left e)

    row : i ≤ most_departures
    row = omega (arith, u.row, (departures u).few)

    abbrev cols' : List ℕ
    cols' = set cols i s

    cols_more : take (i + 1) cols' ≡ take i cols ++ (s ∷ [])
    cols_more = rw (add-one i) (take-suc-set cols i s (omega (arith, row, u.cols_size)))

    here : i + 1 - 1 ≡ i
    here = omega arith

    next : Selecting n times zone (zone_at (zone_size n) seen' (free_at n counts i)) (take i cols ++ (s ∷ [])) (suc i)
    next = next_selecting u.selecting u.row t.column left

    pub child_ready : (i ≡ n → ⊥) → SelectReady n capacity count list times zone table seen' counts cols' (i + 1)
    child_ready other = record {
      room = t.select.room;
      tabled = t.select.tabled;
      ready = record {
        tables = still_noted.tables;
        cols_size = length-set cols i s ∙ u.cols_size;
        row = omega (arith, u.row);
        selecting = rw (cols_more, here, add-one i) next;
      };
      noted = still_noted;
    }

    abbrev below : List Matrix
    below = foldl keep zs (extensions n a d (some (parent_in n seen' counts (i + 1))) (take (i + 1) cols') (i + 1) (suc n - (i + 1)))

    same_sets : below ≡ taken n count list times zone seen counts cols i s
    unfolding column_sets
    same_sets = rw (cols_more, here, add-one i, left)

    -- nothing is left of it, whatever they pick
    cols_next : take (suc i) cols' ≡ take i cols ++ (s ∷ [])
    cols_next = rw (add-one i) at cols_more

    pub shut_ready : ShutReady n seen' table times counts cols' i
    shut_ready = record {
      tables = still_noted.tables;
      times_held = u.selecting.backward.table;
      table_held = t.select.tabled.inside;
      row = u.row;
      long = omega (arith, row, u.cols_size, length-set cols i s);
      columns = rw cols_next next.before.columns;
    }

    pub taken_shut : Barred n a (Starts.bounds_in table) (zone_at (zone_size n) seen' (free_at n counts i)) (take (suc i) cols') (suc i)
        → Selected n capacity i times zone (taken n count list times zone seen counts cols i s) list seen counts cols
        (std.Some count) list seen' counts cols'
    unfolding column_sets
    taken_shut barred =
        let o : Outlook n a d (zone_at (zone_size n) seen' (free_at n counts i)) (take i cols ++ (s ∷ [])) (suc i)
        = record { closed = next.backward.closed; before = next.before; kept = next.kept } in
        let shut = shut_barred o (omega (arith, u.row)) (rw (t.select.tabled.is, cols_next) at barred) in
        let same : taken n count list times zone seen counts cols i s ≡ zs
        = rw left (nothing_kept n a d _ (take i cols ++ (s ∷ [])) (suc i) (suc n - suc i) zs shut) in
        rw same (record { held = held_as_is t.select.room; noted = still_noted; rows = rows_then rows_before (rows_picked cols s) })

    -- then all that they make of it is in the list
    covered : Covered n a d below (suc i) (zone_at (zone_size n) seen' (free_at n counts i))
    covered = rw (cols_more, here, add-one i) (covered_new n a d zs (next_before u.selecting u.row t.column left))

    module _ {built : std.Option ℕ} {list'' seen'' : List ℤ} {counts'' cols'' : List ℕ}
        (m : Selected n capacity (i + 1) times zone below list seen' counts cols' built list'' seen'' counts'' cols'') where
      rows_after : RowsFrom n i seen seen'' counts counts'' cols cols''
      rows_after = rows_then rows_before (rows_then (rows_picked cols s) (rows_fewer (omega arith) m.rows))

      pub taken_below : Selected n capacity i times zone (taken n count list times zone seen counts cols i s) list seen counts cols
          built list'' seen'' counts'' cols''
      taken_below = rw (← same_sets) (record { held = m.held; noted = m.noted; rows = rows_after })

      -- so it is noted
      pub taken_noted : Selected n capacity i times zone (taken n count list times zone seen counts cols i s) list seen counts cols
          built list'' seen'' (noted_in n counts'' i) cols''
      taken_noted =
          let stands = free_same m.rows u.tables.counted i (omega arith) in
          rw (← same_sets) (record {
            held = m.held;
            noted = noted_more m.noted row (rw stands covered);
            rows = rows_then rows_after (rows_noted counts'');
          })
