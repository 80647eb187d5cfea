-- What the functions inside this crate require and ensure.
use Rattle.std.specs.Prelude.{ℕ, suc, ◌+◌, ◌*◌, ◌-◌, ◌≤◌, ◌≡◌, Bool, List, [], ◌∷◌, ◌++◌, ℤ, length, take}
use Rattle.std.specs.Prelude as std
use Rattle.std.proofs.Math.Option.{Option}
use Rattle.model.specs.Sizes.{most_departures, zone_size}
use Rattle.model.specs.Matrix.{Matrix}
use Rattle.model.specs.Network.{Time}
use Rattle.model.specs.Search.{keep}
use Rattle.model.specs.Conditions.{Column, Cols}
use Rattle.memory.specs.Numbers.{bounds_in, times_in}
use Rattle.memory.specs.Conditions.{TableIn, ZoneIn}
use Rattle.memory.specs.Matrices.{Left}
use Rattle.memory.specs.Side.{Elsewhere}
use Rattle.starts.specs.Numbers as Starts
use Rattle.ahead.specs.Needs.{needs}
use Rattle.lists.specs.Lists.{size_seen, places_met, zone_at, list_in, ListRoom, ListHeld, Sources}
use Rattle.lists.specs.Selecting.{extensions, with_column, Selecting}
use Rattle.lists.specs.Met.{free_at, Tables, Noted}

-- ---- a set built at place k of a list
-- the set o, by the answer. False: there is none, and what stands at the place is free
pub record PlacedAt (size k : ℕ) (o : Option Matrix) (before : List ℤ) (r : Bool) (after : List ℤ) : Type 0 where
  pub elsewhere : Elsewhere size k before after
  pub left : Left o r (zone_at size after k)

-- ---- what the zone needs, in a table
pub record Tabled (n : ℕ) (times zone table : List ℤ) : Type 0 where
  pub inside : ZoneIn n table
  pub is : Starts.bounds_in table ≡ needs n (times_in times) (bounds_in zone)

-- a set of the table of sets met can be held against it: that of the row before, with column s; that of row i, with the columns up to there
pub record FitReady (n : ℕ) (seen table times : List ℤ) (counts : List ℕ) (i s : ℕ) : Type 0 where
  pub tables : Tables n seen counts
  pub times_held : TableIn n times
  pub table_held : ZoneIn n table
  pub row : i ≤ n
  pub from_one : 1 ≤ i
  pub column : Column n (times_in times) i s

pub record ShutReady (n : ℕ) (seen table times : List ℤ) (counts cols : List ℕ) (i : ℕ) : Type 0 where
  pub tables : Tables n seen counts
  pub times_held : TableIn n times
  pub table_held : ZoneIn n table
  pub row : i ≤ n
  pub long : suc i ≤ length cols
  pub columns : Cols n (times_in times) (take (suc i) cols) (suc i)

-- ---- one column of row i
-- what it adds to the set at place k of a list can be taken in
pub record AddReady (n k : ℕ) (list times zone : List ℤ) (cols : List ℕ) (i s : ℕ) : Type 0 where
  pub inside : k * zone_size n + zone_size n ≤ length list
  pub cols_in : i ≤ length cols
  pub row : i ≤ n
  pub selecting : Selecting n times zone (zone_at (zone_size n) list k) (take i cols) i
  pub column : Column n (times_in times) i s

-- the set at the free place of the row before
abbrev pub parent_in : ℕ → List ℤ → List ℕ → ℕ → Matrix
parent_in n seen counts i = zone_at (zone_size n) seen (free_at n counts (i - 1))

-- a selection under way: the columns of rows 0 to i - 1 leave it
pub record Underway (n : ℕ) (times zone seen : List ℤ) (counts cols : List ℕ) (i : ℕ) : Type 0 where
  pub tables : Tables n seen counts
  pub cols_size : length cols ≡ suc most_departures
  pub row : i ≤ n
  pub selecting : Selecting n times zone (parent_in n seen counts i) (take i cols) i

pub record ColumnReady (n : ℕ) (times zone seen : List ℤ) (counts cols : List ℕ) (i s : ℕ) : Type 0 where
  pub ready : Underway n times zone seen counts cols i
  pub column : Column n (times_in times) i s

-- what column s leaves of it
abbrev pub left_of : ℕ → List ℤ → List ℤ → List ℤ → List ℕ → List ℕ → ℕ → ℕ → Option Matrix
left_of n times zone seen counts cols i s = with_column n (times_in times) (bounds_in zone) (parent_in n seen counts i) (take i cols) i s

-- and what further rows make of that
unfoldable pub column_sets : ℕ → List Time → Matrix → Matrix → List ℕ → ℕ → ℕ → List (Option Matrix)
column_sets n a d part cols i s = extensions n a d (with_column n a d part cols i s) (cols ++ (s ∷ [])) (suc i) (suc n - suc i)

-- ---- the list
-- its length, where it has room for all
abbrev pub counted : {A : Type 0} → std.Option A → ℕ → std.Option ℕ
counted std.None kept = std.None
counted (std.Some u) kept = std.Some kept

-- the set of a full selection can be put to it
pub record PutReady (n capacity count : ℕ) (list times zone seen : List ℤ) (counts cols : List ℕ) (i s : ℕ) : Type 0 where
  pub room : ListRoom (zone_size n) capacity count list
  pub column : ColumnReady n times zone seen counts cols i s

pub record PutLast (n capacity count i : ℕ) (o : Option Matrix) (list seen : List ℤ) (counts cols : List ℕ)
    (r : std.Option ℕ) (list' seen' : List ℤ) (counts' cols' : List ℕ) : Type 0 where
  pub held : ListHeld (zone_size n) capacity (keep (list_in (zone_size n) count list) o) r list list'
  pub elsewhere : Elsewhere (zone_size n) (free_at n counts i) seen seen'
  pub counts_same : counts' ≡ counts
  pub cols_same : cols' ≡ cols

-- nothing before row i has changed, and there is a column for each row as before
pub record RowsFrom (n i : ℕ) (seen seen' : List ℤ) (counts counts' cols cols' : List ℕ) : Type 0 where
  pub sets_same : take (i * places_met n * zone_size n) seen' ≡ take (i * places_met n * zone_size n) seen
  pub counts_same : take i counts' ≡ take i counts
  pub cols_same : take i cols' ≡ take i cols
  pub cols_long : length cols' ≡ length cols

-- the sets of all columns of row i can be put to the list, and of column s
pub record SelectReady (n capacity count : ℕ) (list times zone table seen : List ℤ) (counts cols : List ℕ) (i : ℕ) : Type 0 where
  pub room : ListRoom (zone_size n) capacity count list
  pub tabled : Tabled n times zone table
  pub ready : Underway n times zone seen counts cols i
  pub noted : Noted n times zone (list_in (zone_size n) count list) seen counts

pub record TakeReady (n capacity count : ℕ) (list times zone table seen : List ℤ) (counts cols : List ℕ) (i s : ℕ) : Type 0 where
  pub select : SelectReady n capacity count list times zone table seen counts cols i
  pub column : Column n (times_in times) i s

-- the list is zs then
pub record Selected (n capacity i : ℕ) (times zone : List ℤ) (zs : List Matrix) (list seen : List ℤ) (counts cols : List ℕ)
    (r : std.Option ℕ) (list' seen' : List ℤ)
    (counts' cols' : List ℕ) : Type 0 where
  pub held : ListHeld (zone_size n) capacity zs r list list'
  pub noted : Noted n times zone zs seen' counts'
  pub rows : RowsFrom n i seen seen' counts counts' cols cols'

-- the preimages of a zone can be put to it
pub record PullReady (n capacity count : ℕ) (list times zone seen : List ℤ) : Type 0 where
  pub room : ListRoom (zone_size n) capacity count list
  pub sources : Sources n times (bounds_in zone ∷ [])
  pub source : ZoneIn n zone
  pub seen_size : size_seen n ≤ length seen
