-- The last lists of a search, kept side by side, each in a place of its own.
use Rattle.std.specs.Prelude.{ℕ, suc, ◌+◌, ◌*◌, ◌-◌, ◌/◌, ◌%◌, ◌≤◌, ◌<◌, ◌≡◌, ◌⊎◌, List, map, ℤ, length, drop, get_or}
use Rattle.std.proofs.Math.ListN.{set}
use Rattle.std.proofs.Math.Seq.{paste}
use Rattle.std.proofs.Math.Option.{none}
use Rattle.model.specs.Sizes.{zone_size, workspace_size}
use Rattle.model.specs.Lists.{Every}
use Rattle.model.specs.Matrix.{Matrix}
use Rattle.model.specs.Network.{Network}
use Rattle.model.specs.Search.{first_common, lists}
use Rattle.model.specs.Conditions.{Bounded}
use Rattle.memory.specs.Numbers.{Limit}
use Rattle.memory.specs.Networks.{network_in}
use Rattle.memory.specs.Side.{Elsewhere}
use Rattle.lists.specs.Lists.{list_in}
use Rattle.lists.specs.declared.ZoneList.{ZoneList}
use Rattle.moves.specs.Moving.{moved, ClockMove, Changing}
use Rattle.search.specs.Searching.{Searchable}

-- so many of the last lists have a place; list k has place k mod so many
abbrev pub places : ℕ
places = 5

-- how many of these numbers each place has
abbrev pub room_in : List ℤ → ℕ
room_in numbers = length numbers / places

-- the zones of list k, and the list
abbrev pub count_of : List ℕ → ℕ → ℕ
count_of counts k = get_or counts (k % places) 0

abbrev pub kept_list : ℕ → ℕ → List ℕ → List ℤ → ℕ → List Matrix
kept_list n room counts numbers k = list_in (zone_size n) (count_of counts k) (drop (k % places * room) numbers)

-- list k has a zone, and its place has room for it
pub record Placed (n room : ℕ) (counts : List ℕ) (k : ℕ) : Type 0 where
  pub some_zone : 1 ≤ count_of counts k
  pub fits : count_of counts k * zone_size n ≤ room

-- list k of a network is kept; it does not meet the start
pub record Kept (w : Network) (capacity room : ℕ) (counts : List ℕ) (numbers : List ℤ) (k : ℕ) : Type 0 where
  pub placed : Placed w.n room counts k
  pub inside : count_of counts k ≤ capacity
  pub list : kept_list w.n room counts numbers k ≡ lists w k
  pub apart : first_common w.n w.start (lists w k) ≡ none

-- zones that are put to the place of list k
pub record PutAt (room : ℕ) (zones : List ℤ) (count k : ℕ) (counts : List ℕ) (numbers : List ℤ) (counts' : List ℕ) (numbers' : List ℤ) : Type 0 where
  pub some_zone : 1 ≤ count
  pub fits : length zones ≤ room
  pub counted : counts' ≡ set counts (k % places) count
  pub list : numbers' ≡ paste numbers (k % places * room) zones (length zones)

-- all lists from that cycle on are kept still, with list k; or none is
abbrev pub ListKept : ℕ → List ℤ → ℕ → ℕ → ℕ → List ℕ → List ℤ → ℕ → List ℕ → List ℤ → Type 0
ListKept room zones count k from counts numbers r counts' numbers' =
    (r ≡ suc k) ⊎ ((r ≡ from) × PutAt room zones count k counts numbers counts' numbers')

-- list k is the one lag cycles before it with the clock moved, and so many lists are kept
pub record Repeats (n : ℕ) (counts : List ℕ) (numbers : List ℤ) (from k lag : ℕ) (c : ℤ) : Type 0 where
  pub some_lag : 1 ≤ lag
  pub few : lag < places
  pub early : from + lag ≤ k
  pub small : ClockMove c
  pub is : kept_list n (room_in numbers) counts numbers k ≡ map (moved n c) (kept_list n (room_in numbers) counts numbers (k - lag))

-- list k can be made from the one lag cycles before it
pub record Turnable (n : ℕ) (counts : List ℕ) (numbers : List ℤ) (k lag : ℕ) (c : ℤ) : Type 0 where
  pub some_lag : 1 ≤ lag
  pub few : lag < places
  pub early : lag ≤ k
  pub counted : length counts ≡ places
  pub changing : Changing n c
  pub placed : Placed n (room_in numbers) counts (k - lag)
  pub each : Every (Bounded (suc n) Limit) (map (moved n c) (kept_list n (room_in numbers) counts numbers (k - lag)))

-- it is, in its place; nothing else changes
pub record Turned (n room k lag : ℕ) (c : ℤ) (counts : List ℕ) (numbers : List ℤ) (counts' : List ℕ) (numbers' : List ℤ) (r : ZoneList) : Type 0 where
  pub base : r.base ≡ k % places * room
  pub count : r.count ≡ count_of counts (k - lag)
  pub counted : counts' ≡ set counts (k % places) (count_of counts (k - lag))
  pub list : list_in (zone_size n) (count_of counts (k - lag)) (drop (k % places * room) numbers')
      ≡ map (moved n c) (kept_list n room counts numbers (k - lag))
  pub elsewhere : Elsewhere room (k % places) numbers numbers'

-- the lists of a search take turns: list k is the one lag cycles before it with the clock moved, and all since are kept
pub record Turning (n parts capacity cycles : ℕ) (times start target : List ℤ) (counts : List ℕ) (numbers : List ℤ) (k lag : ℕ) (c : ℤ) : Type 0 where
  pub searchable : Searchable n parts capacity cycles (workspace_size capacity n) times start target
  pub some_lag : 1 ≤ lag
  pub few : lag < places
  pub early : lag ≤ k
  pub upto : k ≤ cycles
  pub counted : length counts ≡ places
  pub kept : (j : ℕ) → k < j + lag → j ≤ k → Kept (network_in n cycles times start target) capacity (room_in numbers) counts numbers j
  pub small : ClockMove c
  pub moves : lists (network_in n cycles times start target) k ≡ map (moved n c) (lists (network_in n cycles times start target) (k - lag))
