-- Zones with the clock moved, and lists of them in the workspace.
use Rattle.std.specs.Prelude.{ℕ, zero, suc, ◌+◌, ◌*◌, ◌/◌, ◌%◌, ◌≤◌, ◌<◌, ◌≡◌, List, map, Option, IfSome, ℤ, pos, nat_abs, ◌-ℤ◌, length, take, drop, get_or}
use Rattle.ints.specs.declared.Seconds.{Seconds}
use Rattle.model.specs.Sizes.{most_departures, zone_size}
use Rattle.model.specs.Lists.{Every}
use Rattle.model.specs.Bound.{Bound, most, plus}
use Rattle.model.specs.Matrix.{Matrix, entry, matrix}
use Rattle.model.specs.Conditions.{Bounded, Small}
use Rattle.memory.specs.Numbers.{bound_in, Limit, InMemory}
use Rattle.lists.specs.Lists.{list_in}

-- the bounds of d where x(i) is p(i) later
unfoldable pub move_by : ℕ → (ℕ → ℤ) → Matrix → Matrix
move_by m p d = matrix m (λ i j. plus (entry m d i j) (most (p i -ℤ p j)))

-- the clock is c later, and nothing else
unfoldable pub clock_by : ℤ → ℕ → ℤ
clock_by c zero = c
clock_by c (suc i) = pos 0

unfoldable pub moved : ℕ → ℤ → Matrix → Matrix
moved n c d = move_by (suc n) (clock_by c) d

-- what the bound at place p of a list of such zones changes by
unfoldable pub change_at : ℕ → ℤ → ℕ → ℤ
change_at n c p = clock_by c (p / suc n % suc n) -ℤ clock_by c (p % suc n)

-- the bound at place p of the numbers of such a list, so changed
unfoldable pub changed : ℕ → ℤ → List ℤ → ℕ → Bound
changed n c numbers p = plus (bound_in (get_or numbers p (pos 0))) (most (change_at n c p))

-- so far the clock is moved at most, and so much a bound changes then
abbrev pub ClockMove : ℤ → Type 0
ClockMove c = nat_abs c ≤ InMemory

abbrev pub BoundMove : ℤ → Type 0
BoundMove c = nat_abs c ≤ 2 * InMemory

-- the clock can be moved so far
pub record Changing (n : ℕ) (c : ℤ) : Type 0 where
  pub few : n ≤ most_departures
  pub small : ClockMove c

pub record Change (n : ℕ) (c : ℤ) (p : ℕ) (r : Seconds) : Type 0 where
  pub is : r.0 ≡ change_at n c p
  pub small : BoundMove r.0

-- each of the numbers can be changed; and is
pub record Shiftable (n : ℕ) (c : ℤ) (numbers : List ℤ) : Type 0 where
  pub changing : Changing n c
  pub small : (p : ℕ) → p < length numbers → Small Limit (changed n c numbers p)

abbrev pub Shifted : ℕ → ℤ → List ℤ → List ℤ → Type 0
Shifted n c before after = (p : ℕ) → p < length before → bound_in (get_or after p (pos 0)) ≡ changed n c before p

-- a list of count zones at source, and one of next zones at goal
pub record TwoLists (n source count goal next : ℕ) (work : List ℤ) : Type 0 where
  pub few : n ≤ most_departures
  pub source_in : source + count * zone_size n ≤ length work
  pub goal_in : goal + next * zone_size n ≤ length work

-- the list at goal is the one at source moved by so much
pub record Moves (n source count goal next : ℕ) (work : List ℤ) (by : Seconds) : Type 0 where
  pub small : ClockMove by.0
  pub is : list_in (zone_size n) next (drop goal work) ≡ map (moved n by.0) (list_in (zone_size n) count (drop source work))

-- if a move is found, it is so. Free: whether one is found
abbrev pub MovedBy : (n source count goal next : ℕ) → List ℤ → Option Seconds → Type 0
MovedBy n source count goal next work r = IfSome r (Moves n source count goal next work)

-- the list at base can be moved by c: no finite bound is then beyond Limit
pub record Movable (n base count : ℕ) (c : ℤ) (work : List ℤ) : Type 0 where
  pub changing : Changing n c
  pub inside : base + count * zone_size n ≤ length work
  pub each : Every (Bounded (suc n) Limit) (map (moved n c) (list_in (zone_size n) count (drop base work)))

-- it is moved; nothing else changes
pub record MoveList (n base count : ℕ) (c : ℤ) (before after : List ℤ) : Type 0 where
  pub list : list_in (zone_size n) count (drop base after) ≡ map (moved n c) (list_in (zone_size n) count (drop base before))
  pub front : take base after ≡ take base before
  pub back : drop (base + count * zone_size n) after ≡ drop (base + count * zone_size n) before
