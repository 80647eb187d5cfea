-- Zones as document 01's sets of times, over a real clock: which set each zone of a list is, and that its matrix holds the tightest bounds of that set,
-- with their marks. A set P is given in parts: P parts says which times it has, in parts of which parts, from 1 up, make a second.
use Rattle.std.specs.Prelude.{ℕ, suc, ◌-◌, ◌≤◌, ◌<◌, ◌≡◌, ◌↔◌, ℤ, ◌-ℤ◌, length, get_or}
use mathlib.Core.List.{List, [], ◌∷◌, ◌++◌, map, flat_map}
use Rattle.model.specs.Sizes.{zone_size}
use Rattle.model.specs.Lists.{Every, Some}
use Rattle.model.specs.Bound.{Bound, LeB, Holds, scale}
use Rattle.model.specs.Matrix.{Matrix, entry, Member}
use Rattle.model.specs.Pattern.{InPattern}
use Rattle.model.specs.Network.{secs, Network, in_parts, time, after, clocked, next, cycle}
use Rattle.model.specs.Search.{selections, lists}

-- x(i) - x(j) keeps to the bound at all times of the set
abbrev pub AllKeep : (ℕ → List ℤ → Type 0) → ℕ → ℕ → Bound → Type 0
AllKeep P i j b = (parts : ℕ) → 1 ≤ parts → (xs : List ℤ) → P parts xs → Holds (clocked xs i -ℤ clocked xs j) (scale parts b)

-- the members of a matrix
abbrev pub Members : ℕ → Matrix → ℕ → List ℤ → Type 0
Members n z parts xs = (length xs ≡ n) × Member (suc n) (map (scale parts) z) (clocked xs)

-- P is a set of times of departures 1 to n, x(0) being 0. It is not empty, z has for each pair the tightest bound on x(i) - x(j) over it, with its mark,
-- or none, and it is all the times that keep to these bounds
pub record Zone (n : ℕ) (P : ℕ → List ℤ → Type 0) (z : Matrix) : Type 0 where
  pub times : (parts : ℕ) × (1 ≤ parts) × (xs : List ℤ) × P parts xs
  pub size : length z ≡ zone_size n
  pub keep : (i j : ℕ) → i < suc n → j < suc n → AllKeep P i j (entry (suc n) z i j)
  pub tightest : (i j : ℕ) → i < suc n → j < suc n → (b : Bound) → AllKeep P i j b → LeB (entry (suc n) z i j) b
  pub all : (parts : ℕ) → 1 ≤ parts → (xs : List ℤ) → P parts xs ↔ Members n z parts xs

-- the target, of a network in parts
pub record InTarget (w : Network) (xs : List ℤ) : Type 0 where
  pub count : length xs ≡ w.n
  pub within : InPattern w.n w.target (clocked xs)

-- the set of a zone and a selection: in each row the selected column attains the largest sum, ties included, and the image is in the zone
pub record Selected (w : Network) (d : Matrix) (sel : List ℕ) (xs : List ℤ) : Type 0 where
  pub count : length xs ≡ w.n
  pub attains : (i : ℕ) → 1 ≤ i → i ≤ w.n → let s = get_or sel (i - 1) 0 in
      after (secs (clocked xs s)) (time w.n w.times i s) ≡ secs (next w.n w.times (clocked xs) i)
  pub arrives : Member (suc w.n) d (clocked (cycle w.n w.times xs))

-- the sets X in turn, the zones before being kept: a set is kept if it is not empty and differs from all kept earlier
pub data Kept {X : Type 0} (n : ℕ) (set : X → ℕ → List ℤ → Type 0) : List Matrix → List X → List Matrix → Type 0 where
  no_more : {kept : List Matrix} → Kept n set kept [] kept
  empty : {kept all : List Matrix} {x : X} {rest : List X} → ((parts : ℕ) → 1 ≤ parts → (xs : List ℤ) → set x parts xs → ⊥) → Kept n set kept rest all
      → Kept n set kept (x ∷ rest) all
  again : {kept all : List Matrix} {x : X} {rest : List X} → Some (Zone n (set x)) kept → Kept n set kept rest all → Kept n set kept (x ∷ rest) all
  new : {kept all : List Matrix} {x : X} {rest : List X} {z : Matrix} → Zone n (set x) z → Every (λ y. Zone n (set x) y → ⊥) kept
      → Kept n set (kept ++ (z ∷ [])) rest all → Kept n set kept (x ∷ rest) all

-- for each zone in order, for each selection in order
abbrev pub sources : Network → List Matrix → List (Matrix × List ℕ)
sources w zs = flat_map (λ d. map (λ sel. (d, sel)) (selections w.n w.times w.n 1)) zs

-- the lists of a network are document 01's
pub record ListsOfZones (w : Network) : Type 0 where
  pub zones : (k : ℕ) → Every (λ z. Zone w.n (Members w.n z) z) (lists w k)
  pub first : Kept w.n (λ (target : Unit {0}) parts. InTarget (in_parts parts w)) [] (tt ∷ []) (lists w 0)
  pub later : (k : ℕ)
      → Kept w.n (λ c parts. Selected (in_parts parts w) (map (scale parts) c.0) c.1) [] (sources w (lists w k)) (lists w (suc k))
