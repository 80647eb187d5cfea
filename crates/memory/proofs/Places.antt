-- The places of a zone, of a pattern and of the table in memory, and what a store changes.
use Prim.Native.Nat.{ℕ, zero, suc, ◌+◌, ◌-◌, ◌*◌, ◌≤◌, ◌<◌}
use native.Mathlib.Omega.{arith}
use native.Mathlib.Nat.{mul-le-mul, mul-le-mul_right}
use mathlib.Core.Path.{◌≡◌, refl, sym, ap, ap₂, ◌∙◌}
use mathlib.Core.List.{List, [], ◌∷◌, map}
use lib.IntN.{ℤ, pos}
use lib.ListN.{length, get_or, set, length-map}
use Rattle.model.specs.Sizes.{most_departures, most_numbers, zone_size}
use Rattle.model.specs.Bound as B
use Rattle.model.specs.Bound.{Bound}
use Rattle.model.specs.Matrix.{entry, Constraint}
use Rattle.model.specs.Network.{Time, blank, time}
use Rattle.model.specs.Conditions.{Departures}
use Rattle.memory.specs.Numbers.{bound_in, bounds_in}
use Rattle.memory.specs.Conditions.{ZoneIn}
use Rattle.memory.specs.Matrices.{Takes}

-- ---- how many there are
pub zone_fits : {n : ℕ} → Departures n → zone_size n ≤ most_numbers
zone_fits {n} d = let k : suc n ≤ suc most_departures = omega arith in mul-le-mul k k

-- the place (i, j) of k rows of m is one of k * m
pub in_rows : (m i j k : ℕ) → i < k → j < m → i * m + j < k * m
in_rows m i j k h l = let p : suc i * m ≤ k * m = mul-le-mul_right m h in omega arith

-- ---- an element, and a store, of a list that a function is mapped over
pub get_d_in : {X Y : Type 0} (f : X → Y) (xs : List X) (k : ℕ) (x : X) (y : Y) → k < length xs → get_or (map f xs) k y ≡ f (get_or xs k x)
get_d_in f [] k x y h = absurd (omega arith)
get_d_in f (u ∷ xs) zero x y h = refl
get_d_in f (u ∷ xs) (suc k) x y h = get_d_in f xs k x y (omega arith)

pub map_set : {X Y : Type 0} (f : X → Y) (xs : List X) (k : ℕ) (x : X) → map f (set xs k x) ≡ set (map f xs) k (f x)
map_set f [] k x = refl
map_set f (u ∷ xs) zero x = refl
map_set f (u ∷ xs) (suc k) x = ap (◌∷◌ (f u)) (map_set f xs k x)

pub get_d_bounds : (z : List ℤ) (k : ℕ) → k < length z → get_or (bounds_in z) k B.Bound.none ≡ bound_in (get_or z k (pos 0))
unfolding bounds_in
get_d_bounds z k h = get_d_in bound_in z k (pos 0) B.Bound.none h

-- an element by its place in rows of m
pub entry_mapped : {X : Type 0} (f : X → Bound) (z : List X) (m i j k : ℕ) (x : X) → k ≡ i * m + j → k < length z → x ≡ get_or z k x
    → entry m (map f z) i j ≡ f x
unfolding entry
entry_mapped f z m i j k x e h is = rw (← e) (get_d_in f z k x B.Bound.none h ∙ ap f (sym is))

pub time_mapped : {X : Type 0} (f : X → Time) (a : List X) (n i j k : ℕ) (x : X) → k ≡ (i - 1) * n + (j - 1) → k < length a → x ≡ get_or a k x
    → time n (map f a) i j ≡ f x
unfolding time
time_mapped f a n i j k x e h is = rw (← e) (get_d_in f a k x blank h ∙ ap f (sym is))

pub bounds_size : (z : List ℤ) → length (bounds_in z) ≡ length z
unfolding bounds_in
bounds_size z = length-map z bound_in

-- ---- where bounds z is f of each number
module _ {X : Type 0} {bounds : List X → List Bound} {f : X → Bound} (are : (z : List X) → bounds z ≡ map f z) where
  pub size_of : (z : List X) → length (bounds z) ≡ length z
  size_of z = rw (are z) (length-map z f)

  -- where constraints can be taken in, there is a zone
  pub zone_of : {n L : ℕ} {ks : List Constraint} (z : List X) → Takes n L (bounds z) ks → ZoneIn n z
  zone_of z t = record { few = t.few; size = sym (size_of z) ∙ t.closed.size }

  -- a store
  pub put_of : (z : List X) (k : ℕ) (x : X) {b : Bound} → f x ≡ b → bounds (set z k x) ≡ set (bounds z) k b
  put_of z k x e = are (set z k x) ∙ map_set f z k x ∙ ap₂ (λ d b. set d k b) (sym (are z)) e
