-- All times can take in the bounds that leave some, and what is left is the zone in whole parts, in which the start is picked.
use Prim.Native.Nat.{ℕ, suc, ◌+◌, ◌*◌, ◌≤◌}
use native.Mathlib.Omega.{arith}
use native.Mathlib.Nat.{mul-le-mul, mul-le-mul_left}
use mathlib.Core.Path.{◌≡◌, refl, ap, ◌∙◌}
use mathlib.Core.List.{List, [], ◌∷◌, map}
use mathlib.Core.Option.{some}
use lib.IntN.{ℤ}
use Rattle.model.specs.Sizes.{most_departures}
use Rattle.model.specs.Bound.{Bound, scale, whole}
use Rattle.model.specs.Matrix.{Matrix, everything, tighten}
use Rattle.model.specs.Search.{bounds_of, pick, wholes, start_in}
use Rattle.model.proofs.Closed.{everything_closed}
use Rattle.model.proofs.Wholes.{bounds_fit, bounds_small, read_entry, entry_parts}
use Rattle.model.proofs.Runs.{small_scale, small_whole}
use Rattle.model.proofs.Fitted.{made_fitting}
use Rattle.model.proofs.Sizes.{made_everything}
use Rattle.model.specs.Conditions.{Bounded}
use Rattle.memory.specs.Numbers as Memory
use Rattle.memory.specs.Numbers.{InMemory}
use Rattle.memory.specs.Conditions.{ZoneIn}
use Rattle.memory.specs.Matrices.{leaves}
use Rattle.starts.specs.Numbers.{bounds_in, Stored}
use Rattle.starts.specs.Conditions.{AllReady, BoundsReady, StartReady}

pub all_ready : {n : ℕ} {bounds : List ℤ} (z : List ℤ) → BoundsReady n bounds → bounds_in z ≡ everything (suc n) → AllReady n z bounds
all_ready {n} {bounds} z r e = record {
  taking = record {
    few = r.source.few;
    closed = rw e (everything_closed (suc n));
    fits = bounds_fit (suc n) (bounds_in bounds);
    fitting = rw e r.fitting;
  };
  times = rw e r.times;
  source = r.source;
}

-- ---- a zone in parts
-- a number of the zone, in whole parts
abbrev pub part_of : ℕ → ℤ → Bound
part_of parts z = whole (scale parts (Memory.bound_in z))

fused : (parts : ℕ) (zs : List ℤ) → map (part_of parts) zs ≡ map whole (map (scale parts) (Memory.bounds_in zs))
unfolding Memory.bounds_in
fused parts [] = refl
fused parts (z ∷ zs) = ap (◌∷◌ (part_of parts z)) (fused parts zs)

pub parts_are : (parts : ℕ) (zone : List ℤ) {ds : Matrix} → ds ≡ map (part_of parts) zone → ds ≡ map whole (map (scale parts) (Memory.bounds_in zone))
parts_are parts zone e = e ∙ fused parts zone

module _ {n : ℕ} {zone : List ℤ} {parts : ℕ} (r : StartReady n zone parts) (bounds : List ℤ)
    (e : bounds_in bounds ≡ map whole (map (scale parts) (Memory.bounds_in zone))) where
  abbrev z : Matrix
  z = Memory.bounds_in zone

  -- the most that they are in size
  abbrev most_size_lem : ℕ
  most_size_lem = InMemory * parts + 1

  room : n * most_size_lem ≤ Stored
  room =
      let b : most_size_lem ≤ InMemory * suc most_departures + 1 = omega (arith, mul-le-mul_left InMemory r.few_parts) in
      let m : n * most_size_lem ≤ most_departures * (InMemory * suc most_departures + 1) = mul-le-mul r.departures.few b in
      omega arith

  in_parts_small : Bounded (suc n) most_size_lem (map whole (map (scale parts) z))
  in_parts_small i j hi hj =
      rw (read_entry (suc n) (map (scale parts) z) i j, entry_parts (suc n) parts z i j) (small_whole (small_scale parts (r.small i j hi hj)))

  -- all times can take in these bounds
  pub bounds_ready : ZoneIn n bounds → BoundsReady n bounds
  unfolding wholes tighten
  bounds_ready source = record {
    departures = r.departures;
    source = source;
    times = record { zone = r.left; is = rw e r.some_left };
    fitting = rw e (made_fitting room (made_everything n most_size_lem) (bounds_fit (suc n) _) (bounds_small (suc n) _ in_parts_small));
  }

  -- and what they leave is the zone in whole parts
  pub wholes_are : {d : Matrix} → leaves n (everything (suc n)) (bounds_of (suc n) (bounds_in bounds)) ≡ some d → wholes (suc n) parts z ≡ some d
  unfolding wholes tighten
  wholes_are h = rw e at h

pub start_in_lem : (n parts : ℕ) (z d : Matrix) → wholes (suc n) parts z ≡ some d → pick n d ≡ start_in n parts z
unfolding start_in
start_in_lem n parts z d h = rw (start_in, h)
