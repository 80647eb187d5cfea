-- A number of 64 bits as a time, and the number that stands for a time in parts.
use Prim.Native.Nat.{ℕ, suc, ◌+◌, ◌*◌, ◌≤◌}
use native.Mathlib.Omega.{arith}
use native.Mathlib.Nat.{add-mul, mul-le-mul}
use mathlib.Core.Path.{◌≡◌, refl, ap, ◌∙◌}
use mathlib.Core.List.{List, [], ◌∷◌, map}
use lib.IntN.{ℤ, pos, nat_abs, ◌*ℤ◌}
use mir.Syntax.{w64}
use mir.Val.{SFits}
use borrow.Author.Tests.{le-ltb}
use Rattle.ints.proofs.Integers.{up, dn, ints, fits, abs_ud}
use Rattle.model.specs.Sizes.{most_departures}
use Rattle.model.specs.Network.{Time, secs, scale_time}
use Rattle.model.proofs.Scale.{mul_ud}
use Rattle.memory.specs.Numbers as Memory
use Rattle.memory.specs.Numbers.{InMemory}
use Rattle.memory.specs.Wide.{Largest}
use Rattle.descent.specs.Numbers.{time_in}

module _ (z : ℤ) where
  -- in parts
  module _ (parts : ℕ) (small : nat_abs z ≤ InMemory) (few : parts ≤ suc most_departures) where
    product_small : nat_abs (z *ℤ pos parts) ≤ InMemory * suc most_departures
    product_small =
        let m : (up z + dn z) * parts ≤ InMemory * suc most_departures = mul-le-mul {n₂ = InMemory} (omega (arith, abs_ud z)) few in
        omega (arith, abs_ud (z *ℤ pos parts), mul_ud z parts, add-mul (up z) (dn z) parts)

    pub product_fits : SFits w64 (z *ℤ pos parts)
    product_fits = fits (omega (ints, product_small, abs_ud (z *ℤ pos parts)))

    pub product_stored : time_in (z *ℤ pos parts) ≡ secs (z *ℤ pos parts)
    unfolding time_in
    product_stored = rw (le-ltb Largest (nat_abs (z *ℤ pos parts)) (let h = product_small in omega arith))

-- a number of the table, in parts
abbrev pub part_of : ℕ → ℤ → Time
part_of parts z = scale_time parts (Memory.time_in z)

fused : (parts : ℕ) (zs : List ℤ) → map (part_of parts) zs ≡ map (scale_time parts) (Memory.times_in zs)
unfolding Memory.times_in
fused parts [] = refl
fused parts (z ∷ zs) = ap (◌∷◌ (part_of parts z)) (fused parts zs)

pub parts_are : (parts : ℕ) (times : List ℤ) {ts : List Time} → ts ≡ map (part_of parts) times → ts ≡ map (scale_time parts) (Memory.times_in times)
parts_are parts times e = e ∙ fused parts times
