-- A zone in the first numbers of an array, lent and given back.
use Prim.Native.Nat.{ℕ, ◌≤◌}
use native.Mathlib.Omega.{arith}
use mathlib.Core.Path.{◌≡◌, sym, ap, ◌∙◌}
use mathlib.Core.List.{List, ◌++◌}
use lib.IntN.{ℤ}
use lib.ListN.{length, take, drop}
use lib.Seq.{length-take-le, take_at, length_front}
use Rattle.model.specs.Sizes.{most_numbers, zone_size}
use Rattle.model.specs.Conditions.{Departures}
use Rattle.memory.specs.Conditions.{ZoneIn}
use Rattle.memory.proofs.Places.{zone_fits}

module _ {n size : ℕ} (d : Departures n) (is : size ≡ zone_size n) (part : List ℤ) (long : length part ≡ most_numbers) where
  pub part_room : size ≤ length part
  part_room = omega (arith, zone_fits d)

  pub part_long : length (take size part) ≡ size
  part_long = length-take-le size part part_room

  pub part_zone : ZoneIn n (take size part)
  part_zone = record { few = omega arith; size = part_long ∙ is }

  pub part_is : take size part ≡ take (zone_size n) part
  part_is = ap (λ (s : ℕ). take s part) is

  module _ (out : List ℤ) (same : length out ≡ size) where
    pub back_is : take (zone_size n) (out ++ drop size part) ≡ out
    back_is = rw (← is) (take_at out (drop size part) size same)

    pub back_long : length (out ++ drop size part) ≡ most_numbers
    back_long = length_front part out size (same ∙ sym part_long) ∙ long
