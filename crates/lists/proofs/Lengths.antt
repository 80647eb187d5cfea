-- The lengths of the tables for the sets met.
use Prim.Native.Nat.{ℕ, suc, ◌*◌, ◌≤◌, ◌<◌}
use native.Mathlib.Omega.{arith}
use native.Mathlib.Nat.{mul-le-mul, mul-le-mul_right}
use mathlib.Core.Path.{◌≡◌}
use mathlib.Core.Bool.{Bool, true, false, cond}
use lib.Dec.{ltb}
use borrow.Author.Tests.{lt-ltb, le-ltb}
use Rattle.model.specs.Sizes.{most_departures, zone_size}
use Rattle.lists.specs.Lists.{small_network, middle_network, few_sets, many_sets, sets_met, places_met, size_seen}

-- ---- few sets in a row, and few places in all
pub sets_few : (n : ℕ) → sets_met n ≤ many_sets
unfolding sets_met
sets_few n = go (ltb middle_network n)
  where
    go : (t : Bool) → cond t few_sets many_sets ≤ many_sets
    go true = omega arith
    go false = omega arith

pub places_few : (n i : ℕ) → i ≤ most_departures → i * places_met n ≤ most_departures * suc many_sets
places_few n i row = let sets : places_met n ≤ suc many_sets = omega (arith, sets_few n) in mul-le-mul row sets

-- ---- a table that is long enough
-- it has room for a set
pub set_room : (n : ℕ) → zone_size n ≤ size_seen n
set_room n =
    let row : 1 ≤ suc n = omega arith in
    let place : 1 ≤ places_met n = omega arith in
    omega (arith, mul-le-mul_right (zone_size n) (mul-le-mul row place))

-- one for m departures, with as many sets in a row, is long enough for n
seen_room : {n m : ℕ} → n ≤ m → sets_met n ≡ sets_met m → size_seen n ≤ size_seen m
seen_room {n} {m} h e =
    let rows : suc n ≤ suc m = omega arith in
    let places : places_met n ≤ places_met m = omega arith in
    mul-le-mul (mul-le-mul rows places) (mul-le-mul rows rows)

module _ {n : ℕ} where
  sets_many : n ≤ middle_network → sets_met n ≡ many_sets
  unfolding sets_met
  sets_many h = rw (le-ltb middle_network n h)

  pub small_room : n ≤ small_network → size_seen n ≤ size_seen small_network
  unfolding sets_met
  small_room h = seen_room h (sets_many (omega arith))

  pub middle_room : n ≤ middle_network → size_seen n ≤ size_seen middle_network
  unfolding sets_met
  middle_room h = seen_room h (sets_many h)

  pub large_room : middle_network < n → n ≤ most_departures → size_seen n ≤ size_seen most_departures
  unfolding sets_met
  large_room l h = seen_room h (rw (lt-ltb middle_network n l))
