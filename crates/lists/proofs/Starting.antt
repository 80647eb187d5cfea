-- The first set of a selection, and the preimages of a zone as the sets of all selections; list 0.
use Prim.Native.Nat.{ℕ, zero, suc, ◌-◌, ◌≤◌}
use native.Mathlib.Omega.{arith}
use native.Mathlib.Nat.{zero-mul}
use mathlib.Core.Path.{◌≡◌, refl, ap, ◌∙◌}
use mathlib.Core.List.{List, [], ◌∷◌, ◌++◌, map}
use mathlib.Core.Option.{Option, some}
use lib.IntN.{ℤ}
use lib.ListN.{length, take, drop, get_or, replicate}
use lib.Seq.{length_front}
use Rattle.model.specs.Sizes.{most_departures, zone_size}
use Rattle.model.specs.Lists.{any_of}
use Rattle.model.specs.Matrix.{Matrix, everything, tighten}
use Rattle.model.specs.Pattern.{pattern_constraints}
use Rattle.model.specs.Network.{scale_time}
use Rattle.model.specs.Search.{selections, preimage, keep}
use Rattle.model.specs.Conditions.{clock}
use Rattle.model.proofs.Listed.{of_both}
use Rattle.model.proofs.Closed.{everything_closed}
use Rattle.model.proofs.Preimage.{clock_imaged}
use Rattle.memory.specs.Numbers.{bounds_in, times_in}
use Rattle.memory.specs.Conditions.{ZoneIn}
use Rattle.zones.specs.Conditions.{CommonReady}
use Rattle.zones.proofs.Standing.{closed_in}
use Rattle.ahead.proofs.Keeping.{first_kept}
use Rattle.lists.specs.Lists.{size_seen, zone_at, list_in, Sources, Joins, Meets}
use Rattle.lists.specs.Selecting.{extensions, Selecting}
use Rattle.lists.specs.Met.{free_at, Tables, Noted}
use Rattle.memory.specs.Matrices.{Left}
use Rattle.memory.specs.Side.{Elsewhere}
use Rattle.memory.proofs.Leaving.{left_none, left_some}
use Rattle.std.specs.Int.{from_bool}
use mathlib.Core.Bool.{Bool, true, false}
use Rattle.lists.specs.Inner.{parent_in, Underway}
use Rattle.lists.proofs.Lengths.{set_room}
use Rattle.lists.proofs.Fronts.{front_at}
use Rattle.lists.proofs.places.Zones.{list_more}

-- before row 1 only the clock's column is picked, and no set is noted: a 0 for each row
abbrev rows : List ℕ
rows = replicate (suc most_departures) 0

zeros : (n i : ℕ) → ◌≡◌ {A = ℕ} (get_or (replicate n 0) i 0) 0
zeros zero i = refl
zeros (suc n) zero = refl
zeros (suc n) (suc i) = zeros n i

-- the set of all times, put to the front of a table
pub begun : (n : ℕ) {size : ℕ} → size ≡ zone_size n → (seen z : List ℤ) → size_seen n ≤ length seen → length z ≡ length (take size seen)
    → bounds_in z ≡ everything (suc n)
    → (size_seen n ≤ length (z ++ drop size seen)) × (zone_at (zone_size n) (z ++ drop size seen) 0 ≡ everything (suc n))
begun n {size} e seen z long same is =
    let inside : size ≤ length seen = omega (arith, set_room n, e, long) in
    (rw (length_front seen z size same) long, rw (← e) (front_at size seen inside z same ∙ is))

-- in a table that begins with the set of all times
module _ {n : ℕ} {times zone : List ℤ} (s : Sources n times (bounds_in zone ∷ [])) (z : ZoneIn n zone)
    (seen : List ℤ) (long : size_seen n ≤ length seen) (first : zone_at (zone_size n) seen 0 ≡ everything (suc n)) where
  tables : Tables n seen rows
  tables = record { seen_size = long; counted = record { size = refl; few = λ i. omega (arith, zeros (suc most_departures) i) } }

  parent : parent_in n seen rows 1 ≡ everything (suc n)
  parent = let e : free_at n rows (1 - 1) ≡ 0 = simp zero-mul in ap (zone_at (zone_size n) seen) e ∙ first

  first_set : Selecting n times zone (everything (suc n)) (take 1 rows) 1
  first_set = record {
    backward = record { table = s.table; regular = s.regular; source = z; closed = (of_both s.closed).0 };
    to_end = omega arith;
    before = record {
      closed_set = everything_closed (suc n);
      from_one = omega arith;
      long = refl;
      columns = λ l h. let e : l ≡ 0 = omega arith in rw e clock;
      imaged = λ parts p x m l h. let e : l ≡ 0 = omega arith in rw e (clock_imaged n (map (scale_time parts) (times_in times)) x);
    };
    kept = first_kept n (times_in times) (of_both s.closed).0;
    fitting = λ rest q. let e : suc n - 1 ≡ n = omega arith in (of_both s.each).0 rest (rw e at q);
  }

  pub row_one : Underway n times zone seen rows rows 1
  row_one = record { tables = tables; cols_size = refl; row = s.table.departures.some; selecting = rw parent first_set }

  pub none_noted : {kept : List Matrix} → Noted n times zone kept seen rows
  none_noted = record { tables = tables; covered = λ i c h. absurd (omega (arith, zeros (suc most_departures) i)) }

  pub preimages : extensions n (times_in times) (bounds_in zone) (some (parent_in n seen rows 1)) (take 1 rows) 1 (suc n - 1)
      ≡ map (preimage n (times_in times) (bounds_in zone)) (selections n (times_in times) n 1)
  unfolding extensions preimage tighten
  preimages = let e : suc n - 1 ≡ n = omega arith in rw (parent, e)

-- ---- a zone and a pattern
pub common_ready : {n : ℕ} {pattern : List ℤ} {zs : List Matrix} (z : List ℤ) → Meets n pattern zs
    → Joins n (bounds_in pattern) (bounds_in z) → CommonReady n z pattern
common_ready z m j = record { set = closed_in z (let few = m.limits.departures.few in omega arith) j.closed; limits = m.limits; fitting = j.meetable }

-- list 0
module _ (n : ℕ) (pattern work : List ℤ) where
  abbrev target : Option Matrix
  target = tighten (suc n) (pattern_constraints n (bounds_in pattern))

  pub target_list : {after : List ℤ} → Elsewhere (zone_size n) 0 work after → {r : Bool} → Left target r (zone_at (zone_size n) after 0)
      → list_in (zone_size n) (from_bool r) after ≡ keep [] target
  unfolding list_in Rattle.model.specs.Lists.tabulate keep any_of
  target_list x {r = false} left = rw (left_none left refl)
  target_list x {r = true} left = rw (left_some left refl) (list_more x)
