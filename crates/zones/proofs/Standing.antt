-- A closed matrix in memory.
use Prim.Native.Nat.{ℕ, suc, ◌≤◌}
use mathlib.Core.Path.{sym, ◌∙◌}
use mathlib.Core.List.{List}
use lib.IntN.{ℤ}
use Rattle.model.specs.Sizes.{most_times_at_once}
use Rattle.model.specs.Conditions.{Closed}
use Rattle.memory.specs.Numbers.{bounds_in}
use Rattle.memory.proofs.Places.{bounds_size}
use Rattle.zones.specs.Conditions.{ClosedIn}

-- a closed matrix in memory is a zone
pub closed_in : {n : ℕ} (z : List ℤ) → n ≤ most_times_at_once → Closed (suc n) (bounds_in z) → ClosedIn n z
closed_in z few c = record { zone = record { few = few; size = sym (bounds_size z) ∙ c.size }; closed = c }
