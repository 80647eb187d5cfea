-- Two zones, number by number.
use Rattle.std.specs.Prelude.{ℕ, ◌<◌, ◌≡◌, true, false, List, Option, Some, None, ℤ, length}
use Rattle.model.specs.Matrix.{same_matrix}
use Rattle.memory.specs.Numbers.{bounds_in}
use Rattle.lists.specs.Lists.{zone_at}

-- r is a place at which a zone and zone k of the list are not the same; none where the zones are
abbrev pub Other : List ℤ → ℕ → List ℤ → Option ℕ → Type 0
Other list k zone None = same_matrix (bounds_in zone) (zone_at (length zone) list k) ≡ true
Other list k zone (Some p) = (p < length zone) × (same_matrix (bounds_in zone) (zone_at (length zone) list k) ≡ false)
