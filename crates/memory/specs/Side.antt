-- Sets of so many numbers each, side by side in memory.
use Rattle.std.specs.Prelude.{ℕ, ◌+◌, ◌*◌, ◌≡◌, List, ℤ, take, drop}

-- the numbers at place k, of size numbers each
abbrev pub numbers_at : ℕ → List ℤ → ℕ → List ℤ
numbers_at size list k = take size (drop (k * size) list)

-- only the numbers of place k may differ
pub record Elsewhere (size k : ℕ) (before after : List ℤ) : Type 0 where
  pub front : take (k * size) after ≡ take (k * size) before
  pub back : drop (k * size + size) after ≡ drop (k * size + size) before
