-- A table in numbers of 64 bits: one that is large in size stands for a blank, any other is a time in parts.
use Rattle.std.specs.Prelude.{ℕ, ℤ, length, take, ◌≡◌, List, map}
use Rattle.model.specs.Sizes.{most_times}
use Rattle.model.specs.Network.{scale_time}
use Rattle.memory.specs.Numbers as Memory
unfoldable pub use Rattle.memory.specs.Wide.{time_in, times_in}

-- the front of r is the table in parts
pub record TableOf (times : List ℤ) (parts : ℕ) (r : List ℤ) : Type 0 where
  pub is : times_in (take (length times) r) ≡ map (scale_time parts) (Memory.times_in times)
  pub long : length r ≡ most_times
