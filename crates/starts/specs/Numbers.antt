-- Zones in numbers of 64 bits.
use Rattle.std.specs.Prelude.{◌%◌, ℤ, nat_abs, eqb, Bool}
pub use Rattle.memory.specs.Wide.{Largest, Stored}
unfoldable pub use Rattle.memory.specs.Wide.{bound_in, bounds_in}

-- a bound in halves is strict if they are odd
unfoldable pub odd : ℤ → Bool
odd z = eqb (nat_abs z % 2) 1
