-- The columns that are chosen, and what they add.
use Prim.Native.Nat.{ℕ, zero, suc, ◌+◌, ◌≤◌}
use native.Mathlib.Omega.{arith}
use mathlib.Core.Path.{◌≡◌, refl}
use mathlib.Core.List.{List}
use lib.IntN.{ℤ, pos, nat_abs}
use Rattle.std.specs.Prelude.{Some, None}
use Rattle.std.specs.Option.{unwrap_or}
use Rattle.ints.specs.declared.Seconds.{Seconds}
use Rattle.model.specs.Faults.{Entry, time_of}
use Rattle.model.specs.Network.{Time, blank, secs, time, secs_of}
use Rattle.model.specs.Search.{chosen, slack}
use Rattle.model.specs.Conditions.{Small, free, sized}
use Rattle.model.proofs.Size.{minus_small}

pub chosen_secs : (n : ℕ) (a : List Time) (i s : ℕ) → 1 ≤ i → chosen n a i s ≡ secs_of (time n a i s)
unfolding chosen
chosen_secs n a zero s h = absurd (omega arith)
chosen_secs n a (suc i) s h = refl

-- a difference of two small times
pub slack_small : {S : ℕ} (c : ℤ) (t : Time) → nat_abs c ≤ S → nat_abs (secs_of t) ≤ S → Small (S + S) (slack c t)
unfolding slack secs_of
slack_small c blank h k = free
slack_small c (secs t) h k = sized (minus_small c t h k)

-- the seconds of an entry, 0 where it is blank
pub entry_secs : (t : Entry Seconds) → (unwrap_or t (record { 0 = pos 0 })).0 ≡ secs_of (time_of t)
unfolding time_of secs_of
entry_secs None = refl
entry_secs (Some x) = refl
