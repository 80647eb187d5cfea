-- The entries of a case as numbers, one by one.
use Prim.Native.Nat.{ℕ, ◌+◌, ◌≤◌, ◌<◌}
use native.Mathlib.Omega.{arith}
use native.Mathlib.Numerals.{add-one}
use mathlib.Core.Path.{◌≡◌}
use mathlib.Core.List.{List, ◌∷◌, [], map, map-append}
use lib.IntN.{nat_abs}
use lib.ListN.{length, take, get_or, set}
use lib.Seq.{take-suc, take-suc-set}
use borrow.Author.Tests.{ltb-false}
use Rattle.std.proofs.Common.{Some, None}
use Rattle.ints.specs.declared.Seconds.{Seconds}
use Rattle.model.specs.declared.Limit.{Limit}
use Rattle.model.specs.Sizes.{bound_limit}
use Rattle.model.specs.Network.{secs_of}
use Rattle.model.specs.Faults.{Entry, beyond, stated, time_of, bound_of}
use Rattle.model.specs.Conditions.{InLimit, Small, free, sized}
use Rattle.memory.specs.Numbers.{none_in}

-- the size of one that is there
pub in_limit : {L : ℕ} (x : Seconds) → InLimit L (Some x) → nat_abs x.0 ≤ L
unfolding beyond
in_limit {L} x l = ltb-false L (nat_abs x.0) l

pub small_time : (e : Entry Seconds) → InLimit bound_limit e → nat_abs (secs_of (time_of e)) < none_in
unfolding time_of secs_of
small_time None l = omega arith
small_time (Some x) l = omega (arith, in_limit x l)

pub small_entry : {L : ℕ} (e : Entry Limit) → InLimit L (stated e) → Small L (bound_of e)
unfolding bound_of
small_entry None l = free
small_entry (Some e) l = sized (in_limit e.value l)

-- one number more
pub next_in : {X Y Z : Type 0} (g : X → Z) (h : Y → Z) (xs : List X) (ys : List Y) (k : ℕ) (x : X) (d : Y) → k < length xs → k < length ys
    → map g (take k xs) ≡ map h (take k ys) → g x ≡ h (get_or ys k d) → map g (take (k + 1) (set xs k x)) ≡ map h (take (k + 1) ys)
next_in g h xs ys k x d lx ly e v =
    rw (add-one k, take-suc-set xs k x lx, take-suc ys k d ly, map-append g (take k xs) (x ∷ []), map-append h (take k ys) (get_or ys k d ∷ []), e, v)
