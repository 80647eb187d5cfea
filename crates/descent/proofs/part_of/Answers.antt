-- By the number.
use native.Mathlib.Omega.{arith}
use Prim.Native.Nat.{◌≤◌}
use lib.IntN.{nat_abs}
use mir.Syntax.{w32, w64}
use mir.ValLaws.{to_z-of_z, to_z_pos}
use Rattle.model.specs.Network.{secs_of, scale_time}
use Rattle.model.specs.Faults.{time_of}
use Rattle.memory.specs.Numbers.{InMemory}
use Rattle.memory.proofs.Numbers.{wide}
use Rattle.descent.specs.Numbers.{time_in}
use Rattle.descent.proofs.Numbers.{product_fits, product_stored}
use Rattle.descent.proofs.part_of.Goals as goal

pub returns-in_default : goal.returns-in_default
unfolding time_in time_of scale_time
returns-in_default c =
    let read = rw (to_z-of_z w32 c.args.raw c.ranges.raw, c.in_default.is) at c.time.ensures.is in
    rw (← read)

pub overflow_mul-result : goal.overflow_mul-result
unfolding time_of secs_of
overflow_mul-result c =
    let t = c.time.ensures in
    let small : nat_abs c.in-Some.time.0 ≤ InMemory = rw (← t.is, c.in-Some.is) at t.small in
    let z = c.in-Some.time.0 in
    rw (to_z-of_z w64 z (wide z (omega arith)), to_z_pos w64 c.args.parts (omega arith)) (product_fits z c.args.parts small c.requires)

pub returns : goal.returns
unfolding time_of secs_of scale_time
returns c =
    let t = c.time.ensures in
    let small : nat_abs c.in-Some.time.0 ≤ InMemory = rw (← t.is, c.in-Some.is) at t.small in
    let read = rw (to_z-of_z w32 c.args.raw c.ranges.raw, c.in-Some.is) at t.is in
    let z = c.in-Some.time.0 in
    let n = c.args.parts in
    rw (to_z-of_z w64 z (wide z (omega arith)), to_z_pos w64 n (omega arith), to_z-of_z w64 _ (product_fits z n small c.requires), ← read)
    (product_stored z n small c.requires)
