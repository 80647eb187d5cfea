-- The number at the place is the entry of the table.
use native.Mathlib.Omega.{arith}
use Prim.Native.Nat.{◌<◌}
use lib.ListN.{length}
use Rattle.memory.proofs.Places.{time_mapped}
use Rattle.memory.proofs.time_at.Goals as goal

pub returns : goal.returns
returns g c =
    let a = c.args in
    let p = c.place.ensures in
    let there : c.place.result < length a.times.now = omega (arith, p.below a.n (omega arith)) in
    rw (g.met.T.Stored.times_are a.times.now, time_mapped g.T.Stored.time_in a.times.now a.n a.i a.j _ _ p.is there c.index-times-place.is)
    c.time.ensures
