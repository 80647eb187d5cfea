-- The number at the place is the entry of the zone.
use native.Mathlib.Omega.{arith}
use native.Mathlib.Numerals.{add-one}
use Prim.Native.Nat.{suc, ◌<◌}
use lib.ListN.{length}
use Rattle.memory.proofs.Places.{entry_mapped}
use Rattle.memory.proofs.bound_at.Goals as goal

pub returns : goal.returns
returns g c =
    let a = c.args in
    let p = rw add-one at c.place.ensures in
    let there : c.place.result < length a.zone.now = omega (arith, p.below (suc a.n) c.requires.row) in
    rw (g.met.T.Stored.bounds_are a.zone.now, entry_mapped g.T.Stored.bound_in a.zone.now _ a.i a.j _ _ p.is there c.index-zone-place.is)
    c.bound.ensures
