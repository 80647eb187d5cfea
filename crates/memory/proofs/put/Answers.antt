-- One entry changes.
use native.Mathlib.Numerals.{add-one}
use Rattle.memory.proofs.Places.{put_of}
use Rattle.memory.proofs.put.Goals as goal

pub returns : goal.returns
returns g c =
    let p = rw add-one at c.place.ensures in
    rw (← p.is) (put_of g.met.T.Stored.bounds_are c.args.zone.now c.place.result c.of_bound.result c.of_bound.ensures)
