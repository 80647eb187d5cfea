-- The set, if one is left, is looked for among those noted.
use native.Mathlib.Omega.{arith}
use Prim.Native.Nat.{◌*◌, ◌-◌}
use mathlib.Core.Path.{◌≡◌}
use lib.ListN.{get_or}
use Rattle.lists.specs.Lists.{places_met, zone_at}
use Rattle.lists.specs.Met.{free_at}
use Rattle.lists.proofs.met.Seen.{placed_none, placed_some, met_same}
use Rattle.lists.proofs.met.Growing.{here_fits, here_long}
use Rattle.lists.proofs.met.fresh.Goals as goal

pub at-requires : goal.at-requires
at-requires c = rw (c.zone_size-size.ensures, c.free-here.ensures, c.grow.auto.seen) (here_fits c.requires.ready)

pub has-requires : goal.has-requires
has-requires c =
    let long = here_long c.requires.ready c.grow.new.seen c.grow.auto.seen in
    let inside = here_fits c.requires.ready in
    rw (c.at.ensures, c.zone_size-size.ensures, c.free-here.ensures, c.first-from.ensures, long, c.grow.auto.seen) (omega arith, omega arith)

pub returns-then-grow : goal.returns-then-grow
unfolding zone_at
returns-then-grow c =
    let a = c.args in
    let n = a.target.n in
    let counts = a.path.now.counts in
    let i = a.choice.row in
    let long = here_long c.requires.ready c.grow.new.seen c.grow.auto.seen in
    let count : free_at n counts i - i * places_met n ≡ get_or counts i 0 = omega arith in
    let same = met_same c.requires.ready.tables i c.grow.ensures.elsewhere in
    placed_some _ c.grow.ensures c.if-grow.true c.has.result
    (rw (c.at.ensures, c.zone_size-size.ensures, c.free-here.ensures, c.first-from.ensures, long, count, same) at c.has.ensures)

pub returns-else-grow : goal.returns-else-grow
returns-else-grow c = placed_none _ c.grow.ensures c.if-grow.false
