-- The set, if one is left, is looked for in the list.
use native.Mathlib.Omega.{arith}
use mathlib.Core.Path.{◌≡◌}
use Prim.Native.Nat.{◌-◌}
use Rattle.lists.specs.Lists.{zone_at, list_in}
use Rattle.lists.proofs.met.Seen.{placed_none, placed_some}
use Rattle.lists.proofs.met.Growing.{here_fits, here_long}
use Rattle.lists.proofs.beside.Goals as goal

pub at-requires : goal.at-requires
at-requires c = rw (c.zone_size-size.ensures, c.free-here.ensures, c.grow.auto.seen) (here_fits c.requires.0.ready)

pub has-requires : goal.has-requires
has-requires c =
    let long = here_long c.requires.0.ready c.grow.new.seen c.grow.auto.seen in
    (omega arith, rw (c.at.ensures, c.zone_size-size.ensures, c.free-here.ensures, long) c.requires.1)

pub returns-then-grow : goal.returns-then-grow
unfolding list_in zone_at
returns-then-grow c =
    let long = here_long c.requires.0.ready c.grow.new.seen c.grow.auto.seen in
    let all : c.args.path.now.kept - 0 ≡ c.args.path.now.kept = omega arith in
    placed_some _ c.grow.ensures c.if-grow.true c.has.result (rw (c.at.ensures, c.zone_size-size.ensures, c.free-here.ensures, long, all) at c.has.ensures)

pub returns-else-grow : goal.returns-else-grow
returns-else-grow c = placed_none _ c.grow.ensures c.if-grow.false
