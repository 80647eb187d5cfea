-- The set at the free place, and the columns up to there, lent.
use native.Mathlib.Omega.{arith}
use native.Mathlib.Numerals.{add-one}
use Prim.Native.Nat.{suc}
use lib.Seq.{length-take-le}
use Rattle.model.specs.Sizes.{zone_size}
use Rattle.memory.proofs.Side.{length_numbers}
use Rattle.lists.specs.Lists.{zone_at}
use Rattle.lists.specs.Met.{free_at}
use Rattle.lists.proofs.met.Seen.{free_fits}
use Rattle.lists.proofs.met.shut.Goals as goal

pub at-set-requires : goal.at-set-requires
at-set-requires c = rw (c.zone_size.ensures, c.free-here.ensures) (free_fits c.requires.tables c.requires.row)

pub shut-requires : goal.shut-requires
shut-requires c =
    let p = c.requires in
    let (times, table, departures) = c.outlook.ensures in
    let a = c.args in
    let n = a.pull.target.n in
    let long = length_numbers (zone_size n) a.seen.now (free_at n a.path.now.counts a.i) (free_fits p.tables p.row) in rw (departures, times) (
      record { few = p.table_held.few; size = rw (c.at-set.ensures, c.zone_size.ensures, c.free-here.ensures) long },
      rw (add-one a.i) (record {
        from_one = omega arith;
        to_end = omega (arith, p.row);
        long = length-take-le (suc a.i) a.path.now.cols p.long;
        columns = p.columns;
      }),
    )

pub returns : goal.returns
unfolding zone_at
returns c t =
    let (times, table, departures) = c.outlook.ensures in
    rw (departures, times, table, c.at-set.ensures, c.zone_size.ensures, c.free-here.ensures, add-one c.args.i) at (c.shut.ensures t)
