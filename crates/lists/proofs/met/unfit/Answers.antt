-- The set of the row before, lent out of the table.
use native.Mathlib.Omega.{arith}
use Prim.Native.Nat.{◌-◌}
use Rattle.model.specs.Sizes.{zone_size}
use Rattle.model.proofs.Selections.{chosen_at}
use Rattle.memory.proofs.Side.{length_numbers}
use Rattle.lists.specs.Lists.{zone_at}
use Rattle.lists.specs.Met.{free_at}
use Rattle.lists.proofs.met.Seen.{free_fits}
use Rattle.lists.proofs.met.unfit.Goals as goal

pub at-set-requires : goal.at-set-requires
at-set-requires c = rw (c.zone_size.ensures, c.free-parent.ensures) (free_fits c.requires.tables (omega (arith, c.requires.row)))

pub unfit-requires : goal.unfit-requires
unfit-requires c =
    let p = c.requires in
    let (times, table, departures) = c.outlook.ensures in
    let a = c.args in
    let n = a.pull.target.n in
    let long = length_numbers (zone_size n) a.seen.now (free_at n a.path.now.counts (a.choice.row - 1)) (free_fits p.tables (omega (arith, p.row))) in
    rw (departures, times) (record {
      set = record { few = p.table_held.few; size = rw (c.at-set.ensures, c.zone_size.ensures, c.free-parent.ensures) long };
      adds = record { table = p.times_held; row = p.row; column = chosen_at p.from_one p.column };
      column = p.column.to_n;
    })

pub returns : goal.returns
unfolding zone_at
returns c t =
    let (times, table, departures) = c.outlook.ensures in
    rw (departures, times, table, c.at-set.ensures, c.zone_size.ensures, c.free-parent.ensures) at (c.unfit.ensures t)
