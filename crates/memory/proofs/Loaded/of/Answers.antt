-- The case without a fault is held.
use native.Mathlib.Omega.{arith}
use mathlib.Core.Path.{refl}
use lib.Seq.{length-take-le}
use Rattle.model.specs.Faults.{network, time_of, bound_of}
use Rattle.model.proofs.Places.{table_fits, pattern_fits}
use Rattle.memory.specs.Numbers.{bounds_in, times_in}
use Rattle.memory.proofs.Cased.{departures, front_is}
use Rattle.memory.proofs.Loaded.of.Goals as goal

pub returns : goal.returns
unfolding network
returns c =
    let d = departures c.args.case c.requires in
    let count = c.table_size-count.ensures in
    let size = c.pattern_size-size.ensures in
    record {
      table = record { departures = d; size = length-take-le _ c.times_in.result (omega (arith, table_fits d)) };
      start_held = record { departures = d; size = length-take-le _ c.bounds_in.result (omega (arith, pattern_fits d)) };
      target_held = record { departures = d; size = length-take-le _ c.bounds_in-2.result (omega (arith, pattern_fits d)) };
      is = rw (
        front_is times_in time_of c.times_in.result c.args.case.times count (omega (arith, table_fits d)) c.times_in.ensures.0,
        front_is bounds_in bound_of c.bounds_in.result c.args.case.start size (omega (arith, pattern_fits d)) c.bounds_in.ensures.0,
        front_is bounds_in bound_of c.bounds_in-2.result c.args.case.target size (omega (arith, pattern_fits d)) c.bounds_in-2.ensures.0,
      ) refl;
    }
