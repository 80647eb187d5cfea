-- Departure by departure.
use native.Mathlib.Omega.{arith}
use Rattle.memory.proofs.Picked.{picking_start, picking_step, picking_done, times_small}
use Rattle.starts.proofs.pick.Goals as goal

pub loop-t-init : goal.loop-t-init
loop-t-init c = picking_start _ _ _

pub next_time-requires : goal.next_time-requires
next_time-requires c =
    (record { departures = c.requires.0; zone = c.requires.1; to_n = omega arith; small = times_small c.loop-t.invariant }, omega (arith, c.requires.0.few))

pub loop-t-preserved : goal.loop-t-preserved
loop-t-preserved c =
    let q = c.next_time.ensures in
    picking_step c.loop-t.invariant c.next_time.result (omega arith) c.requires.0.few q.small q.is

pub returns : goal.returns
returns c = picking_done c.loop-t.invariant (omega arith)
