-- The table has no fault, so its number of departures is in its limits.
use Rattle.std.proofs.Common.{sym, arith}
use lib.ListN.{length-take}
use Rattle.model.proofs.Outcomes.{judged_ok}
use Rattle.judge.proofs.Laws.{table_departures}
use Rattle.judge.proofs.run_fault.Goals as goal

pub slice_bounds-starts_fault-end : goal.slice_bounds-starts_fault-end
slice_bounds-starts_fault-end c =
    let few = (table_departures _ _ _ (judged_ok _ _ (sym c.in_ok-table_fault.ensures))).few in
    omega (arith, length-take c.args.case.now.n c.args.start)
