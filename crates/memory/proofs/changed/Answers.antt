-- Entry by entry.
use native.Mathlib.Omega.{arith}
use mathlib.Core.Path.{◌∙◌}
use lib.ListN.{length-set}
use Rattle.memory.proofs.Zipped.{zip_next}
use Rattle.memory.proofs.changed.Goals as goal

pub loop-k-preserved : goal.loop-k-preserved
loop-k-preserved g c =
    let l = c.loop-k in (
      zip_next _ c.args.entries.now l.made l.k c.index-entries-k.result c.change.result (omega arith) (omega arith) l.invariant.0
          c.index-entries-k.is c.change.ensures,
      length-set l.made l.k _ ∙ l.invariant.1,
    )
