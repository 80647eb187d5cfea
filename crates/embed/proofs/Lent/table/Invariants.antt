-- The first entries are in their places.
use Rattle.std.proofs.Common.{◌≡◌, take}
use Rattle.model.specs.Lists.{tabulate}
use Rattle.embed.specs.Numbers.{slot_at}
use Rattle.embed.proofs.Lent.table.Given as goal

abbrev pub invariant-loop-k : goal.invariant-loop-k
invariant-loop-k l = take l.k l.time-items ≡ tabulate l.k 0 (slot_at l.self.present.now l.self.values.now)
