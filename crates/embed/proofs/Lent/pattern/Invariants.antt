-- The first bounds are in their places.
use Rattle.std.proofs.Common.{◌≡◌, length, take}
use Rattle.model.specs.Sizes.{most_bounds}
use Rattle.model.specs.Lists.{tabulate}
use Rattle.embed.specs.Numbers.{limit_at}
use Rattle.embed.proofs.Lent.pattern.Given as goal

abbrev pub invariant-loop-k : goal.invariant-loop-k
invariant-loop-k l = record {
  long : length l.bound-items ≡ most_bounds;
  holds : take l.k l.bound-items ≡ tabulate l.k l.first (limit_at l.self.present.now l.self.strict.now l.self.values.now);
}
