-- The start is picked in the zone in whole parts.
use mathlib.Core.Path.{ap, ◌∙◌}
use mathlib.Core.List.{List}
use lib.IntN.{ℤ}
use Rattle.model.specs.Answers.{all_times}
use Rattle.model.specs.Search.{pick}
use Rattle.memory.proofs.Arrays.{part_is}
use Rattle.starts.specs.Numbers.{bounds_in}
use Rattle.starts.proofs.Readied.{start_in_lem}
use Rattle.starts.proofs.start.Goals as goal

pub returns : goal.returns
returns c =
    let w = c.whole_zone-wholes in
    c.pick.ensures
    ∙ ap (λ (numbers : List ℤ). all_times (pick c.args.n (bounds_in numbers))) (part_is c.requires.departures c.zone_size-size.ensures w.result w.ensures.long)
    ∙ ap all_times (start_in_lem c.args.n c.args.parts _ _ w.ensures.is)
