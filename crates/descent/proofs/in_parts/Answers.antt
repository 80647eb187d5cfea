-- Number by number.
use mathlib.Core.Path.{refl}
use lib.ListN.{length}
use borrow.Author.Rules.{rules}
use Rattle.memory.proofs.Zipped.{zip_front}
use Rattle.descent.specs.Numbers.{time_in, times_in}
use Rattle.descent.proofs.Numbers.{part_of, parts_are}
use Rattle.descent.proofs.in_parts.Goals as goal

pub returns : goal.returns
unfolding times_in
returns c =
    let times = c.args.times.now in
    record {
      is = parts_are c.args.parts times
          (zip_front time_in (part_of c.args.parts) (λ x y e. search rules) (length times) times c.changed.result refl c.changed.ensures.front);
      long = c.changed.ensures.long;
    }
