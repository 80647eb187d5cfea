-- Number by number.
use mathlib.Core.Path.{refl}
use lib.ListN.{length}
use borrow.Author.Rules.{rules}
use Rattle.memory.proofs.Zipped.{zip_front}
use Rattle.starts.specs.Numbers.{bound_in, bounds_in}
use Rattle.starts.proofs.Readied.{part_of, parts_are}
use Rattle.starts.proofs.in_parts.Goals as goal

pub returns : goal.returns
unfolding bounds_in
returns c =
    let zone = c.args.zone.now in
    record {
      is = parts_are c.args.parts zone
          (zip_front bound_in (part_of c.args.parts) (λ x y e. search rules) (length zone) zone c.changed.result refl c.changed.ensures.front);
      long = c.changed.ensures.long;
    }
