-- What the pattern says is taken in.
use borrow.Author.Rules.{rules}
use Rattle.model.specs.Pattern.{pair_bound, pattern_constraints}
use Rattle.model.proofs.Patterns.{pattern_fits}
use Rattle.memory.specs.Numbers.{bounds_in}
use Rattle.zones.proofs.common.Goals as goal

pub take_all-requires : goal.take_all-requires
unfolding pattern_constraints
take_all-requires c =
    let n = c.args.n in
    let b = bounds_in c.args.pattern.now in
    let set = c.requires.set in (
      pair_bound n b,
      record {
        taking = record { few = set.zone.few; closed = set.closed; fits = pattern_fits n b; fitting = c.requires.fitting };
        asks = λ i j hi hj. search rules;
        tells = λ i j r hi hj e. search rules;
      },
    )

pub returns : goal.returns
unfolding pattern_constraints
returns c =
    let n = c.args.n in
    let b = bounds_in c.args.pattern.now in
    let set = c.requires.set in
    c.take_all.ensures (pair_bound n b) (record {
      taking = record { few = set.zone.few; closed = set.closed; fits = pattern_fits n b; fitting = c.requires.fitting };
      asks = λ i j hi hj. search rules;
      tells = λ i j r hi hj e. search rules;
    })
