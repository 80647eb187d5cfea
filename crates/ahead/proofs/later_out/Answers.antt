-- A row that has no column that fits.
use Rattle.std.proofs.Common.{rules, tests, ◌+◌, arith, refl}
use Rattle.std.proofs.lemmas.Iterator.{cases_from_any, YieldsList-from_range}
use Rattle.memory.specs.Numbers as Memory
use Rattle.memory.specs.Numbers.{times_in}
use Rattle.memory.specs.Wide.{bounds_in}
use Rattle.ahead.specs.Needs.{NoneFits}
use Rattle.ahead.proofs.Ranges.{some_number}
use Rattle.ahead.proofs.later_out.Goals as goal

pub returns : goal.returns
returns c t =
    let o = c.args.outlook in
    let out = NoneFits o.n (times_in o.times.now) (bounds_in o.table.now) (Memory.bounds_in c.args.part.now) in
    let (r, l, h, none_fits) = some_number out _ c.args.i _ t (cases_from_any _ _ _ out (λ r. Unit {0}) c.any.ensures.ran
    (YieldsList-from_range c.args.i (o.n + 1) _ refl refl) (λ x q k. search (rules, tests)) (λ x q k. search (rules, tests))) in
    record { row = r; from = l; to_n = omega (arith, h); none_fits = none_fits }
