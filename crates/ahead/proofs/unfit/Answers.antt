-- A place at which it is beyond.
use Rattle.std.proofs.Common.{rules, tests, ◌+◌, arith, refl}
use Rattle.std.proofs.lemmas.Iterator.{serves_from_Range, cases_from_any, YieldsList-from_range}
use Rattle.memory.specs.Numbers as Memory
use Rattle.memory.specs.Numbers.{times_in}
use Rattle.memory.specs.Wide.{bounds_in}
use Rattle.ahead.specs.Needs.{Beyond}
use Rattle.ahead.proofs.Tabled.{own_read}
use Rattle.ahead.proofs.Ranges.{some_number}
use Rattle.ahead.proofs.unfit.Goals as goal

pub any-requires-clause-callable : goal.any-requires-clause-callable
any-requires-clause-callable c =
    let own = own_read c.difference-own.result c.chosen-added.ensures c.difference-own.ensures in
    serves_from_Range (λ x q k. search (rules, tests)) (λ x low high. search (rules, own))

pub returns : goal.returns
returns c t =
    let o = c.args.outlook in
    let out = Beyond o.n (times_in o.times.now) (bounds_in o.table.now) (Memory.bounds_in c.args.part.now) c.args.c in
    let (j, l, h, beyond) = some_number out _ 0 _ t (cases_from_any _ _ _ out (λ j. Unit {0}) c.any.ensures.ran
    (YieldsList-from_range 0 (o.n + 1) _ refl refl) (λ x q k. search (rules, tests)) (λ x q k. search (rules, tests))) in
    record { at = j; to_n = omega (arith, h); beyond = beyond }
