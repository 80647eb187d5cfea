-- A row whose column does not fit.
use Rattle.std.proofs.Common.{ℕ, rules, tests, arith, refl, get_or}
use Rattle.std.proofs.lemmas.Iterator.{serves_from_Range, cases_from_any, YieldsList-from_range}
use Rattle.memory.specs.Numbers as Memory
use Rattle.memory.specs.Numbers.{times_in}
use Rattle.memory.specs.Wide.{bounds_in}
use Rattle.zones.specs.Inner.{choice}
use Rattle.ahead.specs.Needs.{Unfit}
use Rattle.ahead.proofs.Tabled.{known_at}
use Rattle.ahead.proofs.Ranges.{some_number}
use Rattle.ahead.proofs.known_unfit.Goals as goal

pub any-requires-clause-callable : goal.any-requires-clause-callable
any-requires-clause-callable c =
    serves_from_Range (λ x q k. search (rules, tests)) (λ x low high. let known = known_at c.args.outlook.times_in c.requires x high in search (rules, known))

pub returns : goal.returns
returns c t =
    let o = c.args.outlook in
    let out = λ (l : ℕ). Unfit o.n (times_in o.times.now) (bounds_in o.table.now) (Memory.bounds_in c.args.part.now) (choice l (get_or c.args.cols.now l 0)) in
    let (l, _, before, unfit) = some_number out _ 0 _ t (cases_from_any _ _ _ out (λ l. Unit {0}) c.any.ensures.ran
    (YieldsList-from_range 0 c.args.i _ refl refl) (λ x q k. search (rules, tests)) (λ x q k. search (rules, tests))) in
    record { row = l; before = omega (arith, before); unfit = unfit }
