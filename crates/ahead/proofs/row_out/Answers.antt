-- No column fits.
use Rattle.std.proofs.Common.{rules, tests, ℕ, ◌+◌, arith, refl}
use Rattle.std.proofs.lemmas.Iterator.{cases_from_all, YieldsList-from_range}
use Rattle.model.specs.Conditions.{Column}
use Rattle.memory.specs.Numbers as Memory
use Rattle.memory.specs.Numbers.{times_in}
use Rattle.memory.specs.Wide.{bounds_in}
use Rattle.zones.specs.Inner.{choice}
use Rattle.ahead.specs.Needs.{Unfit}
use Rattle.ahead.proofs.Ranges.{each_number}
use Rattle.ahead.proofs.row_out.Goals as goal

pub returns : goal.returns
returns c t s column =
    let o = c.args.outlook in
    let a = times_in o.times.now in
    let out = λ (s : ℕ). Column o.n a c.args.r s → Unfit o.n a (bounds_in o.table.now) (Memory.bounds_in c.args.part.now) (choice c.args.r s) in
    each_number out _ 1 _ t (cases_from_all _ _ _ out (λ s. Unit {0}) c.all.ensures.ran
    (YieldsList-from_range 1 (o.n + 1) _ refl refl) (λ x q k. search (rules, tests)) (λ x q k. search (rules, tests)))
    s column.from_one (omega (arith, column.to_n)) column
