-- Power by power, until one repeats an earlier one.
use native.Mathlib.Omega.{arith}
use mathlib.Core.Path.{sym, ap, ◌∙◌}
use Rattle.powers.specs.Readings.{repeat_read}
use Rattle.powers.proofs.Searching.{left_none, searchable, place_in, looked_first, makeable, looked_later, looked_here}
use Rattle.powers.proofs.search.Goals as goal

pub loop-r-init : goal.loop-r-init
loop-r-init c = looked_first (searchable c.requires c.put_front.auto.tables) c.put_front.ensures

pub product-requires : goal.product-requires
product-requires c = makeable (searchable c.requires c.put_front.auto.tables) c.loop-r.invariant (omega arith)

pub repeats-requires : goal.repeats-requires
repeats-requires c =
    place_in (searchable c.requires c.put_front.auto.tables) _ (omega arith) _ (c.product.auto.powers ∙ c.loop-r.invariant.long)

pub returns-in-Some : goal.returns-in-Some
returns-in-Some c =
    looked_here (searchable c.requires c.put_front.auto.tables) c.loop-r.invariant (omega arith) c.product.ensures c.product.auto.powers
    (ap repeat_read (sym c.in-Some.is) ∙ c.repeats.ensures)

pub loop-r-preserved : goal.loop-r-preserved
loop-r-preserved c =
    looked_later (searchable c.requires c.put_front.auto.tables) c.loop-r.invariant (omega arith) c.product.ensures c.product.auto.powers
    (ap repeat_read (sym c.in_default.is) ∙ c.repeats.ensures)

pub returns : goal.returns
returns c = sym (c.loop-r.invariant.new ∙ left_none _ _ _ (omega arith))
