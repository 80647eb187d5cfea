-- Each of the two numbers is read as a bound or as none.
use mathlib.Core.Path.{◌≡◌, refl, sym, ap, ◌∙◌}
use mathlib.Core.Bool.{not-not}
use Rattle.std.specs.Option.{is_none}
use Rattle.std.proofs.Common.{Option, Some, None}
use Rattle.model.specs.Bound.{Bound}
use Rattle.model.specs.Pattern as Pattern
use Rattle.memory.specs.declared.Number.{Number}
use Rattle.memory.specs.declared.Halves.{Halves}
use Rattle.memory.specs.Numbers.{as_bound}
use Rattle.memory.specs.Conditions.{BoundRead}
use Rattle.memory.proofs.InHalves.{halved}
use Rattle.memory.proofs.off_clock.Goals as goal

blank : {b : Bound} {r : Number} → BoundRead b r → is_none r.0 ≡ Pattern.is_none b
unfolding Pattern.is_none
blank {b} {r} q = go r.0 ∙ ap Pattern.is_none q.is
  where
    go : (o : Option Halves) → is_none o ≡ Pattern.is_none (as_bound (record { 0 = o }))
    go None = refl
    go (Some c) = rw (halved c.0).is refl

pub returns-then-is_none : goal.returns-then-is_none
returns-then-is_none c =
    rw (← blank c.pair_bound-from.ensures, ← blank c.pair_bound-to.ensures, c.is_none.ensures, c.is_none-then-is_none.ensures, c.if-is_none.true)
    (sym (not-not c.is_none-then-is_none.result))

pub returns-else-is_none : goal.returns-else-is_none
returns-else-is_none c = rw (← blank c.pair_bound-from.ensures, c.is_none.ensures, c.if-is_none.false) refl
