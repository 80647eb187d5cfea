-- Number by number.
use borrow.Author.Rules.{rules}
use native.Mathlib.Omega.{arith}
use mathlib.Core.Path.{◌≡◌, refl, ap, ◌∙◌}
use lib.IntN.{pos}
use lib.ListN.{get_or, length}
use lib.Seq.{take-length}
use mir.Syntax.{w32}
use mir.Val.{SFits}
use mir.ValLaws.{to_z-of_z}
use Rattle.memory.specs.Numbers.{time_in, times_in}
use Rattle.memory.proofs.Slots.{next_in}
use Rattle.powers.proofs.put_front.Goals as goal

pub loop-k-init : goal.loop-k-init
loop-k-init c = refl

pub loop-k-preserved : goal.loop-k-preserved
unfolding times_in
loop-k-preserved c =
    let l = c.loop-k in
    let times = c.args.times.now in
    let fits : SFits w32 (get_or times l.k (pos 0)) = search rules in
    next_in time_in time_in l.tables times l.k _ (pos 0) (omega arith) (omega arith) l.invariant (ap time_in (to_z-of_z w32 _ fits))

pub returns : goal.returns
returns c =
    let l = c.loop-k in
    let times = c.args.times.now in
    let e : l.k ≡ length times = omega arith in
    (rw e at l.invariant) ∙ ap times_in (take-length times)
