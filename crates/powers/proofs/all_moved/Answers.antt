-- Entry by entry, the last one first.
use borrow.Author.Rules.{rules}
use native.Mathlib.Omega.{arith}
use Prim.Native.Nat.{suc, ◌-◌}
use mathlib.Core.Path.{◌≡◌, sym, ap₂, ◌∙◌}
use lib.IntN.{pos}
use lib.ListN.{length, get_or, length-map}
use lib.Seq.{take_all}
use mir.Syntax.{w32}
use mir.Val.{SFits}
use Rattle.model.specs.Lists.{same_lists}
use Rattle.model.specs.Network.{secs, after, added, same_time}
use Rattle.memory.specs.Numbers.{times_in}
use Rattle.powers.proofs.Times.{times_size, moved_last}
use Rattle.powers.proofs.all_moved.Goals as goal

pub loop-k-init : goal.loop-k-init
unfolding added
loop-k-init c =
    let ts = times_in c.args.first.now in
    let us = times_in c.args.second.now in
    let k = length c.args.first.now in
    sym (ap₂ (same_lists same_time)
    (take_all k _ (omega (arith, length-map ts (after (secs c.args.c.0)), times_size c.args.first.now)))
    (take_all k us (omega (arith, times_size c.args.second.now))))

pub returns-then-not-moved : goal.returns-then-not-moved
returns-then-not-moved c =
    let k = c.loop-k.k - 1 in
    let last : suc k ≡ c.loop-k.k = omega arith in
    let first_fits : SFits w32 (get_or c.args.first.now k (pos 0)) = search rules in
    let second_fits : SFits w32 (get_or c.args.second.now k (pos 0)) = search rules in
    let e = moved_last c.args.c.0 c.args.first.now c.args.second.now k (omega arith) (omega arith) first_fits second_fits c.moved.ensures in
    sym (c.loop-k.invariant ∙ (rw (last, c.if-not-moved.true) at e))

pub loop-k-preserved : goal.loop-k-preserved
loop-k-preserved c =
    let k = c.loop-k.k - 1 in
    let last : suc k ≡ c.loop-k.k = omega arith in
    let first_fits : SFits w32 (get_or c.args.first.now k (pos 0)) = search rules in
    let second_fits : SFits w32 (get_or c.args.second.now k (pos 0)) = search rules in
    let e = moved_last c.args.c.0 c.args.first.now c.args.second.now k (omega arith) (omega arith) first_fits second_fits c.moved.ensures in
    c.loop-k.invariant ∙ (rw (last, c.if-not-moved.false) at e)

pub returns : goal.returns
unfolding same_lists
returns c = let l = c.loop-k in let e : l.k ≡ 0 = omega arith in sym (rw e at l.invariant)
