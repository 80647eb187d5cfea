-- Power by power.
use borrow.Author.Rules.{rules}
use mathlib.Core.Path.{◌≡◌, sym, ◌∙◌}
use Rattle.powers.proofs.Chunked.{place, all, turn, end}
use Rattle.powers.proofs.Places.{lent_at}
use Rattle.powers.proofs.Searching.{found_later, found_here, found_none}
use Rattle.powers.proofs.repeats.Goals as goal

pub loop-p-init : goal.loop-p-init
loop-p-init c =
    let first : place c.into_iter-p-iterator.result ≡ 0 = cc in
    record { left = all (cc) (cc) first; found = rw first (search rules) }

pub returns-then-alike : goal.returns-then-alike
returns-then-alike c =
    let a = c.args in
    let (at, inside, is, next, left) = turn c.requires _ _ c.loop-p.invariant.left _ _ c.in-Some.is c.next.ensures.steps in
    let alike = rw (is, lent_at a.n a.r a.powers.now) at c.alike.ensures in
    let gap = rw (is, lent_at a.n a.r a.powers.now) at c.gap.ensures in
    rw (gap, at) (sym (c.loop-p.invariant.found ∙ found_here _ _ _ _ inside (sym alike ∙ c.if-alike.true)))

pub loop-p-preserved : goal.loop-p-preserved
loop-p-preserved c =
    let a = c.args in
    let (at, inside, is, next, left) = turn c.requires _ _ c.loop-p.invariant.left _ _ c.in-Some.is c.next.ensures.steps in
    let alike = rw (is, lent_at a.n a.r a.powers.now) at c.alike.ensures in
    record { left = left; found = rw next (c.loop-p.invariant.found ∙ found_later _ _ _ _ inside (sym alike ∙ c.if-alike.false)) }

pub returns : goal.returns
returns c = sym (c.loop-p.invariant.found ∙ found_none _ _ _ _ (end c.requires _ _ c.loop-p.invariant.left c.in-None.is c.next.ensures.steps))
