-- No bound stays none; the halves of any other fit.
use mir.Syntax.{w32, w64}
use mir.ValLaws.{to_z-of_z}
use Rattle.model.specs.Bound.{most, plus, same_z}
use Rattle.model.specs.Conditions.{Small}
use Rattle.memory.specs.Numbers.{of_halves, bound_in, Limit}
use Rattle.moves.proofs.Numbers.{none_there, halves_there, twice_fits, sum_narrow, sum_stored}
use Rattle.moves.proofs.shifted.Goals as goal

pub returns-then-none : goal.returns-then-none
unfolding bound_in same_z plus
returns-then-none c = rw (none_there _ c.ranges.raw c.if-none.true)

pub overflow_cast-result : goal.overflow_cast-result
overflow_cast-result c =
    let e = rw (to_z-of_z w32 _ c.ranges.raw) at c.sum.ensures in
    let s : Small Limit (plus (of_halves c.args.raw) (most c.args.by.0)) = rw (halves_there _ c.if-none.false) at c.requires.1 in
    rw (e, to_z-of_z w64 _ (twice_fits _ c.ranges.raw c.args.by.0 c.requires.0)) (sum_narrow _ _ s)

pub returns : goal.returns
returns c =
    let e = rw (to_z-of_z w32 _ c.ranges.raw) at c.sum.ensures in
    let s : Small Limit (plus (of_halves c.args.raw) (most c.args.by.0)) = rw (halves_there _ c.if-none.false) at c.requires.1 in
    rw (
      e,
      to_z-of_z w64 _ (twice_fits _ c.ranges.raw c.args.by.0 c.requires.0),
      to_z-of_z w32 _ (sum_narrow _ _ s),
      halves_there c.args.raw c.if-none.false,
    )
    (sum_stored _ _ s)
