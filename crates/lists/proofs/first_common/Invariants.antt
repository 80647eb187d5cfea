-- The zones in the numbers that are left are still to be looked at.
use Rattle.std.proofs.Common.{◌≡◌}
use Rattle.std.specs.Slice.Iter.{chunks_exact_size, chunks_exact_rest}
use Rattle.model.specs.Sizes.{zone_size}
use Rattle.lists.proofs.Looking.{Looking}
use Rattle.lists.proofs.first_common.Given as goal

abbrev pub invariant-loop-part : goal.invariant-loop-part
invariant-loop-part l =
    (goal.iterator-loop-part).can_next l.part-iterator × (goal.iterator-loop-part).is_finite l.part-iterator
    × (chunks_exact_size l.part-iterator ≡ zone_size l.n)
    × Looking l.n l.fn.list.base l.fn.list.count l.work l.pattern (chunks_exact_rest l.part-iterator)
