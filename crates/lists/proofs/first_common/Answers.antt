-- Zone by zone of the list at base, to the first that has something in common with the pattern.
use native.Mathlib.Omega.{arith}
use native.Mathlib.Nat.{suc-mul}
use Prim.Native.Nat.{suc}
use mathlib.Core.Path.{refl, ◌∙◌}
use Rattle.std.specs.Slice.Iter.{chunks_exact_rest}
use Rattle.model.specs.Search.{common}
use Rattle.memory.specs.Numbers.{bounds_in}
use Rattle.memory.specs.Matrices.{Left}
use Rattle.lists.specs.Lists.{found_by}
use Rattle.lists.proofs.Fronts.{copied_is, out_long, out_is}
use Rattle.lists.proofs.Starting.{common_ready}
use Rattle.lists.proofs.Looking.{looking_start, looking_done, next_joins, found_ready, looking_found, looking_on}
use Rattle.lists.proofs.first_common.Goals as goal

pub loop-part-init : goal.loop-part-init
loop-part-init c =
    let s = c.zone_size-size.ensures in
    let made = c.chunks_exact-part-items.ensures in
    rw (c.into_iter-part-iterator.ensures.into_iter_gives, made.size, made.rest, c.numbers.ensures, s)
    (omega (arith, suc-mul c.args.n (suc c.args.n)), tt, refl, looking_start c.requires)

pub common-some-requires : goal.common-some-requires
common-some-requires c =
    let s = c.zone_size-size.ensures in
    let i = c.loop-part.invariant in
    let step = c.in-Some.ensures.steps.1 in
    let fits = step.1 ∙ i.2 in
    let joins = next_joins i.3 c.in-Some.part.now (chunks_exact_rest c.next.new.self) step.0 fits in
    rw (s, copied_is c.copy_from_slice.ensures.after fits c.loop-part.zone) (common_ready _ c.requires.meets joins)

pub start-requires : goal.start-requires
unfolding common
start-requires c =
    let s = c.zone_size-size.ensures in
    let i = c.loop-part.invariant in
    let step = c.in-Some.ensures.steps.1 in
    let fits = step.1 ∙ i.2 in
    let after = c.copy_from_slice.ensures.after in
    let same = rw s at c.common-some.auto.zone in
    let left : Left (common c.args.n (bounds_in c.in-Some.part.now) (bounds_in c.args.pattern.now)) c.common-some.result (bounds_in c.common-some.new.zone)
    = rw (s, copied_is after fits c.loop-part.zone) at c.common-some.ensures in
    rw (s, out_is after fits c.loop-part.zone _ same)
    (found_ready i.3 c.in-Some.part.now (chunks_exact_rest c.next.new.self) step.0 fits _ left c.requires (out_long after fits c.loop-part.zone _ same)
    c.if-some.true)

pub returns-then-some : goal.returns-then-some
unfolding common found_by
returns-then-some c =
    let s = c.zone_size-size.ensures in
    let i = c.loop-part.invariant in
    let step = c.in-Some.ensures.steps.1 in
    let fits = step.1 ∙ i.2 in
    let after = c.copy_from_slice.ensures.after in
    let same = rw s at c.common-some.auto.zone in
    let left : Left (common c.args.n (bounds_in c.in-Some.part.now) (bounds_in c.args.pattern.now)) c.common-some.result (bounds_in c.common-some.new.zone)
    = rw (s, copied_is after fits c.loop-part.zone) at c.common-some.ensures in
    rw (
      looking_found i.3 c.in-Some.part.now (chunks_exact_rest c.next.new.self) step.0 fits _ left c.if-some.true,
      c.start.ensures,
      s,
      out_is after fits c.loop-part.zone _ same,
    )
    refl

pub loop-part-preserved : goal.loop-part-preserved
unfolding common
loop-part-preserved c =
    let s = c.zone_size-size.ensures in
    let i = c.loop-part.invariant in
    let step = c.in-Some.ensures.steps.1 in
    let fits = step.1 ∙ i.2 in
    let left : Left (common c.args.n (bounds_in c.in-Some.part.now) (bounds_in c.args.pattern.now)) c.common-some.result (bounds_in c.common-some.new.zone)
    = rw (s, copied_is c.copy_from_slice.ensures.after fits c.loop-part.zone) at c.common-some.ensures in
    rw (c.in-Some.ensures.steps.0) (
      i.0,
      tt,
      i.2,
      looking_on i.3 c.in-Some.part.now (chunks_exact_rest c.next.new.self) step.0 fits _ left c.if-some.false,
    )

pub returns : goal.returns
unfolding found_by
returns c =
    let i = c.loop-part.invariant in
    rw (looking_done i.3 (rw i.2 at c.in-None.ensures.steps.1.0)) refl
