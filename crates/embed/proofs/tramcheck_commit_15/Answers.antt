-- Where the change is accepted, its place is in the table.
use Rattle.std.proofs.Common.{rules}
use native.Mathlib.Omega.{arith}
use Prim.Native.Nat.{◌≤◌, ◌<◌}
use mathlib.Core.Path.{sym, ◌∙◌}
use mir.Syntax.{w64}
use mir.ValLaws.{to_z-of_z}
use Rattle.model.specs.Sizes.{most_times}
use Rattle.model.specs.Changes.{time_place}
use Rattle.embed.specs.Numbers.{Handed, written_numbers, with_count}
use Rattle.embed.proofs.Changed.{placed, put_handed, kept_handed}
use Rattle.embed.proofs.tramcheck_commit_15.Goals as goal
use Rattle.embed.proofs.tramcheck_commit_15.Goals.{Then-is_ok, then-is_ok, else-is_ok}

here : (c : Then-is_ok) → let a = c.args in (1 ≤ a.row) × (1 ≤ a.column) × (time_place a.n a.row a.column < most_times)
here c =
    let a = c.args in
    let done = rw (simp (to_z-of_z w64 a.time c.ranges.time) at c.slot_of.ensures, c.case_in-case.ensures) at c.commit-done.ensures in
    placed a.n a.horizon a.present.now a.strict.now a.values.now a.row a.column a.has a.time (rw done at (sym c.if-is_ok.true ∙ c.is_ok.ensures.value))

pub overflow_sub-k : goal.overflow_sub-k
overflow_sub-k c = (here c).0

pub overflow_mul-k : goal.overflow_mul-k
overflow_mul-k c = omega (arith, here c)

pub overflow_sub-k-then-is_ok : goal.overflow_sub-k-then-is_ok
overflow_sub-k-then-is_ok c = (here c).1

pub overflow_add-k : goal.overflow_add-k
overflow_add-k c = omega (arith, here c)

pub bounds-present-k : goal.bounds-present-k
bounds-present-k c = omega (arith, here c.before.before)

pub offset_bounds-values-k : goal.offset_bounds-values-k
offset_bounds-values-k c = omega (arith, here c.before.before)

pub bounds-values-k : goal.bounds-values-k
bounds-values-k c = omega (arith, here c.before.before)

pub returns : goal.returns
returns c =
    let a = c.args in
    let done = rw (simp (to_z-of_z w64 a.time c.ranges.time) at c.slot_of.ensures, c.case_in-case.ensures) at c.commit-done.ensures in
    let told : Handed (written_numbers (with_count c.commit-done.result 0)) c.hand_count.result c.hand_count.new.fault c.hand_count.new.value = search rules in
    let numbers = rw done at told in
    elim c.if-is_ok.branch [
      | then-is_ok w ↦
          rw (w.present-is, w.flag.ensures, simp (to_z-of_z w64 a.time c.ranges.time) at w.values-is)
          (put_handed a.n a.horizon a.present.now a.strict.now a.values.now a.row a.column a.has a.time numbers c.told-present c.told-values
          (rw done at (sym w.if-is_ok.true ∙ c.is_ok.ensures.value)))
      | else-is_ok w ↦
          rw (w.present-is, w.values-is)
          (kept_handed a.n a.horizon a.present.now a.strict.now a.values.now a.row a.column a.has a.time numbers
          (rw done at (sym w.if-is_ok.false ∙ c.is_ok.ensures.value)))
    ]
