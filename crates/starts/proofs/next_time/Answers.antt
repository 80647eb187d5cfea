-- From the last departure before t down to the clock.
use Prim.Native.Nat.{◌*◌, ◌≤◌}
use native.Mathlib.Omega.{arith}
use mathlib.Core.Path.{ap, ap₂, ◌∙◌}
use lib.IntN.{nat_abs, neg_ℤ}
use Rattle.model.specs.Bound.{most, plus}
use Rattle.model.specs.Search.{greatest_or}
use Rattle.model.proofs.Size.{small_mono, term_small, neg_small, taken_small}
use Rattle.starts.specs.Numbers.{Largest}
use Rattle.memory.proofs.Picked.{tightest_start, tightest_step, tightest_done}
use Rattle.starts.proofs.next_time.Goals as goal

pub loop-s-init : goal.loop-s-init
loop-s-init c = (tightest_start _ _ _, tightest_start _ _ _)

pub add-requires : goal.add-requires
add-requires c =
    let near : nat_abs c.clocked-x.result.0 ≤ c.args.t * Largest = rw c.clocked-x.ensures (c.requires.0.small _ (omega arith)) in
    rw c.upto.ensures (small_mono (omega (arith, c.requires.0.to_n, c.requires.0.departures.few))
    (term_small _ c.clocked-x.result.0 c.bound_at.ensures.small near))

pub add-requires-in-loop-s : goal.add-requires-in-loop-s
add-requires-in-loop-s c =
    let near : nat_abs c.clocked-x.result.0 ≤ c.args.t * Largest = rw c.clocked-x.ensures (c.requires.0.small _ (omega arith)) in
    let back : nat_abs c.neg.result.0 ≤ c.args.t * Largest = rw c.neg.ensures (neg_small c.clocked-x.result.0 near) in
    rw c.upto-in-loop-s.ensures
    (small_mono (omega (arith, c.requires.0.to_n, c.requires.0.departures.few)) (term_small _ c.neg.result.0 c.bound_at-in-loop-s.ensures.small back))

pub loop-s-preserved : goal.loop-s-preserved
loop-s-preserved c =
    let inv = c.loop-s.invariant in
    let h : 1 ≤ c.loop-s.s = omega arith in
    let near : nat_abs c.clocked-x.result.0 ≤ c.args.t * Largest = rw c.clocked-x.ensures (c.requires.0.small _ (omega arith)) in
    let back : nat_abs c.neg.result.0 ≤ c.args.t * Largest = rw c.neg.ensures (neg_small c.clocked-x.result.0 near) in (
      rw (c.tighter-early.ensures, c.add-in-loop-s.ensures, c.upto-in-loop-s.ensures)
          (tightest_step inv.0 _ c.neg.result.0 h c.bound_at-in-loop-s.ensures.small back
          (ap₂ (λ b z. plus b (most z)) c.bound_at-in-loop-s.ensures.is (c.neg.ensures ∙ ap neg_ℤ c.clocked-x.ensures))),
      rw (c.tighter-late.ensures, c.add.ensures, c.upto.ensures)
          (tightest_step inv.1 _ c.clocked-x.result.0 h c.bound_at.ensures.small near
          (ap₂ (λ b z. plus b (most z)) c.bound_at.ensures.is c.clocked-x.ensures)),
    )

pub greatest_or-requires : goal.greatest_or-requires
greatest_or-requires c =
    let few : c.args.t ≤ 15 = omega (arith, c.requires.0.to_n, c.requires.0.departures.few) in
    (small_mono (omega arith) c.loop-s.invariant.0.small, small_mono (omega arith) c.loop-s.invariant.1.small)

pub returns : goal.returns
returns c =
    let inv = c.loop-s.invariant in
    record {
      is = c.greatest_or.ensures ∙ ap₂ greatest_or (tightest_done inv.0 (omega arith)) (tightest_done inv.1 (omega arith));
      small = rw c.greatest_or.ensures (taken_small inv.0.small inv.1.small);
    }
