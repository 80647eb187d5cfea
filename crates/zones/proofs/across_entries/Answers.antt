-- Place by place.
use native.Mathlib.Omega.{arith}
use Prim.Native.Nat.{suc}
use mathlib.Core.Path.{◌≡◌, ap, ap₂, ◌∙◌}
use Rattle.model.specs.Bound.{plus, tighter}
use Rattle.model.proofs.Size.{small_mono, small_sum}
use Rattle.memory.specs.Numbers.{as_bound}
use Rattle.memory.proofs.Places.{size_of}
use Rattle.memory.proofs.Relaxing.{row_relaxed}
use Rattle.zones.proofs.across_entries.Goals as goal

pub add-requires : goal.add-requires
add-requires g c = small_mono (omega (arith, g.met.T.Stored.room)) (small_sum c.requires.way_small c.bound_at-in-loop-j.ensures.small)

pub loop-j-preserved : goal.loop-j-preserved
loop-j-preserved g c =
    let next = row_relaxed (as_bound c.args.way) c.loop-j.invariant c.requires.base (omega arith) in
    let new = c.tighter-new.ensures
    ∙ ap₂ tighter c.bound_at.ensures.is (c.add.ensures ∙ ap (plus (as_bound c.args.way)) c.bound_at-in-loop-j.ensures.is) in
    rw c.put.ensures (next _ (size_of g.met.T.Stored.bounds_are _ ∙ omega arith) (omega arith) new)

pub returns : goal.returns
returns g c = let e : c.loop-j.j ≡ suc c.args.n = omega arith in rw e at c.loop-j.invariant
