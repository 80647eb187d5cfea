-- A blank limit leaves all times, and so does one that the zone implies. Otherwise the way round by the limit tells whether some are left.
use native.Mathlib.Omega.{arith}
use mathlib.Core.Path.{sym, ap, ◌∙◌}
use Prim.Native.Nat.{◌*◌}
use Rattle.model.specs.Bound.{Bound, any, plus, negative}
use Rattle.model.proofs.Size.{small_mono, small_sum}
use Rattle.memory.specs.Numbers.{as_bound}
use Rattle.memory.specs.Matrices.{ConstrainReady}
use Rattle.memory.proofs.Places.{zone_of}
use Rattle.memory.proofs.Relaxing.{inside, all_left, none_left, some_left}
use Rattle.memory.proofs.Leaving.{is_gone, is_kept}
use Rattle.zones.proofs.take_in.Goals as goal

pub returns-in_default : goal.returns-in_default
returns-in_default g c =
    let p = rw c.in_default.is at c.requires in
    rw c.in_default.is (is_kept (all_left p.taking.closed (inside p.taking) any))

pub bound_at-requires : goal.bound_at-requires
bound_at-requires g c =
    let t = c.requires.taking in
    let f = inside t in
    record { zone = zone_of g.met.T.Stored.bounds_are _ t; row = omega (arith, f.row_fits, f.col_fits); col = omega (arith, f.row_fits, f.col_fits) }

pub returns-then-implies : goal.returns-then-implies
returns-then-implies g c =
    let t = (rw c.in-Some.is at c.requires).taking in
    rw c.in-Some.is (is_kept (all_left t.closed (inside t) (rw c.bound_at.ensures.is at (c.implies.ensures c.if-implies.true))))

pub bound_at-requires-2 : goal.bound_at-requires-2
bound_at-requires-2 g c =
    let t = c.requires.taking in
    let f = inside t in
    record { zone = zone_of g.met.T.Stored.bounds_are _ t; row = omega (arith, f.row_fits, f.col_fits); col = omega (arith, f.row_fits, f.col_fits) }

pub add-around-requires : goal.add-around-requires
add-around-requires g c = small_mono (omega (arith, g.met.T.Stored.room)) (small_sum c.bound_at-2.ensures.small c.requires.small)

pub returns-then-negative : goal.returns-then-negative
returns-then-negative g c =
    let t = c.requires.taking in
    let around = sym (c.negative.ensures ∙ ap negative (c.add-around.ensures ∙ ap (λ (l : Bound). plus l (as_bound c.args.limit)) c.bound_at-2.ensures.is)) in
    is_gone (none_left t.closed (inside t) (around ∙ c.if-negative.true))

pub constrain-requires : goal.constrain-requires
constrain-requires g c =
    let t = c.requires.taking in
    let around = sym (c.negative.ensures ∙ ap negative (c.add-around.ensures ∙ ap (λ (l : Bound). plus l (as_bound c.args.limit)) c.bound_at-2.ensures.is)) in
    let limit = g.T.Stored.limit in
    let ready : ConstrainReady c.args.n limit (3 * g.T.Stored.largest) (g.T.Stored.bounds_in c.args.zone.now) c.args.a c.args.b (as_bound c.args.limit) =
    record { one = c.requires; times = record { zone = _; is = some_left t.closed (inside t) (around ∙ c.if-negative.false) } } in
    rw c.in-Some.is at ready

pub returns : goal.returns
returns g c = rw c.in-Some.is (is_kept c.constrain.ensures)
