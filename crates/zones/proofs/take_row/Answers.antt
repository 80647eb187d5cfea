-- Place by place.
use native.Mathlib.Omega.{arith}
use Prim.Native.Nat.{suc}
use Rattle.model.proofs.Size.{small_mono}
use Rattle.model.proofs.Tabulated.{from_first, from_end}
use Rattle.memory.proofs.Toward.{toward_start, first_of, next_one}
use Rattle.memory.proofs.Leaving.{given_up, onward, arrived}
use Rattle.zones.proofs.take_row.Goals as goal

pub loop-j-init : goal.loop-j-init
loop-j-init g c = λ f s. toward_start s.taking (from_first _ (suc c.args.n) 0 (suc c.args.n) (omega arith))

pub take_in-requires : goal.take_in-requires
take_in-requires g c =
    let (f, s) = c.requires.1 in
    let q = s.tells _ _ c.bound.result c.requires.0 (omega arith) c.bound.ensures in
    record {
      taking = rw q.is (first_of (next_one _ _ _ (omega arith)) (c.loop-j.invariant f s));
      small = small_mono (omega (arith, g.met.T.Stored.room)) q.small;
    }

pub returns-then-not-take_in : goal.returns-then-not-take_in
returns-then-not-take_in g c = λ f s.
    let q = s.tells _ _ c.bound.result c.requires.0 (omega arith) c.bound.ensures in
    given_up (next_one _ _ _ (omega arith)) (c.loop-j.invariant f s) (rw q.is at c.take_in.ensures) c.if-not-take_in.true

pub loop-j-preserved : goal.loop-j-preserved
loop-j-preserved g c = λ f s.
    let q = s.tells _ _ c.bound.result c.requires.0 (omega arith) c.bound.ensures in
    onward (next_one _ _ _ (omega arith)) (c.loop-j.invariant f s) (rw q.is at c.take_in.ensures) c.if-not-take_in.false

pub returns : goal.returns
returns g c = λ f s. arrived (c.loop-j.invariant f s) (from_end _ _ _ (omega arith))
