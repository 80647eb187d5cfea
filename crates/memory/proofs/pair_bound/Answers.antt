-- A pair's place skips the pair of its row with itself.
use native.Mathlib.Omega.{arith}
use Prim.Native.Nat.{◌-◌, ◌<◌}
use borrow.Author.Tests.{eq-eqb, ne_eqb, lt-ltb, le-ltb}
use mathlib.Core.Path.{◌≡◌}
use mathlib.Core.Bool.{cond}
use lib.Dec.{ltb}
use lib.ListN.{length}
use Rattle.model.specs.Pattern.{pair_bound, pair_place}
use Rattle.model.specs.Conditions.{free}
use Rattle.model.specs.Bound as B
use Rattle.memory.proofs.Places.{get_d_in}
use Rattle.memory.proofs.pair_bound.Goals as goal
use Rattle.memory.proofs.pair_bound.Goals.{then-j-i, else-j-i}

pub returns-then-i-j : goal.returns-then-i-j
unfolding pair_bound
returns-then-i-j g c = record { is = rw (eq-eqb _ _ c.if-i-j.true); small = free }

pub returns : goal.returns
unfolding pair_bound pair_place
returns g c =
    let a = c.args in
    let column : c.if-j-i.column ≡ cond (ltb a.j a.i) a.j (a.j - 1) =
    elim c.if-j-i.branch [
      | then-j-i w ↦ rw (lt-ltb a.j a.i w.if-j-i.true) w.column-is
      | else-j-i w ↦ rw (le-ltb a.j a.i w.if-j-i.false) w.column-is
    ] in
    let there : c.place.result < length a.pattern.now = omega (arith, c.place.ensures.below _ c.requires.row) in
    let here = get_d_in g.T.Stored.bound_in a.pattern.now c.place.result c.index-pattern-place.result B.Bound.none there in
    rw (ne_eqb _ _ c.if-i-j.false, ← column, ← c.place.ensures.is, g.met.T.Stored.bounds_are a.pattern.now, here, ← c.index-pattern-place.is)
    c.bound.ensures
