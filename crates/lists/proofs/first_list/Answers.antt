-- What all times have in common with the target, in place.
use native.Mathlib.Omega.{arith}
use Prim.Native.Nat.{◌≤◌}
use mathlib.Core.Path.{sym}
use mathlib.Core.List.{◌++◌}
use lib.ListN.{length, drop}
use Rattle.model.specs.Sizes.{zone_size}
use Rattle.model.specs.Matrix.{tighten}
use Rattle.memory.specs.Side.{Elsewhere}
use Rattle.memory.proofs.Side.{beyond_same}
use Rattle.lists.proofs.Fronts.{front_is, front_room, front_at, front_twice}
use Rattle.lists.proofs.Starting.{target_list}
use Rattle.lists.proofs.first_list.Goals as goal

pub returns : goal.returns
unfolding tighten
returns c =
    let a = c.args in
    let size = c.zone_size-size.result in
    let inside : size ≤ length a.work.now = rw c.zone_size-size.ensures c.requires.1 in
    let room = front_room _ _ inside c.everything.new.zone c.everything.auto.zone in
    let is = front_is _ _ inside c.everything.new.zone c.everything.auto.zone in
    let left = rw (is, c.everything.ensures, sym (front_at _ _ room c.common.new.zone c.common.auto.zone)) at c.common.ensures in
    let elsewhere : Elsewhere (zone_size a.n) 0 a.work.now (c.common.new.zone ++ drop size (c.everything.new.zone ++ drop size a.work.now))
    = rw (← c.zone_size-size.ensures) (front_twice size a.work.now inside c.everything.new.zone c.everything.auto.zone c.common.new.zone c.common.auto.zone) in
    record {
      list = target_list a.n a.pattern.now a.work.now elsewhere (rw (← c.zone_size-size.ensures) left);
      beyond = beyond_same elsewhere (zone_size a.n) (omega arith);
    }
