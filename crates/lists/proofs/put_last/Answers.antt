-- The set is built at the place of the next zone and counted, if one is left; where there is no such place, it is built beside.
use native.Mathlib.Omega.{arith}
use native.Mathlib.Nat.{mul-le-mul_right, suc-mul}
use Prim.Native.Nat.{◌<◌}
use mathlib.Core.Path.{refl}
use Rattle.model.specs.Sizes.{zone_size}
use Rattle.memory.proofs.Side.{else_refl}
use Rattle.lists.proofs.Held.{held_beside, held_next}
use Rattle.lists.proofs.put_last.Goals as goal

pub beside-requires : goal.beside-requires
beside-requires c =
    (c.requires.column, omega (arith, mul-le-mul_right (zone_size c.args.pull.target.n) c.requires.room.inside, c.requires.room.long))

pub returns-then-beside : goal.returns-then-beside
returns-then-beside c = record {
  held = rw c.if-beside.true at (held_beside c.requires.room _ c.beside.ensures c.if-path-pull.true);
  elsewhere = c.beside.ensures.elsewhere;
  counts_same = refl;
  cols_same = refl;
}

pub returns-then-path-pull : goal.returns-then-path-pull
returns-then-path-pull c = record {
  held = rw c.if-beside.false at (held_beside c.requires.room _ c.beside.ensures c.if-path-pull.true);
  elsewhere = c.beside.ensures.elsewhere;
  counts_same = refl;
  cols_same = refl;
}

pub next_zone-requires : goal.next_zone-requires
next_zone-requires c =
    let a = c.args in
    let more : a.path.now.kept < a.pull.capacity = omega (arith, c.requires.room.inside, c.if-path-pull.false) in
    let size = zone_size a.pull.target.n in
    (c.requires.column, omega (arith, mul-le-mul_right size more, suc-mul a.path.now.kept size, c.requires.room.long))

pub returns-then-not-next_zone : goal.returns-then-not-next_zone
returns-then-not-next_zone c = record {
  held = rw c.if-not-next_zone.true at (held_next c.requires.room _ c.next_zone.ensures c.if-path-pull.false);
  elsewhere = else_refl;
  counts_same = refl;
  cols_same = refl;
}

pub returns : goal.returns
returns c = record {
  held = rw c.if-not-next_zone.false at (held_next c.requires.room _ c.next_zone.ensures c.if-path-pull.false);
  elsewhere = else_refl;
  counts_same = refl;
  cols_same = refl;
}
