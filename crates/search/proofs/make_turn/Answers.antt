-- The list is copied to its place and moved there.
use Prim.Native.Nat.{◌+◌, ◌*◌, ◌-◌}
use native.Mathlib.Omega.{arith}
use mathlib.Core.Path.{◌≡◌, ◌∙◌, ap}
use lib.ListN.{set}
use Rattle.model.specs.Sizes.{zone_size}
use Rattle.search.proofs.Keeping.{movable, turned, new_count}
use Rattle.search.proofs.make_turn.Goals as goal

pub move_list-requires : goal.move_list-requires
move_list-requires c =
    let (ob, oc) = c.place-old.ensures in
    let (nb, nc) = c.place-new.ensures in
    let count = nc ∙ new_count c.args.counts.now c.args.k _ c.requires.counted ∙ oc in
    let b = c.place-old.result.base in
    let s = c.place-old.result.count * zone_size c.args.n in
    let d : b + s - b ≡ s = omega arith in
    let after = rw (c.zone_size.ensures, d, ob, oc, nb) at c.copy_within.ensures.after in
    rw (nb, count, after) (movable c.requires)

pub returns : goal.returns
returns c =
    let (ob, oc) = c.place-old.ensures in
    let (nb, nc) = c.place-new.ensures in
    let count = nc ∙ new_count c.args.counts.now c.args.k _ c.requires.counted ∙ oc in
    let b = c.place-old.result.base in
    let s = c.place-old.result.count * zone_size c.args.n in
    let d : b + s - b ≡ s = omega arith in
    let after = rw (c.zone_size.ensures, d, ob, oc, nb) at c.copy_within.ensures.after in
    turned c.requires (rw (nb, count, after) at c.move_list.ensures) (rw after at c.move_list.auto.work) nb count
    (ap (set c.args.counts.now _) oc)
