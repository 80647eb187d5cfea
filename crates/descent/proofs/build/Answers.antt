-- The set is copied, and takes in what the row adds.
use native.Mathlib.Omega.{arith}
use Prim.Native.Nat.{◌*◌, ◌-◌}
use mathlib.Core.Path.{◌≡◌, ap, ◌∙◌}
use lib.ListN.{length}
use Rattle.model.specs.Sizes.{zone_size}
use Rattle.memory.specs.Side.{numbers_at}
use Rattle.memory.proofs.Side.{length_numbers, lent_at}
use Rattle.descent.proofs.Building.{copied, copied_is, room_here, row_ready, placed}
use Rattle.descent.proofs.build.Goals as goal

pub add_row-requires : goal.add_row-requires
add_row-requires c =
    let size = c.zone_size-size.ensures in
    let there = c.copy_within.ensures.after ∙ copied_is c.requires _ _ (ap (◌*◌ c.args.c.row) size) (ap (◌-◌ (c.args.c.row * c.zone_size-size.result)) size) in
    rw (there, size, lent_at (zone_size c.args.target.n) c.args.c.row (copied c.requires)) (row_ready c.requires)

pub returns : goal.returns
returns c =
    let i = c.args.c.row in
    let size = c.zone_size-size.ensures in
    let sets = copied c.requires in
    let there = c.copy_within.ensures.after ∙ copied_is c.requires _ _ (ap (◌*◌ i) size) (ap (◌-◌ (i * c.zone_size-size.result)) size) in
    let lent = lent_at (zone_size c.args.target.n) i sets in
    let same : length sets ≡ length c.args.sets.now = rw there at c.copy_within.ensures.len in
    let long : length (numbers_at (zone_size c.args.target.n) sets i) ≡ zone_size c.args.target.n
    = length_numbers (zone_size c.args.target.n) sets i (omega (arith, room_here c.requires)) in
    rw (there, size)
    (placed c.requires c.add_row.new.part same ((rw (there, size, lent) at c.add_row.auto.part) ∙ long) (rw (there, size, lent) at c.add_row.ensures))
