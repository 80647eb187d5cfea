-- The part at place k takes in what the row adds.
use mathlib.Core.Path.{◌≡◌, ap, ◌∙◌}
use lib.ListN.{length}
use Rattle.model.specs.Sizes.{zone_size}
use Rattle.memory.specs.Numbers.{bounds_in}
use Rattle.lists.specs.Lists.{zone_at}
use Rattle.memory.proofs.Side.{length_numbers, lent_at, back_else, back_at}
use Rattle.lists.proofs.Columns.{row_ready}
use Rattle.lists.proofs.add_at.Goals as goal

pub add_row-requires : goal.add_row-requires
unfolding zone_at
add_row-requires c =
    rw c.zone_size-size.ensures
    (row_ready c.requires.selecting c.requires.row c.requires.column (ap bounds_in (lent_at (zone_size c.args.target.n) c.args.k c.args.list.now)))

pub returns : goal.returns
unfolding zone_at
returns c =
    let a = c.args in
    let size = zone_size a.target.n in
    let out = c.add_row.new.part in
    let lent = lent_at size a.k a.list.now in
    let fits : length out ≡ size = (rw (c.zone_size-size.ensures, lent) at c.add_row.auto.part) ∙ length_numbers size a.list.now a.k c.requires.inside in
    rw c.zone_size-size.ensures (record {
      elsewhere = back_else size a.k a.list.now out c.requires.inside fits;
      left = rw (back_at size a.k a.list.now out c.requires.inside fits) (rw (c.zone_size-size.ensures, lent) at c.add_row.ensures);
    })
