-- The set of the row before is copied to the free place, which then takes in what the row adds.
use Rattle.lists.specs.Met.{free_at}
use Rattle.lists.proofs.met.Growing.{here_fits, parent_before, copied_at, add_ready, added_left}
use Rattle.lists.proofs.met.grow.Goals as goal

pub copy-requires : goal.copy-requires
copy-requires c =
    let u = c.requires.ready in
    rw (c.zone_size.ensures, c.free-parent.ensures, c.free-here.ensures) (parent_before u, here_fits u)

pub add_at-requires : goal.add_at-requires
add_at-requires c =
    let a = c.args in
    let u = c.requires.ready in
    let here = free_at a.target.n a.path.now.counts a.choice.row in
    let copied = rw (c.zone_size.ensures, c.free-parent.ensures, c.free-here.ensures) at c.copy.ensures in
    rw c.free-here.ensures
    (add_ready u here (rw c.copy.auto.list (here_fits u)) (rw copied (copied_at u a.seen.now here (here_fits u))) c.requires.column)

pub returns : goal.returns
returns c =
    let a = c.args in
    let u = c.requires.ready in
    let copied = rw (c.zone_size.ensures, c.free-parent.ensures, c.free-here.ensures) at c.copy.ensures in
    added_left u a.seen.now (free_at a.target.n a.path.now.counts a.choice.row) (here_fits u) a.choice.column copied
    (rw c.free-here.ensures at c.add_at.ensures)
