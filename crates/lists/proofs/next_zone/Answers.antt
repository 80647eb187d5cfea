-- The set of the row before is copied to the place of the next zone, which then takes in what the row adds.
use native.Mathlib.Omega.{arith}
use Prim.Native.Nat.{◌-◌}
use mathlib.Core.Path.{◌≡◌, ◌∙◌}
use Rattle.model.specs.Sizes.{zone_size}
use Rattle.lists.specs.Lists.{zone_at, list_in}
use Rattle.memory.proofs.Side.{length_numbers}
use Rattle.lists.proofs.places.Zones.{list_same}
use Rattle.lists.proofs.met.Seen.{placed_none, placed_some}
use Rattle.lists.proofs.met.Growing.{parent_fits, parent_long, copied_at, add_ready, added_left}
use Rattle.lists.proofs.next_zone.Goals as goal

pub at-requires : goal.at-requires
at-requires c = rw (c.zone_size-size.ensures, c.free-parent.ensures) (parent_fits c.requires.0.ready)

pub store-requires : goal.store-requires
store-requires c = rw (c.at.ensures, c.zone_size-size.ensures, c.free-parent.ensures, parent_long c.requires.0.ready) c.requires.1

pub add_at-requires : goal.add_at-requires
add_at-requires c =
    let a = c.args in
    let u = c.requires.0.ready in
    let copied = rw (c.at.ensures, c.zone_size-size.ensures, c.free-parent.ensures, parent_long u) at c.store.ensures in
    add_ready u a.path.now.kept (rw c.store.auto.list c.requires.1) (rw copied (copied_at u a.list.now a.path.now.kept c.requires.1)) c.requires.0.column

pub at-requires-then-add_at : goal.at-requires-then-add_at
at-requires-then-add_at c = rw (c.zone_size-size.ensures, c.add_at.auto.list, c.store.auto.list) c.requires.1

pub has-requires : goal.has-requires
has-requires c =
    let a = c.args in
    let same = c.add_at.auto.list ∙ c.store.auto.list in
    let long = length_numbers (zone_size a.pull.target.n) c.add_at.new.list a.path.now.kept (rw same c.requires.1) in
    rw (c.at-then-add_at.ensures, c.zone_size-size.ensures, long) (omega arith, omega arith)

pub returns-then-add_at : goal.returns-then-add_at
unfolding list_in zone_at
returns-then-add_at c =
    let a = c.args in
    let u = c.requires.0.ready in
    let same = c.add_at.auto.list ∙ c.store.auto.list in
    let long = length_numbers (zone_size a.pull.target.n) c.add_at.new.list a.path.now.kept (rw same c.requires.1) in
    let copied = rw (c.at.ensures, c.zone_size-size.ensures, c.free-parent.ensures, parent_long u) at c.store.ensures in
    let left = added_left u a.list.now a.path.now.kept c.requires.1 a.choice.column copied c.add_at.ensures in
    let all : a.path.now.kept - 0 ≡ a.path.now.kept = omega arith in
    placed_some _ left c.if-add_at.true c.has.result
    (rw (c.at-then-add_at.ensures, c.zone_size-size.ensures, long, all, list_same left.elsewhere) at c.has.ensures)

pub returns-else-add_at : goal.returns-else-add_at
returns-else-add_at c =
    let a = c.args in
    let u = c.requires.0.ready in
    let copied = rw (c.at.ensures, c.zone_size-size.ensures, c.free-parent.ensures, parent_long u) at c.store.ensures in
    placed_none _ (added_left u a.list.now a.path.now.kept c.requires.1 a.choice.column copied c.add_at.ensures) c.if-add_at.false
