-- From the set of all times and the clock's column on, row 1 first.
use native.Mathlib.Omega.{arith}
use Prim.Native.Nat.{◌≤◌}
use mathlib.Core.Path.{◌∙◌}
use Rattle.model.specs.Sizes.{most_numbers}
use Rattle.memory.proofs.Places.{zone_fits}
use Rattle.lists.specs.Inner.{Tabled}
use Rattle.lists.proofs.Fronts.{front_long, front_is}
use Rattle.lists.proofs.Starting.{begun, row_one, none_noted, preimages}
use Rattle.lists.proofs.pull_back.Goals as goal

pub select-requires : goal.select-requires
select-requires c =
    let a = c.args in
    let p = c.requires in
    let size = c.zone_size-size.result in
    let (long, first) = begun c.args.making.n c.zone_size-size.ensures a.seen.now _ p.seen_size c.everything.auto.zone c.everything.ensures in
    let table_room : size ≤ most_numbers = omega (arith, zone_fits p.sources.table.departures, c.zone_size-size.ensures) in
    let tabled : Tabled a.making.n a.making.times.now a.zone.now c.needs.new.table = record {
      inside = record { few = p.source.few; size = c.needs.auto.table ∙ front_long _ _ table_room ∙ c.zone_size-size.ensures };
      is = c.needs.ensures;
    } in
    record {
      room = p.room;
      tabled = rw (front_is _ _ table_room c.needs.new.table c.needs.auto.table) tabled;
      ready = row_one p.sources p.source _ long first;
      noted = none_noted p.sources p.source _ long first;
    }

pub returns-in_err-select : goal.returns-in_err-select
returns-in_err-select c =
    let p = c.requires in
    let (long, first) = begun c.args.making.n c.zone_size-size.ensures c.args.seen.now _ p.seen_size c.everything.auto.zone c.everything.ensures in
    rw c.from_residual.ensures (rw (preimages p.sources p.source _ long first) at c.in_err-select.ensures.held)

pub returns : goal.returns
returns c =
    let p = c.requires in
    let (long, first) = begun c.args.making.n c.zone_size-size.ensures c.args.seen.now _ p.seen_size c.everything.auto.zone c.everything.ensures in
    rw (preimages p.sources p.source _ long first) at c.in_ok-select.ensures.held
