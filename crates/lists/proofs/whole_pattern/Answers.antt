-- The zone is made beside, and put into whole parts if there are times in it.
use mathlib.Core.Path.{◌≡◌, sym, ap, ◌∙◌}
use mathlib.Core.Option.{some}
use lib.ListN.{length, length-replicate}
use Rattle.model.specs.Sizes.{most_numbers}
use Rattle.memory.specs.Numbers.{bounds_in}
use Rattle.memory.proofs.Arrays.{part_long, part_is}
use Rattle.lists.proofs.Patterned.{zone_none, zone_some, zone_ready}
use Rattle.lists.proofs.whole_pattern.Goals as goal

pub returns-then-not-some : goal.returns-then-not-some
returns-then-not-some c = zone_none c.first_list-some.ensures c.if-not-some.true

pub whole_zone-requires : goal.whole_zone-requires
whole_zone-requires c =
    let d = c.requires.meets.limits.departures in
    let work = c.first_list-some.new.work in
    let long : length work ≡ most_numbers = c.first_list-some.auto.work ∙ simp length-replicate in
    let made = zone_some c.first_list-some.ensures c.if-not-some.false
    ∙ ap (λ numbers. some (bounds_in numbers)) (sym (part_is d c.zone_size.ensures work long)) in
    zone_ready c.requires _ made (part_long d c.zone_size.ensures work long ∙ c.zone_size.ensures)

pub returns : goal.returns
returns c =
    let d = c.requires.meets.limits.departures in
    let work = c.first_list-some.new.work in
    let long : length work ≡ most_numbers = c.first_list-some.auto.work ∙ simp length-replicate in
    let made = zone_some c.first_list-some.ensures c.if-not-some.false
    ∙ ap (λ numbers. some (bounds_in numbers)) (sym (part_is d c.zone_size.ensures work long)) in
    let w = c.whole_zone.ensures in
    record { zone = _; is = made; whole = w.is; long = w.long }
