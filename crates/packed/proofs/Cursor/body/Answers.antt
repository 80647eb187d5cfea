use Rattle.std.proofs.Common.{None, sym, ◌+◌, ◌*◌, ◌≤◌, add-one, arith, ◌∙◌}
use Rattle.model.specs.Sizes.{most_bounds}
use Rattle.model.proofs.Places.{table_fits, pattern_fits}
use Rattle.packed.proofs.Laws.{padded_is, front_long, body_read}
use Rattle.packed.proofs.Cursor.body.Goals as goal

pub returns : goal.returns
returns c =
    let n = c.args.n in
    let few = c.requires.1 in
    let table : n * n ≤ most_bounds = omega (arith, table_fits few) in
    let pattern : n * (n + 1) ≤ most_bounds = rw add-one (pattern_fits few) in
    let times = front_long None (n * n) table in
    let start = front_long None (n * (n + 1)) pattern in
    let target = front_long None (n * (n + 1)) pattern in
    rw (
      padded_is None c.table.new.times (n * n) (c.table.auto.times ∙ times),
      padded_is None c.entries.new.places (n * (n + 1)) (c.entries.auto.places ∙ start),
      padded_is None c.entries-2.new.places (n * (n + 1)) (c.entries-2.auto.places ∙ target),
    )
    (sym (body_read n c.args.horizon.0 c.in_ok-cursor.ensures start c.in_ok-cursor-2.ensures target c.in_ok-cursor-3.ensures c.in_ok-padding.ensures))
