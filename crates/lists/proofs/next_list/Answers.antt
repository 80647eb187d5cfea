-- Zone by zone of the list at source, each copied out first.
use native.Mathlib.Omega.{arith}
use mathlib.Core.Path.{◌≡◌, sym, ap, ◌∙◌}
use mathlib.Core.List.{List}
use lib.IntN.{ℤ}
use lib.ListN.{length, drop, length-drop}
use Rattle.memory.proofs.Places.{zone_fits}
use Rattle.lists.proofs.Fronts.{front_long, copied_is}
use Rattle.lists.proofs.Pulling as work
use Rattle.lists.proofs.Pulling.{lent_is, put_is, source_place, source_long, source_same, source_one, goal_room}
use Rattle.lists.proofs.Pulling.{pulling_start, pulling_on, pulling_full, pulling_done}
use Rattle.lists.proofs.next_list.Goals as goal

pub loop-k-init : goal.loop-k-init
loop-k-init c = pulling_start c.requires

pub at-requires : goal.at-requires
at-requires c =
    let from = c.args.source.base in
    let work = c.loop-k.work in
    rw (lent_is from work, c.zone_size-size.ensures) (omega (arith, length-drop from work, source_place c.requires c.loop-k.invariant c.loop-k-test.true))

pub copy_from_slice-requires : goal.copy_from_slice-requires
copy_from_slice-requires c =
    let l = c.loop-k in
    let s = c.zone_size-size.ensures in
    rw (c.at.ensures, lent_is c.args.source.base l.work, s, source_long c.requires l.invariant c.loop-k-test.true)
    (front_long _ l.zone (omega (arith, zone_fits c.requires.sources.table.departures, c.loop-k-test.array_long)))

pub slice_bounds-pull_back-end-in-loop-k : goal.slice_bounds-pull_back-end-in-loop-k
slice_bounds-pull_back-end-in-loop-k c =
    let l = c.loop-k in
    let s = c.zone_size-size.ensures in
    let after = c.copy_from_slice.ensures.after ∙ rw (lent_is c.args.source.base l.work, s) at c.at.ensures in
    let long = source_long c.requires l.invariant c.loop-k-test.true in
    rw (s, copied_is after long l.zone) (sym long)

pub pull_back-requires : goal.pull_back-requires
pull_back-requires c =
    let l = c.loop-k in
    let s = c.zone_size-size.ensures in
    let after = c.copy_from_slice.ensures.after ∙ rw (lent_is c.args.source.base l.work, s) at c.at.ensures in
    let long = source_long c.requires l.invariant c.loop-k-test.true in
    rw (s, copied_is after long l.zone, lent_is c.args.goal l.work) (record {
      room = goal_room c.requires l.invariant;
      sources = source_one c.requires l.invariant c.loop-k-test.true (source_same c.requires l.invariant c.loop-k-test.true);
      source = record { few = let few = c.requires.sources.table.departures.few in omega arith; size = long };
      seen_size = omega (arith, c.requires.seen_size, l.auto.seen);
    })

pub returns-in_err-made : goal.returns-in_err-made
returns-in_err-made c =
    let l = c.loop-k in
    let more = c.loop-k-test.true in
    let after = c.copy_from_slice.ensures.after ∙ rw (lent_is c.args.source.base l.work, c.zone_size-size.ensures) at c.at.ensures in
    let is = copied_is after (source_long c.requires l.invariant more) l.zone in
    let out = c.pull_back.new.list in
    let same : length out ≡ length (drop c.args.goal l.work) = c.pull_back.auto.list ∙ ap (λ (xs : List ℤ). length xs) (lent_is c.args.goal l.work) in
    let held = rw (lent_is c.args.goal l.work, c.zone_size-size.ensures, is, source_same c.requires l.invariant more) at c.in_err-made.ensures in
    rw (c.from_residual.ensures, put_is c.args.goal l.work out) (record {
      list = pulling_full c.requires l.invariant more out same held;
      front = work.front_is c.requires l.invariant more out same held;
      seen_size = c.pull_back.auto.seen ∙ l.auto.seen;
    })

pub loop-k-preserved : goal.loop-k-preserved
loop-k-preserved c =
    let l = c.loop-k in
    let more = c.loop-k-test.true in
    let after = c.copy_from_slice.ensures.after ∙ rw (lent_is c.args.source.base l.work, c.zone_size-size.ensures) at c.at.ensures in
    let is = copied_is after (source_long c.requires l.invariant more) l.zone in
    let out = c.pull_back.new.list in
    let same : length out ≡ length (drop c.args.goal l.work) = c.pull_back.auto.list ∙ ap (λ (xs : List ℤ). length xs) (lent_is c.args.goal l.work) in
    let held = rw (lent_is c.args.goal l.work, c.zone_size-size.ensures, is, source_same c.requires l.invariant more) at c.in_ok-made.ensures in
    rw (put_is c.args.goal l.work out) (pulling_on c.requires l.invariant more out same held)

pub returns : goal.returns
returns c = record { list = pulling_done c.requires c.loop-k.invariant c.loop-k-test.false; front = c.loop-k.invariant.front; seen_size = c.loop-k.auto.seen }
