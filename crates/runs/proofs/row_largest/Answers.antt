-- Each turn is at the next entry of the row and the next time.
use Rattle.std.proofs.Common.{refl, arith}
use Rattle.std.proofs.lemmas.List.{length_push}
use Rattle.model.proofs.Sums.{latest_of_none}
use Rattle.runs.proofs.Laws.{entry_small, sum_fits, latest_more, latest_is}
use Rattle.runs.proofs.row_largest.Goals as goal

pub loop-entry-init : goal.loop-entry-init
loop-entry-init c = latest_of_none _

pub in_parts-requires : goal.in_parts-requires
in_parts-requires c =
    let l = c.loop-entry in (
      entry_small c.args.times.now c.requires.0 c.requires.1 l.yielded c.into_iter-entry-iterator.result _ c.next.new.self (cc) (cc) l.yielded_by _
          c.next.ensures.steps _ c.in-Some.is,
      omega arith,
    )

pub later_sum-latest-requires : goal.later_sum-latest-requires
later_sum-latest-requires c =
    let l = c.loop-entry in
    sum_fits c.args.times.now c.requires.0 c.requires.1 l.yielded c.into_iter-entry-iterator.result _ c.next.new.self (cc) (cc) l.yielded_by _
    c.next.ensures.steps _ c.in-Some.is _ c.in_parts.ensures

pub loop-entry-preserved : goal.loop-entry-preserved
loop-entry-preserved c =
    let l = c.loop-entry in
    let turns = length_push l.yielded (c.in-Some.entry, c.in-Some.time) in
    let more = latest_more c.args.times.now c.requires.0 c.requires.1 l.yielded c.into_iter-entry-iterator.result _ c.next.new.self (cc) (cc) l.yielded_by _
    c.next.ensures.steps _ c.in-Some.is _ c.in_parts.ensures in
    cc

pub unwrap-requires : goal.unwrap-requires
unwrap-requires c =
    let l = c.loop-entry in
    let is = latest_is c.args.times.now c.requires.0 c.requires.1 l.yielded c.into_iter-entry-iterator.result _ c.next.new.self (cc) (cc) l.yielded_by _
    c.next.ensures.steps l.latest c.in-None.is l.invariant in
    rw is refl

pub returns : goal.returns
returns c =
    let l = c.loop-entry in
    let is = latest_is c.args.times.now c.requires.0 c.requires.1 l.yielded c.into_iter-entry-iterator.result _ c.next.new.self (cc) (cc) l.yielded_by _
    c.next.ensures.steps l.latest c.in-None.is l.invariant in
    cc
