-- The places of this turn's pair, and the gap of the pairs from there on.
use borrow.Author.Rules.{rules}
use native.Mathlib.Omega.{arith}
use Prim.Native.Nat.{◌<◌}
use mathlib.Core.Path.{◌≡◌, refl, sym, ◌∙◌}
use lib.IntN.{pos}
use lib.ListN.{length, get_or, drop_of_length-le}
use mir.Syntax.{w32}
use mir.Val.{SFits}
use mir.ValLaws.{to_z-of_z}
use Rattle.std.proofs.lemmas.List.{length_push}
use Rattle.std.proofs.lemmas.Slice.Zip.{zip_turn, zip_end}
use Rattle.model.specs.Network as network
use Rattle.memory.specs.Numbers.{time_in, times_in}
use Rattle.powers.proofs.Times.{blank_in, seconds_in, apart_fits, item, times_size, past_first, past_second, gap_there}
use Rattle.powers.proofs.gap.Goals as goal
use Rattle.powers.proofs.gap.Goals.{In-Some}

-- the pair of a turn is at the place of its count
record Pair (c : In-Some) : Type 0 where
  first_in : length c.loop-a.yielded < length c.args.first.now
  second_in : length c.loop-a.yielded < length c.args.second.now
  first_is : time_in c.in-Some.a.now ≡ get_or (times_in c.args.first.now) (length c.loop-a.yielded) network.blank
  second_is : time_in c.in-Some.b.now ≡ get_or (times_in c.args.second.now) (length c.loop-a.yielded) network.blank

pair : (c : In-Some) → Pair c
pair c =
    let ts = c.args.first.now in
    let us = c.args.second.now in
    let l = c.loop-a in
    let pairs = c.into_iter-a-iterator.result in
    let after = c.next.new.self in
    let steps = c.next.ensures.steps in
    let (h, k, p, q) = zip_turn ts us l.yielded pairs l.a-iterator after c.next.result (cc) (cc) l.yielded_by (c.in-Some.a, c.in-Some.b) c.in-Some.is steps in
    record {
      first_in = omega (arith, h);
      second_in = omega (arith, k);
      first_is = item ts _ h (p (pos 0));
      second_is = item us _ k (q (pos 0));
    }

pub loop-a-preserved-in_default : goal.loop-a-preserved-in_default
loop-a-preserved-in_default c =
    let ts = c.args.first.now in
    let us = c.args.second.now in
    let l = c.loop-a in
    let p = pair (goal.at.loop-a-preserved-in_default c).In-Some in
    let first_fits : SFits w32 c.in-Some.a.now = search rules in
    let none = rw (to_z-of_z w32 _ first_fits) at (blank_in c.time.ensures c.in_default.is) in
    rw (length_push l.yielded (c.in-Some.a, c.in-Some.b))
    (l.invariant ∙ past_first (times_in ts) (times_in us) _ (omega (arith, times_size ts, p.first_in)) (omega (arith, times_size us, p.second_in))
    (sym p.first_is ∙ none))

pub loop-a-preserved : goal.loop-a-preserved
loop-a-preserved c =
    let ts = c.args.first.now in
    let us = c.args.second.now in
    let l = c.loop-a in
    let p = pair (goal.at.loop-a-preserved c).In-Some in
    let second_fits : SFits w32 c.in-Some.b.now = search rules in
    let none = rw (to_z-of_z w32 _ second_fits) at (blank_in c.time-in-loop-a.ensures c.in_default-time.is) in
    rw (length_push l.yielded (c.in-Some.a, c.in-Some.b))
    (l.invariant ∙ past_second (times_in ts) (times_in us) _ (omega (arith, times_size ts, p.first_in)) (omega (arith, times_size us, p.second_in))
    (sym p.second_is ∙ none))

pub sub-requires : goal.sub-requires
sub-requires c = apart_fits c.time.ensures c.in-Some-time.is c.time-in-loop-a.ensures c.in-Some-time-2.is

pub returns-in-Some-time-2 : goal.returns-in-Some-time-2
returns-in-Some-time-2 c =
    let ts = c.args.first.now in
    let us = c.args.second.now in
    let l = c.loop-a in
    let p = pair (goal.at.returns-in-Some-time-2 c).In-Some in
    let first_fits : SFits w32 c.in-Some.a.now = search rules in
    let second_fits : SFits w32 c.in-Some.b.now = search rules in
    let a = rw (to_z-of_z w32 _ first_fits) at (seconds_in c.time.ensures c.in-Some-time.is) in
    let b = rw (to_z-of_z w32 _ second_fits) at (seconds_in c.time-in-loop-a.ensures c.in-Some-time-2.is) in
    c.sub.ensures
    ∙ sym (l.invariant ∙ gap_there (times_in ts) (times_in us) _ (omega (arith, times_size ts, p.first_in)) (omega (arith, times_size us, p.second_in))
    (sym p.first_is ∙ a) (sym p.second_is ∙ b))

pub returns : goal.returns
unfolding network.gap
returns c =
    let ts = c.args.first.now in
    let l = c.loop-a in
    let pairs = c.into_iter-a-iterator.result in
    let e = zip_end ts c.args.second.now l.yielded pairs l.a-iterator c.next.new.self c.next.result (cc) (cc) l.yielded_by c.in-None.is c.next.ensures.steps in
    sym (l.invariant ∙ rw (drop_of_length-le (times_in ts) {i = length l.yielded} (omega (arith, times_size ts))) refl)
