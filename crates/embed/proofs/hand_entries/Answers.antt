use Rattle.std.proofs.Common.{◌≡◌, refl, ◌∙◌, arith}
use Rattle.model.specs.Sizes.{most_times}
use Rattle.embed.specs.Numbers.{target_place}
use Rattle.embed.proofs.Placed.{all_entries, time_placed, start_placed, target_placed, handing_more, handing_all}
use Rattle.embed.proofs.hand_entries.Goals as goal

pub loop-k-init : goal.loop-k-init
loop-k-init c = record {
  present_long = c.told-present;
  strict_long = c.told-strict;
  values_long = c.told-values;
  handed = record { presence = refl; marks = refl; numbers = refl };
}

pub loop-k-preserved : goal.loop-k-preserved
loop-k-preserved c =
    let a = c.args in
    let k = c.loop-k.k in
    let h = c.hand_entry.ensures in
    let all = all_entries a.times.now a.start.now a.target.now c.told-times c.told-start c.told-target in
    let is = c.unmarked.ensures ∙ time_placed a.times.now a.start.now a.target.now c.told-times c.told-start k (omega arith) in
    rw (h.presence, h.marks, h.numbers) (handing_more all c.loop-k.invariant (omega arith) is)

pub loop-i-init : goal.loop-i-init
loop-i-init c = let done : c.loop-k.k ≡ most_times = omega arith in rw done at c.loop-k.invariant

pub loop-i-preserved : goal.loop-i-preserved
loop-i-preserved c =
    let a = c.args in
    let i = c.loop-i.i in
    let h = c.hand_entry-in-loop-i.ensures in
    let all = all_entries a.times.now a.start.now a.target.now c.told-times c.told-start c.told-target in
    let is = start_placed a.times.now a.start.now a.target.now c.told-times c.told-start i (omega arith) (omega arith) in
    rw (h.presence, h.marks, h.numbers) (handing_more all c.loop-i.invariant (omega arith) is)

pub loop-j-init : goal.loop-j-init
loop-j-init c = let done : c.loop-i.i ≡ target_place = omega arith in rw done at c.loop-i.invariant

pub loop-j-preserved : goal.loop-j-preserved
loop-j-preserved c =
    let a = c.args in
    let j = c.loop-j.j in
    let h = c.hand_entry-in-loop-j.ensures in
    let all = all_entries a.times.now a.start.now a.target.now c.told-times c.told-start c.told-target in
    let is = target_placed a.times.now a.start.now a.target.now c.told-times c.told-start j (omega arith) in
    rw (h.presence, h.marks, h.numbers) (handing_more all c.loop-j.invariant (omega arith) is)

pub returns : goal.returns
returns c =
    let a = c.args in
    handing_all (all_entries a.times.now a.start.now a.target.now c.told-times c.told-start c.told-target) c.loop-j.invariant (omega arith)
