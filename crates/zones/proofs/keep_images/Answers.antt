-- Row by row before row i.
use native.Mathlib.Omega.{arith}
use Rattle.memory.proofs.Toward.{first_of, next_list, end_list}
use Rattle.memory.proofs.Leaving.{given_up, onward, arrived}
use Rattle.zones.proofs.keep_images.Goals as goal

pub keep_both-requires : goal.keep_both-requires
keep_both-requires g c =
    let p = c.requires in
    record {
      taking = first_of (next_list _ _ _ c.loop-l-test.true) c.loop-l.invariant;
      adds = p.adds;
      adds_other = record { table = p.adds.table; row = omega (arith, p.adds.row); column = p.columns _ c.loop-l-test.true };
    }

pub returns-then-not-keep_both : goal.returns-then-not-keep_both
returns-then-not-keep_both g c = given_up (next_list _ _ _ c.loop-l-test.true) c.loop-l.invariant c.keep_both.ensures c.if-not-keep_both.true

pub loop-l-preserved : goal.loop-l-preserved
loop-l-preserved g c = onward (next_list _ _ _ c.loop-l-test.true) c.loop-l.invariant c.keep_both.ensures c.if-not-keep_both.false

pub returns : goal.returns
returns g c = arrived c.loop-l.invariant (end_list _ _ _ (omega arith))
