-- Pair by pair.
use Rattle.std.proofs.Common.{rules, tests}
use Rattle.std.proofs.lemmas.Iterator.{cases_from_all, YieldsList-from_slice, YieldsList-from_zip}
use Rattle.std.proofs.lemmas.Iterator.Consumers.{YieldsList-from_enumerate}
use Rattle.moves.proofs.Numbered.{Follows, numbers_follow}
use Rattle.moves.proofs.follow.Goals as goal

pub returns : goal.returns
returns c =
    numbers_follow c.args.n c.args.by.0 c.args.before.now c.args.after.now c.requires.1 c.all.result
    (cases_from_all c.all.new.self _ _ (Follows c.args.n c.args.by.0) (λ t. Unit {0}) c.all.ensures.ran
    (YieldsList-from_enumerate (YieldsList-from_zip (YieldsList-from_slice _ cc) (YieldsList-from_slice _ cc)) cc)
    (λ x q k. search (rules, tests)) (λ x q k. search (rules, tests)))
