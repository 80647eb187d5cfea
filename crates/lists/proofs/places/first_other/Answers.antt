-- Pair by pair.
use Rattle.std.proofs.Common.{rules, tests}
use Rattle.std.proofs.lemmas.Iterator.{IsFirst-from_position, YieldsList-from_slice, YieldsList-from_zip}
use Rattle.lists.proofs.places.Zones.{Alike, Unlike, first_lent}
use Rattle.lists.proofs.places.first_other.Goals as goal

pub returns : goal.returns
returns c =
    first_lent c.args.list.now c.args.k c.args.zone.now c.requires c.at.ensures c.position.result
    (IsFirst-from_position c.position.new.self _ _ Unlike Alike c.position.ensures.ran
    (YieldsList-from_zip (YieldsList-from_slice _ cc) (YieldsList-from_slice _ cc))
    (λ x q k. search (rules, tests)) (λ x q k. search (rules, tests)))
