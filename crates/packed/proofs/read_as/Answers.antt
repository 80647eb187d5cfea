use Rattle.std.proofs.Common.{arith}
use Rattle.model.proofs.Parsed.{places_few}
use Rattle.packed.proofs.read_as.Goals as goal

pub body-requires : goal.body-requires
body-requires c =
    let lead = c.in_ok-lead.ensures.reads.near in
    let digits = c.in_ok-n.ensures.reads.near in
    let more = c.in_ok-more.ensures.reads.near in
    (omega arith, omega (arith, c.in_ok-n.ensures.small, places_few c.requires))
