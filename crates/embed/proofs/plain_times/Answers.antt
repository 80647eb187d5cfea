use Rattle.std.proofs.Common.{pos, arith, rules}
use Rattle.model.specs.Answers.{seconds}
use Rattle.embed.proofs.Arrays.{mapped}
use Rattle.embed.proofs.plain_times.Goals as goal

pub returns : goal.returns
returns c =
    let m = c.map.ensures.items in
    mapped (λ x. x.0) (seconds (pos 0)) (pos 0) c.args.times c.map.result (omega (arith, m.long))
    (λ i l. let (p, q, called) = m.at i (seconds (pos 0)) (pos 0) (omega arith) in search rules)
