use Rattle.std.proofs.Common.{pos, arith, rules}
use Rattle.model.specs.Answers.{seconds}
use Rattle.embed.proofs.Arrays.{mapped}
use Rattle.embed.proofs.start_times.Goals as goal

pub returns : goal.returns
returns c =
    let m = c.map.ensures.items in
    mapped seconds (pos 0) (seconds (pos 0)) c.args.plain c.map.result (omega (arith, m.long))
    (λ i l. let (p, q, called) = m.at i (pos 0) (seconds (pos 0)) (omega arith) in search rules)
