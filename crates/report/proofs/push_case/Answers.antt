-- A verdict that is reached is one on a case within the limits.
use Rattle.std.proofs.Common.{rules, ◌≡◌, Ok, ap₂, sym, ◌∙◌, pos}
use lib.ListN.{length-replicate}
use Rattle.model.specs.declared.Verdict.TheVariants.{Reached}
use Rattle.model.specs.Answers.{answer}
use Rattle.report.specs.Text.{program_zones, program_space}
use Rattle.report.proofs.Few.{few}
use Rattle.report.proofs.push_case.Goals as goal

pub push_lines-requires-clause-few : goal.push_lines-requires-clause-few
push_lines-requires-clause-few c =
    let a = c.args.case.now in
    let k = c.in-Ok-Reached.cycle in
    let s = c.in-Ok-Reached.start in
    let is = c.verdict-answer.ensures.answer ∙ ap₂ (answer a) c.capacity_for.ensures (length-replicate program_space (pos 0)) in
    let reached : c.verdict-answer.result ≡ Ok (Reached k s) = search rules in
    few a (program_zones a.n) program_space k.0 s (sym is ∙ reached)
