-- A line after those so far.
use Rattle.std.proofs.Common.{append_assoc, append-nil, refl, sym, arith, length-append}
use Rattle.report.proofs.Parts.{lines_none, lines_next}
use Rattle.report.proofs.push_lines.Goals as goal
use Rattle.report.proofs.push_lines.Goals.{in-Ok, in_default}

pub loop-j-init : goal.loop-j-init
loop-j-init c =
    rw (lines_none c.args.start.parts c.args.case.now c.args.start.times) (record { text = sym (append-nil c.args.text.now); short = omega arith })

pub loop-j-preserved : goal.loop-j-preserved
loop-j-preserved c =
    let before = c.loop-j.invariant in
    let next = lines_next c.args.start.parts c.args.case.now c.args.start.times c.loop-j.j in
    let run = rw (← c.requires.few.parts) at c.run_parts.ensures in
    rw (next, ← run) (elim c.match-run_parts.branch [
      | in-Ok w ↦ rw (w.text-is, w.in-Ok.is) (record {
        text = rw (w.push_line.ensures.text, before.text, append_assoc) refl;
        short = simp length-append (omega (arith, before.short, w.push_line.ensures.short));
      })
      | in_default w ↦ rw (w.text-is, w.in_default.is, append-nil) (record { text = before.text; short = omega (arith, before.short) })
    ])
