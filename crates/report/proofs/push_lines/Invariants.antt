-- Line by line.
use Rattle.std.proofs.Common.{◌≡◌, ◌*◌, ◌≤◌, ◌++◌, length}
use Rattle.report.specs.Text.{lines}
use Rattle.report.specs.Lengths.{line_size}
use Rattle.report.proofs.push_lines.Given as goal

abbrev pub invariant-loop-j : goal.invariant-loop-j
invariant-loop-j l =
    let put = lines l.start.parts l.case l.start.times l.j in
    record { text : l.text ≡ l.initial.text ++ put; short : length put ≤ line_size * l.j }
