-- Time by time.
use Rattle.std.proofs.Common.{◌≡◌, ◌*◌, ◌≤◌, ◌++◌, length, take}
use Rattle.report.specs.Text.{fields}
use Rattle.report.specs.Lengths.{field_size}
use Rattle.report.proofs.push_fields.Given as goal

abbrev pub invariant-loop-time : goal.invariant-loop-time
invariant-loop-time l =
    let put = fields (take l.time-index l.times) in
    record { text : l.text ≡ l.initial.text ++ put; short : length put ≤ field_size * l.time-index }
