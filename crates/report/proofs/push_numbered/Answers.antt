-- There is room for the number after the word.
use Rattle.std.proofs.Common.{arith, length-append}
use Rattle.puts.proofs.Digits.{number_short}
use Rattle.report.proofs.push_numbered.Goals as goal

pub push_number-requires : goal.push_number-requires
push_number-requires c =
    (omega arith, rw c.push_all.ensures (simp length-append (omega (arith, c.requires, number_short c.args.x (omega arith)))))
