-- There is room for the last digit.
use Rattle.std.proofs.Common.{arith}
use Rattle.puts.proofs.Digits.{one_longer, number_short}
use Rattle.puts.proofs.+in_decimal.Goals as goal

pub push-requires-2 : goal.push-requires-2
push-requires-2 t c =
    let x = c.args.x in
    (omega arith, rw c.in_decimal-text.ensures (omega (arith, one_longer x (omega arith) (omega arith), number_short x (omega arith))))
