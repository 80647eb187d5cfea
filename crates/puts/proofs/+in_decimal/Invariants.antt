-- The number that is left gets smaller.
use Rattle.puts.proofs.+in_decimal.Given as goal

abbrev pub decreases-in_decimal : goal.decreases-in_decimal
decreases-in_decimal l = l.x
