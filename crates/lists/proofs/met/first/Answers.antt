-- Few rows, and few places in each.
use native.Mathlib.Omega.{arith}
use native.Mathlib.Numerals.{add-one}
use Rattle.lists.proofs.Lengths.{sets_few, places_few}
use Rattle.lists.proofs.met.first.Goals as goal

pub overflow_add-result : goal.overflow_add-result
overflow_add-result c = omega (arith, sets_few c.args.n)

pub overflow_mul-result : goal.overflow_mul-result
overflow_mul-result c = rw (c.sets.ensures, add-one) (omega (arith, places_few c.args.n c.args.i c.requires))
