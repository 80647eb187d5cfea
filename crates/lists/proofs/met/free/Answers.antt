-- Few places, and few sets in a row.
use native.Mathlib.Omega.{arith}
use Rattle.lists.proofs.Lengths.{sets_few, places_few}
use Rattle.lists.proofs.met.free.Goals as goal

pub overflow_add-result : goal.overflow_add-result
overflow_add-result c =
    omega (arith, c.first.ensures, places_few c.args.n c.args.i c.requires.1, c.requires.0.few c.args.i, sets_few c.args.n)
