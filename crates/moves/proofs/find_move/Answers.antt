-- Of two lists of the same length.
use Rattle.moves.proofs.Numbered.{found_move}
use Rattle.moves.proofs.find_move.Goals as goal

pub returns : goal.returns
returns c =
    let e = c.if-next-before.false in
    rw (c.then_some.ensures, e)
    (found_move (rw e at c.requires.0) c.gap-by.result c.gap-by.ensures c.numbers-first.ensures (rw e at c.numbers-second.ensures)
    c.follow.result c.follow.ensures)
