-- The numbers of the list, lent and put back.
use Rattle.moves.proofs.Numbered.{shiftable, moved_list}
use Rattle.moves.proofs.move_list.Goals as goal

pub move_numbers-requires : goal.move_numbers-requires
move_numbers-requires c = rw c.zone_size.ensures (shiftable c.requires)

pub returns : goal.returns
returns c =
    rw c.zone_size.ensures
    (moved_list c.requires _ (rw c.zone_size.ensures at c.move_numbers.auto.numbers) (rw c.zone_size.ensures at c.move_numbers.ensures))
