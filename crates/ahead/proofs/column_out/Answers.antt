-- A blank is no column.
use mathlib.Core.Path.{ap, ◌∙◌}
use mathlib.Core.Bool.{not}
use Rattle.model.proofs.Selections.{chosen_at}
use Rattle.ahead.proofs.Tabled.{no_column, held_column}
use Rattle.ahead.proofs.column_out.Goals as goal

pub unfit-requires : goal.unfit-requires
unfit-requires c =
    let (set, at) = c.requires in
    let held = held_column c.time_at.ensures (c.is_none.ensures ∙ ap not c.if-is_none.false) at.col_from at.col_to in
    record { set = set; adds = record { table = at.table; row = at.row_to; column = chosen_at at.row_from held }; column = at.col_to }

pub returns-then-is_none : goal.returns-then-is_none
returns-then-is_none c t held = absurd (no_column c.time_at.ensures (c.is_none.ensures ∙ ap not c.if-is_none.true) held)
