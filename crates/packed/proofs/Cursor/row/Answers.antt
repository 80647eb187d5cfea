use Rattle.std.proofs.Common.{◌≡◌, is_some, sym, ◌∙◌, rules, tests}
use Rattle.std.specs.List.{list_any}
use Rattle.std.proofs.lemmas.Iterator.{YieldsList-from_slice}
use Rattle.std.proofs.lemmas.Iterator.Search.{any_from_yields_List}
use Rattle.packed.proofs.Laws.{row_read, row_empty}
use Rattle.packed.proofs.Cursor.row.Goals as goal
use Rattle.packed.proofs.Cursor.row.Goals.{After-any}

-- one of the times is there
some_time : (c : After-any) → c.any.result ≡ list_any is_some c.entries.new.places
some_time c = any_from_yields_List is_some _ _ _ c.any.ensures.ran (YieldsList-from_slice c.entries.new.places cc) (λ x b q k. search (rules, tests))

pub returns-then-not-any : goal.returns-then-not-any
returns-then-not-any c = row_empty _ _ (sym c.if-not-any.true ∙ some_time c.before) c.in_ok-next.ensures

pub returns : goal.returns
returns c = row_read _ _ (sym c.if-not-any.false ∙ some_time c.before) c.in_ok-next.ensures
