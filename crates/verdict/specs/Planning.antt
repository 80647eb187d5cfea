-- The searched horizon in the code.
use Rattle.std.specs.Prelude.{IfSome, Option, ◌≤◌, ◌≡◌}
use Rattle.model.specs.Search as S
use Rattle.powers.specs.declared.Again.{Again}
use Rattle.search.specs.Searching.{past_by}
use Rattle.verdict.specs.declared.Plan.{Plan}

-- so many cycles, and what getting past them means
pub record Planned (p : S.Plan) (r : Plan) : Type 0 where
  pub cycles : r.cycles.0 ≡ p.cycles
  pub end : past_by r.end ≡ p.end

-- powers are counted from 1
abbrev pub Counted : Option Again → Type 0
Counted r = IfSome r (λ again. 1 ≤ again.q)
