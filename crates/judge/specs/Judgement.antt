-- What a function says of entries, and the parts that a case's start is in, for every case.
use Rattle.std.specs.Prelude.{ℕ, cond, Result, List, ◌≡◌}
use Rattle.std.proofs.Math.Option as O
use Rattle.model.specs.declared.Case.{Case}
use Rattle.model.specs.declared.Fault.{Fault}
use Rattle.model.specs.Sizes.{most_departures}
use Rattle.model.specs.Search.{parts_of}
use Rattle.model.specs.Faults.{network, outside, entry_fault}
use Rattle.model.specs.Answers.{judged}

-- what a call with an entry and its place gives is the fault that said says of it
abbrev pub Says : {E : Type 0} → (E → ℕ → Result (Unit {0}) Fault → Type 0) → (ℕ → E → O.Option Fault) → Type 0
Says {E} post said = (e : E) (p : ℕ) (r : Result (Unit {0}) Fault) → post e p r → r ≡ judged (said p e)

-- r is the first fault of the entries, numbered from p on, by what calls with them give
abbrev pub FirstSaid : {E : Type 0} → (E → ℕ → Result (Unit {0}) Fault → Type 0) → ℕ → List E → Result (Unit {0}) Fault → Type 0
FirstSaid {E} post p es r = (said : ℕ → E → O.Option Fault) → Says post said → r ≡ judged (entry_fault said p es)

-- the parts of a second that a start is in, 0 where there is no start because the number of departures is refused
unfoldable pub start_parts : Case → ℕ
start_parts c = cond (outside 1 most_departures c.n) 0 (parts_of (network c))
