-- The first bit that is not 0, or none.
use Rattle.std.proofs.Common.{◌≡◌, ℕ, ◌*◌, ◌≤◌, ◌<◌, length, arith, rules, tests}
use borrow.Author.Tests.{eq-eqb, ne_eqb}
use Rattle.std.proofs.lemmas.Iterator.{first_from_Range}
use Rattle.std.specs.Option.{MatchOption}
use Rattle.model.specs.Packed.{bit_at}
use Rattle.packed.proofs.Laws.{filling_stops, filling_ends}
use Rattle.packed.proofs.Cursor.padding.Goals as goal
use Rattle.packed.proofs.Cursor.padding.Goals.{After-find}

found : (c : After-find) → let bit = bit_at c.args.self.bytes.now in
    MatchOption c.find.result ((k : ℕ) → c.args.self.at ≤ k → k < c.next_multiple_of-end.result → bit k ≡ 0)
    (λ q. (c.args.self.at ≤ q) × (q < c.next_multiple_of-end.result) × (bit q ≡ 0 → ⊥) × ((k : ℕ) → c.args.self.at ≤ k → k < q → bit k ≡ 0))
found c = first_from_Range _ _ _ c.find.result _ _ c.find.ensures.ran (λ x q k. search (rules, tests)) (λ x q k. search (rules, tests))

pub returns-in-Some : goal.returns-in-Some
returns-in-Some c =
    let f = rw c.in-Some.is at (found (goal.at.returns-in-Some c).After-find) in
    simp (filling_stops _ _ _ _ c.next_multiple_of-end.ensures.value f.0 (omega arith) f.3 f.1 f.2)

pub returns-then-end-self : goal.returns-then-end-self
returns-then-end-self c =
    let clean = rw c.in_default.is at (found (goal.at.returns-then-end-self c).After-find) in
    let end = c.next_multiple_of-end.result in
    let more = ne_eqb end (8 * length c.args.self.bytes.now) (λ e. omega arith) in
    simp (filling_ends _ _ end end c.next_multiple_of-end.ensures.value (omega arith) (omega arith) clean (omega arith), more)

pub returns : goal.returns
returns c =
    let clean = rw c.in_default.is at (found (goal.at.returns c).After-find) in
    let end = c.next_multiple_of-end.result in
    let last = eq-eqb end (8 * length c.args.self.bytes.now) (omega arith) in
    simp (filling_ends _ _ end end c.next_multiple_of-end.ensures.value (omega arith) (omega arith) clean (omega arith), last)
