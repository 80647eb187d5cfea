-- One way, then the other.
use mathlib.Core.Path.{refl}
use mathlib.Core.List.{[], ◌∷◌}
use Rattle.model.specs.Matrix.{Constraint}
use Rattle.memory.proofs.Toward.{Parts, toward_start, first_of}
use Rattle.memory.proofs.Leaving.{given_up, onward, at_last}
use Rattle.zones.proofs.keep_both.Goals as goal

ahead : {j k : Constraint} → Parts (j ∷ k ∷ []) (j ∷ []) (k ∷ [])
ahead = record { is = refl }

pub keep_one-requires : goal.keep_one-requires
keep_one-requires g c =
    let p = c.requires in
    record { taking = first_of ahead (toward_start p.taking refl); adds = p.adds; adds_other = p.adds_other }

pub keep_one-requires-then-keep_one : goal.keep_one-requires-then-keep_one
keep_one-requires-then-keep_one g c =
    let p = c.requires in
    let halfway = onward ahead (toward_start p.taking refl) c.keep_one.ensures c.if-keep_one.true in
    record { taking = halfway.taking; adds = p.adds_other; adds_other = p.adds }

pub returns-then-keep_one : goal.returns-then-keep_one
returns-then-keep_one g c =
    at_last (onward ahead (toward_start c.requires.taking refl) c.keep_one.ensures c.if-keep_one.true) c.keep_one-then-keep_one.ensures

pub returns-else-keep_one : goal.returns-else-keep_one
returns-else-keep_one g c =
    rw c.if-keep_one.false (given_up ahead (toward_start c.requires.taking refl) c.keep_one.ensures c.if-keep_one.false)
