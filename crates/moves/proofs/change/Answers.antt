-- The place's row and column.
use native.Mathlib.Omega.{arith}
use native.Mathlib.Numerals.{add-one}
use Prim.Native.Nat.{◌+◌, ◌/◌, ◌%◌}
use mathlib.Core.Path.{ap₂, ◌∙◌}
use lib.IntN.{◌-ℤ◌}
use Rattle.ints.proofs.Integers.{sized_fits}
use Rattle.moves.specs.Moving.{change_at}
use Rattle.moves.proofs.Numbers.{change_small}
use Rattle.moves.proofs.change.Goals as goal

pub sub-requires : goal.sub-requires
sub-requires c =
    let a = c.args in
    let m = a.n + 1 in
    let small = change_small a.by.0 (a.p / m % m) (a.p % m) c.requires.small in
    rw (c.later.ensures, c.later-2.ensures) (sized_fits _ (omega arith))

pub returns : goal.returns
unfolding change_at
returns c =
    let e = c.sub.ensures ∙ ap₂ ◌-ℤ◌ c.later.ensures c.later-2.ensures in
    record { is = rw (add-one c.args.n) at e; small = rw e (change_small c.args.by.0 _ _ c.requires.small) }
