-- The numbers are compared as they are, in 64 bits; the smaller one has 32.
use borrow.Author.Rules.{rules}
use mathlib.Core.Path.{◌≡◌}
use mir.Syntax.{w32, w64}
use mir.Val.{SFits, to_z, of_z}
use mir.ValLaws.{to_z-of_z}
use Rattle.model.specs.Bound.{tighter}
use Rattle.memory.specs.Numbers.{of_halves, bound_in}
use Rattle.zones.proofs.Step.{read_wide, least}
use Rattle.zones.proofs.tighter.Goals as goal

is : (c : goal.After-min) → SFits w32 c.min.result × (bound_in c.min.result ≡ tighter (bound_in c.args.old) (of_halves c.args.new.0))
is c =
    let a = c.args in
    let told : to_z w64 (of_z w64 a.new.0) ≡ a.new.0 = search rules in
    least a.old a.new.0 c.ranges.old c.min.result (rw (told, read_wide a.old c.ranges.old) at c.min.ensures.value) c.requires

pub overflow_cast-result : goal.overflow_cast-result
overflow_cast-result c =
    let told : to_z w64 (of_z w64 c.min.result) ≡ c.min.result = search rules in
    rw told (is c).0

pub returns : goal.returns
returns c =
    let told : to_z w64 (of_z w64 c.min.result) ≡ c.min.result = search rules in
    rw (told, to_z-of_z w32 c.min.result (is c).0) (is c).1
