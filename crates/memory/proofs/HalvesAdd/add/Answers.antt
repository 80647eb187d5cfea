-- The sum of the numbers, and 1 more where the last bits of both are set.
use lib.IntN.{ℤ, pos, ◌+ℤ◌}
use mir.Syntax.{w64}
use mir.Val.{SFits}
use Rattle.ints.proofs.Integers.{ints, fits, add_ud, pos_ud, abs_ud}
use Rattle.model.specs.Bound.{plus}
use Rattle.model.specs.Conditions.{Small}
use Rattle.memory.specs.Numbers.{of_halves, Widest}
use Rattle.memory.proofs.InHalves.{both_odd, odd_one, halves_size, plus_halves, first_fits, second_fits, sum_told}
use borrow.Author.Rules.{rules}
use Rattle.memory.proofs.HalvesAdd.add.Goals as goal

module _ (u v : ℤ) (s : Small Widest (plus (of_halves u) (of_halves v))) where
  total : SFits w64 ((u +ℤ v) +ℤ pos (both_odd u v))
  total = fits (omega (ints, halves_size _ (rw (plus_halves u v) at s)))

  sum : SFits w64 (u +ℤ v)
  sum =
      let o = both_odd u v in
      let h = halves_size _ (rw (plus_halves u v) at s) in
      fits (omega (ints, abs_ud (u +ℤ v), abs_ud ((u +ℤ v) +ℤ pos o), add_ud (u +ℤ v) (pos o), pos_ud o, odd_one u v))

pub overflow_add-result : goal.overflow_add-result
overflow_add-result c = first_fits c.args.self.0 c.args.other.0 (search rules) (search rules) (sum _ _ c.requires) (total _ _ c.requires)

pub overflow_add-result-2 : goal.overflow_add-result-2
overflow_add-result-2 c = second_fits c.args.self.0 c.args.other.0 (search rules) (search rules) (sum _ _ c.requires) (total _ _ c.requires)

pub returns : goal.returns
returns c = sum_told c.args.self.0 c.args.other.0 (search rules) (search rules) (sum _ _ c.requires) (total _ _ c.requires)
