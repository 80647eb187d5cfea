-- Departure by departure.
use borrow.Author.Rules.{rules}
use native.Mathlib.Omega.{arith}
use native.Mathlib.Numerals.{add-one}
use Prim.Native.Nat.{ℕ, zero, suc, ◌+◌}
use mathlib.Core.Path.{◌≡◌, refl, ap, ◌∙◌}
use mathlib.Core.Bool.{Bool, ◌&&◌}
use Rattle.std.specs.List.{list_all, range_with_len}
use Rattle.std.proofs.lemmas.Iterator.{YieldsList-from_range}
use Rattle.std.proofs.lemmas.Iterator.Search.{all_from_yields_List}
use Rattle.model.specs.Lists.{all_of, tabulate}
use Rattle.model.specs.Pattern.{pair_bound, is_none, only_differences}
use Rattle.memory.specs.Numbers.{bounds_in}
use Rattle.memory.proofs.only_differences.Goals as goal

all_is : (p : ℕ → Bool) (n k : ℕ) → list_all p (range_with_len k n) ≡ all_of p (tabulate n k (λ j. j))
unfolding all_of tabulate
all_is p zero k = refl
all_is p (suc n) k = rw (add-one k) (ap (λ t. p k && t) (all_is p n (suc k)))

pub returns : goal.returns
unfolding only_differences
returns c =
    let n = c.args.n in
    let b = bounds_in c.args.pattern.now in
    all_from_yields_List (λ j. is_none (pair_bound n b 0 j) && is_none (pair_bound n b j 0)) _ _ _ c.all.ensures.ran
    (YieldsList-from_range 1 (n + 1) n refl (omega arith)) (λ x t q k. search rules)
    ∙ all_is _ n 1
