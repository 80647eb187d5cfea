-- Arrays that are filled place by place, part by part, or by what a function gives of each entry of another.
use Prim.Native.Nat.{ℕ, suc, ◌+◌, ◌-◌, ◌<◌}
use native.Mathlib.Numerals.{add-one}
use native.Mathlib.Omega.{arith}
use mathlib.Core.Path.{◌≡◌, refl, sym, ap, ap₂, ◌∙◌}
use mathlib.Core.List.{List, [], ◌∷◌, ◌++◌, map, append-nil}
use lib.ListN.{length, take, drop, get_or, set, replicate}
use lib.Seq.{take_all}
use Rattle.std.proofs.lemmas.List.{drop-replicate, take_more_set}
use Rattle.model.specs.Lists.{tabulate, padded}
use Rattle.model.proofs.Entries.{length_tabulate}
use Rattle.model.proofs.Tabulated.{tabulate_snoc}

-- places that hold f first, f (first + 1), ..: one more
pub filled_more : {X : Type 0} (f : ℕ → X) (first : ℕ) (xs : List X) (i p : ℕ) → i < length xs → p ≡ first + i → take i xs ≡ tabulate i first f
    → take (i + 1) (set xs i (f p)) ≡ tabulate (i + 1) first f
filled_more f first xs i p h at e =
    take_more_set xs i _ h ∙ ap (λ ys. ys ++ f p ∷ []) e ∙ rw (at, add-one, ← (tabulate_snoc i first f)) refl

module _ {X : Type 0} (z : X) (size count first : ℕ) (f : ℕ → X) (xs : List X) (long : length xs ≡ count) (e : take count xs ≡ tabulate count first f) where
  filled : xs ≡ tabulate count first f
  filled = sym (take_all count xs (omega arith)) ∙ e

  -- all that are to be filled, at the front of an array of z
  pub filled_front : xs ++ drop count (replicate size z) ≡ padded z size (tabulate count first f)
  filled_front =
      rw filled
      (ap (◌++◌ (tabulate count first f)) (drop-replicate count size z ∙ ap (λ (k : ℕ). replicate (size - k) z) (sym (length_tabulate count first f))))

  -- in a whole array
  pub filled_whole : size ≡ count → xs ≡ padded z size (tabulate count first f)
  filled_whole whole =
      let none : size - length (tabulate count first f) ≡ 0 = omega (arith, length_tabulate count first f) in
      rw (filled, none) (sym (append-nil (tabulate count first f)))

-- a list whose places hold g of those of another
pub mapped : {X Y : Type 0} (g : X → Y) (d : X) (e : Y) (xs : List X) (ys : List Y) → length ys ≡ length xs
    → ((i : ℕ) → i < length xs → get_or ys i e ≡ g (get_or xs i d)) → ys ≡ map g xs
mapped g d e [] [] long at = refl
mapped g d e [] (y ∷ ys) long at = absurd (omega arith)
mapped g d e (x ∷ xs) [] long at = absurd (omega arith)
mapped g d e (x ∷ xs) (y ∷ ys) long at = ap₂ ◌∷◌ (at 0 (omega arith)) (mapped g d e xs ys (omega arith) (λ i l. at (suc i) (omega arith)))
