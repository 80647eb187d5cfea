-- Lists and options: what the definitions use beyond the library.
use Rattle.std.specs.Prelude.{ℕ, zero, suc, ◌-◌, List, [], ◌∷◌, ◌++◌, Bool, true, false, ◌&&◌, ◌||◌, length, replicate}
use Rattle.std.proofs.Math.Option.{Option, none, some}

-- f k ∷ f (k + 1) ∷ .., n of them
unfoldable pub tabulate {ℓ} : {X : Type ℓ} → ℕ → ℕ → (ℕ → X) → List X
tabulate zero k f = []
tabulate (suc n) k f = f k ∷ tabulate n (suc k) f

unfoldable pub any_of : {X : Type 0} → (X → Bool) → List X → Bool
any_of p [] = false
any_of p (x ∷ xs) = p x || any_of p xs

unfoldable pub all_of : {X : Type 0} → (X → Bool) → List X → Bool
all_of p [] = true
all_of p (x ∷ xs) = p x && all_of p xs

-- two lists of the same length whose elements pass the test in turn
unfoldable pub same_lists : {X : Type 0} → (X → X → Bool) → List X → List X → Bool
same_lists p [] [] = true
same_lists p [] (y ∷ ys) = false
same_lists p (x ∷ xs) [] = false
same_lists p (x ∷ xs) (y ∷ ys) = p x y && same_lists p xs ys

-- the list, and z after it up to size
abbrev pub padded : {X : Type 0} → X → ℕ → List X → List X
padded z size xs = xs ++ replicate (size - length xs) z

abbrev pub when : {X : Type 0} → Bool → X → Option X
when true x = some x
when false x = none

-- the first of two that is there
abbrev pub or_else : {X : Type 0} → Option X → Option X → Option X
or_else (some x) o = some x
or_else none o = o

-- each element has P, and some element has
pub data Every {X : Type 0} (P : X → Type 0) : List X → Type 0 where
  done : Every P []
  both : {x : X} {xs : List X} → P x → Every P xs → Every P (x ∷ xs)

pub data Some {X : Type 0} (P : X → Type 0) : List X → Type 0 where
  here : {x : X} {xs : List X} → P x → Some P (x ∷ xs)
  there : {x : X} {xs : List X} → Some P xs → Some P (x ∷ xs)
