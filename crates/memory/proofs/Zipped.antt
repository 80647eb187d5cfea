-- What a function makes of the entries of a list, one by one.
use Prim.Native.Nat.{ℕ, zero, suc, ◌+◌, ◌<◌}
use native.Mathlib.Omega.{arith}
use native.Mathlib.Numerals.{add-one}
use mathlib.Core.Path.{◌≡◌, refl, subst}
use mathlib.Core.List.{List, [], ◌∷◌, map}
use lib.ListN.{length, take, get_or, set}
use Rattle.std.specs.List.{AllZip}
use Rattle.model.specs.Lists.{Every, done, both}

zip_suc : {X Y : Type 0} (R : X → Y → Type 0) (xs : List X) (ys : List Y) (k : ℕ) (x : X) (y : Y) → k < length xs → k < length ys
    → AllZip R (take k xs) (take k ys) → R (get_or xs k x) y → AllZip R (take (suc k) xs) (take (suc k) (set ys k y))
zip_suc R [] ys k x y lx ly e r = absurd (omega arith)
zip_suc R (a ∷ xs) [] k x y lx ly e r = absurd (omega arith)
zip_suc R (a ∷ xs) (b ∷ ys) zero x y lx ly e r = (r, tt)
zip_suc R (a ∷ xs) (b ∷ ys) (suc k) x y lx ly e r = (e.0, zip_suc R xs ys k x y (omega arith) (omega arith) e.1 r)

-- one more
pub zip_next : {X Y : Type 0} (R : X → Y → Type 0) (xs : List X) (ys : List Y) (k : ℕ) (x : X) (y : Y) → k < length xs → k < length ys
    → AllZip R (take k xs) (take k ys) → x ≡ get_or xs k x → R x y → AllZip R (take (k + 1) xs) (take (k + 1) (set ys k y))
zip_next R xs ys k x y lx ly e is r = rw (add-one k) (zip_suc R xs ys k x y lx ly e (subst (λ z. R z y) is r))

-- what stands for the entries is what stands for what they were made of
pub zip_map : {X Y Z : Type 0} {R : X → Y → Type 0} (g : Y → Z) (h : X → Z) → ((x : X) (y : Y) → R x y → g y ≡ h x)
    → (xs : List X) (ys : List Y) → AllZip R xs ys → map g ys ≡ map h xs
zip_map g h same [] [] e = refl
zip_map g h same [] (y ∷ ys) e = absurd e
zip_map g h same (x ∷ xs) [] e = absurd e
zip_map g h same (x ∷ xs) (y ∷ ys) e = λ i. same x y e.0 i ∷ zip_map g h same xs ys e.1 i

-- what holds of every entry holds at each place
pub every_at : {X : Type 0} {P : X → Type 0} {xs : List X} → Every P xs → (k : ℕ) (d : X) → k < length xs → P (get_or xs k d)
every_at done k d h = absurd (omega arith)
every_at (both p all) zero d h = p
every_at (both p all) (suc k) d h = every_at all k d (omega arith)

-- the same at the front of a longer list
pub zip_front : {X Y Z : Type 0} {R : X → Y → Type 0} (g : Y → Z) (h : X → Z) → ((x : X) (y : Y) → R x y → g y ≡ h x)
    → (count : ℕ) (xs : List X) (ys : List Y) → length xs ≡ count → AllZip R xs (take (length xs) ys) → map g (take count ys) ≡ map h xs
zip_front g h same count xs ys long e = zip_map g h same xs (take count ys) (rw long at e)
