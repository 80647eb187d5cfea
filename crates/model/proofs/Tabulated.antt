-- Further laws of `tabulate`: when two such lists are equal, and what a mapped function,
-- a later start and one more element make of one; what a loop over one has still to go through.
use Prim.Native.Nat.{ℕ, zero, suc, ◌+◌, ◌-◌, ◌≤◌, ◌<◌}
use native.Mathlib.Omega.{arith}
use mathlib.Core.Path.{◌≡◌, refl, ap, ap₂}
use mathlib.Core.List.{List, [], ◌∷◌, ◌++◌, map}
use Rattle.model.specs.Lists.{tabulate}

module _ {ℓ} {X : Type ℓ} where
  -- equal at every place, equal lists
  pub tabulate_ext : (n k : ℕ) (f g : ℕ → X) → ((i : ℕ) → k ≤ i → i < k + n → f i ≡ g i) → tabulate n k f ≡ tabulate n k g
  unfolding tabulate
  tabulate_ext zero k f g h = refl
  tabulate_ext (suc n) k f g h =
      ap₂ ◌∷◌ (h k (omega arith) (omega arith)) (tabulate_ext n (suc k) f g (λ i l u. h i (omega arith) (omega arith)))

  -- a function mapped over the list
  pub map_tabulate {κ} : {Y : Type κ} (g : X → Y) (n k : ℕ) (f : ℕ → X) → map g (tabulate n k f) ≡ tabulate n k (λ i. g (f i))
  unfolding tabulate
  map_tabulate g zero k f = refl
  map_tabulate g (suc n) k f = ap (◌∷◌ (g (f k))) (map_tabulate g n (suc k) f)

  -- from one place further on
  pub tabulate_suc : (n k : ℕ) (f : ℕ → X) → tabulate n (suc k) f ≡ tabulate n k (λ i. f (suc i))
  unfolding tabulate
  tabulate_suc zero k f = refl
  tabulate_suc (suc n) k f = ap (◌∷◌ (f (suc k))) (tabulate_suc n (suc k) f)

  -- one more element at the end
  pub tabulate_snoc : (n k : ℕ) (f : ℕ → X) → tabulate n k f ++ (f (k + n) ∷ []) ≡ tabulate (suc n) k f
  unfolding tabulate
  tabulate_snoc zero k f = ap (λ (i : ℕ). f i ∷ []) (omega arith)
  tabulate_snoc (suc n) k f = let e : k + suc n ≡ suc k + n = omega arith in rw e (ap (◌∷◌ (f k)) (tabulate_snoc n (suc k) f))

-- ---- the elements from place j up to the end e
abbrev pub from {ℓ} : {X : Type ℓ} → (ℕ → X) → ℕ → ℕ → List X
from f e j = tabulate (e - j) j f

module _ {ℓ} {X : Type ℓ} (f : ℕ → X) where
  -- the whole list
  pub from_first : (n k e : ℕ) → e ≡ n + k → tabulate n k f ≡ from f e k
  from_first n k e h = ap (λ (r : ℕ). tabulate r k f) (omega arith)

  module _ (e j : ℕ) where
    pub from_next : j < e → from f e j ≡ f j ∷ from f e (j + 1)
    unfolding tabulate
    from_next h =
        let a : e - j ≡ suc (e - (j + 1)) = omega arith in
        let b : j + 1 ≡ suc j = omega arith in
        rw (a, tabulate, b)

    pub from_end : e ≤ j → from f e j ≡ []
    unfolding tabulate
    from_end h = let a : e - j ≡ 0 = omega arith in rw a
