-- A property of every number below another, of every element of a list, and of the lists that `tabulate`, `flatten` and `++` make.
use Prim.Native.Nat.{ℕ, zero, suc, ◌+◌, ◌<◌}
use native.Mathlib.Omega.{arith}
use native.Mathlib.Decide.{ℕ_discrete}
use mathlib.Core.Path.{◌≡◌, refl}
use mathlib.Core.Logic.{◌⊎◌, inl, inr, ⊎_elim}
use mathlib.Core.List.{List, [], ◌∷◌, ◌++◌, map, flatten, flat_map}
use lib.ListN.{length, get_or}
use Rattle.model.specs.Lists.{tabulate, Every, done, both, Some, here, there}

-- every number below m has P; one more
abbrev pub Below : (ℕ → Type 0) → ℕ → Type 0
Below P m = (i : ℕ) → i < m → P i

pub one_more : (P : ℕ → Type 0) (m : ℕ) → Below P m → P m → Below P (suc m)
one_more P m below last i l = elim (ℕ_discrete i m) [ yes e ↦ rw e last | no e ↦ below i (omega arith) ]

module _ {X : Type 0} {P : X → Type 0} where
  pub every_append : {xs ys : List X} → Every P xs → Every P ys → Every P (xs ++ ys)
  every_append done q = q
  every_append (both h p) q = both h (every_append p q)

  pub every_split : (xs ys : List X) → Every P (xs ++ ys) → Every P xs × Every P ys
  every_split [] ys p = (done, p)
  every_split (x ∷ xs) ys (both h p) = let (q, r) = every_split xs ys p in (both h q, r)

  pub every_tabulate : (n k : ℕ) (f : ℕ → X) → ((i : ℕ) → i < n → P (f (k + i))) → Every P (tabulate n k f)
  unfolding tabulate
  every_tabulate zero k f h = done
  every_tabulate (suc n) k f h =
      let e : k + 0 ≡ k = omega arith in
      let es : (i : ℕ) → k + suc i ≡ suc k + i = omega arith in
      both (rw e at (h 0 (omega arith))) (every_tabulate n (suc k) f (λ i l. rw (es i) at (h (suc i) (omega arith))))

  pub at_tabulate : (n k : ℕ) (f : ℕ → X) → Every P (tabulate n k f) → (i : ℕ) → i < n → P (f (k + i))
  unfolding tabulate
  at_tabulate zero k f p i l = absurd (omega arith)
  at_tabulate (suc n) k f (both h p) zero l = let e : k + 0 ≡ k = omega arith in rw e h
  at_tabulate (suc n) k f (both h p) (suc i) l =
      let e : k + suc i ≡ suc k + i = omega arith in
      rw e (at_tabulate n (suc k) f p i (omega arith))

  pub every_flatten : {xss : List (List X)} → Every (Every P) xss → Every P (flatten xss)
  unfolding flatten
  every_flatten done = done
  every_flatten (both p ps) = every_append p (every_flatten ps)

  pub in_flatten : (xss : List (List X)) → Every P (flatten xss) → Every (Every P) xss
  unfolding flatten
  in_flatten [] p = done
  in_flatten (xs ∷ xss) p = let (q, r) = every_split xs (flatten xss) p in both q (in_flatten xss r)

module _ {X : Type 0} where
  pub every_map : {P Q : X → Type 0} → ((x : X) → P x → Q x) → {xs : List X} → Every P xs → Every Q xs
  every_map f done = done
  every_map f (both {x} h p) = both (f x h) (every_map f p)

  pub every_both : {P Q R : X → Type 0} → ((x : X) → P x → Q x → R x) → {xs : List X} → Every P xs → Every Q xs → Every R xs
  every_both f done done = done
  every_both f (both {x} h p) (both k q) = both (f x h k) (every_both f p q)

  pub of_both : {P : X → Type 0} {x : X} {xs : List X} → Every P (x ∷ xs) → P x × Every P xs
  of_both (both h p) = (h, p)

  -- at every place, if it holds also of what is read beyond the list
  pub at_get_d : {P : X → Type 0} (z : X) {xs : List X} → P z → Every P xs → (i : ℕ) → P (get_or xs i z)
  at_get_d z k done i = k
  at_get_d z k (both h p) zero = h
  at_get_d z k (both h p) (suc i) = at_get_d z k p i

  pub every_get_d : {P : X → Type 0} (z : X) (xs : List X) → ((i : ℕ) → i < length xs → P (get_or xs i z)) → Every P xs
  every_get_d z [] h = done
  every_get_d z (x ∷ xs) h = both (h 0 (omega arith)) (every_get_d z xs (λ i l. h (suc i) (omega arith)))

  pub every_all : {P : X → Type 0} → ((x : X) → P x) → (xs : List X) → Every P xs
  every_all h [] = done
  every_all h (x ∷ xs) = both (h x) (every_all h xs)

module _ {X Y : Type 0} {P : Y → Type 0} where
  pub map_every : (f : X → Y) {xs : List X} → Every (λ x. P (f x)) xs → Every P (map f xs)
  map_every f done = done
  map_every f (both h p) = both h (map_every f p)

  pub of_map_every : (f : X → Y) (xs : List X) → Every P (map f xs) → Every (λ x. P (f x)) xs
  of_map_every f [] p = done
  of_map_every f (x ∷ xs) (both h p) = both h (of_map_every f xs p)

  pub flat_map_every : (f : X → List Y) {xs : List X} → Every (λ x. Every P (f x)) xs → Every P (flat_map f xs)
  unfolding flat_map
  flat_map_every f done = done
  flat_map_every f (both h p) = every_append h (flat_map_every f p)

-- ---- a property of some element

module _ {X : Type 0} where
  pub some_map : {P Q : X → Type 0} → ((x : X) → P x → Q x) → {xs : List X} → Some P xs → Some Q xs
  some_map f (here {x} h) = here (f x h)
  some_map f (there p) = there (some_map f p)

  module _ {P : X → Type 0} where
    pub some_left : {xs : List X} (ys : List X) → Some P xs → Some P (xs ++ ys)
    some_left ys (here h) = here h
    some_left ys (there p) = there (some_left ys p)

    pub some_right : (xs : List X) {ys : List X} → Some P ys → Some P (xs ++ ys)
    some_right [] p = p
    some_right (x ∷ xs) p = there (some_right xs p)

    pub some_split : (xs ys : List X) → Some P (xs ++ ys) → Some P xs ⊎ Some P ys
    some_split [] ys p = inr p
    some_split (x ∷ xs) ys (here h) = inl (here h)
    some_split (x ∷ xs) ys (there p) = ⊎_elim (λ q. inl (there q)) inr (some_split xs ys p)

    -- the element itself
    pub some_at : {xs : List X} → Some P xs → (x : X) × P x × Some (λ y. y ≡ x) xs
    some_at (here {x} h) = (x, h, here refl)
    some_at (there p) = let (x, h, q) = some_at p in (x, h, there q)

    pub every_some : {Q : X → Type 0} {xs : List X} → Every Q xs → Some P xs → Some (λ x. Q x × P x) xs
    every_some done p = elim p [ ]
    every_some (both q qs) (here h) = here (q, h)
    every_some (both q qs) (there p) = there (every_some qs p)

module _ {X Y : Type 0} (f : X → List Y) {P : Y → Type 0} where
  pub in_flat_map : {xs : List X} → Some (λ x. Some P (f x)) xs → Some P (flat_map f xs)
  unfolding flat_map
  in_flat_map (here {xs} h) = some_left (flat_map f xs) h
  in_flat_map (there {x} p) = some_right (f x) (in_flat_map p)

  pub of_flat_map : (xs : List X) → Some P (flat_map f xs) → Some (λ x. Some P (f x)) xs
  unfolding flat_map
  of_flat_map [] p = elim p [ ]
  of_flat_map (x ∷ xs) p = ⊎_elim here (λ q. there (of_flat_map xs q)) (some_split (f x) (flat_map f xs) p)

module _ {X Y : Type 0} (f : X → Y) {P : Y → Type 0} where
  pub in_map : {xs : List X} → Some (λ x. P (f x)) xs → Some P (map f xs)
  in_map (here h) = here h
  in_map (there p) = there (in_map p)

  pub of_map : (xs : List X) → Some P (map f xs) → Some (λ x. P (f x)) xs
  of_map [] p = elim p [ ]
  of_map (x ∷ xs) (here h) = here h
  of_map (x ∷ xs) (there p) = there (of_map xs p)
