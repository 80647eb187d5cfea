-- A list of kept zones: every set that was put to it and is not empty is there, once.
use mathlib.Core.Path.{◌≡◌, refl, sym}
use mathlib.Core.Logic.{◌⊎◌, inl, inr, ⊎_elim}
use mathlib.Core.Bool.{Bool, true, false, cond, ◌||◌}
use mathlib.Core.List.{List, [], ◌∷◌, ◌++◌, foldl}
use mathlib.Core.Option.{Option, none, some}
use Rattle.ints.proofs.Integers.{impossible}
use Rattle.model.specs.Lists.{any_of, Every, done, both, Some, here, there}
use Rattle.model.specs.Matrix.{Matrix, same_matrix}
use Rattle.model.specs.Search.{keep}
use Rattle.model.proofs.Listed.{every_append, every_map, some_map, some_left, some_right, some_split}
use Rattle.model.proofs.Same.{same_matrix_true, same_matrix_refl}
use Rattle.model.proofs.Zones.{Is}

-- ---- a test that some element passes
module _ {X : Type 0} (p : X → Bool) where
  pub any_of_true : (xs : List X) → any_of p xs ≡ true → Some (λ x. p x ≡ true) xs
  unfolding any_of
  any_of_true [] e = impossible cc
  any_of_true (x ∷ xs) e = go (p x) refl e (any_of_true xs)
    where
      go : (t : Bool) → p x ≡ t → (t || any_of p xs) ≡ true → (any_of p xs ≡ true → Some (λ y. p y ≡ true) xs) → Some (λ y. p y ≡ true) (x ∷ xs)
      go true h e rest = here h
      go false h e rest = there (rest e)

  pub any_of_false : {xs : List X} → any_of p xs ≡ false → Every (λ x. p x ≡ false) xs
  unfolding any_of
  any_of_false {xs = []} e = done
  any_of_false {xs = x ∷ xs} e = go (p x) refl e (any_of_false {xs = xs})
    where
      go : (t : Bool) → p x ≡ t → (t || any_of p xs) ≡ false → (any_of p xs ≡ false → Every (λ y. p y ≡ false) xs) → Every (λ y. p y ≡ false) (x ∷ xs)
      go true h e rest = impossible cc
      go false h e rest = both h (rest e)

  pub not_any : {xs : List X} → Every (λ x. p x ≡ false) xs → any_of p xs ≡ false
  unfolding any_of
  not_any done = refl
  not_any (both h hs) = rw h (not_any hs)

-- ---- one set put to the list
pub data Put (kept : List Matrix) : Option Matrix → List Matrix → Type 0 where
  empty : Put kept none kept
  there_already : {z : Matrix} → Some (λ y. y ≡ z) kept → Put kept (some z) kept
  new : {z : Matrix} → Every (λ y. y ≡ z → ⊥) kept → Put kept (some z) (kept ++ (z ∷ []))

other : (z y : Matrix) → same_matrix z y ≡ false → y ≡ z → ⊥
other z y h e =
    let s : same_matrix z y ≡ true = rw e (same_matrix_refl z) in
    impossible cc

pub keep_is : (kept : List Matrix) (o : Option Matrix) → Put kept o (keep kept o)
unfolding keep
keep_is kept none = empty
keep_is kept (some z) = go (any_of (same_matrix z) kept) refl
  where
    go : (t : Bool) → any_of (same_matrix z) kept ≡ t → Put kept (some z) (cond t kept (kept ++ (z ∷ [])))
    go true e = there_already (some_map (λ y h. sym (same_matrix_true z y h)) (any_of_true (same_matrix z) kept e))
    go false e = new (every_map (other z) (any_of_false (same_matrix z) e))

module _ {P : Matrix → Type 0} where
  put_some : {kept kept' : List Matrix} {o : Option Matrix} → Put kept o kept' → Some P kept' → Some P kept ⊎ Is P o
  put_some empty p = inl p
  put_some (there_already q) p = inl p
  put_some {kept} (new {z} q) p = ⊎_elim inl (λ r. inr (last r)) (some_split kept (z ∷ []) p)
    where
      last : Some P (z ∷ []) → P z
      last (here h) = h
      last (there r) = elim r [ ]

  put_old : {kept kept' : List Matrix} {o : Option Matrix} → Put kept o kept' → Some P kept → Some P kept'
  put_old empty p = p
  put_old (there_already q) p = p
  put_old (new {z} q) p = some_left (z ∷ []) p

  put_new : {kept kept' : List Matrix} {o : Option Matrix} → Put kept o kept' → Is P o → Some P kept'
  put_new empty p = absurd p
  put_new (there_already q) p = some_map (λ y e. rw e p) q
  put_new {kept} (new q) p = some_right kept (here p)

  -- ---- all that was put to the list is there, and nothing else
  pub kept_of : (kept : List Matrix) (os : List (Option Matrix)) → Some P (foldl keep kept os) → Some P kept ⊎ Some (Is P) os
  kept_of kept [] p = inl p
  kept_of kept (o ∷ os) p = ⊎_elim (λ q. ⊎_elim inl (λ h. inr (here h)) (put_some (keep_is kept o) q)) (λ q. inr (there q)) (kept_of (keep kept o) os p)

  pub kept_old : (kept : List Matrix) (os : List (Option Matrix)) → Some P kept → Some P (foldl keep kept os)
  kept_old kept [] p = p
  kept_old kept (o ∷ os) p = kept_old (keep kept o) os (put_old (keep_is kept o) p)

  pub of_kept : (kept : List Matrix) {os : List (Option Matrix)} → Some (Is P) os → Some P (foldl keep kept os)
  of_kept kept (here {x = o} {xs = os} h) = kept_old (keep kept o) os (put_new (keep_is kept o) h)
  of_kept kept (there {x = o} q) = of_kept (keep kept o) q

  -- what holds of every set put to it holds of every kept zone
  put_every : {kept kept' : List Matrix} {o : Option Matrix} → Put kept o kept' → Every P kept → ((z : Matrix) → o ≡ some z → P z) → Every P kept'
  put_every empty ps h = ps
  put_every (there_already q) ps h = ps
  put_every (new {z} q) ps h = every_append ps (both (h z refl) done)

  pub kept_every : {kept : List Matrix} {os : List (Option Matrix)} → Every P kept → Every (λ o. (z : Matrix) → o ≡ some z → P z) os
      → Every P (foldl keep kept os)
  kept_every ps done = ps
  kept_every {kept = kept} ps (both {x = o} h hs) = kept_every {kept = keep kept o} (put_every (keep_is kept o) ps h) hs
