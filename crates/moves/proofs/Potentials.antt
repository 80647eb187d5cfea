-- Times that are later, each by a number of its own: the constraints that are moved likewise leave what is moved likewise.
use Prim.Native.Nat.{ℕ, ◌*◌, ◌<◌}
use mathlib.Core.Path.{◌≡◌, refl, sym, ap, ◌∙◌}
use mathlib.Core.Bool.{Bool, true, false, cond}
use mathlib.Core.List.{List, [], ◌∷◌, ◌++◌, map, map-append, foldl}
use mathlib.Core.Option
use mathlib.Core.Option.{Option, none, some}
use lib.IntN.{ℤ, pos, neg_ℤ, ◌+ℤ◌, ◌-ℤ◌}
use lib.Dec.{eqb, eqb→eq}
use lib.ListN.{length}
use Rattle.ints.proofs.Integers.{impossible, up, dn, ints, add_ud, sub_ud, neg_ud}
use Rattle.model.specs.Lists.{any_of, Every, done, both}
use Rattle.model.specs.Bound as B
use Rattle.model.specs.Bound.{Bound, upto, most, LeB, plus, tighter, negative}
use Rattle.model.specs.Matrix.{Matrix, entry, diagonal, everything, Constraint, relaxed, within, constrain, tighten, same_matrix}
use Rattle.model.specs.Search.{keep}
use Rattle.model.specs.Conditions.{Fits}
use Rattle.model.proofs.Bounds.{le_b_refl, plus_mono, plus_assoc, plus_comm, plus_left_comm, plus_zero, tighter_is, tighter_either, tighter_left, tighter_right}
use Rattle.model.proofs.Entries.{length_matrix, entry_matrix, ext_entry}
use Rattle.model.proofs.Members.{entry_relaxed}
use Rattle.model.proofs.Same.{same_matrix_true, same_matrix_refl}
use Rattle.model.proofs.Kept.{kept_every}
use Rattle.moves.specs.Moving.{move_by}

-- ---- bounds on times that are later
most_sum : (x y : ℤ) → plus (most x) (most y) ≡ most (x +ℤ y)
unfolding plus
most_sum x y = refl

pub plus_nothing : (b : Bound) → plus b (most (pos 0)) ≡ b
plus_nothing b = plus_comm b (most (pos 0)) ∙ plus_zero b

sum_later : (b c : Bound) (x y z : ℤ) → x +ℤ y ≡ z → plus (plus b (most x)) (plus c (most y)) ≡ plus (plus b c) (most z)
sum_later b c x y z e =
    plus_assoc b (most x) (plus c (most y)) ∙ ap (plus b) (plus_left_comm (most x) c (most y) ∙ ap (plus c) (most_sum x y ∙ ap most e))
    ∙ sym (plus_assoc b c (most z))

tighter_later : (b c : Bound) (x : ℤ) → tighter (plus b (most x)) (plus c (most x)) ≡ plus (tighter b c) (most x)
tighter_later b c x = tighter_is (plus_mono (tighter_left b c) (le_b_refl (most x))) (plus_mono (tighter_right b c) (le_b_refl (most x)))
    (tighter_either (λ u. LeB (tighter (plus b (most x)) (plus c (most x))) (plus u (most x))) b c (tighter_left _ _) (tighter_right _ _))

back : (b : Bound) (x : ℤ) → plus (plus b (most x)) (most (neg_ℤ x)) ≡ b
unfolding up dn
back b x =
    let e : x +ℤ neg_ℤ x ≡ pos 0 = omega (ints, neg_ud x, add_ud x (neg_ℤ x)) in
    plus_assoc b (most x) (most (neg_ℤ x)) ∙ ap (plus b) (most_sum x (neg_ℤ x) ∙ ap most e) ∙ plus_nothing b

module _ (m : ℕ) (p : ℕ → ℤ) where
  abbrev later : ℕ → ℕ → Bound
  later i j = most (p i -ℤ p j)

  abbrev move : Matrix → Matrix
  move d = move_by m p d

  pub move_size : (d : Matrix) → length (move d) ≡ m * m
  unfolding move_by
  move_size d = length_matrix m _

  pub move_entry : (d : Matrix) (i j : ℕ) → i < m → j < m → entry m (move d) i j ≡ plus (entry m d i j) (later i j)
  unfolding move_by
  move_entry d i j hi hj = entry_matrix m i j _ hi hj

  way : (i k j : ℕ) → (p i -ℤ p k) +ℤ (p k -ℤ p j) ≡ p i -ℤ p j
  way i k j = omega (ints, sub_ud (p i) (p k), sub_ud (p k) (p j), sub_ud (p i) (p j), add_ud (p i -ℤ p k) (p k -ℤ p j))

  no_way : (i : ℕ) → p i -ℤ p i ≡ pos 0
  unfolding up dn
  no_way i = omega (ints, sub_ud (p i) (p i))

  -- ---- one constraint
  abbrev pub move_one : Constraint → Constraint
  move_one k = record { row = k.row; col = k.col; limit = plus k.limit (later k.row k.col) }

  module _ (d : Matrix) (a b : ℕ) (ha : a < m) (hb : b < m) where
    move_relaxed : (c : Bound) → relaxed m (move d) a b (plus c (later a b)) ≡ move (relaxed m d a b c)
    unfolding relaxed
    move_relaxed c =
        ext_entry m _ _ (length_matrix m _) (move_size (relaxed m d a b c)) (λ i j hi hj.
        entry_relaxed m (move d) a b (plus c (later a b)) i j hi hj
        ∙ rw (
          move_entry d i j hi hj,
          move_entry d i a hi ha,
          move_entry d b j hb hj,
          sum_later (entry m d i a) c (p i -ℤ p a) (p a -ℤ p b) (p i -ℤ p b) (way i a b),
          sum_later (plus (entry m d i a) c) (entry m d b j) (p i -ℤ p b) (p b -ℤ p j) (p i -ℤ p j) (way i b j),
        )
        (tighter_later (entry m d i j) (plus (plus (entry m d i a) c) (entry m d b j)) (p i -ℤ p j)
        ∙ ap (λ (u : Bound). plus u (later i j)) (sym (entry_relaxed m d a b c i j hi hj)))
        ∙ sym (move_entry (relaxed m d a b c) i j hi hj))

    move_around : (c : Bound) → plus (entry m (move d) b a) (plus c (later a b)) ≡ plus (entry m d b a) c
    move_around c =
        ap (λ (u : Bound). plus u (plus c (later a b))) (move_entry d b a hb ha)
        ∙ sum_later (entry m d b a) c (p b -ℤ p a) (p a -ℤ p b) (pos 0) (way b a b ∙ no_way b) ∙ plus_nothing (plus (entry m d b a) c)

    move_within : (limit : Bound) → within m (move d) a b (plus limit (later a b)) ≡ Option.map move (within m d a b limit)
    unfolding within plus
    move_within B.Bound.none = refl
    move_within (upto s c) = by_test (move_around (upto s c)) (move_relaxed (upto s c))
      where
        by_test : {around : Bound} {e : Matrix} → around ≡ plus (entry m d b a) (upto s c) → e ≡ move (relaxed m d a b (upto s c))
            → cond (negative around) none (some e)
            ≡ Option.map move (cond (negative (plus (entry m d b a) (upto s c))) none (some (relaxed m d a b (upto s c))))
        by_test same is = rw (same, is) (elim (negative (plus (entry m d b a) (upto s c)))
            as (λ t. cond t none (some (move (relaxed m d a b (upto s c)))) ≡ Option.map move (cond t none (some (relaxed m d a b (upto s c))))) [
              | true ↦ refl
              | false ↦ refl
            ])

  -- ---- all of them
  pub move_all : {ks : List Constraint} (o : Option Matrix) → Every (Fits m) ks
      → foldl (constrain m) (Option.map move o) (map move_one ks) ≡ Option.map move (foldl (constrain m) o ks)
  unfolding constrain
  move_all o done = refl
  move_all none (both {x = k} f fs) = move_all none fs
  move_all (some d) (both {x = k} {xs = ks} f fs) =
      ap (λ (o : Option Matrix). foldl (constrain m) o (map move_one ks)) (move_within d k.row k.col f.row_fits f.col_fits k.limit)
      ∙ move_all (within m d k.row k.col k.limit) fs

  move_everything : move (everything m) ≡ everything m
  unfolding everything diagonal plus
  move_everything = ext_entry m _ _ (move_size (everything m)) (length_matrix m diagonal) (λ i j hi hj.
      move_entry (everything m) i j hi hj ∙ rw (entry_matrix m i j diagonal hi hj) (go i j (eqb i j) refl))
    where
      go : (i j : ℕ) (t : Bool) → eqb i j ≡ t → plus (cond t (most (pos 0)) B.Bound.none) (later i j) ≡ cond t (most (pos 0)) B.Bound.none
      go i j true e = rw (eqb→eq i j (rw e tt), no_way j)
      go i j false e = refl

  pub move_tighten : {ks : List Constraint} → Every (Fits m) ks → tighten m (map move_one ks) ≡ Option.map move (tighten m ks)
  unfolding tighten
  move_tighten {ks} f = ap (λ (d : Matrix). foldl (constrain m) (some d) (map move_one ks)) (sym move_everything) ∙ move_all (some (everything m)) f

  -- ---- lists
  abbrev Sized : Matrix → Type 0
  Sized d = length d ≡ m * m

  -- what is moved is the same where it was
  unmoved : (d e : Matrix) → Sized d → Sized e → move d ≡ move e → d ≡ e
  unmoved d e sd se same = ext_entry m d e sd se (λ i j hi hj.
      let u = p i -ℤ p j in
      let is = sym (move_entry d i j hi hj) ∙ ap (λ (z : Matrix). entry m z i j) same ∙ move_entry e i j hi hj in
      sym (back (entry m d i j) u) ∙ ap (λ (b : Bound). plus b (most (neg_ℤ u))) is ∙ back (entry m e i j) u)

  same_moved : (d e : Matrix) → Sized d → Sized e → same_matrix (move d) (move e) ≡ same_matrix d e
  same_moved d e sd se = go (same_matrix d e) (same_matrix (move d) (move e)) refl refl
    where
      go : (s t : Bool) → same_matrix d e ≡ s → same_matrix (move d) (move e) ≡ t → t ≡ s
      go true true g h = refl
      go false false g h = refl
      go true false g h = let z : same_matrix (move d) (move e) ≡ true = rw (same_matrix_true d e g) (same_matrix_refl (move e)) in impossible cc
      go false true g h = let z : same_matrix d e ≡ true = rw (unmoved d e sd se (same_matrix_true _ _ h)) (same_matrix_refl e) in impossible cc

  any_moved : (z : Matrix) → Sized z → {kept : List Matrix} → Every Sized kept → any_of (same_matrix (move z)) (map move kept) ≡ any_of (same_matrix z) kept
  unfolding any_of
  any_moved z s done = refl
  any_moved z s (both {x = y} h hs) = rw (same_moved z y s h, any_moved z s hs)

  -- there is no set, or it has the right size
  abbrev pub SizedIf : Option Matrix → Type 0
  SizedIf o = (z : Matrix) → o ≡ some z → Sized z

  keep_moved : {kept : List Matrix} (o : Option Matrix) → Every Sized kept → SizedIf o → keep (map move kept) (Option.map move o) ≡ map move (keep kept o)
  unfolding keep
  keep_moved none hs h = refl
  keep_moved {kept} (some z) hs h = rw (any_moved z (h z refl) hs) (go (any_of (same_matrix z) kept))
    where
      go : (t : Bool) → cond t (map move kept) (map move kept ++ (move z ∷ [])) ≡ map move (cond t kept (kept ++ (z ∷ [])))
      go true = refl
      go false = sym (map-append move kept (z ∷ []))

  pub kept_moved : (kept : List Matrix) {os : List (Option Matrix)} → Every Sized kept → Every SizedIf os
      → foldl keep (map move kept) (map (Option.map move) os) ≡ map move (foldl keep kept os)
  kept_moved kept hs done = refl
  kept_moved kept hs (both {x = o} {xs = os} h rest) =
      ap (λ (zs : List Matrix). foldl keep zs (map (Option.map move) os)) (keep_moved o hs h)
      ∙ kept_moved (keep kept o) (kept_every hs (both h done)) rest
