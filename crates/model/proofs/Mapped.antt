-- A map of bounds that keeps their order, sums, and what is not negative, as `scale` and `weak` do: what it makes of a closed
-- matrix is closed, and it goes through one constraint and a list of them.
use Prim.Native.Nat.{ℕ, ◌+◌, ◌*◌}
use lib.Dec.{eqb}
use mathlib.Core.Path.{◌≡◌, refl, ap, sym, ◌∙◌}
use mathlib.Core.Bool.{Bool, true, false, cond}
use mathlib.Core.List.{List, [], ◌∷◌, map, foldl}
use mathlib.Core.Option
use mathlib.Core.Option.{Option, none, some}
use lib.IntN.{ℤ, pos}
use lib.ListN.{get_or, length-map, get_or-map}
use Rattle.ints.proofs.Integers.{impossible}
use Rattle.model.specs.Bound as B
use Rattle.model.specs.Bound.{Bound, upto, most, LeB, plus, tighter, negative}
use Rattle.model.specs.Matrix.{Matrix, entry, relaxed, within, Constraint, constrain, everything, diagonal}
use Rattle.model.specs.Conditions.{Closed}
use Rattle.model.proofs.Bounds.{tighter_left, tighter_right, tighter_either, tighter_is, negative_false, negative_true, not_negative, is_negative}
use Rattle.model.proofs.Entries.{entry_matrix, length_matrix, ext_entry}
use Rattle.model.proofs.Closed.{Within, free, kept}
use Rattle.model.proofs.Members.{entry_relaxed}

-- a finite bound
pub record Finite (b : Bound) : Type 0 where
  pub mark : Bool
  pub limit : ℤ
  pub is : b ≡ upto mark limit

pub record Map (h : Bound → Bound) : Type 0 where
  pub keeps_none : h B.Bound.none ≡ B.Bound.none
  pub keeps_finite : (s : Bool) (b : ℤ) → Finite (h (upto s b))
  pub keeps_zero : h (most (pos 0)) ≡ most (pos 0)
  pub keeps_sum : (b c : Bound) → h (plus b c) ≡ plus (h b) (h c)
  pub keeps_order : {b c : Bound} → LeB b c → LeB (h b) (h c)

-- `within` at a finite bound
within_finite : (m : ℕ) (d : Matrix) (a b : ℕ) {c : Bound} → Finite c
    → within m d a b c ≡ cond (negative (plus (entry m d b a) c)) none (some (relaxed m d a b c))
unfolding within
within_finite m d a b fin = rw fin.is

-- a constraint with its limit mapped
abbrev pub through : (Bound → Bound) → Constraint → Constraint
through h k = record { row = k.row; col = k.col; limit = h k.limit }

module _ {h : Bound → Bound} (f : Map h) where
  pub keeps_tighter : (b c : Bound) → h (tighter b c) ≡ tighter (h b) (h c)
  keeps_tighter b c = sym (tighter_is (f.keeps_order (tighter_left b c)) (f.keeps_order (tighter_right b c))
      (tighter_either (λ u. LeB (tighter (h b) (h c)) (h u)) b c (tighter_left _ _) (tighter_right _ _)))

  -- what is not negative stays so
  pub keeps_room : {b : Bound} → LeB (most (pos 0)) b → LeB (most (pos 0)) (h b)
  keeps_room l = rw f.keeps_zero at (f.keeps_order l)

  pub entry_map : (m : ℕ) (d : Matrix) (i j : ℕ) → entry m (map h d) i j ≡ h (entry m d i j)
  unfolding entry
  entry_map m d i j = ap (get_or (map h d) (i * m + j)) (sym f.keeps_none) ∙ get_or-map h d (i * m + j) B.Bound.none

  pub map_closed : {m : ℕ} {d : Matrix} → Closed m d → Closed m (map h d)
  map_closed {m} {d} cl = record {
    size = length-map d h ∙ cl.size;
    diag = λ i l. entry_map m d i i ∙ ap h (cl.diag i l) ∙ f.keeps_zero;
    triangle = λ i j k hi hj hk.
        rw (entry_map m d i j, entry_map m d i k, entry_map m d k j, ← f.keeps_sum (entry m d i k) (entry m d k j))
        (f.keeps_order (cl.triangle i j k hi hj hk));
  }

  pub map_relaxed : (m : ℕ) (d : Matrix) (a b : ℕ) (c : Bound) → map h (relaxed m d a b c) ≡ relaxed m (map h d) a b (h c)
  unfolding relaxed
  map_relaxed m d a b c =
      ext_entry m _ _ (length-map (relaxed m d a b c) h ∙ length_matrix m _) (length_matrix m _) (λ i j hi hj.
      entry_map m (relaxed m d a b c) i j ∙ ap h (entry_relaxed m d a b c i j hi hj)
      ∙ keeps_tighter _ _ ∙ ap (tighter (h (entry m d i j))) (f.keeps_sum _ _ ∙ ap (λ (u : Bound). plus u (h (entry m d b j))) (f.keeps_sum _ _))
      ∙ rw (← entry_map m d i j, ← entry_map m d i a, ← entry_map m d b j) (sym (entry_relaxed m (map h d) a b (h c) i j hi hj)))

  pub map_within : {m : ℕ} {d : Matrix} {a b : ℕ} {limit : Bound} {d' : Matrix} → Within m d a b limit (some d')
      → Within m (map h d) a b (h limit) (some (map h d'))
  map_within free = rw f.keeps_none free
  map_within {m} {d} {a} {b} (kept {c} ok) =
      rw (map_relaxed m d a b c) (kept {c = h c} (rw (entry_map m d b a, ← f.keeps_sum (entry m d b a) c) (keeps_room ok)))

  -- a constraint that leaves a matrix, mapped
  within_some : (m : ℕ) (d : Matrix) (a b : ℕ) (limit : Bound) {d' : Matrix} → within m d a b limit ≡ some d'
      → within m (map h d) a b (h limit) ≡ some (map h d')
  unfolding within
  within_some m d a b B.Bound.none = λ e. rw f.keeps_none (ap (Option.map (map h)) e)
  within_some m d a b (upto s c) {d'} = go (negative (plus (entry m d b a) (upto s c))) refl
    where
      go : (t : Bool) → negative (plus (entry m d b a) (upto s c)) ≡ t → cond t none (some (relaxed m d a b (upto s c))) ≡ some d'
          → within m (map h d) a b (h (upto s c)) ≡ some (map h d')
      go true q e = impossible cc
      go false q e =
          within_finite m (map h d) a b (f.keeps_finite s c)
          ∙ rw (entry_map m d b a, ← f.keeps_sum (entry m d b a) (upto s c), not_negative (keeps_room (negative_false _ q)), ← map_relaxed m d a b (upto s c))
          (ap (Option.map (map h)) e)

-- a constraint cannot bring back a zone
pub none_left : (m : ℕ) (ks : List Constraint) → foldl (constrain m) none ks ≡ none
unfolding constrain
none_left m [] = refl
none_left m (k ∷ ks) = none_left m ks

-- what is mapped is what the mapped constraints leave, where they leave any
pub map_some : {h : Bound → Bound} → Map h → (m : ℕ) (ks : List Constraint) (o : Option Matrix) {d : Matrix} → foldl (constrain m) o ks ≡ some d
    → foldl (constrain m) (Option.map (map h) o) (map (through h) ks) ≡ some (map h d)
unfolding constrain
map_some {h} f m [] o e = ap (Option.map (map h)) e
map_some {h} f m (k ∷ ks) none e = let q = none_left m ks in impossible cc
map_some {h} f m (k ∷ ks) (some z) {d} e = go (within m z k.row k.col k.limit) refl e (λ y. map_some f m ks (some y))
  where
    go : (o : Option Matrix) → within m z k.row k.col k.limit ≡ o → foldl (constrain m) o ks ≡ some d
        → ((y : Matrix) → foldl (constrain m) (some y) ks ≡ some d → foldl (constrain m) (some (map h y)) (map (through h) ks) ≡ some (map h d))
        → foldl (constrain m) (within m (map h z) k.row k.col (h k.limit)) (map (through h) ks) ≡ some (map h d)
    go none w e rest = let q = none_left m ks in impossible cc
    go (some y) w e rest = rw (within_some f m z k.row k.col k.limit w) (rest y e)

-- and in all cases where what is negative stays so
module _ {h : Bound → Bound} (f : Map h) (back : (b : Bound) → LeB (most (pos 0)) (h b) → LeB (most (pos 0)) b) where
  keeps_negative : (b : Bound) → negative (h b) ≡ negative b
  keeps_negative b = go (negative b) refl
    where
      go : (t : Bool) → negative b ≡ t → negative (h b) ≡ t
      go false e = not_negative (keeps_room f (negative_false b e))
      go true e = is_negative (λ l. negative_true b e (back b l))

  within_map : (m : ℕ) (d : Matrix) (a b : ℕ) (limit : Bound) → within m (map h d) a b (h limit) ≡ Option.map (map h) (within m d a b limit)
  unfolding within
  within_map m d a b B.Bound.none = rw f.keeps_none
  within_map m d a b (upto s c) =
      let found = relaxed m d a b (upto s c) in
      let around = plus (entry m d b a) (upto s c) in
      within_finite m (map h d) a b (f.keeps_finite s c)
      ∙ rw (entry_map f m d b a, ← f.keeps_sum (entry m d b a) (upto s c), keeps_negative around, ← map_relaxed f m d a b (upto s c))
      (elim (negative around) as (λ t. cond t none (some (map h found)) ≡ Option.map (map h) (cond t none (some found))) [
        | true ↦ refl
        | false ↦ refl
      ])

  pub map_all : (m : ℕ) (ks : List Constraint) (o : Option Matrix)
      → foldl (constrain m) (Option.map (map h) o) (map (through h) ks) ≡ Option.map (map h) (foldl (constrain m) o ks)
  unfolding constrain
  map_all m [] o = refl
  map_all m (k ∷ ks) none = map_all m ks none
  map_all m (k ∷ ks) (some z) =
      ap (λ (o : Option Matrix). foldl (constrain m) o (map (through h) ks)) (within_map m z k.row k.col k.limit)
      ∙ map_all m ks (within m z k.row k.col k.limit)

-- all times are mapped to all times
pub map_everything : {h : Bound → Bound} → Map h → (m : ℕ) → map h (everything m) ≡ everything m
unfolding everything diagonal
map_everything {h} f m =
    ext_entry m _ _ (length-map (everything m) h ∙ length_matrix m diagonal) (length_matrix m diagonal) (λ i j hi hj.
    entry_map f m (everything m) i j ∙ ap h (entry_matrix m i j diagonal hi hj) ∙ go (eqb i j) ∙ sym (entry_matrix m i j diagonal hi hj))
  where
    go : (t : Bool) → h (cond t (most (pos 0)) B.Bound.none) ≡ cond t (most (pos 0)) B.Bound.none
    go true = f.keeps_zero
    go false = f.keeps_none
