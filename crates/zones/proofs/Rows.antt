-- Rows of numbers: those of a zone, and one that is copied.
use Prim.Native.Nat.{ℕ, zero, suc, ◌+◌, ◌-◌, ◌*◌, ◌≤◌, ◌<◌}
use native.Mathlib.Omega.{arith}
use native.Mathlib.Nat.{mul-le-mul_right}
use mathlib.Core.Path.{◌≡◌, refl, sym, ap, ◌∙◌}
use mathlib.Core.List.{List, [], ◌∷◌, ◌++◌}
use lib.IntN.{ℤ, pos}
use lib.ListN.{length, take, drop, replicate, get_or, set, get_or-append, get_or-replicate, length-take, length-drop, length-append, length-replicate}
use lib.Seq.{length-take-le}
use borrow.Rule.Slice.PartMut.{put_mid, post_of, same_len_mid}
use Rattle.std.proofs.lemmas.List.{get_or-take, get_or-drop, get_or-append_right, set-append_left, set-append_right, take-append-drop}
use mir.Syntax.{w32}
use mir.Val.{SFits, to_z, of_z}
use mir.ValLaws.{to_z-of_z}
use Rattle.model.specs.Bound as B
use Rattle.model.specs.Bound.{Bound, same_z}
use Rattle.model.specs.Matrix.{Matrix, entry}
use Rattle.memory.specs.Numbers.{none_in, bound_in, bounds_in, bounds_mapped}
use Rattle.memory.specs.Conditions.{ZoneIn}
use Rattle.zones.specs.Inner.{room_of_row, RowIn}
use Rattle.memory.specs.Matrices.{RowFilled}
use Rattle.memory.proofs.Places.{get_d_bounds, put_of}

-- the number of a zone at (i, j)
pub entry_number : (m : ℕ) (z : List ℤ) (i j k : ℕ) → k ≡ i * m + j → k < length z → entry m (bounds_in z) i j ≡ bound_in (get_or z k (pos 0))
unfolding entry
entry_number m z i j k e h = rw (← e) (get_d_bounds z k h)

-- a row that is copied, with blanks beyond it
abbrev pub blanks : List ℤ
blanks = replicate room_of_row (pos none_in)

module _ {n b base : ℕ} (zone : List ℤ) (z : ZoneIn n zone) (hb : b < suc n) (here : base ≡ b * suc n) where
  room : base + suc n ≤ length zone
  room = omega (arith, z.size, mul-le-mul_right {m = b} {n = n} (suc n) (omega arith))

  abbrev numbers : List ℤ
  numbers = take (suc n) (drop base zone)

  long : length numbers ≡ suc n
  long = simp (length-take, length-drop) (omega (arith, room))

  pub row_copied : RowIn n (bounds_in zone) b (numbers ++ drop (suc n) blanks)
  unfolding bound_in same_z
  row_copied = record {
    size = simp (length-append, long, length-drop, length-replicate) (omega (arith, z.few));
    is = λ j h.
        rw (
          get_or-append numbers (drop (suc n) blanks) (pos 0) j (omega (arith, long)),
          get_or-take (suc n) (drop base zone) j (pos 0) h,
          get_or-drop base zone j (pos 0),
        )
        (sym (entry_number (suc n) zone b j (base + j) (omega (arith, here)) (omega (arith, room))));
    blank = λ j h g.
        rw (
          get_or-append_right numbers (drop (suc n) blanks) (suc n) j (pos 0) long h,
          get_or-drop (suc n) blanks (j - suc n) (pos 0),
          get_or-replicate room_of_row (suc n + (j - suc n)) (pos none_in) (pos 0) (omega arith),
        );
  }

-- a row that is filled with what is the same
pub row_same : {n : ℕ} {d₀ d : Matrix} {f g : ℕ → Bound} {i j : ℕ} → RowFilled n d₀ d f i j → ((l : ℕ) → l < suc n → f l ≡ g l) → RowFilled n d₀ d g i j
row_same p e = record { done = λ l h k. p.done l h k ∙ e l h; left = p.left; others = p.others }

-- past the row all places are one
pub row_past : {n : ℕ} {d₀ d : Matrix} {f : ℕ → Bound} {i j : ℕ} (k : ℕ) → RowFilled n d₀ d f i j → suc n ≤ j → suc n ≤ k → RowFilled n d₀ d f i k
row_past k p h g = record { done = λ l q r. p.done l q (omega arith); left = λ l q r. absurd (omega arith); others = p.others }

-- what is stored
pub number_put : (z : List ℤ) (k : ℕ) (x : ℤ) (b : Bound) → SFits w32 x → bound_in x ≡ b → bounds_in (set z k (to_z w32 (of_z w32 x))) ≡ set (bounds_in z) k b
number_put z k x b f e = rw (to_z-of_z w32 x f) (put_of bounds_mapped z k x e)

-- a bound that is put where it stands
set_back : (d : List Bound) (k : ℕ) → set d k (get_or d k B.Bound.none) ≡ d
set_back [] k = refl
set_back (x ∷ d) zero = refl
set_back (x ∷ d) (suc k) = ap (◌∷◌ x) (set_back d k)

pub same_put : (z : List ℤ) (k : ℕ) (x : ℤ) → k < length z → SFits w32 x → bound_in x ≡ bound_in (get_or z k (pos 0))
    → bounds_in (set z k (to_z w32 (of_z w32 x))) ≡ bounds_in z
same_put z k x h f e = number_put z k x _ f (e ∙ sym (get_d_bounds z k h)) ∙ set_back (bounds_in z) k

-- ---- the numbers of a zone from base on that are lent: those that stand there now, in the zone
module _ (base k : ℕ) (zone row : List ℤ) (room : base + k ≤ length zone) (long : length row ≡ k) where
  front : length (take base zone) ≡ base
  front = length-take-le base zone (omega arith)

  pub part_length : length (put_mid base k zone row) ≡ length zone
  part_length = same_len_mid base k zone row (long ∙ sym (simp (length-take, length-drop) (omega arith)))

  pub part_at : (j : ℕ) → j < k → get_or (put_mid base k zone row) (base + j) (pos 0) ≡ get_or row j (pos 0)
  part_at j h =
      let at : base + j - base ≡ j = omega arith in
      get_or-append_right (take base zone) _ base (base + j) (pos 0) front (omega arith)
      ∙ rw at (get_or-append row (post_of base k zone) (pos 0) j (omega (arith, long)))

  pub part_set : (j : ℕ) (x : ℤ) → j < k → set (put_mid base k zone row) (base + j) x ≡ put_mid base k zone (set row j x)
  part_set j x h =
      let at : base + j - base ≡ j = omega arith in
      set-append_right (take base zone) _ base (base + j) x front (omega arith)
      ∙ rw at (ap (λ l. take base zone ++ l) (set-append_left row (post_of base k zone) j x (omega (arith, long))))

pub part_long : (base k : ℕ) (zone : List ℤ) → base + k ≤ length zone → length (take k (drop base zone)) ≡ k
part_long base k zone room = simp (length-take, length-drop) (omega arith)

pub part_same : (base k : ℕ) (zone : List ℤ) → put_mid base k zone (take k (drop base zone)) ≡ zone
part_same base k zone = ap (λ l. take base zone ++ l) (take-append-drop k (drop base zone)) ∙ take-append-drop base zone
