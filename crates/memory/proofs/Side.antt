-- Sets side by side: a part lent and given back, a set copied, and what stays.
use Prim.Native.Nat.{ℕ, zero, suc, ◌+◌, ◌*◌, ◌-◌, ◌≤◌, ◌<◌}
use native.Mathlib.Omega.{arith}
use native.Mathlib.Numerals.{add-one}
use mathlib.Core.Path.{◌≡◌, refl, sym, ap, ◌∙◌}
use mathlib.Core.List.{List, [], ◌∷◌, ◌++◌, append_assoc}
use lib.IntN.{ℤ, pos}
use lib.ListN.{length, take, drop, get_or, set, length-take, length-drop, length-set, get_or-append}
use lib.Seq.{get_or-take, drop-drop, take_all, take-take, take_at, drop_at, length-take-le}
use lib.Seq.{paste, paste-zero, paste-suc, drop-paste, length_paste_head}
use borrow.Rule.Slice.PartMut.{put_mid, take_put, drop_put}
use mir.Syntax.{Width}
use mir.Val.{SFits, to_z, of_z}
use mir.ValLaws.{to_z-of_z}
use Rattle.memory.specs.Side.{numbers_at, Elsewhere}

pub length_numbers : (size : ℕ) (list : List ℤ) (k : ℕ) → k * size + size ≤ length list → length (numbers_at size list k) ≡ size
length_numbers size list k inside = rw (length-take size (drop (k * size) list), length-drop (k * size) list) (omega arith)

-- a part lies within the first numbers
pub part_of_lem : {X : Type 0} (t j s : ℕ) (l : List X) → j + s ≤ t → take s (drop j (take t l)) ≡ take s (drop j l)
part_of_lem t zero s l h = take-take s t l (omega arith)
part_of_lem zero (suc j) s l h = absurd (omega arith)
part_of_lem (suc t) (suc j) s [] h = refl
part_of_lem (suc t) (suc j) s (x ∷ l) h = part_of_lem t j s l (omega arith)

-- ---- where only the numbers of place k differ
module _ {size k : ℕ} {before after : List ℤ} (e : Elsewhere size k before after) where
  pub beyond_same : (m : ℕ) → k * size + size ≤ m → drop m after ≡ drop m before
  beyond_same m h =
      let r = m - (k * size + size) in
      let is : k * size + size + r ≡ m = omega arith in
      rw is at (sym (drop-drop r (k * size + size) after) ∙ ap (drop r) e.back ∙ drop-drop r (k * size + size) before)

pub else_refl : {size k : ℕ} {list : List ℤ} → Elsewhere size k list list
else_refl = record { front = refl; back = refl }

pub else_trans : {size k : ℕ} {before between after : List ℤ} → Elsewhere size k before between → Elsewhere size k between after → Elsewhere size k before after
else_trans e f = record { front = f.front ∙ e.front; back = f.back ∙ e.back }

-- ---- the part at place k, lent and given back
pub lent_at : (size k : ℕ) (list : List ℤ) → take (k * size + size - k * size) (drop (k * size) list) ≡ numbers_at size list k
lent_at size k list = let e : k * size + size - k * size ≡ size = omega arith in rw e

module _ (size k : ℕ) (list out : List ℤ) (inside : k * size + size ≤ length list) (fits : length out ≡ size) where
  abbrev given_back : List ℤ
  given_back = put_mid (k * size) (k * size + size - k * size) list out

  pub back_else : Elsewhere size k list given_back
  back_else = record {
    front = take_put (k * size) (k * size + size - k * size) list out (omega arith);
    back = drop_put (k * size) (k * size + size) list out (omega arith) inside (omega arith);
  }

  pub back_at : numbers_at size given_back k ≡ out
  back_at =
      ap (take size) (drop_at (take (k * size) list) _ (k * size) (length-take-le (k * size) list (omega arith))) ∙ take_at out _ size fits

-- ---- the first p numbers of a zone are copied, to base on
pub record Copying (list₀ : List ℤ) (base : ℕ) (zone list : List ℤ) (p : ℕ) : Type 0 where
  pub is : list ≡ paste list₀ base zone p
  pub long : length list ≡ length list₀

pub copying_start : (list : List ℤ) (base : ℕ) (zone : List ℤ) → Copying list base zone list 0
copying_start list base zone = record { is = paste-zero list base zone; long = refl }

module _ {list₀ : List ℤ} {base : ℕ} {zone list : List ℤ} {p : ℕ} (c : Copying list₀ base zone list p) where
  -- one number more
  pub copying_more : {w : Width} (x : ℤ) → SFits w x → x ≡ get_or zone p (pos 0) → base + p < length list₀ → p < length zone
      → Copying list₀ base zone (set list (base + p) (to_z w (of_z w x))) (p + 1)
  copying_more {w} x f e inside in-zone = record {
    is = rw (to_z-of_z w x f, e, c.is, add-one p) (paste-suc list₀ base zone p (pos 0) inside in-zone);
    long = length-set list (base + p) _ ∙ c.long;
  }

  -- those before base are as they were
  pub copying_before : (j : ℕ) → j < base → base ≤ length list₀ → p ≤ length zone → get_or list j (pos 0) ≡ get_or list₀ j (pos 0)
  copying_before j h inside in-zone =
      let head = length_paste_head list₀ base zone p inside in-zone in
      ap (λ (l : List ℤ). get_or l j (pos 0)) c.is
      ∙ get_or-append (take base list₀ ++ take p zone) (drop (base + p) list₀) (pos 0) j (rw head (omega arith))
      ∙ get_or-append (take base list₀) (take p zone) (pos 0) j (rw (length-take-le base list₀ inside) h)
      ∙ get_or-take base list₀ j (pos 0) h

-- ---- a store at place k
module _ (size k : ℕ) (list zone : List ℤ) (fits : length zone ≡ size) (inside : k * size + size ≤ length list) where
  abbrev stored : List ℤ
  stored = paste list (k * size) zone size

  at_place : length (take (k * size) list) ≡ k * size
  at_place = length-take-le (k * size) list (omega arith)

  parts : stored ≡ take (k * size) list ++ (take size zone ++ drop (k * size + size) list)
  parts = append_assoc (take (k * size) list) (take size zone) (drop (k * size + size) list)

  pub stored_else : Elsewhere size k list stored
  stored_else = record {
    front = rw parts (take_at (take (k * size) list) _ (k * size) at_place);
    back = drop-paste list (k * size) zone size (omega arith) (omega arith);
  }

  pub stored_numbers : numbers_at size stored k ≡ zone
  stored_numbers =
      let whole : take size zone ≡ zone = take_all size zone (omega arith) in
      ap (λ (l : List ℤ). take size (drop (k * size) l)) parts ∙ ap (take size) (drop_at (take (k * size) list) _ (k * size) at_place)
      ∙ take_at (take size zone) _ size (rw whole fits) ∙ whole
