-- The first numbers of a list, lent and given back; a zone of a list, loaded there.
use Prim.Native.Nat.{ℕ, ◌*◌, ◌≤◌, ◌<◌}
use native.Mathlib.Omega.{arith}
use native.Mathlib.Nat.{mul-le-mul_right, zero-mul, zero-add, suc-mul}
use mathlib.Core.Path.{◌≡◌, ap, ◌∙◌}
use mathlib.Core.List.{List, ◌++◌}
use lib.IntN.{ℤ}
use lib.ListN.{length, take, drop}
use lib.Seq.{length-take-le, length_front, take_at, drop_at}
use Rattle.model.proofs.Tabulated.{tabulate_ext}
use Rattle.memory.specs.Numbers.{bounds_in}
use Rattle.memory.specs.Side.{Elsewhere}
use Rattle.lists.specs.Lists.{zone_at, list_in}
use Rattle.memory.proofs.Side.{part_of_lem, else_trans}

module _ (size : ℕ) (list : List ℤ) (inside : size ≤ length list) where
  pub front_long : length (take size list) ≡ size
  front_long = length-take-le size list inside

  -- given back as out
  module _ (out : List ℤ) (same : length out ≡ length (take size list)) where
    pub front_room : size ≤ length (out ++ drop size list)
    front_room = rw (length_front list out size same) inside

    pub front_is : take size (out ++ drop size list) ≡ out
    front_is = take_at out (drop size list) size (same ∙ front_long)

    pub front_else : Elsewhere size 0 list (out ++ drop size list)
    front_else = record { front = rw zero-mul; back = rw (zero-mul, zero-add) (drop_at out (drop size list) size (same ∙ front_long)) }

    pub front_at : zone_at size (out ++ drop size list) 0 ≡ bounds_in out
    unfolding zone_at
    front_at = rw zero-mul (ap bounds_in front_is)

-- given back twice
pub front_twice : (size : ℕ) (list : List ℤ) → size ≤ length list → (all : List ℤ) → length all ≡ length (take size list)
    → (out : List ℤ) → length out ≡ length (take size (all ++ drop size list)) → Elsewhere size 0 list (out ++ drop size (all ++ drop size list))
front_twice size list inside all same out same' =
    else_trans (front_else size list inside all same) (front_else size (all ++ drop size list) (front_room size list inside all same) out same')

-- a part of so many numbers, copied to the front, and what becomes of it there
module _ {size : ℕ} {part copied : List ℤ} (after : copied ≡ part) (fits : length part ≡ size) (list : List ℤ) where
  pub copied_is : take size (copied ++ drop size list) ≡ part
  copied_is = rw after (take_at part (drop size list) size fits)

  module _ (out : List ℤ) (same : length out ≡ length (take size (copied ++ drop size list))) where
    pub out_long : length out ≡ size
    out_long = same ∙ ap (λ (l : List ℤ). length l) copied_is ∙ fits

    pub out_is : take size (out ++ drop size (copied ++ drop size list)) ≡ out
    out_is = take_at out _ size out_long

-- the numbers of a list hold its zones
pub list_front : (size count : ℕ) (numbers : List ℤ) → list_in size count (take (count * size) numbers) ≡ list_in size count numbers
unfolding list_in zone_at
list_front size count numbers = tabulate_ext count 0 _ _ (λ k l u.
    let h : k < count = omega arith in
    ap bounds_in (part_of_lem (count * size) (k * size) size numbers (omega (arith, mul-le-mul_right size h, suc-mul k size))))
