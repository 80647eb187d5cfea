-- What stays where nothing before row i has changed, and what changes nothing before it.
use Prim.Native.Nat.{ℕ, ◌+◌, ◌*◌, ◌-◌, ◌≤◌, ◌<◌}
use native.Mathlib.Omega.{arith}
use native.Mathlib.Nat.{mul-le-mul_right, suc-mul}
use mathlib.Core.Path.{◌≡◌, refl, sym, ap, ◌∙◌}
use mathlib.Core.Bool.{Bool, true, false, cond}
use mathlib.Core.List.{List}
use lib.IntN.{ℤ}
use lib.Dec.{ltb}
use lib.ListN.{take, drop, get_or, set, length-set}
use lib.Seq.{take-take, take-set-le, get_or-take}
use Rattle.model.specs.Sizes.{zone_size}
use Rattle.memory.specs.Numbers.{bounds_in}
use Rattle.lists.specs.Lists.{sets_met, places_met, zone_at}
use Rattle.lists.specs.Met.{free_at, Counts, Tables, noted_in}
use Rattle.memory.specs.Side.{Elsewhere}
use Rattle.lists.specs.Inner.{parent_in, Underway, RowsFrom}
use Rattle.memory.proofs.Side.{part_of_lem}
use Rattle.lists.proofs.met.Seen.{free_below}

shorter : {X : Type 0} {m k : ℕ} (l l' : List X) → m ≤ k → take k l' ≡ take k l → take m l' ≡ take m l
shorter {m} {k} l l' h e = sym (take-take m k l' h) ∙ ap (take m) e ∙ take-take m k l h

module _ {n i : ℕ} where
  -- ---- nothing before row i has changed
  pub rows_same : {seen : List ℤ} {counts cols : List ℕ} → RowsFrom n i seen seen counts counts cols cols
  rows_same = record { sets_same = refl; counts_same = refl; cols_same = refl; cols_long = refl }

  pub rows_then : {seen seen' seen'' : List ℤ} {counts counts' counts'' cols cols' cols'' : List ℕ}
      → RowsFrom n i seen seen' counts counts' cols cols' → RowsFrom n i seen' seen'' counts' counts'' cols' cols''
      → RowsFrom n i seen seen'' counts counts'' cols cols''
  rows_then f g = record {
    sets_same = g.sets_same ∙ f.sets_same;
    counts_same = g.counts_same ∙ f.counts_same;
    cols_same = g.cols_same ∙ f.cols_same;
    cols_long = g.cols_long ∙ f.cols_long;
  }

  pub rows_fewer : {j : ℕ} {seen seen' : List ℤ} {counts counts' cols cols' : List ℕ} → i ≤ j
      → RowsFrom n j seen seen' counts counts' cols cols' → RowsFrom n i seen seen' counts counts' cols cols'
  rows_fewer {j} {seen} {seen'} {counts} {counts'} {cols} {cols'} h f = record {
    sets_same = shorter seen seen' (mul-le-mul_right (zone_size n) (mul-le-mul_right (places_met n) h)) f.sets_same;
    counts_same = shorter counts counts' h f.counts_same;
    cols_same = shorter cols cols' h f.cols_same;
    cols_long = f.cols_long;
  }

  -- a set is built at a place of row i or behind it
  pub rows_placed : {k : ℕ} {seen seen' : List ℤ} {counts cols : List ℕ} → i * places_met n ≤ k → Elsewhere (zone_size n) k seen seen'
      → RowsFrom n i seen seen' counts counts cols cols
  rows_placed {seen} {seen'} h e =
      record { sets_same = shorter seen seen' (mul-le-mul_right (zone_size n) h) e.front; counts_same = refl; cols_same = refl; cols_long = refl }

  -- row i has a column
  pub rows_picked : {seen : List ℤ} {counts : List ℕ} (cols : List ℕ) (s : ℕ) → RowsFrom n i seen seen counts counts cols (set cols i s)
  rows_picked cols s = record { sets_same = refl; counts_same = refl; cols_same = take-set-le i cols i s (omega arith); cols_long = length-set cols i s }

  -- a set is noted after it
  pub rows_noted : {seen : List ℤ} (counts : List ℕ) {cols : List ℕ} → RowsFrom n i seen seen counts (noted_in n counts i) cols cols
  unfolding noted_in
  rows_noted counts = record { sets_same = refl; counts_same = go (ltb (get_or counts i 0) (sets_met n)); cols_same = refl; cols_long = refl }
    where
      go : (b : Bool) → take i (cond b (set counts i (get_or counts i 0 + 1)) counts) ≡ take i counts
      go true = take-set-le i counts i (get_or counts i 0 + 1) (omega arith)
      go false = refl

  -- ---- what stands before it
  module _ {seen seen' : List ℤ} {counts counts' cols cols' : List ℕ} (f : RowsFrom n i seen seen' counts counts' cols cols') where
    pub count_same : (j : ℕ) → j < i → get_or counts' j 0 ≡ get_or counts j 0
    count_same j h = sym (get_or-take i counts' j 0 h) ∙ ap (λ (l : List ℕ). get_or l j 0) f.counts_same ∙ get_or-take i counts j 0 h

    pub set_same : (k : ℕ) → k < i * places_met n → zone_at (zone_size n) seen' k ≡ zone_at (zone_size n) seen k
    unfolding zone_at
    set_same k h =
        let size = zone_size n in
        let inside : k * size + size ≤ i * places_met n * size = omega (arith, mul-le-mul_right size h, suc-mul k size) in
        ap bounds_in
        (sym (part_of_lem (i * places_met n * size) (k * size) size seen' inside)
        ∙ ap (λ (l : List ℤ). take size (drop (k * size) l)) f.sets_same ∙ part_of_lem (i * places_met n * size) (k * size) size seen inside)

    -- the set at the free place of a row
    pub free_same : Counts n counts → (j : ℕ) → j < i → zone_at (zone_size n) seen' (free_at n counts' j) ≡ zone_at (zone_size n) seen (free_at n counts j)
    free_same few j h = rw (count_same j h) (set_same (free_at n counts j) (free_below few j i h))

    pub parent_same : Counts n counts → 1 ≤ i → parent_in n seen' counts' i ≡ parent_in n seen counts i
    parent_same few h = free_same few (i - 1) (omega arith)

    -- a selection under way is as it was
    pub still_underway : {times zone : List ℤ} → Underway n times zone seen counts cols i → Tables n seen' counts'
        → Underway n times zone seen' counts' cols' i
    still_underway u t = record {
      tables = t;
      cols_size = f.cols_long ∙ u.cols_size;
      row = u.row;
      selecting = rw (parent_same u.tables.counted u.selecting.before.from_one, f.cols_same) u.selecting;
    }
