-- The sets met after each row, in memory; a set that is not among others.
use Prim.Native.Nat.{ℕ, suc, ◌+◌, ◌*◌, ◌-◌, ◌≤◌, ◌<◌}
use native.Mathlib.Omega.{arith}
use native.Mathlib.Nat.{mul-le-mul_right, suc-mul}
use mathlib.Core.Path.{◌≡◌, refl, sym, ap, ◌∙◌}
use mathlib.Core.Logic.{◌⊎◌, inl, inr}
use mathlib.Core.Bool.{Bool, true, false, not, cond}
use mathlib.Core.List.{List}
use mathlib.Core.Option.{Option, none, some}
use lib.IntN.{ℤ}
use lib.ListN.{length, get_or}
use Rattle.ints.proofs.Integers.{impossible}
use Rattle.model.specs.Sizes.{zone_size}
use Rattle.model.specs.Lists.{any_of}
use Rattle.model.specs.Matrix.{Matrix, same_matrix}
use Rattle.model.proofs.Tabulated.{tabulate_ext}
use Rattle.memory.proofs.Places.{in_rows}
use Rattle.memory.proofs.Fills.{same_row}
use Rattle.memory.specs.Matrices.{Left, gone, kept}
use Rattle.lists.specs.Lists.{places_met, zone_at}
use Rattle.lists.specs.Met.{free_at, met_in, Counts, Tables, unmet}
use Rattle.memory.specs.Side.{Elsewhere}
use Rattle.lists.specs.Inner.{PlacedAt}
use Rattle.lists.proofs.places.Zones.{other_same}

-- ---- a set that was not met
pub unmet_some : (zs : List Matrix) (o : Option Matrix) {z : Matrix} → unmet zs o ≡ some z → o ≡ some z
unfolding unmet
unmet_some zs none e = e
unmet_some zs (some y) {z} e = go (any_of (same_matrix y) zs) e
  where
    go : (t : Bool) → cond t none (some y) ≡ some z → some y ≡ some z
    go true e = cc
    go false e = e

pub unmet_none : (zs : List Matrix) (o : Option Matrix) → unmet zs o ≡ none → (o ≡ none) ⊎ ((z : Matrix) × (o ≡ some z) × (any_of (same_matrix z) zs ≡ true))
unfolding unmet
unmet_none zs none e = inl refl
unmet_none zs (some y) e = go (any_of (same_matrix y) zs) refl e
  where
    go : (t : Bool) → any_of (same_matrix y) zs ≡ t → cond t none (some y) ≡ none
        → (some y ≡ none) ⊎ ((z : Matrix) × (some y ≡ some z) × (any_of (same_matrix z) zs ≡ true))
    go true h e = inr (y, refl, h)
    go false h e = inl e

-- by the answer whether a set is left, and whether it is among zs
module _ (zs : List Matrix) where
  unmet_left : {o : Option Matrix} {b : Bool} {e : Matrix} → Left o b e → b ≡ true
      → (t : Bool) → t ≡ any_of (same_matrix e) zs → Left (unmet zs o) (not t) e
  unfolding unmet
  unmet_left gone f t m = impossible cc
  unmet_left (kept {d} {e} h) f t m = go t (ap (λ (y : Matrix). any_of (same_matrix y) zs) (sym h) ∙ sym m)
    where
      go : (t : Bool) → any_of (same_matrix d) zs ≡ t → Left (unmet zs (some d)) (not t) e
      go true m = rw (m, unmet) gone
      go false m = rw (m, unmet) (kept h)

  unmet_gone : {o : Option Matrix} {b : Bool} {e : Matrix} → Left o b e → b ≡ false → Left (unmet zs o) false e
  unfolding unmet
  unmet_gone gone f = gone
  unmet_gone (kept h) f = impossible cc

  module _ {size k : ℕ} {o : Option Matrix} {before : List ℤ} {r : Bool} {after : List ℤ} (p : PlacedAt size k o before r after) where
    pub placed_none : r ≡ false → PlacedAt size k (unmet zs o) before r after
    placed_none e = record { elsewhere = p.elsewhere; left = rw e (unmet_gone p.left e) }

    pub placed_some : r ≡ true → (t : Bool) → t ≡ any_of (same_matrix (zone_at size after k)) zs → PlacedAt size k (unmet zs o) before (not t) after
    unfolding zone_at
    placed_some e t m = record { elsewhere = p.elsewhere; left = unmet_left p.left e t m }

-- ---- the table has a place for each
-- that of row i lies before those of the rows below
pub free_below : {n : ℕ} {counts : List ℕ} → Counts n counts → (i k : ℕ) → i < k → free_at n counts i < k * places_met n
free_below {n} {counts} w i k h = in_rows (places_met n) i (get_or counts i 0) k h (omega (arith, w.few i))

module _ {n : ℕ} {seen : List ℤ} {counts : List ℕ} (t : Tables n seen counts) where
  pub free_fits : {i : ℕ} → i ≤ n → free_at n counts i * zone_size n + zone_size n ≤ length seen
  free_fits {i} row =
      let l : free_at n counts i < suc n * places_met n = free_below t.counted i (suc n) (omega arith) in
      omega (arith, mul-le-mul_right (zone_size n) l, suc-mul (free_at n counts i) (zone_size n), t.seen_size)

  -- that of the row before lies before it
  pub free_later : {i : ℕ} → 1 ≤ i → free_at n counts (i - 1) < free_at n counts i
  free_later {i} h = omega (arith, free_below t.counted (i - 1) i (omega arith))

  -- it is none of the places of sets noted
  pub free_other : (i j c : ℕ) → c < get_or counts j 0 → j * places_met n + c ≡ free_at n counts i → ⊥
  free_other i j c h e =
      let few = t.counted.few in
      let same = same_row (places_met n) i (get_or counts i 0) j c (omega (arith, few i)) (omega (arith, few j)) e in
      omega (arith, rw same at h, rw same at e)

  pub met_same : (i : ℕ) {seen' : List ℤ} → Elsewhere (zone_size n) (free_at n counts i) seen seen' → met_in n seen' counts i ≡ met_in n seen counts i
  met_same i e = tabulate_ext (get_or counts i 0) (i * places_met n) _ _ (λ k l u. other_same e k (λ is. omega arith))
