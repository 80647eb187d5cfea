-- A set met before adds nothing: all that further rows make of it is in the list already.
use Prim.Native.Nat.{ℕ, suc, ◌+◌, ◌*◌, ◌-◌, ◌≤◌, ◌<◌}
use native.Mathlib.Omega.{arith}
use native.Mathlib.Decide.{ℕ_discrete}
use mathlib.Core.Path.{◌≡◌, refl, ap, ◌∙◌}
use mathlib.Core.Logic.{⊎_elim}
use mathlib.Core.Bool.{Bool, true, false, cond}
use mathlib.Core.List.{List, [], ◌∷◌, map, foldl}
use mathlib.Core.Option.{Option, none, some}
use lib.IntN.{ℤ}
use lib.Dec.{ltb}
use lib.ListN.{length, get_or, set, length-set}
use lib.Seq.{get_or-set_same, get_or-set_other}
use borrow.Author.Tests.{ltb-true}
use Rattle.model.specs.Sizes.{most_departures, zone_size}
use Rattle.model.specs.Lists.{any_of, Every, done, both, Some, here, there}
use Rattle.model.specs.Matrix.{Matrix, same_matrix}
use Rattle.model.specs.Network.{Time}
use Rattle.model.specs.Search.{keep}
use Rattle.model.specs.Conditions.{Before}
use Rattle.model.proofs.Listed.{every_map, every_tabulate, some_at, every_some}
use Rattle.model.proofs.Zones.{Is}
use Rattle.model.proofs.Same.{same_matrix_true}
use Rattle.model.proofs.Kept.{Put, empty, there_already, new, keep_is, kept_old, of_kept, any_of_true}
use Rattle.model.proofs.Selections.{selections_sound}
use Rattle.model.proofs.Images.{same_left}
use Rattle.memory.specs.Numbers.{bounds_in, times_in}
use Rattle.lists.specs.Lists.{sets_met, places_met, zone_at}
use Rattle.lists.specs.Selecting.{extensions}
use Rattle.lists.specs.Met.{free_at, met_in, Counts, unmet, noted_in, Old, Covered, Noted}
use Rattle.memory.specs.Side.{Elsewhere}
use Rattle.lists.proofs.places.Zones.{other_same}
use Rattle.lists.proofs.Extensions.{extensions_none}
use Rattle.lists.proofs.met.Seen.{unmet_none, free_other}

-- ---- what is in a list and put to it again
not_both : {X : Type 0} {P : X → Type 0} {xs : List X} → Every (λ x. P x → ⊥) xs → Some P xs → ⊥
not_both done p = elim p [ ]
not_both (both h hs) (here p) = h p
not_both (both h hs) (there q) = not_both hs q

put_same : {kept kept' : List Matrix} {o : Option Matrix} → Put kept o kept' → Old kept o → kept' ≡ kept
put_same empty h = refl
put_same (there_already q) h = refl
put_same (new {z} q) h = absurd (not_both q (h z refl))

put_again : {kept : List Matrix} {os : List (Option Matrix)} → Every (Old kept) os → foldl keep kept os ≡ kept
put_again done = refl
put_again {kept} (both {x = o} {xs = os} h hs) = ap (λ (zs : List Matrix). foldl keep zs os) (put_same (keep_is kept o) h) ∙ put_again hs

is_at : {o : Option Matrix} {z : Matrix} → o ≡ some z → Is (λ y. y ≡ z) o
is_at e = rw e refl

put_old : (kept : List Matrix) (os : List (Option Matrix)) → Every (Old (foldl keep kept os)) os
put_old kept [] = done
put_old kept (o ∷ os) = both (λ z e. of_kept kept {os = o ∷ os} (here (is_at e))) (put_old (keep kept o) os)

-- ---- what further rows make of a set
map_every_same : {X Y : Type 0} (f g : X → Y) {xs : List X} → Every (λ x. f x ≡ g x) xs → map f xs ≡ map g xs
map_every_same f g done = refl
map_every_same f g (both h hs) = rw (h, map_every_same f g hs)

module _ (n : ℕ) (a : List Time) (d : Matrix) {p : Matrix} {i : ℕ} where
  -- the columns in the rows before do not matter
  same_extensions : {cols cols' : List ℕ} → Before n a p cols i → Before n a p cols' i → (r : ℕ)
      → extensions n a d (some p) cols i r ≡ extensions n a d (some p) cols' i r
  unfolding extensions
  same_extensions b b' r = map_every_same _ _ (every_map (λ rest q. same_left n a d b b' q) (selections_sound n a r i))

  -- where all of it was put to the list, it is covered
  pub covered_new : (kept : List Matrix) {cols : List ℕ} → Before n a p cols i
      → Covered n a d (foldl keep kept (extensions n a d (some p) cols i (suc n - i))) i p
  covered_new kept {cols} b = record { cols = cols; before = b; listed = put_old kept (extensions n a d (some p) cols i (suc n - i)) }

  -- and put to it again it adds nothing
  covered_again : {kept : List Matrix} {cols : List ℕ} → Covered n a d kept i p → Before n a p cols i
      → foldl keep kept (extensions n a d (some p) cols i (suc n - i)) ≡ kept
  covered_again c b = rw (same_extensions b c.before (suc n - i)) (put_again c.listed)

-- ---- one set more is counted in row i
module _ {n : ℕ} {counts : List ℕ} (few : Counts n counts) {i : ℕ} (row : i ≤ most_departures) where
  abbrev count : ℕ
  count = get_or counts i 0

  abbrev counted : List ℕ
  counted = set counts i (count + 1)

  count_here : get_or counted i 0 ≡ count + 1
  count_here = get_or-set_same counts i (count + 1) 0 (omega (arith, few.size))

  counted_few : count < sets_met n → Counts n counted
  counted_few more = record {
    size = length-set counts i (count + 1) ∙ few.size;
    few = λ j. elim (ℕ_discrete j i) [
      | yes p ↦ rw (p, count_here) (omega arith)
      | no p ↦ rw (get_or-set_other counts i j (count + 1) 0 p) (few.few j)
    ];
  }

-- ---- the sets noted
module _ {n : ℕ} {times zone : List ℤ} {kept : List Matrix} {seen : List ℤ} {counts : List ℕ} (w : Noted n times zone kept seen counts) where
  -- the list grows
  pub noted_on : (os : List (Option Matrix)) → Noted n times zone (foldl keep kept os) seen counts
  noted_on os = record {
    tables = w.tables;
    covered = λ i c h.
        let v = w.covered i c h in
        record { cols = v.cols; before = v.before; listed = every_map (λ o old z e. kept_old kept os (old z e)) v.listed };
  }

  -- a set is built at a free place
  pub noted_placed : (i : ℕ) {seen' : List ℤ} → Elsewhere (zone_size n) (free_at n counts i) seen seen' → length seen' ≡ length seen
      → Noted n times zone kept seen' counts
  noted_placed i e long = record {
    tables = record { seen_size = omega (arith, w.tables.seen_size); counted = w.tables.counted };
    covered = λ j c h. rw (other_same e (j * places_met n + c) (free_other w.tables i j c h)) (w.covered j c h);
  }

  -- and noted
  module _ {i : ℕ} (row : i ≤ most_departures)
      (v : Covered n (times_in times) (bounds_in zone) kept (suc i) (zone_at (zone_size n) seen (free_at n counts i))) where
    covered_too : (j c : ℕ) → c < get_or (set counts i (get_or counts i 0 + 1)) j 0
        → Covered n (times_in times) (bounds_in zone) kept (suc j) (zone_at (zone_size n) seen (j * places_met n + c))
    covered_too j c h = elim (ℕ_discrete j i) [
      | yes p ↦ elim (ℕ_discrete c (get_or counts i 0)) [
        | yes q ↦ rw (p, q) v
        | no q ↦ let less : c < get_or counts i 0 + 1 = rw (p, count_here w.tables.counted row) at h in rw p (w.covered i c (omega arith))
      ]
      | no p ↦ w.covered j c (rw (get_or-set_other counts i j (get_or counts i 0 + 1) 0 p) at h)
    ]

    pub noted_more : Noted n times zone kept seen (noted_in n counts i)
    unfolding noted_in
    noted_more = go (ltb (get_or counts i 0) (sets_met n)) refl
      where
        go : (b : Bool) → ltb (get_or counts i 0) (sets_met n) ≡ b → Noted n times zone kept seen (cond b (set counts i (get_or counts i 0 + 1)) counts)
        go true e = record {
          tables = record { seen_size = w.tables.seen_size; counted = counted_few w.tables.counted row (ltb-true _ _ e) };
          covered = covered_too;
        }
        go false e = w

  -- a set met is covered
  noted_met : (i : ℕ) (p : Matrix) → any_of (same_matrix p) (met_in n seen counts i) ≡ true → Covered n (times_in times) (bounds_in zone) kept (suc i) p
  noted_met i p e =
      let all : Every (Covered n (times_in times) (bounds_in zone) kept (suc i)) (met_in n seen counts i)
      = every_tabulate (get_or counts i 0) _ _ (w.covered i) in
      let (y, h, q) = some_at (every_some all (any_of_true (same_matrix p) _ e)) in
      rw (same_matrix_true p y h.1) h.0

  -- nothing, or a set met before
  pub nothing_new : (i : ℕ) (o : Option Matrix) (cols : List ℕ) → ((p : Matrix) → o ≡ some p → Before n (times_in times) p cols (suc i))
      → unmet (met_in n seen counts i) o ≡ none → foldl keep kept (extensions n (times_in times) (bounds_in zone) o cols (suc i) (suc n - suc i)) ≡ kept
  nothing_new i o cols b e = ⊎_elim
      (λ z. rw z (extensions_none n (times_in times) (bounds_in zone) cols (suc i) (suc n - suc i) kept))
      (λ z. rw z.1 (covered_again n (times_in times) (bounds_in zone) (noted_met i z.0 z.2) (b z.0 z.1)))
      (unmet_none _ _ e)
