-- The images of the rows that have a column keep to the zone, row after row.
use Prim.Native.Nat.{ℕ, suc, ◌≤◌, ◌<◌}
use native.Mathlib.Omega.{arith}
use native.Mathlib.Decide.{ℕ_discrete}
use mathlib.Core.Path.{◌≡◌}
use mathlib.Core.List.{List, [], ◌∷◌, ◌++◌, map, foldl}
use mathlib.Core.Option.{some}
use lib.IntN.{ℤ, ◌-ℤ◌}
use lib.ListN.{get_or}
use lib.Seq.{get_or_at}
use Rattle.model.specs.Bound.{Holds}
use Rattle.model.specs.Matrix.{Matrix, entry, everything, constrain, Member}
use Rattle.model.specs.Network.{Time, scale_time}
use Rattle.model.specs.Search.{keeps, row_constraints}
use Rattle.model.specs.Conditions.{Closed, Column, Fits, image, sum, Before}
use Rattle.model.proofs.Bounds.{holds_none}
use Rattle.model.proofs.Mapped.{map_closed}
use Rattle.model.proofs.Inner.{scaling}
use Rattle.model.proofs.Unique.{scaled}
use Rattle.model.proofs.Zones.{In, Keeps, zone_parts, closed, all_in_parts}
use Rattle.model.proofs.Rows.{Row, row_of_lem, of_row}
use Rattle.model.proofs.Parts.{row_parts}
use Rattle.model.proofs.Selections.{chosen_at}
use Rattle.model.proofs.Preimage.{keeps_sums, row_fits}
use Rattle.ahead.specs.Outlook.{Kept, Outlook}

-- a row and itself
own_row : (n : ℕ) (a : List Time) {d : Matrix} → Closed (suc n) d → (parts : ℕ) → 1 ≤ parts → (x : ℕ → ℤ) (l : ℕ) → l < suc n
    → let b = map (scale_time parts) a in Holds (image n b x l -ℤ image n b x l) (entry (suc n) (scaled parts d) l l)
own_row n a cl parts p x l h = rw ((map_closed (scaling parts p) cl).diag l h) (holds_none (image n (map (scale_time parts) a) x l))

-- before row 1 there is the clock alone
pub first_kept : (n : ℕ) (a : List Time) {d : Matrix} → Closed (suc n) d → Kept n a d (everything (suc n)) 1
first_kept n a {d} cl parts p x m k l hk hl =
    let zero-k : k ≡ 0 = omega arith in
    let zero-l : l ≡ 0 = omega arith in
    rw (zero-k, zero-l) (own_row n a {d = d} cl parts p x 0 (omega arith))

-- one row more, with column s
module _ {n : ℕ} {a : List Time} {d part q : Matrix} {cols : List ℕ} {i s : ℕ} (o : Outlook n a d part cols i) (row : i ≤ n) (c : Column n a i s)
    (left : foldl (constrain (suc n)) (some part) (row_constraints n a d cols i s) ≡ some q) (b : Before n a q (cols ++ (s ∷ [])) (suc i)) where
  pub next_kept : Kept n a d q (suc i)
  unfolding keeps
  next_kept parts p x m k l hk hl = go (ℕ_discrete k i) (ℕ_discrete l i)
    where
      A : List Time
      A = map (scale_time parts) a

      said : Member (suc n) (scaled parts part) x × Row (Keeps x) n A (scaled parts d) cols i s
      said =
          let here : In (suc n) (zone_parts parts (foldl (constrain (suc n)) (some part) (row_constraints n a d cols i s))) x = rw left m in
          let fits = of_row (Fits (suc n)) n a d cols i s (row_fits n a d o.before.columns (chosen_at o.before.from_one c)) in
          let (old, ks) = (all_in_parts (suc n) parts p (closed o.before.closed_set) fits x).0 here in
          (old, row_of_lem (Keeps x) n A (scaled parts d) cols i s (rw (row_parts parts p n a d cols i s) at ks))

      own : sum n A x i s ≡ image n A x i
      own = rw (get_or_at cols s [] 0 i o.before.long) at (b.imaged parts p x m i (omega arith))

      other : (l : ℕ) → l < i → sum n A x l (get_or cols l 0) ≡ image n A x l
      other l h = o.before.imaged parts p x said.0 l h

      go : Dec (k ≡ i) → Dec (l ≡ i) → Holds (image n A x k -ℤ image n A x l) (entry (suc n) (scaled parts d) k l)
      go (yes e) (yes f) = rw (e, f) (own_row n a {d = d} o.closed parts p x i (omega arith))
      go (yes e) (no f) =
          rw (e, ← own, ← (other l (omega arith))) ((keeps_sums n A x i s l (get_or cols l 0) _).0 (said.1.ahead l (omega arith)))
      go (no e) (yes f) =
          rw (f, ← own, ← (other k (omega arith))) ((keeps_sums n A x k (get_or cols k 0) i s _).0 (said.1.back k (omega arith)))
      go (no e) (no f) = o.kept parts p x said.0 k l (omega arith) (omega arith)
