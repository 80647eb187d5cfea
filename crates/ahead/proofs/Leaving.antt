-- A time that a selection leaves: it is one of the set, the columns attain its image, and the image is in the zone.
use Prim.Native.Nat.{ℕ, zero, suc, ◌+◌, ◌-◌, ◌≤◌, ◌<◌}
use native.Mathlib.Omega.{arith}
use native.Mathlib.Decide.{dec_lt}
use mathlib.Core.Path.{◌≡◌, sym}
use mathlib.Core.Logic.{◌⊎◌, inl, inr, ⊎_elim}
use mathlib.Core.List.{List, ◌++◌, map, foldl}
use mathlib.Core.Option.{some}
use lib.IntN.{ℤ, ◌-ℤ◌}
use lib.ListN.{length, get_or, get_or-append}
use lib.Seq.{get_or-append-add}
use Rattle.model.specs.Bound.{Holds}
use Rattle.model.specs.Matrix.{Matrix, entry, constrain, Member}
use Rattle.model.specs.Network.{Time, scale_time}
use Rattle.model.specs.Search.{keeps, rows_constraints}
use Rattle.model.specs.Lists.{Every}
use Rattle.model.specs.Conditions.{Column, image, sum, Before, Selection}
use Rattle.model.proofs.Bounds.{holds_none}
use Rattle.model.proofs.Listed.{at_tabulate, in_flatten}
use Rattle.model.proofs.Mapped.{map_closed}
use Rattle.model.proofs.Inner.{scaling}
use Rattle.model.proofs.Unique.{scaled}
use Rattle.model.proofs.Ranked.{parts_member}
use Rattle.model.proofs.Zones.{In, Keeps, zone_parts, closed, all_closed, all_in_parts}
use Rattle.model.proofs.Patterns.{closed_some}
use Rattle.model.proofs.Rows.{Row, row_of_lem, by_rows}
use Rattle.model.proofs.Parts.{column_parts, rows_parts}
use Rattle.model.proofs.Selections.{selection_length, selection_at}
use Rattle.model.proofs.Images.{rows_fit}
use Rattle.model.proofs.Preimage.{image_attained, attains_behind, keeps_sums}
use Rattle.ahead.specs.Outlook.{Outlook}

-- x, in parts: a time of part at which each row's column in all attains the image, and the image is in d
pub record LeftTime (n : ℕ) (a : List Time) (d part : Matrix) (all : List ℕ) : Type 0 where
  pub parts : ℕ
  pub some_parts : 1 ≤ parts
  pub x : ℕ → ℤ
  pub inside : Member (suc n) (scaled parts part) x
  pub attained : (l : ℕ) → l < suc n → sum n (map (scale_time parts) a) x l (get_or all l 0) ≡ image n (map (scale_time parts) a) x l
  pub lands : (k l : ℕ) → k < suc n → l < suc n
      → Holds (image n (map (scale_time parts) a) x k -ℤ image n (map (scale_time parts) a) x l) (entry (suc n) (scaled parts d) k l)

module _ {n : ℕ} {a : List Time} {d part : Matrix} {cols rest : List ℕ} {i : ℕ} (o : Outlook n a d part cols i)
    (q : Selection n a (suc n - i) i rest) where
  abbrev all : List ℕ
  all = cols ++ rest

  b : Before n a part cols i
  b = o.before

  -- the column of a row from row i on
  pub column_at : (r : ℕ) → i ≤ r → r < suc n → Column n a r (get_or all r 0)
  column_at r l u =
      let k : length cols + (r - i) ≡ r = omega (arith, b.long) in
      let j : i + (r - i) ≡ r = omega arith in
      rw (rw k at (get_or-append-add cols rest (r - i) 0)) (rw j at (selection_at n a q (r - i) (omega arith)))

  module _ {z : Matrix} (e : foldl (constrain (suc n)) (some part) (rows_constraints n a d cols i rest) ≡ some z) where
    abbrev A : List Time
    A = map (scale_time (suc n)) a

    abbrev D : Matrix
    D = scaled (suc n) d

    time : (x : ℕ → ℤ) × Member (suc n) (scaled (suc n) z) x
    time =
        let fits = rows_fit n a d cols b.from_one b.long b.columns q in
        parts_member (suc n) z (omega arith) (closed_some (rw e at (all_closed (suc n) (closed b.closed_set) fits)))

    abbrev x : ℕ → ℤ
    x = time.0

    said : Member (suc n) (scaled (suc n) part) x × Every (Keeps x) (rows_constraints n A D cols i rest)
    said =
        let here : In (suc n) (zone_parts (suc n) (foldl (constrain (suc n)) (some part) (rows_constraints n a d cols i rest))) x = rw e time.1 in
        let (m, k) = (all_in_parts (suc n) (suc n) (omega arith) (closed b.closed_set)
        (rows_fit n a d cols b.from_one b.long b.columns q) x).0 here in
        (m, rw (rows_parts (suc n) (omega arith) n a d cols i rest) at k)

    row_at : (r : ℕ) → i ≤ r → r < suc n → Row (Keeps x) n A D all r (get_or all r 0)
    row_at r l u =
        let rows = in_flatten _ (rw (by_rows n A D cols i rest b.long) at said.1) in
        let k : i + (r - i) ≡ r = omega arith in
        row_of_lem (Keeps x) n A D all r (get_or all r 0) (rw k at (at_tabulate _ i _ rows (r - i) (omega (arith, selection_length n a q))))

    later_attained : (r : ℕ) → i ≤ r → r < suc n → sum n A x r (get_or all r 0) ≡ image n A x r
    later_attained zero l u = absurd (omega (arith, b.from_one))
    later_attained (suc r) l u =
        let c = column_parts (suc n) n a (column_at (suc r) l u) in
        sym (image_attained n A x c ((attains_behind n A x c).0 (row_at (suc r) l u).attained))

    attains : (l : ℕ) → l < suc n → sum n A x l (get_or all l 0) ≡ image n A x l
    attains l u = elim (dec_lt l i) [
      | yes h ↦ rw (get_or-append cols rest 0 l (omega (arith, b.long))) (b.imaged (suc n) (omega arith) x said.0 l h)
      | no h ↦ later_attained l (omega arith) u
    ]

    between : (k l : ℕ) → k < suc n → l < suc n → Dec (l < k) → Dec (k < l) → (i ≤ k) ⊎ (i ≤ l) → Holds (image n A x k -ℤ image n A x l) (entry (suc n) D k l)
    unfolding keeps
    between k l hk hl (yes p) r later =
        let from : i ≤ k = ⊎_elim (λ h. h) (λ h. omega arith) later in
        rw (← (attains k hk), ← (attains l hl)) ((keeps_sums n A x k (get_or all k 0) l (get_or all l 0) _).0 ((row_at k from hk).ahead l p))
    between k l hk hl (no p) (yes r) later =
        let from : i ≤ l = ⊎_elim (λ h. omega arith) (λ h. h) later in
        rw (← (attains k hk), ← (attains l hl)) ((keeps_sums n A x k (get_or all k 0) l (get_or all l 0) _).0 ((row_at l from hl).back k r))
    between k l hk hl (no p) (no r) later =
        let equal : k ≡ l = omega arith in
        rw (equal, (map_closed (scaling (suc n) (omega arith)) o.closed).diag l hl) (holds_none (image n A x l))

    all_lands : (k l : ℕ) → k < suc n → l < suc n → Holds (image n A x k -ℤ image n A x l) (entry (suc n) D k l)
    all_lands k l hk hl = go (dec_lt k i) (dec_lt l i)
      where
        go : Dec (k < i) → Dec (l < i) → Holds (image n A x k -ℤ image n A x l) (entry (suc n) D k l)
        go (yes p) (yes r) = o.kept (suc n) (omega arith) x said.0 k l p r
        go (yes p) (no r) = between k l hk hl (dec_lt l k) (dec_lt k l) (inr (omega arith))
        go (no p) r = between k l hk hl (dec_lt l k) (dec_lt k l) (inl (omega arith))

    pub left_time : LeftTime n a d part all
    left_time = record {
      parts = suc n;
      some_parts = omega arith;
      x = x;
      inside = said.0;
      attained = attains;
      lands = all_lands;
    }
