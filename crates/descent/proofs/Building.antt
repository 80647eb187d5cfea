-- The set of a row, built from that of the row before: copied, then one column's constraints taken in.
use Prim.Native.Nat.{ℕ, suc, ◌+◌, ◌*◌, ◌-◌, ◌≤◌}
use native.Mathlib.Omega.{arith}
use native.Mathlib.Nat.{mul-le-mul_right, suc-mul}
use mathlib.Core.Path.{◌≡◌, sym, ap, ◌∙◌}
use mathlib.Core.Bool.{Bool}
use mathlib.Core.List.{List, ◌∷◌, [], ◌++◌}
use mathlib.Core.Option.{some}
use lib.IntN.{ℤ}
use lib.ListN.{length, take, drop}
use lib.Seq.{paste, length-take-le, take-take}
use borrow.Rule.Slice.PartMut.{put_mid}
use Rattle.model.specs.Sizes.{zone_size}
use Rattle.model.specs.Matrix.{Matrix}
use Rattle.model.specs.Network.{Time}
use Rattle.model.specs.Conditions.{Column, Fitting}
use Rattle.memory.specs.Side.{numbers_at, Elsewhere}
use Rattle.memory.specs.Matrices.{leaves, Left}
use Rattle.memory.proofs.Side.{length_numbers, stored_else, stored_numbers, else_trans, back_else, back_at}
use Rattle.memory.specs.Wide.{bounds_in}
use Rattle.zones.specs.declared.Choice.{Choice}
use Rattle.zones.specs.declared.Target.{Target}
use Rattle.decisions.specs.Decide.{first_constraints}
use Rattle.decisions.specs.Conditions.{Tryable, more}
use Rattle.descent.specs.Rows.{added_by, RowReady}
use Rattle.descent.specs.Trying.{set_at, left_of, BuildReady, PlacedIn}

-- a row that can be tried: its constraints can be taken in, and the rows below can be tried from what they leave
module _ {n : ℕ} {b : List Time} {d : Matrix} {L r i : ℕ} {cols : List ℕ} {y : Matrix} where
  pub tryable_row : Tryable n b d L (suc r) i cols y → (s : ℕ) → Column n b i s → Fitting (suc n) L (some y) (first_constraints n b d cols i s)
  tryable_row (more h f g) = f

  pub tryable_below : Tryable n b d L (suc r) i cols y → (s : ℕ) → Column n b i s → (v : Matrix)
      → leaves n y (first_constraints n b d cols i s) ≡ some v → Tryable n b d L r (suc i) (cols ++ (s ∷ [])) v
  tryable_below (more h f g) = g

-- there is a set for each row
pub row_room : {n : ℕ} (sets : List ℤ) → suc n * zone_size n ≤ length sets → (k : ℕ) → k ≤ n → k * zone_size n + zone_size n ≤ length sets
row_room {n} sets h k l = omega (arith, mul-le-mul_right {m = suc k} {n = suc n} (zone_size n) (omega arith), suc-mul k (zone_size n))

module _ {t : Target ℤ} {sets : List ℤ} {cols : List ℕ} {c : Choice} (b : BuildReady t sets cols c) where
  abbrev i : ℕ
  i = c.row

  abbrev size : ℕ
  size = zone_size t.n

  -- the set of the row before, copied
  abbrev pub copied : List ℤ
  copied = paste sets (i * size) (numbers_at size sets (i - 1)) size

  pub room_here : i * size + size ≤ length sets
  room_here = row_room sets b.row.sets_size i b.row.to_n

  source_long : length (numbers_at size sets (i - 1)) ≡ size
  source_long = length_numbers size sets (i - 1) (row_room sets b.row.sets_size (i - 1) (let h = b.row.to_n in omega arith))

  copied_at : numbers_at size copied i ≡ numbers_at size sets (i - 1)
  copied_at = stored_numbers size i sets (numbers_at size sets (i - 1)) source_long room_here

  copied_else : Elsewhere size i sets copied
  copied_else = stored_else size i sets (numbers_at size sets (i - 1)) source_long room_here

  -- as the numbers before base, of which there are enough
  pub copied_is : (base from : ℕ) → base ≡ i * size → from ≡ base - size → paste sets base (drop from sets) (base - from) ≡ copied
  copied_is base from e f =
      let one : i ≡ suc (i - 1) = let h = b.row.from_one in omega arith in
      let before : i * size ≡ (i - 1) * size + size = ap (λ (k : ℕ). k * size) one ∙ suc-mul (i - 1) size in
      let start : from ≡ (i - 1) * size = omega arith in
      let long : base - from ≡ size = omega arith in
      rw (long, start, e)
      (ap (λ (l : List ℤ). (take (i * size) sets ++ l) ++ drop (i * size + size) sets) (sym (take-take size size (drop ((i - 1) * size) sets) (omega arith))))

  -- it can take in what the column adds
  pub row_ready : RowReady t (numbers_at size copied i) (take i cols) c
  unfolding set_at
  row_ready = rw copied_at (record {
    set = b.row.closed;
    from_one = b.row.from_one;
    to_n = b.row.to_n;
    cols_size = let h = b.row.cols_size in let k = b.row.to_n in omega (arith, length-take-le i cols (omega arith));
    columns = b.row.columns;
    column = b.column;
    fitting = tryable_row b.row.fits c.column b.column;
  })

  -- and what that leaves stands there then
  pub placed : {r : Bool} (out : List ℤ) → length copied ≡ length sets → length out ≡ size
      → Left (leaves t.n (bounds_in (numbers_at size copied i)) (added_by t (take i cols) c)) r (bounds_in out)
      → PlacedIn t.n i (left_of t sets cols c) sets r (put_mid (i * size) (i * size + size - i * size) copied out)
  unfolding set_at
  placed out long fits l =
      let inside : i * size + size ≤ length copied = omega (arith, room_here) in
      record {
        elsewhere = else_trans copied_else (back_else size i copied out inside fits);
        left = rw (back_at size i copied out inside fits) (rw copied_at at l);
      }
