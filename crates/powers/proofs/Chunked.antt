-- A loop over the tables before place r, one after the other, with their places.
use Prim.Native.Nat.{ℕ, ◌+◌, ◌*◌, ◌-◌, ◌≤◌, ◌<◌}
use native.Mathlib.Omega.{arith}
use native.Mathlib.Nat.{zero-mul, suc-mul, mul-le-mul_right}
use native.Mathlib.Decide.{dec_lt}
use mathlib.Core.Path.{◌≡◌, sym, ap, ◌∙◌}
use mathlib.Core.List.{List}
use lib.IntN.{ℤ}
use lib.ListN.{length, take, drop, length-drop, length-append}
use lib.Seq.{take_at, drop_at, drop-drop, length-take-le}
use denote.Ref.{Bor}
use Rattle.std.proofs.Common.{Option, Some, None}
use Rattle.std.specs.declared.iter.Enumerate.{Enumerate}
use Rattle.std.specs.declared.slice.ChunksExact.{ChunksExact}
use Rattle.std.specs.Iterator.Adapters.{enumerate_source, enumerate_count, enumerate_steps}
use Rattle.std.specs.Slice.Iter.{chunks_exact_rest, chunks_exact_size, chunks_exact_steps}
use Rattle.model.specs.Sizes.{table_size}
use Rattle.memory.proofs.Side.{part_of_lem}
use Rattle.powers.specs.Readings.{numbers_at, PlaceIn}

abbrev pub Tables : Type 0
Tables = Enumerate (ChunksExact ℤ)

-- the place of the next table
abbrev pub place : Tables → ℕ
place s = enumerate_count s

-- those from there on are left
pub record Left (n r : ℕ) (powers : List ℤ) (s : Tables) : Type 0 where
  pub rest : chunks_exact_rest (enumerate_source s) ≡ drop (place s * table_size n) (take (r * table_size n) powers)
  pub sized : chunks_exact_size (enumerate_source s) ≡ table_size n

-- all of them
pub all : {n r : ℕ} {powers : List ℤ} {s : Tables} → chunks_exact_rest (enumerate_source s) ≡ take (r * table_size n) powers
    → chunks_exact_size (enumerate_source s) ≡ table_size n → place s ≡ 0 → Left n r powers s
all {n} e f z = record { rest = rw (z, zero-mul (table_size n)) e; sized = f }

module _ {n r : ℕ} {powers : List ℤ} (i : PlaceIn n r powers) (s t : Tables) (l : Left n r powers s) where
  -- how many numbers are left
  count : length (chunks_exact_rest (enumerate_source s)) ≡ r * table_size n - place s * table_size n
  count =
      rw l.rest
      (length-drop (place s * table_size n) (take (r * table_size n) powers) ∙ rw (length-take-le (r * table_size n) powers (omega (arith, i.inside))))

  -- the next one
  pub turn : (p : ℕ) (x : Bor (List ℤ)) {o : Option (ℕ × Bor (List ℤ))} → o ≡ Some (p, x) → enumerate_steps chunks_exact_steps s o t
      → (p ≡ place s) × (place s < r) × (x.now ≡ numbers_at n powers (place s)) × (place t ≡ place s + 1) × Left n r powers t
  turn p x e h =
      let m = table_size n in
      let k = rw e at h in
      let rest = chunks_exact_rest (enumerate_source t) in
      let long : length x.now ≡ m = k.0.1.1 ∙ l.sized in
      let pos : 1 ≤ m = omega (arith, mul-le-mul_right n i.departures.some) in
      let enough : place s * m + m ≤ r * m = omega (arith, count, pos, ap length k.0.1.0, length-append x.now rest, long) in
      let next : place t * m ≡ place s * m + m = rw (k.2) (omega arith) in (
        k.1,
        among enough,
        sym (ap (take m) k.0.1.0 ∙ take_at x.now rest m long) ∙ ap (take m) l.rest ∙ part_of_lem (r * m) (place s * m) m powers enough,
        k.2,
        record {
          rest = sym (ap (drop m) k.0.1.0 ∙ drop_at x.now rest m long) ∙ ap (drop m) l.rest ∙ drop-drop m (place s * m) (take (r * m) powers)
              ∙ ap (λ (q : ℕ). drop q (take (r * m) powers)) (sym next);
          sized = k.0.0 ∙ l.sized;
        },
      )
    where
      among : place s * table_size n + table_size n ≤ r * table_size n → place s < r
      among enough = go (dec_lt (place s) r)
        where
          go : Dec (place s < r) → place s < r
          go (yes q) = q
          go (no q) =
              let over : r ≤ place s = omega arith in
              absurd (omega (arith, mul-le-mul_right (table_size n) over, mul-le-mul_right n i.departures.some))

  pub end : {o : Option (ℕ × Bor (List ℤ))} → o ≡ None → enumerate_steps chunks_exact_steps s o t → r ≤ place s
  end e h = go (dec_lt (place s) r)
    where
      go : Dec (place s < r) → r ≤ place s
      go (no k) = omega arith
      go (yes k) =
          let none = rw e at h in
          absurd (omega (arith, none.0.1.0, l.sized, count, mul-le-mul_right (table_size n) k, suc-mul (place s) (table_size n)))
