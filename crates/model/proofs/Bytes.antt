-- Bits put into bytes, with the fill behind them, and taken out again.
use Prim.Native.Nat.{ℕ, zero, suc, ◌+◌, ◌-◌, ◌*◌, ◌/◌, ◌%◌, ◌^◌, ◌≤◌, ◌<◌}
use native.Mathlib.Omega.{arith}
use native.Mathlib.Numerals.{add-one}
use native.Mathlib.Nat.{zero-add}
use mathlib.Core.Path.{◌≡◌, refl, sym, ap, ◌∙◌}
use mathlib.Core.List.{List, [], ◌∷◌, ◌++◌, append_assoc, append-nil}
use lib.Dec.{eqb}
use lib.ListN.{length, get_or, replicate, length-append, length-replicate}
use lib.Seq.{ext_get_or}
use borrow.Author.Tests.{eqb-true, eq-eqb}
use Rattle.model.specs.Lists.{Every}
use Rattle.model.specs.Packed.{got, bit_at, num_of, zeros, fill}
use Rattle.model.specs.Writing.{bytes_of}
use Rattle.model.proofs.Listed.{at_get_d}
use Rattle.model.proofs.Entries.{length_tabulate, get_d_tabulate}
use Rattle.model.proofs.Digits.{num_same, spelled, digit}
use Rattle.model.proofs.Parsed.{Gives, value, no_value, test_gives, then_gives}
use Rattle.model.proofs.Spelled.{Spells, end, bit, ends, join, spells_each, each_spelt}

-- the zero bits behind m bits, up to a whole byte
abbrev pub missing : ℕ → ℕ
missing m = (8 - m % 8) % 8

-- the bits with them
abbrev pub filled : List ℕ → List ℕ
filled bs = bs ++ replicate (missing (length bs)) 0

pub length_bytes : (bs : List ℕ) → length (bytes_of bs) ≡ (length bs + 7) / 8
unfolding bytes_of
length_bytes bs = length_tabulate ((length bs + 7) / 8) 0 _

length_filled : (bs : List ℕ) → length (filled bs) ≡ 8 * length (bytes_of bs)
length_filled bs = rw (length-append, length-replicate {A = ℕ}, length_bytes) (omega arith)

-- a list of bits is read as 0 behind its end
get_d_filled : (bs : List ℕ) (k i : ℕ) → get_or (bs ++ replicate k 0) i 0 ≡ get_or bs i 0
get_d_filled [] zero i = refl
get_d_filled [] (suc k) zero = refl
get_d_filled [] (suc k) (suc i) = get_d_filled [] k i
get_d_filled (b ∷ bs) k zero = refl
get_d_filled (b ∷ bs) k (suc i) = get_d_filled bs k i

-- byte i of what is put into bytes
byte : (bs : List ℕ) (i : ℕ) → i < length (bytes_of bs) → get_or (bytes_of bs) i 0 ≡ num_of (λ q. get_or bs q 0) (8 * i) 8
unfolding bytes_of
byte bs i h = rw (get_d_tabulate ((length bs + 7) / 8) 0 i (λ i. num_of (λ q. get_or bs q 0) (8 * i) 8) 0 (omega (arith, length_bytes bs)), zero-add)

-- bits that are put into bytes stand there, with the fill behind them
pub bytes_spell : (bs : List ℕ) → Every (λ b. b ≤ 1) bs → Spells (bytes_of bs) 0 (filled bs) (8 * length (bytes_of bs))
unfolding bit_at
bytes_spell bs small = spells_each (filled bs) 0 _ (omega (arith, length_filled bs)) (omega arith) (λ i l.
    let here : 8 * (i / 8) + i % 8 ≡ i = omega arith in
    let bits = at_get_d {P = λ b. b ≤ 1} 0 (omega arith) small in
    rw (zero-add i, byte bs (i / 8) (omega (arith, length_filled bs)), get_d_filled bs (missing (length bs)) i)
    (digit (λ q. get_or bs q 0) bits (8 * (i / 8)) 8 (i % 8) (omega arith) ∙ ap (λ (q : ℕ). get_or bs q 0) here))

-- and no other bytes hold them
pub bytes_of_lem : (s bs : List ℕ) → Every (λ b. b < 256) s → Spells s 0 (filled bs) (8 * length s) → bytes_of bs ≡ s
unfolding bit_at
bytes_of_lem s bs small r =
    let size : length (bytes_of bs) ≡ length s = omega (arith, ends r, length_filled bs) in
    ext_get_or 0 (bytes_of bs) s size (λ i l.
    let v = get_or s i 0 in
    let same = num_same (λ q. get_or bs q 0) (λ j. v / 2 ^ (8 - 1 - j) % 2) (8 * i) 0 8 (λ j g.
    let p = 8 * i + j in
    let there : p / 8 ≡ i = omega arith in
    let place : 7 - p % 8 ≡ 8 - 1 - (0 + j) = omega arith in
    sym (get_d_filled bs (missing (length bs)) p) ∙ sym (each_spelt r p (omega (arith, ends r))) ∙ rw (zero-add p, there, place)) in
    byte bs i l ∙ same ∙ spelled 8 v (at_get_d {P = λ b. b < 256} 0 (omega arith) small i))

-- ---- the fill
module _ (s : List ℕ) where
  -- zero bits are read where they stand
  zeros_of : {q : ℕ} (k p : ℕ) → Spells s p (replicate k 0) q → zeros s k p ≡ got 0 q
  unfolding zeros
  zeros_of zero p (end _ h) = refl
  zeros_of (suc k) p (bit e r) = rw (e, add-one) (zeros_of k (suc p) r)

  -- and so is the fill
  pub fill_of : (p : ℕ) {bs : List ℕ} → Spells s 0 bs p → Spells s p (replicate (missing (length bs)) 0) (8 * length s) → fill s p ≡ got 0 (8 * length s)
  unfolding fill
  fill_of p {bs} r z =
      let e : length bs ≡ p = omega (arith, ends r) in
      rw (zeros_of (missing p) p (rw e at z), eq-eqb (8 * length s) (8 * length s) refl)

  -- zero bits that are read stand there
  zeros_spell : (k p : ℕ) {bs : List ℕ} → Spells s 0 bs p → p + k ≤ 8 * length s → Gives (λ z q. Spells s 0 (bs ++ replicate k 0) q) (zeros s k p)
  unfolding zeros
  zeros_spell zero p r h = value {q = p} (rw append-nil r)
  zeros_spell (suc k) p {bs} r h =
      test_gives (eqb (bit_at s p) 0)
      (λ t. rw (add-one, ← (append_assoc bs (0 ∷ []) (replicate k 0)))
      (zeros_spell k (suc p) (join r (bit (eqb-true (bit_at s p) 0 t) (end (suc p) (omega arith)))) (omega arith)))
      (λ t. no_value)

  -- and so does the fill
  pub fill_spells : (p : ℕ) {bs : List ℕ} → Spells s 0 bs p → Gives (λ z q. Spells s 0 (filled bs) (8 * length s)) (fill s p)
  unfolding fill
  fill_spells p {bs} r =
      then_gives (zeros_spell (missing p) p r (omega (arith, ends r))) (λ z q h.
      test_gives (eqb q (8 * length s))
      (λ t. let e : length bs ≡ p = omega (arith, ends r) in value (rw (e, ← (eqb-true q (8 * length s) t)) h))
      (λ t. no_value))
