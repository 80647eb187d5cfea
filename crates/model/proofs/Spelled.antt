-- `Spells s p bs q` says that the bits of the bytes s from place p up to place q are bs. A number is read from them exactly if they are its bits.
use Prim.Native.Nat.{ℕ, zero, suc, ◌+◌, ◌-◌, ◌*◌, ◌/◌, ◌%◌, ◌^◌, ◌≤◌, ◌<◌}
use native.Mathlib.Omega.{arith}
use native.Mathlib.Nat.{zero-add, add-zero}
use mathlib.Core.Path.{◌≡◌, refl, sym, ◌∙◌}
use mathlib.Core.List.{List, [], ◌∷◌, ◌++◌}
use lib.Dec.{leb}
use lib.ListN.{length, get_or}
use borrow.Author.Tests.{leb-true, le-leb}
use Rattle.model.specs.Packed.{got, bit_at, num_at, bits}
use Rattle.model.specs.Writing.{field_bits}
use Rattle.model.proofs.Entries.{length_tabulate, get_d_tabulate}
use Rattle.model.proofs.Digits.{num_same, spelled, bit_small, digit}
use Rattle.model.proofs.Parsed.{Gives, value, no_value, test_gives, num_small}

pub data Spells (s : List ℕ) : ℕ → List ℕ → ℕ → Type 0 where
  end : (p : ℕ) → p ≤ 8 * length s → Spells s p [] p
  bit : {p q b : ℕ} {bs : List ℕ} → bit_at s p ≡ b → Spells s (suc p) bs q → Spells s p (b ∷ bs) q

module _ {s : List ℕ} where
  -- q is behind the last of them, and within the bytes
  pub ends : {p q : ℕ} {bs : List ℕ} → Spells s p bs q → (q ≡ p + length bs) × (q ≤ 8 * length s)
  ends (end p h) = omega arith
  ends (bit e r) = omega (arith, ends r)

  -- one list of bits after the other
  pub join : {p q r : ℕ} {xs ys : List ℕ} → Spells s p xs q → Spells s q ys r → Spells s p (xs ++ ys) r
  join (end p h) y = y
  join (bit e x) y = bit e (join x y)

  pub split : {p r : ℕ} (xs ys : List ℕ) → Spells s p (xs ++ ys) r → (q : ℕ) × Spells s p xs q × Spells s q ys r
  split {p} [] ys y = (p, end p (omega (arith, ends y)), y)
  split (b ∷ xs) ys (bit e z) = let (q, x, y) = split xs ys z in (q, bit e x, y)

  -- bit by bit
  pub spells_each : (bs : List ℕ) (p q : ℕ) → q ≡ p + length bs → q ≤ 8 * length s → ((i : ℕ) → i < length bs → bit_at s (p + i) ≡ get_or bs i 0)
      → Spells s p bs q
  spells_each [] p q e h same = let z : q ≡ p = omega arith in rw z (end p (omega arith))
  spells_each (b ∷ bs) p q e h same =
      let next : (i : ℕ) → p + suc i ≡ suc p + i = omega arith in
      bit (rw add-zero at (same 0 (omega arith))) (spells_each bs (suc p) q (omega arith) h (λ i l. rw (next i) at (same (suc i) (omega arith))))

  pub each_spelt : {p q : ℕ} {bs : List ℕ} → Spells s p bs q → (i : ℕ) → i < length bs → bit_at s (p + i) ≡ get_or bs i 0
  each_spelt (end p h) i l = absurd (omega arith)
  each_spelt {p} (bit e r) zero l = rw add-zero e
  each_spelt {p} (bit e r) (suc i) l = let e : p + suc i ≡ suc p + i = omega arith in rw e (each_spelt r i (omega arith))

-- ---- numbers
-- the bits of a number
pub length_field : (w v : ℕ) → length (field_bits w v) ≡ w
unfolding field_bits
length_field w v = length_tabulate w 0 _

get_d_field : (w v i : ℕ) → i < w → get_or (field_bits w v) i 0 ≡ v / 2 ^ (w - 1 - i) % 2
unfolding field_bits
get_d_field w v i h = rw (get_d_tabulate w 0 i (λ j. v / 2 ^ (w - 1 - j) % 2) 0 h, zero-add)

module _ (s : List ℕ) (w first : ℕ) where
  -- the number whose bits stand there is read
  pub bits_of : {p q : ℕ} (v : ℕ) → v < 2 ^ w → Spells s p (field_bits w v) q → bits s w first p ≡ got v q
  unfolding bits
  bits_of {p} {q} v h r =
      let e : q ≡ p + w = omega (arith, ends r, length_field w v) in
      let number = num_same (bit_at s) (λ j. v / 2 ^ (w - 1 - j) % 2) p 0 w (λ i l.
      each_spelt r i (rw (length_field w v) l) ∙ rw (zero-add i) (get_d_field w v i l)) in
      rw (le-leb (p + w) (8 * length s) (omega (arith, ends r)), number, spelled w v h, e) refl

  -- the bits of the number that is read stand there
  pub bits_spell : (p : ℕ) → Gives (λ v q. Spells s p (field_bits w v) q × (v < 2 ^ w)) (bits s w first p)
  unfolding bits
  bits_spell p = test_gives (leb (p + w) (8 * length s)) (λ t. value (field (leb-true (p + w) (8 * length s) t), num_small s p w)) (λ t. no_value)
    where
      field : p + w ≤ 8 * length s → Spells s p (field_bits w (num_at s p w)) (p + w)
      field h =
          let v = num_at s p w in
          spells_each (field_bits w v) p (p + w) (omega (arith, length_field w v)) h (λ i k.
          let l : i < w = omega (arith, length_field w v) in
          sym (get_d_field w v i l ∙ digit (bit_at s) (bit_small s) p w i l))
