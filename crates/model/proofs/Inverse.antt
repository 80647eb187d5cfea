-- Entries of a kind: what is written is read, and what is read is written, for every kind whose numbers and entries are each recovered
-- from the other.
use Prim.Native.Nat.{ℕ, zero, suc, ◌+◌, ◌*◌, ◌^◌, ◌≤◌, ◌<◌}
use native.Mathlib.Omega.{arith}
use native.Mathlib.Nat.{div-one, mod-eq_of_lt}
use mathlib.Core.Path.{◌≡◌, refl, sym, ap, ◌∙◌}
use mathlib.Core.List.{List, [], ◌∷◌, ◌++◌, flat_map, append_assoc, append-nil}
use mathlib.Core.Bool.{Bool, true, false, cond}
use mathlib.Core.Option.{none}
use lib.Dec.{eqb}
use lib.ListN.{length, take, length-append}
use lib.Seq.{length-take-le}
use borrow.Author.Tests.{eqb-true, eqb-false}
use Rattle.model.specs.Lists.{tabulate, Every, done, both}
use Rattle.model.specs.Packed.{got, bits, Kind, entry, entries}
use Rattle.model.specs.Writing.{field_bits, entry_bits, entries_bits}
use Rattle.model.proofs.Parsed.{Gives, value, test_gives, then_gives, unless_gives}
use Rattle.model.proofs.Spelled.{Spells, end, join, split, bits_of, bits_spell}

-- ---- kinds whose numbers and entries are each recovered from the other
-- an entry without a fault, at any place
abbrev pub Clean : {A : Type 0} → Kind A → A → Type 0
Clean k e = (p : ℕ) → k.judge p e ≡ none

-- a number of the kind's width stands for an entry, and an entry without a fault has such a number
pub record Lawful {A : Type 0} (k : Kind A) : Type 0 where
  pub absent_is : k.has k.absent ≡ false
  pub only_absent : (e : A) → k.has e ≡ false → k.absent ≡ e
  pub value_is : (v : ℕ) → k.has (k.value v) ≡ true
  pub raw_value : (v : ℕ) → v < 2 ^ k.width → k.raw (k.value v) ≡ v
  pub raw_small : (e : A) → k.has e ≡ true → Clean k e → k.raw e < 2 ^ k.width
  pub value_raw : (e : A) → k.has e ≡ true → Clean k e → k.value (k.raw e) ≡ e

-- a bit by itself
one_bit : (b : ℕ) → b < 2 ^ 1 → field_bits 1 b ≡ b ∷ []
unfolding field_bits tabulate
one_bit b h = rw (div-one b, mod-eq_of_lt h)

-- the bits of two lists of entries
pub bits_append : {A : Type 0} (k : Kind A) (xs ys : List A) → entries_bits k (xs ++ ys) ≡ entries_bits k xs ++ entries_bits k ys
unfolding entries_bits flat_map
bits_append k [] ys = refl
bits_append k (x ∷ xs) ys = ap (◌++◌ (entry_bits k x)) (bits_append k xs ys) ∙ sym (append_assoc (entry_bits k x) (entries_bits k xs) (entries_bits k ys))

-- so they stand one behind the other
pub entries_split : {A : Type 0} (k : Kind A) {s : List ℕ} {p r : ℕ} (xs ys : List A) → Spells s p (entries_bits k (xs ++ ys)) r
    → (q : ℕ) × Spells s p (entries_bits k xs) q × Spells s q (entries_bits k ys) r
entries_split k xs ys z = split (entries_bits k xs) (entries_bits k ys) (rw (bits_append k xs ys) at z)

module _ {A : Type 0} (k : Kind A) (law : Lawful k) (s : List ℕ) where
  -- ---- what is written is read
  entry_of : {p q : ℕ} (e : A) → Clean k e → Spells s p (entry_bits k e) q → entry k s p ≡ got e q
  unfolding entry entry_bits
  entry_of {p} {q} e clean = go (k.has e) refl
    where
      presence : {q : ℕ} (b : ℕ) → b < 2 ^ 1 → Spells s p (b ∷ []) q → bits s 1 p p ≡ got b q
      presence b h r = bits_of s 1 p b h (rw (one_bit b h) r)

      go : (b : Bool) → k.has e ≡ b → Spells s p (cond b (1 ∷ field_bits k.width (k.raw e)) (0 ∷ [])) q → entry k s p ≡ got e q
      go false h r = rw (presence 0 (omega arith) r, law.only_absent e h)
      go true h r =
          let (m, x, y) = split (1 ∷ []) (field_bits k.width (k.raw e)) r in
          rw (presence 1 (omega arith) x, bits_of s k.width p (k.raw e) (law.raw_small e h clean) y, law.value_raw e h clean, clean p)

  entries_of_lem : {p q : ℕ} (es before : List A) → Every (Clean k) es → Spells s p (entries_bits k es) q
      → entries k s (length es) p before ≡ got (before ++ es) q
  unfolding entries entries_bits flat_map
  entries_of_lem [] before done (end p h) = rw append-nil
  entries_of_lem {p = p} (e ∷ es) before (both h hs) r =
      let (m, x, y) = split (entry_bits k e) (entries_bits k es) r in
      rw (entry_of e h x, entries_of_lem {p = m} es (before ++ e ∷ []) hs y, append_assoc)

  -- ---- what is read is written
  entry_spells : (p : ℕ) → Gives (λ e q. Spells s p (entry_bits k e) q) (entry k s p)
  unfolding entry entry_bits
  entry_spells p =
      then_gives (bits_spell s 1 p p) (λ b q h.
      test_gives (eqb b 0)
      (λ t. value (rw law.absent_is (presence (eqb-true b 0 t) h)))
      (λ t. then_gives (bits_spell s k.width p q) (λ raw r g.
      unless_gives (k.judge p (k.value raw)) (k.value raw) r (λ clean. rw (law.value_is raw, law.raw_value raw g.1)
      (join (presence (omega (arith, eqb-false b 0 t, h.1)) h) g.0)))))
    where
      presence : {b q v : ℕ} → b ≡ v → Spells s p (field_bits 1 b) q × (b < 2 ^ 1) → Spells s p (v ∷ []) q
      presence {b} e (r, h) = rw (one_bit b h, e) at r

  -- entries that are read after those of before, whose bits start at place first: m in all
  entries_spell : (m count first p : ℕ) (before : List A) → Spells s first (entries_bits k before) p → length before + count ≡ m
      → Gives (λ es q. Spells s first (entries_bits k es) q × (length es ≡ m)) (entries k s count p before)
  unfolding entries entries_bits flat_map
  entries_spell m zero first p before h e = value {a = before} (h, omega arith)
  entries_spell m (suc count) first p before h e =
      then_gives (entry_spells p) (λ x q r.
      let long : length (before ++ x ∷ []) + count ≡ m = omega (arith, length-append before (x ∷ [])) in
      entries_spell m count first q (before ++ x ∷ []) (rw (bits_append k before (x ∷ []), append-nil) (join h r)) long)

  -- of entries without a fault the first count are read where they are written
  pub first_of : {p q : ℕ} (count : ℕ) (es : List A) → count ≤ length es → Every (Clean k) (take count es) → Spells s p (entries_bits k (take count es)) q
      → entries k s count p [] ≡ got (take count es) q
  first_of {p} count es long clean r = rw (length-take-le count es long) at (entries_of_lem (take count es) [] clean r)

  -- count entries that are read are written there
  pub first_spell : (count p : ℕ) → p ≤ 8 * length s → Gives (λ es q. Spells s p (entries_bits k es) q × (length es ≡ count)) (entries k s count p [])
  unfolding entries_bits flat_map
  first_spell count p h = entries_spell count count p p [] (end p h) (omega arith)
