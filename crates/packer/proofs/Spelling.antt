-- Bits and the numbers that they spell: more bits, the same bits elsewhere, and the bits of a field.
use Prim.Native.Nat.{ℕ, zero, suc, ◌+◌, ◌-◌, ◌*◌, ◌/◌, ◌%◌, ◌^◌, ◌≤◌, ◌<◌}
use native.Mathlib.Omega.{arith}
use native.Mathlib.Nat.{pow-suc, one-mul, mul_assoc}
use mathlib.Core.Path.{◌≡◌, ◌∙◌}
use mathlib.Core.List.{List, ◌++◌}
use lib.ListN.{length, get_or-append}
use lib.Pow.{shl_exact}
use lib.Seq.{get_or-append-add}
use Rattle.model.specs.Lists.{Every}
use Rattle.model.specs.Packed.{num_of}
use Rattle.model.specs.Writing.{field_bits}
use Rattle.model.proofs.Entries.{get_d_tabulate}
use Rattle.model.proofs.Listed.{every_tabulate}
use Rattle.model.proofs.Digits.{num_same, spelled}
use Rattle.packer.specs.Ink.{bit_of}

-- the machine's 2 ^ k
pub power : (k : ℕ) → k < 32 → 1 * 2 ^ k % 2 ^ 32 ≡ 2 ^ k
power k h = shl_exact 1 k 32 (omega arith) (omega arith) ∙ one-mul (2 ^ k)

-- b bits after a others
pub num_add : (f : ℕ → ℕ) (p a b : ℕ) → num_of f p (a + b) ≡ num_of f p a * 2 ^ b + num_of f (p + a) b
unfolding num_of
num_add f p a zero = let e : a + 0 ≡ a = omega arith in rw e (omega arith)
num_add f p a (suc b) =
    let e : a + suc b ≡ suc (a + b) = omega arith in
    let q : p + (a + b) ≡ p + a + b = omega arith in
    rw (e, q, num_add f p a b, pow-suc 2 b) (omega (arith, mul_assoc (num_of f p a) (2 ^ b) 2))

-- ---- the bits of a field
pub field_bits_lem : (w v : ℕ) → Every (λ b. b ≤ 1) (field_bits w v)
unfolding field_bits
field_bits_lem w v = every_tabulate w 0 _ (λ i l. omega arith)

-- bits before others spell what they did
pub num_front : (bs cs : List ℕ) (p w : ℕ) → p + w ≤ length bs → num_of (bit_of (bs ++ cs)) p w ≡ num_of (bit_of bs) p w
num_front bs cs p w h = num_same (bit_of (bs ++ cs)) (bit_of bs) p p w (λ j l. get_or-append bs cs 0 (p + j) (omega arith))

-- a field behind other bits spells its number
pub num_field : (bs : List ℕ) (w v : ℕ) → v < 2 ^ w → num_of (bit_of (bs ++ field_bits w v)) (length bs) w ≡ v
unfolding field_bits
num_field bs w v h =
    num_same (bit_of (bs ++ field_bits w v)) (λ j. v / 2 ^ (w - 1 - j) % 2) (length bs) 0 w (λ j l.
    get_or-append-add bs (field_bits w v) j 0 ∙ get_d_tabulate w 0 j (λ i. v / 2 ^ (w - 1 - i) % 2) 0 l)
    ∙ spelled w v h
