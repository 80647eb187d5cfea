-- How a pen holds the bits that were written, and what its functions ask for and give.
use Rattle.std.specs.Prelude.{◌≡◌, ℕ, ◌+◌, ◌*◌, ◌^◌, ◌≤◌, ◌<◌, List, ◌++◌, length, get_or, drop}
use Rattle.model.specs.Lists.{tabulate, Every}
use Rattle.model.specs.Packed.{num_of}
use Rattle.model.specs.Writing.{bytes_of}
use Rattle.packer.specs.declared.Pen.{Pen}
use Rattle.packer.specs.Sound.{InFront}

-- ---- bits in bytes
-- bit q, 0 behind the last one
abbrev pub bit_of : List ℕ → ℕ → ℕ
bit_of bs q = get_or bs q 0

-- count bytes of the bits
abbrev pub bytes_in : List ℕ → ℕ → List ℕ
bytes_in bs count = tabulate count 0 (λ i. num_of (bit_of bs) (8 * i) 8)

-- ---- the pen
-- the bits bs were written to an output that held first: the bytes that they fill stand in front, behind them it is as it was,
-- and the pen holds the bits that fill no byte
pub record Inked (first bs : List ℕ) (pen : Pen) : Type 0 where
  pub bits : Every (λ b. b ≤ 1) bs
  pub long : 8 * pen.full + pen.held ≡ length bs
  pub spells : pen.part ≡ num_of (bit_of bs) (8 * pen.full) pen.held
  pub stored : pen.out.now ≡ bytes_in bs pen.full ++ drop pen.full first

-- the pen holds less than a byte, and its output has room for count bits more
pub record CanInk (count : ℕ) (pen : Pen) : Type 0 where
  pub few : pen.held < 8
  pub small : pen.part < 2 ^ pen.held
  pub room : 8 * pen.full + pen.held + count ≤ 8 * length pen.out.now

-- from one pen to the next, bs is written behind what was, in the same output and form
pub record Extends (bs : List ℕ) (pen next : Pen) : Type 0 where
  pub form_kept : next.form ≡ pen.form
  pub small : next.part < 2 ^ next.held
  pub place : 8 * next.full + next.held ≡ 8 * pen.full + pen.held + length bs
  pub same : next.out.ghost_name ≡ pen.out.ghost_name
  pub kept : length next.out.now ≡ length pen.out.now
  pub inked : (first before : List ℕ) → Inked first before pen → Inked first (before ++ bs) next

-- so that less than a byte is held again
abbrev pub Inks : List ℕ → Pen → Pen → Type 0
Inks bs pen next = Extends bs pen next × (next.held < 8)

-- the output holds the bytes of the bits that were written
pub record Filled (pen next : Pen) : Type 0 where
  pub same : next.out.ghost_name ≡ pen.out.ghost_name
  pub bytes : (first bs : List ℕ) → Inked first bs pen → InFront (bytes_of bs) first next.out.now
