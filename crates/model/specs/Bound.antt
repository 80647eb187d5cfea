-- An upper bound on a difference of two times: at most, or less than, a whole number.
use Rattle.std.specs.Prelude.{ℕ, ℤ, pos, ◌+ℤ◌, ◌-ℤ◌, ◌*ℤ◌, ◌≤ℤ◌, Bool, true, false, ◌&&◌, ◌||◌, cond}
use Rattle.std.specs.Int.Signed.{le_z, lt_z}

-- the mark is true where the bound is strict
pub data Bound : Type 0 where
  none : Bound
  upto : Bool → ℤ → Bound

abbrev pub most : ℤ → Bound
most b = upto false b

abbrev pub less : ℤ → Bound
less b = upto true b

-- bounds are compared in halves: "less than b" is half a unit tighter than "at most b"
unfoldable pub bit : Bool → ℕ
bit false = 0
bit true = 1

unfoldable pub halves : Bool → ℤ → ℤ
halves s b = (b +ℤ b) -ℤ pos (bit s)

-- the first is at least as tight as the second: of equal numbers the strict one is tighter
pub data LeB : Bound → Bound → Type 0 where
  any : {b : Bound} → LeB b none
  fin : {s t : Bool} {b c : ℤ} → halves s b ≤ℤ halves t c → LeB (upto s b) (upto t c)

-- v keeps to the bound: it is at most b, or less than b
abbrev pub Holds : ℤ → Bound → Type 0
Holds v b = LeB (most v) b

-- the bound on a sum, of the bounds on its parts: strict if one of them is
unfoldable pub plus : Bound → Bound → Bound
plus none c = none
plus (upto s b) none = none
plus (upto s b) (upto t c) = upto (s || t) (b +ℤ c)

unfoldable pub tighter : Bound → Bound → Bound
tighter none c = c
tighter (upto s b) none = upto s b
tighter (upto s b) (upto t c) = cond (le_z (halves s b) (halves t c)) (upto s b) (upto t c)

-- no number that keeps to it is 0 or more
unfoldable pub negative : Bound → Bool
negative none = false
negative (upto s b) = lt_z (halves s b) (pos 0)

unfoldable pub same_z : ℤ → ℤ → Bool
same_z a b = le_z a b && le_z b a

-- with the same mark
unfoldable pub same_bound : Bound → Bound → Bool
same_bound none none = true
same_bound none (upto t c) = false
same_bound (upto s b) none = false
same_bound (upto s b) (upto t c) = same_z (halves s b) (halves t c)

-- the same bound in parts, of which parts make a second
unfoldable pub scale : ℕ → Bound → Bound
scale parts none = none
scale parts (upto s b) = upto s (b *ℤ pos parts)

-- the same of whole numbers, "less than b" read as at most b - 1
unfoldable pub whole : Bound → Bound
whole none = none
whole (upto s b) = most (b -ℤ pos (bit s))
