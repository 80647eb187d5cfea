-- Numbers in decimal, as bytes of ASCII.
use Rattle.std.specs.Prelude.{ℕ, zero, suc, ◌+◌, ◌/◌, ◌%◌, ◌^◌, ◌≤◌, ◌<◌, cond, List, [], ◌∷◌, ◌++◌, ltb, ℤ, pos, negsuc, nat_abs, length}

-- the decimal digits of x, by at most this many steps
unfoldable pub digits : ℕ → ℕ → List ℕ
digits zero x = []
digits (suc steps) x = cond (ltb x 10) ((48 + x) ∷ []) (digits steps (x / 10) ++ (48 + x % 10) ∷ [])

unfoldable pub number : ℕ → List ℕ
number x = digits (suc x) x

unfoldable pub signed_number : ℤ → List ℕ
signed_number (pos x) = number x
signed_number (negsuc x) = 45 ∷ number (suc x)

-- the most bytes of a machine number, and of one with a sign
abbrev pub most_digits : ℕ
most_digits = 20

abbrev pub most_signed : ℕ
most_signed = suc most_digits

-- from this place on there is room for a number with a sign, which a machine can hold
abbrev pub SignedRoom : ℤ → ℕ → ℕ → Type 0
SignedRoom z at size = nat_abs z < 2 ^ 64 → at + length (signed_number z) ≤ size
