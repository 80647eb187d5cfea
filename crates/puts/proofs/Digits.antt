-- The decimal digits of a machine number are those that std prints.
use Prim.Native.Nat.{ℕ, suc, ◌+◌, ◌/◌, ◌%◌, ◌^◌, ◌≤◌, ◌<◌}
use native.Mathlib.Omega.{arith}
use mathlib.Core.Path.{◌≡◌, refl}
use mathlib.Core.Bool.{true, false}
use mathlib.Core.List.{[], ◌∷◌, ◌++◌}
use lib.IntN.{ℤ, pos, negsuc, nat_abs}
use lib.Signed.{lt_z}
use lib.ListN.{length, length-append}
use borrow.Author.Tests.{ltb-true, lt-ltb, le-ltb}
use Rattle.std.specs.Fmt.{decimal}
use Rattle.std.proofs.lemmas.Fmt.{AppendsLastDigit, decimal_from_appends, decimal_digit, decimal_step, length-decimal-le, length-decimal-le_succ}
use Rattle.ints.proofs.Integers.{impossible}
use Rattle.puts.specs.Decimal.{digits, number, signed_number, most_digits, most_signed}

appends : AppendsLastDigit digits
unfolding digits
appends = record { one = λ k n h. rw (lt-ltb n 10 h) refl; more = λ k n h. rw (le-ltb n 10 h) refl }

module _ (x : ℕ) (fits : x < 2 ^ 64) where
  number_decimal : number x ≡ decimal x
  unfolding number
  number_decimal = decimal_from_appends digits appends (suc x) x fits (omega (arith, length-decimal-le_succ x fits))

  -- at most 20
  pub number_short : length (number x) ≤ most_digits
  number_short = rw number_decimal (length-decimal-le 20 x (omega arith) (omega arith) fits)

  pub one_digit : x < 10 → number x ≡ (48 + x) ∷ []
  one_digit h = rw number_decimal (decimal_digit x h)

pub more_digits : (x : ℕ) → x < 2 ^ 64 → 10 ≤ x → number x ≡ number (x / 10) ++ (48 + x % 10) ∷ []
more_digits x fits h = rw (number_decimal x fits, number_decimal (x / 10) (omega arith)) (decimal_step x h fits)

pub one_longer : (x : ℕ) → x < 2 ^ 64 → 10 ≤ x → length (number x) ≡ length (number (x / 10)) + 1
one_longer x fits h = rw (more_digits x fits h) (length-append (number (x / 10)) ((48 + x % 10) ∷ []))

-- a number with a sign
pub below_zero : (z : ℤ) → lt_z z (pos 0) ≡ true → signed_number z ≡ 45 ∷ number (nat_abs z)
unfolding signed_number
below_zero (pos n) e = absurd (omega (arith, ltb-true n 0 e))
below_zero (negsuc n) e = refl

pub from_zero : (z : ℤ) → lt_z z (pos 0) ≡ false → signed_number z ≡ number (nat_abs z)
unfolding signed_number
from_zero (pos n) e = refl
from_zero (negsuc n) e = impossible cc

-- and so few bytes
pub signed_short : (z : ℤ) → nat_abs z < 2 ^ 64 → length (signed_number z) ≤ most_signed
unfolding signed_number
signed_short (pos n) h = omega (arith, number_short n h)
signed_short (negsuc n) h = omega (arith, number_short (suc n) h)
