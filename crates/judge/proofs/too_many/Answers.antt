-- As many bits as the wide form has are enough for every n; of fewer bits the power fits.
use Rattle.std.proofs.Common.{◌≡◌, refl, sym, ℕ, ◌-◌, ◌*◌, ◌%◌, ◌^◌, ◌≤◌, ◌<◌, Bool, true, false, arith}
use borrow.Author.Tests.{leb-true, leb-false, lt-ltb, le-ltb}
use lib.Dec.{leb, ltb}
use lib.Pow.{pow_pos, pow_mono}
use Rattle.model.specs.Sizes.{wide_digits}
use Rattle.judge.proofs.too_many.Goals as goal

-- n is at least a power exactly if it is more than the number before it
no_place : (power n : ℕ) → 0 < power → leb power n ≡ ltb (power - 1) n
no_place power n h = go (leb power n) refl
  where
    go : (t : Bool) → leb power n ≡ t → t ≡ ltb (power - 1) n
    go true e = sym (lt-ltb (power - 1) n (omega (arith, leb-true power n e)))
    go false e = sym (le-ltb (power - 1) n (omega (arith, leb-false power n e)))

pub returns-then-digits : goal.returns-then-digits
returns-then-digits c =
    let digits = c.args.form.digits in
    let few : digits ≤ wide_digits = omega arith in
    let fits : 1 * 2 ^ digits % 2 ^ 64 ≡ 2 ^ digits = omega (arith, pow_mono few) in
    rw fits (no_place (2 ^ digits) _ (pow_pos digits))

pub returns-else-digits : goal.returns-else-digits
returns-else-digits c =
    let digits = c.args.form.digits in
    let few : 2 ^ 4 ≤ 2 ^ digits = pow_mono c.if-digits.false in
    rw (le-ltb digits 4 c.if-digits.false, le-ltb (2 ^ digits - 1) c.args.n (omega arith))
