-- The kinds of entries are lawful: two's complement of a time's and of a bound's width, with a mark in front or without.
use Prim.Native.Nat.{ℕ, suc, ◌+◌, ◌-◌, ◌*◌, ◌%◌, ◌^◌, ◌≤◌, ◌<◌}
use native.Mathlib.Omega.{arith}
use mathlib.Core.Path.{◌≡◌, refl, ap}
use mathlib.Core.Bool.{Bool, true, false, cond, ◌&&◌}
use mathlib.Core.Option.{none}
use lib.Dec.{ltb, leb}
use lib.Pow.{pow_mono}
use lib.IntN.{ℤ, pos, negsuc, nat_abs, ◌-ℤ◌}
use borrow.Author.Tests.{eqb-false, ltb-false, lt-ltb, le-ltb, leb-true, leb-false, le-leb, lt-leb}
use Rattle.std.specs.Prelude.{Some, None, is_some}
use Rattle.ints.proofs.Integers.{impossible, up, dn, ints, sub_ud}
use Rattle.model.specs.Sizes.{time_limit, time_width, bound_width}
use Rattle.ints.specs.declared.Seconds.{Seconds}
use Rattle.model.specs.declared.Limit.{Limit}
use Rattle.model.specs.declared.Form.{Form}
use Rattle.model.specs.declared.Fault.TheVariants as fault
use Rattle.model.specs.Forms.{markless}
use Rattle.model.specs.Faults.{Entry, beyond}
use Rattle.model.specs.Packed.{signed, raw_of, time_kind, limit_of, bound_kind}
use Rattle.model.specs.Conditions.{FormLimits, InLimit, BoundIn}
use Rattle.model.proofs.Limits.{over_none, bound_fault_in_none}
use Rattle.model.proofs.Inverse.{Lawful}

-- ---- two's complement, half being the weight of the sign bit
-- pos v - pos (half * 2), below 0
wrapped : (half v : ℕ) → v < half * 2 → pos v -ℤ pos (half * 2) ≡ negsuc (half * 2 - suc v)
unfolding up dn
wrapped half v h = omega (ints, sub_ud (pos v) (pos (half * 2)))

-- the value of a number has this number, and the number of a value stands for this value
raw_signed : (half v : ℕ) → v < half * 2 → raw_of half (signed half v) ≡ v
unfolding signed raw_of
raw_signed half v h = elim (ltb v half) as (λ t. raw_of half (cond t (pos v) (pos v -ℤ pos (half * 2))) ≡ v) [
  | true ↦ refl
  | false ↦ rw (wrapped half v h) (omega arith)
]

pub signed_raw : (half : ℕ) (z : ℤ) → nat_abs z < half → (raw_of half z < half * 2) × (signed half (raw_of half z) ≡ z)
unfolding signed raw_of
signed_raw half (pos v) h = let l : v < half = h in (omega arith, rw (lt-ltb v half l))
signed_raw half (negsuc v) h =
    let l : suc v < half = h in
    let u : half * 2 - suc v < half * 2 = omega arith in
    let back : half * 2 - suc (half * 2 - suc v) ≡ v = omega arith in
    (u, rw (le-ltb (half * 2 - suc v) half (omega arith), wrapped half (half * 2 - suc v) u, back))

-- an entry that is present and in a limit below half
pub in_half : {limit half : ℕ} → limit < half → (x : Seconds) → InLimit limit (Some x) → nat_abs x.0 < half
unfolding beyond
in_half {limit} few x in_limit = omega (arith, few, ltb-false limit (nat_abs x.0) in_limit)

-- what is not there is the absent entry
absent : {A : Type 0} (e : Entry A) → is_some e ≡ false → None ≡ e
absent None h = refl
absent (Some x) h = impossible cc

-- ---- times
pub time_lawful : Lawful time_kind
time_lawful = record {
  absent_is = refl;
  only_absent = absent;
  value_is = λ v. refl;
  raw_value = λ v h. raw_signed (2 ^ (time_width - 1)) v (omega arith);
  raw_small = λ e h clean. (back e h (clean 0)).0;
  value_raw = λ e h clean. (back e h (clean 0)).1;
}
  where
    back : (e : Entry Seconds) → is_some e ≡ true → time_kind.judge 0 e ≡ none
        → (time_kind.raw e < 2 ^ time_width) × (time_kind.value (time_kind.raw e) ≡ e)
    back None h clean = impossible cc
    back (Some x) h clean =
        let small = in_half {half = 2 ^ (time_width - 1)} (omega arith) x ((over_none time_limit fault.Time 0 (Some x)).0 clean) in
        let fits = signed_raw (2 ^ (time_width - 1)) x.0 small in
        (omega (arith, fits.0), rw fits.1)

-- ---- bounds
abbrev marked : ℕ
marked = 2 ^ bound_width

and_true : (t : Bool) → (t && true) ≡ false → t ≡ false
and_true false h = refl
and_true true h = h

-- a mark in front of a number of a bound's width
abbrev weight : Bool → ℕ
weight t = cond t marked 0

mark_value : (v : ℕ) → v < 2 * marked → weight (leb marked v) + v % marked ≡ v
mark_value v h = go (leb marked v) refl
  where
    go : (t : Bool) → leb marked v ≡ t → weight t + v % marked ≡ v
    go true e = omega (arith, leb-true marked v e)
    go false e = omega (arith, leb-false marked v e)

value_mark : (t : Bool) (r : ℕ) → r < marked → (leb marked (weight t + r) ≡ t) × ((weight t + r) % marked ≡ r)
value_mark true r h = (le-leb marked (marked + r) (omega arith), omega arith)
value_mark false r h = (lt-leb marked (0 + r) (omega arith), omega arith)

-- the weight of a bound's sign bit
abbrev half : ℕ
half = 2 ^ (bound_width - 1)

-- a bound that is present and that the form has a place for
module _ (f : Form) (e : Limit) (clean : BoundIn f (Some e)) where
  value_fits : (raw_of half e.value.0 < marked) × (signed half (raw_of half e.value.0) ≡ e.value.0)
  value_fits = signed_raw half e.value.0 (in_half (omega arith) e.value clean.0)

  -- it has a mark only where there is a place for it
  number_fits : (bound_kind f).raw (Some e) < 2 ^ (f.mark + bound_width)
  number_fits = go e.strict refl
    where
      go : (t : Bool) → e.strict ≡ t → weight t + raw_of half e.value.0 < 2 ^ (f.mark + bound_width)
      go false s = let l : bound_width ≤ f.mark + bound_width = omega arith in omega (arith, value_fits.0, pow_mono l)
      go true s =
          let place : markless f ≡ false = and_true (markless f) (rw s at clean.1) in
          let l : suc bound_width ≤ f.mark + bound_width = omega (arith, eqb-false f.mark 0 place) in
          omega (arith, value_fits.0, pow_mono l)

  value_back : limit_of ((bound_kind f).raw (Some e)) ≡ e
  value_back = let back = value_mark e.strict (raw_of half e.value.0) value_fits.0 in rw (back.0, back.1, value_fits.1)

pub bound_lawful : {f : Form} → FormLimits f → Lawful (bound_kind f)
bound_lawful {f} lim = record {
  absent_is = refl;
  only_absent = absent;
  value_is = λ v. refl;
  raw_value = λ v h. rw (raw_signed half (v % marked) (omega arith)) (mark_value v (omega (arith, pow_mono widest)));
  raw_small = λ e h clean. (back e h (clean 0)).0;
  value_raw = λ e h clean. (back e h (clean 0)).1;
}
  where
    back : (e : Entry Limit) → is_some e ≡ true → (bound_kind f).judge 0 e ≡ none
        → ((bound_kind f).raw e < 2 ^ (bound_kind f).width) × ((bound_kind f).value ((bound_kind f).raw e) ≡ e)
    back None h clean = impossible cc
    back (Some e) h clean =
        let fits = (bound_fault_in_none f 0 (Some e)).0 clean in
        (number_fits f e fits, ap Some (value_back f e fits))

    widest : f.mark + bound_width ≤ suc bound_width
    widest = omega arith
