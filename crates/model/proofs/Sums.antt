-- The latest of one time more, and how large the latest of some times and sums of times are.
use Prim.Native.Nat.{ℕ, suc, ◌+◌, ◌*◌, ◌-◌, ◌≤◌}
use native.Mathlib.Omega.{arith}
use native.Mathlib.Numerals.{add-one, one-add}
use mathlib.Core.Path.{◌≡◌, refl, sym, ap, ◌∙◌}
use mathlib.Core.List.{List, [], ◌∷◌, ◌++◌}
use lib.IntN.{nat_abs, ◌+ℤ◌}
use Rattle.std.specs.Prelude.{None}
use Rattle.ints.proofs.Integers.{ints, add_ud, abs_ud}
use Rattle.model.specs.Sizes.{time_limit}
use Rattle.model.specs.Lists.{tabulate, Every, done, both}
use Rattle.model.specs.Network.{Time, blank, secs, time, later, latest, after, secs_of}
use Rattle.model.specs.Faults.{time_of}
use Rattle.model.specs.Conditions.{TimesSmall}
use Rattle.model.proofs.Listed.{every_get_d}
use Rattle.model.proofs.Tabulated.{tabulate_snoc}
use Rattle.model.proofs.MaxPlus.{later_either, later_comm, later_assoc, latest_of}

-- ---- the latest of f 1 to f n, one by one
latest_snoc : (ts : List Time) (t : Time) → latest (ts ++ t ∷ []) ≡ later (latest ts) t
unfolding latest
latest_snoc [] t = later_comm t blank
latest_snoc (u ∷ ts) t = rw (latest_snoc ts t) (sym (later_assoc u (latest ts) t))

pub latest_of_none : (f : ℕ → Time) → time_of None ≡ latest_of 0 f
unfolding time_of latest tabulate
latest_of_none f = refl

pub latest_of_more : (n : ℕ) (f : ℕ → Time) → latest_of (n + 1) f ≡ later (latest_of n f) (f (n + 1))
latest_of_more n f = rw add-one (ap latest (sym (rw one-add at (tabulate_snoc n 1 f))) ∙ latest_snoc (tabulate n 1 f) (f (suc n)))

-- ---- sizes. A blank counts as 0
pub after_small : {x y : ℕ} (t u : Time) → nat_abs (secs_of t) ≤ x → nat_abs (secs_of u) ≤ y → nat_abs (secs_of (after t u)) ≤ x + y
unfolding after secs_of
after_small blank u h k = omega arith
after_small (secs a) blank h k = omega arith
after_small (secs a) (secs b) h k = omega (ints, add_ud a b, abs_ud a, abs_ud b, abs_ud (a +ℤ b))

pub latest_small : {B : ℕ} {ts : List Time} → Every (λ t. nat_abs (secs_of t) ≤ B) ts → nat_abs (secs_of (latest ts)) ≤ B
unfolding latest secs_of
latest_small done = omega arith
latest_small {B} (both {x} h p) = later_either (λ t. nat_abs (secs_of t) ≤ B) x _ h (latest_small p)

-- the entries of a table whose times are in their limit
module _ (n : ℕ) (a : List Time) (small : TimesSmall n a) where
  pub time_small : (i j : ℕ) → nat_abs (secs_of (time n a i j)) ≤ time_limit
  unfolding secs_of
  time_small i j = go (time n a i j) refl
    where
      go : (t : Time) → time n a i j ≡ t → nat_abs (secs_of t) ≤ time_limit
      go blank e = omega arith
      go (secs v) e = small i j v e

  pub entries_small : Every (λ t. nat_abs (secs_of t) ≤ time_limit) a
  unfolding time
  entries_small = every_get_d blank a (λ k h. let z : (1 - 1) * n + (suc k - 1) ≡ k = omega arith in rw z at (time_small 1 (suc k)))
