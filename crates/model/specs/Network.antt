-- A network of n departures: its table, one cycle at a time, powers, the first repeated power.
use Rattle.std.specs.Prelude.{ℕ, zero, suc, ◌+◌, ◌*◌, ◌-◌, ℤ, pos, ◌+ℤ◌, ◌-ℤ◌, ◌*ℤ◌, Bool, true, false, cond, get_or}
use Rattle.std.specs.Int.Signed.{le_z}
use mathlib.Core.List.{List, [], ◌∷◌, ◌++◌, map, flatten, foldr}
use Rattle.std.proofs.Math.Option.{Option, none, some}
use Rattle.model.specs.Sizes.{most_cycles}
use Rattle.model.specs.Lists.{tabulate, any_of, same_lists}
use Rattle.model.specs.Bound.{Bound, same_z, scale}

-- an entry of the table. A blank takes no part
pub data Time : Type 0 where
  blank : Time
  secs : ℤ → Time

pub record Network : Type 0 where
  pub n : ℕ
  pub horizon : ℕ
  pub times : List Time
  pub start : List Bound
  pub target : List Bound

-- the same network with its numbers in parts, of which parts make a second
unfoldable pub scale_time : ℕ → Time → Time
scale_time parts blank = blank
scale_time parts (secs a) = secs (a *ℤ pos parts)

unfoldable pub in_parts : ℕ → Network → Network
in_parts parts w = record {
  n = w.n;
  horizon = w.horizon;
  times = map (scale_time parts) w.times;
  start = map (scale parts) w.start;
  target = map (scale parts) w.target;
}

-- A(i, j), 1 ≤ i, j ≤ n, of the flat table by rows
unfoldable pub time : ℕ → List Time → ℕ → ℕ → Time
time n a i j = get_or a ((i - 1) * n + (j - 1)) blank

unfoldable pub is_time : Time → Bool
is_time blank = false
is_time (secs a) = true

-- a regular row: it holds at least one time
unfoldable pub regular : List Time → Bool
regular row = any_of is_time row

unfoldable pub later : Time → Time → Time
later blank u = u
later (secs a) blank = secs a
later (secs a) (secs b) = cond (le_z a b) (secs b) (secs a)

unfoldable pub latest : List Time → Time
latest ts = foldr later blank ts

unfoldable pub after : Time → Time → Time
after blank u = blank
after (secs a) blank = blank
after (secs a) (secs b) = secs (a +ℤ b)

-- the seconds of a time; what it says of a blank is never used, since rows are regular
unfoldable pub secs_of : Time → ℤ
secs_of blank = pos 0
secs_of (secs a) = a

-- times of departures 1 to n as x(0), x(1), .., with the clock's zero first
unfoldable pub clocked : List ℤ → ℕ → ℤ
clocked xs zero = pos 0
clocked xs (suc i) = get_or xs i (pos 0)

-- one cycle: x'(i) is the largest of x(j) + A(i, j)
unfoldable pub next : ℕ → List Time → (ℕ → ℤ) → ℕ → ℤ
next n a x i = secs_of (latest (tabulate n 1 (λ j. after (secs (x j)) (time n a i j))))

unfoldable pub cycle : ℕ → List Time → List ℤ → List ℤ
cycle n a xs = tabulate n 1 (next n a (clocked xs))

-- k cycles
unfoldable pub cycles : ℕ → List Time → ℕ → List ℤ → List ℤ
cycles n a zero xs = xs
cycles n a (suc k) xs = cycle n a (cycles n a k xs)

-- the max-plus product
unfoldable pub product : ℕ → List Time → List Time → List Time
product n a b =
    flatten (tabulate n 1 (λ i. tabulate n 1 (λ j. latest (tabulate n 1 (λ l. after (time n a i l) (time n b l j))))))

-- k powers of a, from b on
unfoldable pub powers_from : ℕ → ℕ → List Time → List Time → List (List Time)
powers_from zero n a b = []
powers_from (suc k) n a b = b ∷ powers_from k n a (product n a b)

-- power r + 1 of a
unfoldable pub power : ℕ → List Time → ℕ → List Time
power n a zero = a
power n a (suc r) = product n a (power n a r)

-- c added to every time, blanks in the same places
unfoldable pub added : ℤ → List Time → List Time
added c a = map (after (secs c)) a

-- what is added to the first time of one table to give that of the other
unfoldable pub gap : List Time → List Time → ℤ
gap [] us = pos 0
gap (t ∷ ts) [] = pos 0
gap (blank ∷ ts) (u ∷ us) = gap ts us
gap (secs a ∷ ts) (blank ∷ us) = gap ts us
gap (secs a ∷ ts) (secs b ∷ us) = b -ℤ a

unfoldable pub same_time : Time → Time → Bool
same_time blank blank = true
same_time blank (secs b) = false
same_time (secs a) blank = false
same_time (secs a) (secs b) = same_z a b

-- power q is power p with a number added
pub record Repeat : Type 0 where
  pub q : ℕ
  pub p : ℕ
  pub number : ℤ

-- the first of the earlier powers, counted from p, that b repeats as power q
unfoldable pub repeats : ℕ → ℕ → List (List Time) → List Time → Option Repeat
repeats q p [] b = none
repeats q p (a ∷ rest) b =
    cond (same_lists same_time (added (gap a b) a) b) (some (record { q = q; p = p; number = gap a b })) (repeats q (suc p) rest b)

unfoldable pub first_repeat : ℕ → List (List Time) → List (List Time) → Option Repeat
first_repeat q earlier [] = none
first_repeat q earlier (b ∷ bs) =
    elim (repeats q 1 earlier b) [ some r ↦ some r | none ↦ first_repeat (suc q) (earlier ++ (b ∷ [])) bs ]

-- document 01's first repeated power, among the first most_cycles
unfoldable pub repeat_of : Network → Option Repeat
repeat_of w = first_repeat 1 [] (powers_from most_cycles w.n w.times w.times)
