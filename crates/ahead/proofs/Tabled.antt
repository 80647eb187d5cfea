-- The times of a row, the clock's among them, and what a row asks.
use Prim.Native.Nat.{ℕ, zero, suc, ◌+◌, ◌-◌, ◌≤◌, ◌<◌}
use native.Mathlib.Omega.{arith}
use mathlib.Core.Path.{◌≡◌, refl, sym, ap, ap₂, ◌∙◌}
use mathlib.Core.Bool.{false, true}
use mathlib.Core.List.{List}
use lib.IntN.{ℤ, pos, nat_abs, ◌-ℤ◌}
use Rattle.ints.proofs.Integers.{impossible, up, dn, ints, sub_ud, pos_ud, abs_ud}
use lib.ListN.{get_or}
use Rattle.std.proofs.Common.{is_some, Some, None}
use Rattle.ints.specs.declared.Seconds.{Seconds}
use Rattle.model.specs.Bound as B
use Rattle.model.specs.Bound.{Bound, most, plus, tighter}
use Rattle.model.specs.Network.{Time, blank, secs, time, secs_of}
use Rattle.model.specs.Faults.{Entry, time_of}
use Rattle.model.specs.Search.{chosen, tightest}
use Rattle.model.specs.Conditions.{Column, Small, free, sized, tightest_of}
use Rattle.model.proofs.Bounds.{tighter_either}
use Rattle.model.proofs.Selections.{chosen_fits}
use Rattle.model.proofs.Tabulated.{from, from_next, from_end, from_first}
use Rattle.memory.specs.declared.Number.{Number}
use Rattle.memory.specs.Numbers.{as_bound, InMemory}
use Rattle.memory.specs.Conditions.{TableIn, ZoneIn, TimeRead, ReadWithin}
use Rattle.zones.specs.Inner.{choice, AddedWithin}
use Rattle.ahead.specs.Needs.{row_time, asks, NeedMost}
use Rattle.ahead.specs.Outlook.{LookingAt, KnownRows}

module _ (n : ℕ) (a : List Time) where
  -- the clock's, and those of its column
  pub clock_read : (o j : ℕ) → (1 ≤ o → 1 ≤ j → ⊥) → o ≡ j → TimeRead (row_time n a o j) (Some (record { 0 = pos 0 }))
  unfolding row_time time_of secs_of
  clock_read zero zero ne e = record { is = refl; small = omega arith }
  clock_read zero (suc j) ne e = absurd (omega arith)
  clock_read (suc o) zero ne e = absurd (omega arith)
  clock_read (suc o) (suc j) ne e = absurd (ne (omega arith) (omega arith))

  pub blank_read : (o j : ℕ) → (1 ≤ o → 1 ≤ j → ⊥) → (o ≡ j → ⊥) → TimeRead (row_time n a o j) None
  unfolding row_time time_of secs_of
  blank_read zero zero ne d = absurd (d refl)
  blank_read zero (suc j) ne d = record { is = refl; small = omega arith }
  blank_read (suc o) zero ne d = record { is = refl; small = omega arith }
  blank_read (suc o) (suc j) ne d = absurd (ne (omega arith) (omega arith))

  -- the others'
  pub row_time_lem : (o j : ℕ) → 1 ≤ o → 1 ≤ j → row_time n a o j ≡ time n a o j
  unfolding row_time
  row_time_lem zero j h k = absurd (omega arith)
  row_time_lem (suc o) zero h k = absurd (omega arith)
  row_time_lem (suc o) (suc j) h k = refl

-- what a time asks of a bound
module _ {t : Time} {r : Entry Seconds} (read : TimeRead t r) where
  pub asks_none : (b : Bound) → r ≡ None → B.Bound.none ≡ asks b t
  unfolding asks time_of
  asks_none b e = rw (← read.is, e)

  module _ {x : Seconds} (e : r ≡ Some x) where
    pub asks_some : (b : Bound) → plus b (most (pos 0 -ℤ x.0)) ≡ asks b t
    unfolding asks time_of
    asks_some b = rw (← read.is, e)

    -- a time in memory, taken off
    pub taken_off : nat_abs (pos 0 -ℤ x.0) ≤ InMemory
    unfolding time_of secs_of
    taken_off =
        let h : nat_abs x.0 ≤ InMemory = rw (← read.is, e) at read.small in
        omega (ints, abs_ud x.0, abs_ud (pos 0 -ℤ x.0), sub_ud (pos 0) x.0, pos_ud 0)

-- a column holds a time exactly if there is one
module _ {n : ℕ} {a : List Time} {i j : ℕ} {r : Entry Seconds} (read : TimeRead (time n a i j) r) where
  pub no_column : is_some r ≡ false → Column n a i j → ⊥
  unfolding time_of
  no_column e c = go r read.is e
    where
      go : (r : Entry Seconds) → time_of r ≡ time n a i j → is_some r ≡ false → ⊥
      go None h e = let is : blank ≡ secs c.value = h ∙ c.is in impossible cc
      go (Some x) h e = impossible cc

  pub held_column : is_some r ≡ true → 1 ≤ j → j ≤ n → Column n a i j
  unfolding time_of
  held_column e l u = go r read.is e
    where
      go : (r : Entry Seconds) → time_of r ≡ time n a i j → is_some r ≡ true → Column n a i j
      go None h e = impossible cc
      go (Some x) h e = record { from_one = l; to_n = u; value = x.0; is = sym h }

less_nothing : (v : ℤ) → v -ℤ pos 0 ≡ v
unfolding up dn
less_nothing v = omega (ints, sub_ud v (pos 0), pos_ud 0)

-- what a column adds, as a bound
pub own_read : {n : ℕ} {a : List Time} {i s : ℕ} {r : Seconds} (own : Number) → AddedWithin InMemory n a i s r → as_bound own ≡ most (r.0 -ℤ pos 0)
    → ReadWithin InMemory (most (chosen n a i s)) own
own_read own added e =
    let is = e ∙ ap most (less_nothing _) in
    record { is = is ∙ ap most added.is; small = rw is (sized added.small) }

-- the column of a row before
pub known_at : {n i : ℕ} {part times : List ℤ} {cols : List ℕ} → TableIn n times → ZoneIn n part × KnownRows n times cols i → (l : ℕ) → l < i
    → LookingAt n part times (choice l (get_or cols l 0))
known_at table (set, known) l h =
    let column = known.columns l h in
    record {
      set = set;
      adds = record { table = table; row = omega (arith, known.to_end); column = column };
      column = omega (arith, chosen_fits column);
    }

-- the least of what is asked, from row o on
pub record Least (n : ℕ) (f : ℕ → Bound) (o : ℕ) (b : Bound) : Type 0 where
  pub upto : o ≤ suc n
  pub is : b ≡ tightest (from f (suc n) o)
  pub small : Small NeedMost b

pub least_start : (n : ℕ) (f : ℕ → Bound) → Least n f (n + 1) B.Bound.none
unfolding tightest
least_start n f = record { upto = omega arith; is = rw (from_end f (suc n) (n + 1) (omega arith)); small = free }

pub least_step : {n : ℕ} {f : ℕ → Bound} {o : ℕ} {b : Bound} (c : Bound) → Least n f o b → 1 ≤ o → Small NeedMost c → c ≡ f (o - 1)
    → Least n f (o - 1) (tighter c b)
unfolding tightest
least_step {n} {f} {o} {b} c w h small e =
    let u = w.upto in
    let k : o - 1 + 1 ≡ o = omega arith in
    record {
      upto = omega arith;
      is =
          ap₂ tighter e w.is ∙ sym (ap tightest (from_next f (suc n) (o - 1) (omega arith))
          ∙ ap (λ (r : ℕ). tighter (f (o - 1)) (tightest (from f (suc n) r))) k);
      small = tighter_either (Small NeedMost) c b small w.small;
    }

pub least_done : {n : ℕ} {f : ℕ → Bound} {o : ℕ} {b : Bound} → Least n f o b → o ≤ 0 → b ≡ tightest_of (suc n) f
least_done {n} {f} {o} w h = let z : o ≡ 0 = omega arith in w.is ∙ ap tightest (rw z (sym (from_first f (suc n) 0 (suc n) (omega arith))))
