-- Numbers in memory as times; the first of two tables' times, and two tables compared from their ends.
use Prim.Native.Nat.{ℕ, zero, suc, ◌+◌, ◌<◌, ◌≤◌}
use native.Mathlib.Omega.{arith}
use native.Mathlib.Numerals.{add-one}
use mathlib.Core.Path.{◌≡◌, refl, sym, ap, ◌∙◌}
use mathlib.Core.Bool.{Bool, true, false, ◌&&◌, and-false}
use mathlib.Core.List.{List, [], ◌∷◌}
use lib.IntN.{ℤ, pos, nat_abs, ◌+ℤ◌, ◌-ℤ◌}
use lib.Signed.{le_z}
use lib.ListN.{length, get_or, take, drop, length-map, get_or-map}
use lib.Seq.{drop-cons}
use mir.Syntax.{w32, w64}
use mir.Val.{SFits, to_z, of_z}
use mir.ValLaws.{to_z-of_z}
use Rattle.std.proofs.Common.{Some, None}
use Rattle.ints.specs.declared.Seconds.{Seconds}
use Rattle.ints.proofs.Integers.{ints, fits, nat_le_z, abs_ud, add_ud, sub_ud}
use Rattle.std.specs.Ordering.{int_eq}
use Rattle.std.proofs.lemmas.Bool.Decides.{Decides-int_eq, same_from_decides}
use Rattle.model.specs.Bound.{same_z}
use Rattle.model.specs.Lists.{same_lists}
use Rattle.model.specs.Network.{Time, blank, secs, secs_of, after, gap, added, same_time}
use Rattle.model.specs.Faults.{Entry, time_of}
use Rattle.model.proofs.Same as same
use Rattle.memory.specs.Numbers.{time_in, times_in, InMemory}
use Rattle.memory.specs.Conditions.{TimeWithin}
use Rattle.memory.proofs.Places.{get_d_in}

-- ---- what was read, and the difference of two times
pub blank_in : {S : ℕ} {t : Time} {r : Entry Seconds} → TimeWithin S t r → r ≡ None → t ≡ blank
unfolding time_of
blank_in read e = rw e at (sym read.is)

pub seconds_in : {S : ℕ} {t : Time} {r : Entry Seconds} {x : Seconds} → TimeWithin S t r → r ≡ Some x → t ≡ secs x.0
unfolding time_of
seconds_in read e = rw e at (sym read.is)

pub apart_fits : {t u : Time} {r s : Entry Seconds} {x y : Seconds}
    → TimeWithin InMemory t r → r ≡ Some x → TimeWithin InMemory u s → s ≡ Some y → SFits w64 (y.0 -ℤ x.0)
unfolding secs_of
apart_fits {x = x} {y} p d q e =
    let m : nat_abs x.0 ≤ InMemory = rw (seconds_in p d) at p.small in
    let n : nat_abs y.0 ≤ InMemory = rw (seconds_in q e) at q.small in
    fits (omega (ints, abs_ud x.0, abs_ud y.0, sub_ud y.0 x.0))

-- c is the difference exactly if the sum with c is the second
pub same_sum : (a b c : ℤ) → int_eq (b -ℤ a) c ≡ same_z (c +ℤ a) b
unfolding same_z
same_sum a b c =
    let sum = add_ud c a in
    let difference = sub_ud b a in
    same_from_decides _ _ (Decides-int_eq (b -ℤ a) c) (
      λ h. let (p, q) = same.and_true (le_z (c +ℤ a) b) (le_z b (c +ℤ a)) h in omega (ints, p, q),
      λ e. rw (nat_le_z (c +ℤ a) b (omega ints), nat_le_z b (c +ℤ a) (omega ints)) refl,
    )

-- a number of a list, and one that is read by its bits
pub item : (z : List ℤ) (k : ℕ) → k < length z → {x : ℤ} → x ≡ get_or z k (pos 0) → time_in x ≡ get_or (times_in z) k blank
unfolding times_in
item z k h e = ap time_in e ∙ sym (get_d_in time_in z k (pos 0) blank h)

pub read : (z : List ℤ) (k : ℕ) → k < length z → SFits w32 (get_or z k (pos 0))
    → time_in (to_z w32 (of_z w32 (get_or z k (pos 0)))) ≡ get_or (times_in z) k blank
read z k h f = item z k h (to_z-of_z w32 _ f)

pub times_size : (z : List ℤ) → length (times_in z) ≡ length z
unfolding times_in
times_size z = length-map z time_in

-- ---- two tables from entry k on
gap_second : (t : Time) (ts us : List Time) → gap (t ∷ ts) (blank ∷ us) ≡ gap ts us
unfolding gap
gap_second blank ts us = refl
gap_second (secs a) ts us = refl

module _ (ts us : List Time) (k : ℕ) (h : k < length ts) (l : k < length us) where
  pub past_first : get_or ts k blank ≡ blank → gap (drop k ts) (drop k us) ≡ gap (drop (k + 1) ts) (drop (k + 1) us)
  unfolding gap
  past_first e = rw (drop-cons ts k blank h, drop-cons us k blank l, add-one k, e) refl

  pub past_second : get_or us k blank ≡ blank → gap (drop k ts) (drop k us) ≡ gap (drop (k + 1) ts) (drop (k + 1) us)
  past_second e = rw (drop-cons ts k blank h, drop-cons us k blank l, add-one k, e) (gap_second _ _ _)

  pub gap_there : {v w : ℤ} → get_or ts k blank ≡ secs v → get_or us k blank ≡ secs w → gap (drop k ts) (drop k us) ≡ w -ℤ v
  unfolding gap
  gap_there d e = rw (drop-cons ts k blank h, drop-cons us k blank l, d, e)

-- ---- the first k + 1 of two lists, the last of them first
swap : (a b c : Bool) → (a && (b && c)) ≡ (b && (a && c))
swap true b c = refl
swap false b c = sym (and-false b)

pub same_last : {X : Type 0} (p : X → X → Bool) (z : X) (xs ys : List X) (k : ℕ) → k < length xs → k < length ys
    → same_lists p (take (suc k) xs) (take (suc k) ys) ≡ (p (get_or xs k z) (get_or ys k z) && same_lists p (take k xs) (take k ys))
unfolding same_lists
same_last p z [] ys k h l = absurd (omega arith)
same_last p z (x ∷ xs) [] k h l = absurd (omega arith)
same_last p z (x ∷ xs) (y ∷ ys) zero h l = refl
same_last p z (x ∷ xs) (y ∷ ys) (suc k) h l =
    rw (same_last p z xs ys k (omega arith) (omega arith))
    (swap (p x y) (p (get_or xs k z) (get_or ys k z)) (same_lists p (take k xs) (take k ys)))

-- whether the entry at k is moved, and those before it
pub moved_last : (c : ℤ) (xs ys : List ℤ) (k : ℕ) → k < length xs → k < length ys → SFits w32 (get_or xs k (pos 0)) → SFits w32 (get_or ys k (pos 0))
    → {t : Bool} → t ≡ same_time (after (secs c) (time_in (to_z w32 (of_z w32 (get_or xs k (pos 0)))))) (time_in (to_z w32 (of_z w32 (get_or ys k (pos 0)))))
    → let ts = added c (times_in xs) in let us = times_in ys in
    same_lists same_time (take (suc k) ts) (take (suc k) us) ≡ (t && same_lists same_time (take k ts) (take k us))
unfolding added after
moved_last c xs ys k h l f g e =
    let ts = times_in xs in
    let there = rw (read xs k h f, read ys k l g) at e in
    same_last same_time blank (added c ts) (times_in ys) k (omega (arith, length-map ts (after (secs c)), times_size xs)) (omega (arith, times_size ys))
    ∙ rw (get_or-map (after (secs c)) ts k blank, ← there) refl
