-- The bounds that were looked at, and what is lost of a case.
use Prim.Native.Nat.{ℕ, suc, ◌+◌, ◌*◌, ◌≤◌, ◌<◌}
use native.Mathlib.Omega.{arith}
use native.Mathlib.Numerals.{add-one}
use mathlib.Core.Path.{◌≡◌, refl, ◌∙◌}
use mathlib.Core.List.{List, [], ◌∷◌, ◌++◌, append-nil}
use mathlib.Core.Bool.{true, false}
use lib.ListN.{length, take, drop, get_or, length-append, drop_of_length-le}
use lib.Seq.{drop-cons}
use borrow.Author.Tests.{lt-ltb, le-ltb}
use Rattle.std.specs.Prelude.{Result, None, Ok, Err}
use Rattle.model.specs.Sizes.{wide_lead, wide_digits, horizon_width, most_width}
use Rattle.model.specs.declared.Limit.{Limit}
use Rattle.model.specs.declared.Case.{Case}
use Rattle.model.specs.declared.Fault.{Fault}
use Rattle.model.specs.declared.Fault.TheVariants as fault
use Rattle.model.specs.Forms.{old, wide, most_in}
use Rattle.model.specs.Faults.{Entry, marked}
use Rattle.model.specs.Answers.{judged}
use Rattle.model.specs.Packed.{bound_kind, time_kind}
use Rattle.model.specs.Writing.{entry_bits, entries_bits}
use Rattle.model.specs.Converting.{bounds_place, loss_fault}
use Rattle.model.proofs.Spelled.{length_field}
use Rattle.convert.specs.Looking.{marks_from, found, LookedAt}

-- ---- the bounds that were looked at
-- of bounds that start at place p, i were passed; the next one starts at place at
pub record Looking (bounds : List (Entry Limit)) (p i at : ℕ) : Type 0 where
  pub rest : (rest : List (Entry Limit)) → marks_from p (bounds ++ rest) ≡ marks_from at (drop i bounds ++ rest)
  pub near : at ≤ p + suc most_width * i

pub looking_none : (bounds : List (Entry Limit)) (p : ℕ) → Looking bounds p 0 p
looking_none bounds p = record { rest = λ rest. refl; near = omega arith }

module _ {bounds : List (Entry Limit)} {p i at : ℕ} (l : Looking bounds p i at) where
  -- the next one
  module _ (h : i < length bounds) where
    abbrev next : Entry Limit
    next = get_or bounds i None

    split : drop i bounds ≡ next ∷ drop (i + 1) bounds
    split = rw add-one (drop-cons bounds i None h)

    pub looking_more : marked next ≡ false → (size : ℕ) → size ≡ length (entry_bits (bound_kind wide) next) → size ≤ suc most_width
        → Looking bounds p (i + 1) (at + size)
    looking_more t size e few = record {
      rest = λ rest. l.rest rest ∙ rw (split, t, e);
      near = omega (arith, l.near);
    }

    pub looking_strict : marked next ≡ true → LookedAt bounds p (Err (fault.Form at))
    looking_strict t = record { is = λ rest. l.rest rest ∙ rw (split, t); near = tt }

  -- the end
  pub looking_all : i ≤ length bounds → length bounds ≤ i → LookedAt bounds p (Ok at)
  looking_all inside h = record { is = λ rest. l.rest rest ∙ rw (drop_of_length-le bounds h); near = omega (arith, l.near) }

pub ruleset lookings = (looking_none, looking_more, looking_strict, looking_all)

-- ---- what is lost of a case
module _ (c : Case) where
  -- n
  pub departures_lost : most_in old < c.n → judged (loss_fault wide old c) ≡ Err (fault.Form wide_lead)
  unfolding loss_fault
  departures_lost h = rw (lt-ltb (most_in old) c.n h)

  -- where the old form has a place for n: the first mark of the start, and of the target behind it
  abbrev size : ℕ
  size = c.n * (c.n + 1)

  abbrev first : ℕ → ℕ
  first times = wide_lead + wide_digits + horizon_width + times

  module _ (few : c.n ≤ most_in old) (times : ℕ) (e : times ≡ length (entries_bits time_kind (take (c.n * c.n) c.times))) where
    bounds_lost : loss_fault wide old c ≡ marks_from (first times) (take size c.start ++ take size c.target)
    unfolding loss_fault
    bounds_lost =
        let place : bounds_place wide c ≡ first times = simp (length-append, length_field) (omega (arith, e)) in
        rw (le-ltb (most_in old) c.n few, place, add-one)

    module _ {r : Result ℕ Fault} (start : LookedAt (take size c.start) (first times) r) where
      pub start_lost : {f : Fault} → r ≡ Err f → judged (loss_fault wide old c) ≡ Err f
      start_lost h = rw (bounds_lost, start.is (take size c.target), h)

      module _ {q : ℕ} (h : r ≡ Ok q) {r' : Result ℕ Fault} (target : LookedAt (take size c.target) q r') where
        after_start : loss_fault wide old c ≡ found r' []
        after_start = bounds_lost ∙ start.is (take size c.target) ∙ rw h (rw append-nil at (target.is []))

        pub target_lost : {f : Fault} → r' ≡ Err f → judged (loss_fault wide old c) ≡ Err f
        target_lost h = rw (after_start, h)

        pub none_lost : {p : ℕ} → r' ≡ Ok p → judged (loss_fault wide old c) ≡ Ok tt
        none_lost h = rw (after_start, h)

pub ruleset losses = (departures_lost, start_lost, target_lost, none_lost)
