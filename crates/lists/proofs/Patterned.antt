-- List 0 read back: the zone of a pattern, or nothing; that zone can be put into whole parts.
use Prim.Native.Nat.{ℕ, suc}
use native.Mathlib.Omega.{arith}
use native.Mathlib.Nat.{zero-mul}
use mathlib.Core.Path.{◌≡◌, refl}
use mathlib.Core.Bool.{Bool, true, false}
use mathlib.Core.List.{List, [], ◌∷◌}
use mathlib.Core.Option.{Option, none, some}
use lib.IntN.{ℤ}
use lib.ListN.{length, take}
use Rattle.ints.proofs.Integers.{impossible}
use Rattle.model.specs.Sizes.{bound_limit, zone_size}
use Rattle.model.specs.Lists.{tabulate, any_of, done, both}
use Rattle.model.specs.Matrix.{Matrix, everything, tighten}
use Rattle.model.specs.Pattern.{pattern_constraints}
use Rattle.model.specs.Search.{keep}
use Rattle.model.specs.Conditions.{PatternSmall}
use Rattle.model.proofs.Listed.{of_both}
use Rattle.model.proofs.Closed.{everything_closed}
use Rattle.model.proofs.Size.{small_mono}
use Rattle.model.proofs.Fitted.{fitting_left}
use Rattle.memory.specs.Numbers.{bounds_in}
use Rattle.memory.specs.Conditions.{PatternIn}
use Rattle.memory.proofs.Room.{target_meetable}
use Rattle.starts.specs.Conditions.{StartReady}
use Rattle.lists.specs.Lists.{zone_at, list_in, Meets, FirstList, Wholable}

-- a pattern with bounds in their limit can be met with all times
pub pattern_meets : {n : ℕ} {pattern : List ℤ} → PatternIn n pattern → PatternSmall n bound_limit (bounds_in pattern)
    → Meets n pattern (everything (suc n) ∷ [])
pattern_meets {n} {pattern} p small = record {
  limits = p;
  each = both (record { closed = everything_closed (suc n); meetable = target_meetable n (bounds_in pattern) p.departures.few small }) done;
}

-- what was kept
none_of : (o : Option Matrix) → [] ≡ keep [] o → o ≡ none
unfolding keep any_of
none_of none e = refl
none_of (some z) e = impossible cc

some_of : {y : Matrix} (o : Option Matrix) → (y ∷ []) ≡ keep [] o → o ≡ some y
unfolding keep any_of
some_of none e = impossible cc
some_of (some z) e = cc

-- the zone of a pattern
abbrev zone : ℕ → List ℤ → Option Matrix
zone n pattern = tighten (suc n) (pattern_constraints n (bounds_in pattern))

module _ {n : ℕ} {pattern : List ℤ} where
  module _ {work after : List ℤ} {r : Bool} (f : FirstList n pattern work after r) where
    pub zone_none : r ≡ false → zone n pattern ≡ none
    unfolding list_in tabulate
    zone_none e = none_of _ (rw e at f.list)

    pub zone_some : r ≡ true → zone n pattern ≡ some (bounds_in (take (zone_size n) after))
    unfolding list_in tabulate zone_at
    zone_some e = some_of _ (rw (e, zero-mul (zone_size n)) at f.list)

  -- its bounds are small enough
  pub zone_ready : {parts : ℕ} → Wholable n pattern parts → (z : List ℤ) → zone n pattern ≡ some (bounds_in z) → length z ≡ zone_size n → StartReady n z parts
  unfolding tighten
  zone_ready w z e long =
      let (d, whole) = w.times (bounds_in z) e in
      let departures = w.meets.limits.departures in
      record {
        departures = departures;
        source = record { few = omega (arith, departures.few); size = long };
        few_parts = w.few;
        small = λ i j hi hj. small_mono (omega arith)
            (fitting_left (pattern_constraints n (bounds_in pattern)) (of_both w.meets.each).0.meetable e i j hi hj);
        left = d;
        some_left = whole;
      }
