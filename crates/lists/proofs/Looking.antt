-- The loop over the zones of a list: those that are still to be met with the pattern.
use Prim.Native.Nat.{ℕ, zero, suc, ◌+◌, ◌*◌, ◌<◌}
use native.Mathlib.Omega.{arith}
use native.Mathlib.Nat.{zero-mul, suc-mul}
use mathlib.Core.Path.{◌≡◌, refl, sym, ap, ap₂, ◌∙◌}
use mathlib.Core.Bool.{Bool, true, false}
use mathlib.Core.List.{List, ◌∷◌, ◌++◌}
use mathlib.Core.Option.{Option, none, some}
use lib.IntN.{ℤ}
use lib.ListN.{length, take, drop, length-append, length-drop}
use lib.Seq.{take_at, drop_at, drop-drop, length-take-le}
use Rattle.model.specs.Sizes.{zone_size}
use Rattle.model.specs.Lists.{tabulate, Every}
use Rattle.model.specs.Matrix.{Matrix}
use Rattle.model.specs.Pattern.{pattern_constraints}
use Rattle.model.specs.Search.{common, first_common}
use Rattle.model.proofs.Listed.{of_both}
use Rattle.model.proofs.Tabulated.{tabulate_ext, tabulate_suc}
use Rattle.model.proofs.Size.{small_mono}
use Rattle.model.proofs.Fitted.{fitting_left}
use Rattle.memory.specs.Numbers.{bounds_in}
use Rattle.memory.specs.Matrices.{Left}
use Rattle.memory.proofs.Leaving.{left_none, left_some}
use Rattle.starts.specs.Conditions.{StartReady}
use Rattle.lists.specs.Lists.{list_in, Joins, Meeting}
use Rattle.lists.proofs.Fronts.{list_front}

-- the first zone in these numbers, and the others
module _ {size : ℕ} (x : List ℤ) (fits : length x ≡ size) (rest : List ℤ) where
  zones_of : (k : ℕ) → list_in size (suc k) (x ++ rest) ≡ bounds_in x ∷ list_in size k rest
  unfolding list_in tabulate Rattle.lists.specs.Lists.zone_at
  zones_of k =
      ap₂ ◌∷◌ (ap bounds_in (rw zero-mul (take_at x rest size fits)))
      (tabulate_suc k 0 _ ∙ tabulate_ext k 0 _ _ (λ j l u.
      let e : suc j * size ≡ size + j * size = omega (arith, suc-mul j size) in
      ap (λ (zone : List ℤ). bounds_in (take size zone))
      (rw e (sym (drop-drop (j * size) size (x ++ rest)) ∙ ap (drop (j * size)) (drop_at x rest size fits)))))

-- what the list at base has in common with the pattern; the zones in these numbers are still to be looked at, and those before have nothing in common with it
pub record Looking (n base count : ℕ) (work pattern rest : List ℤ) : Type 0 where
  pub left : ℕ
  pub long : length rest ≡ left * zone_size n
  pub meets : Every (Joins n (bounds_in pattern)) (list_in (zone_size n) left rest)
  pub same : first_common n (bounds_in pattern) (list_in (zone_size n) count (drop base work))
      ≡ first_common n (bounds_in pattern) (list_in (zone_size n) left rest)

module _ (n base count : ℕ) (work pattern : List ℤ) where
  abbrev At : List ℤ → Type 0
  At rest = Looking n base count work pattern rest

  abbrev sought : Option Matrix
  sought = first_common n (bounds_in pattern) (list_in (zone_size n) count (drop base work))

module _ {n base count : ℕ} {work pattern : List ℤ} where
  pub looking_start : {parts : ℕ} → Meeting n parts base count work pattern → At n base count work pattern (take (count * zone_size n) (drop base work))
  looking_start m =
      let same = list_front (zone_size n) count (drop base work) in
      record {
        left = count;
        long = length-take-le (count * zone_size n) (drop base work) (omega (arith, m.long, length-drop base work));
        meets = rw same m.meets.each;
        same = ap (first_common n (bounds_in pattern)) (sym same);
      }

  -- no zone is left
  pub looking_done : {rest : List ℤ} → At n base count work pattern rest → length rest < zone_size n → sought n base count work pattern ≡ none
  unfolding list_in tabulate first_common
  looking_done {rest} g h = g.same ∙ go g.left g.long
    where
      go : (left : ℕ) → length rest ≡ left * zone_size n → first_common n (bounds_in pattern) (list_in (zone_size n) left rest) ≡ none
      go zero e = refl
      go (suc k) e = absurd (omega (arith, suc-mul k (zone_size n)))

  -- the next one
  module _ {whole : List ℤ} (g : At n base count work pattern whole) (x rest : List ℤ) (is : whole ≡ x ++ rest) (fits : length x ≡ zone_size n) where
    some_left : (left : ℕ) → length whole ≡ left * zone_size n → (k : ℕ) × (left ≡ suc k) × (length rest ≡ k * zone_size n)
    some_left zero e = absurd (omega (arith, ap (λ (l : List ℤ). length l) is, length-append x rest, zero-mul (zone_size n), suc-mul n (suc n)))
    some_left (suc k) e = (k, refl, omega (arith, ap (λ (l : List ℤ). length l) is, length-append x rest, suc-mul k (zone_size n)))

    abbrev more : ℕ
    more = (some_left g.left g.long).0

    zones : list_in (zone_size n) g.left whole ≡ bounds_in x ∷ list_in (zone_size n) more rest
    zones = ap₂ (λ (m : ℕ) (l : List ℤ). list_in (zone_size n) m l) (some_left g.left g.long).1 is ∙ zones_of x fits rest more

    -- it can be met with the pattern
    pub next_joins : Joins n (bounds_in pattern) (bounds_in x)
    next_joins = (of_both (rw zones at g.meets)).0

    -- what it has in common with it
    module _ {b : Bool} (c : List ℤ) (left : Left (common n (bounds_in x) (bounds_in pattern)) b (bounds_in c)) where
      pub looking_on : b ≡ false → At n base count work pattern rest
      unfolding first_common
      looking_on gone = record {
        left = more;
        long = (some_left g.left g.long).2;
        meets = (of_both (rw zones at g.meets)).1;
        same = g.same ∙ rw (zones, left_none left gone);
      }

      pub looking_found : b ≡ true → sought n base count work pattern ≡ some (bounds_in c)
      unfolding first_common
      looking_found kept = g.same ∙ rw (zones, left_some left kept)

      -- a start can be picked there
      pub found_ready : {parts : ℕ} → Meeting n parts base count work pattern → length c ≡ zone_size n → b ≡ true → StartReady n c parts
      unfolding common
      found_ready m long kept =
          let (e, in_parts) = m.startable.times (bounds_in c) (looking_found kept) in
          record {
            departures = m.meets.limits.departures;
            source = record { few = omega (arith, m.meets.limits.departures.few); size = long };
            few_parts = m.startable.few;
            small = λ i j hi hj. small_mono (omega arith)
                (fitting_left (pattern_constraints n (bounds_in pattern)) next_joins.meetable (left_some left kept) i j hi hj);
            left = e;
            some_left = in_parts;
          }
