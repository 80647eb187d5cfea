-- The loop over the cycles where each list is the one before it with the clock moved.
use Prim.Native.Nat.{ℕ, zero, suc, ◌-◌, ◌≤◌, ◌<◌}
use native.Mathlib.Omega.{arith}
use mathlib.Core.Path.{◌≡◌, refl, ◌∙◌}
use mathlib.Core.Bool.{false}
use mathlib.Core.List.{List, map}
use mathlib.Core.Option.{Option, none, some}
use lib.IntN.{ℤ, pos}
use lib.ListN.{length, drop}
use Rattle.model.specs.Sizes.{zone_size}
use Rattle.model.specs.Lists.{tabulate}
use Rattle.model.specs.Matrix.{Matrix}
use Rattle.model.specs.Search.{Outcome, reached, start_in, first_common, dry, search_by}
use Rattle.model.proofs.Fitted.{fitting_bounded}
use Rattle.model.proofs.Listed.{every_map}
use Rattle.memory.specs.Numbers.{bounds_in}
use Rattle.lists.specs.Lists.{list_in, Meeting}
use Rattle.moves.specs.Moving.{moved, Movable, MoveList}
use Rattle.moves.proofs.Previous.{still_same}
use Rattle.search.specs.Searching.{Lookable, met_by_cycle, moved_search, moved_on, MovingOn}

pub not_dry : (size count : ℕ) (work : List ℤ) → 1 ≤ count → dry (list_in size count work) ≡ false
unfolding dry list_in tabulate
not_dry size zero work h = absurd (omega arith)
not_dry size (suc count) work h = refl

-- the search where the list does not change any more
search_stays : (step : List Matrix → List Matrix) (ends : ℕ → List Matrix → Option Outcome) (zs : List Matrix) → step zs ≡ zs → dry zs ≡ false
    → ((k : ℕ) → ends k zs ≡ none) → (r k : ℕ) (e : Outcome) → search_by step ends r k zs e ≡ e
unfolding search_by
search_stays step ends zs same wet free zero k e = rw wet
search_stays step ends zs same wet free (suc r) k e = rw (wet, same, free k, same) (search_stays step ends zs same wet free r (suc k) e)

-- list k is at base, of lists up to last
pub record Going (n parts base count : ℕ) (c : ℤ) (before start : List ℤ) (first last : ℕ) (work : List ℤ) (k : ℕ) : Type 0 where
  pub long : length work ≡ length before
  pub each : (j : ℕ) → j ≤ last - k → Lookable n parts start (moved_on n c j (list_in (zone_size n) count (drop base work)))
  pub rest : (e : Outcome) → moved_search n parts c (bounds_in start) (last - first) (suc first) (list_in (zone_size n) count (drop base before)) e
      ≡ moved_search n parts c (bounds_in start) (last - k) (suc k) (list_in (zone_size n) count (drop base work)) e

module _ {n parts base count cycles : ℕ} {c : ℤ} {before start : List ℤ} (q : MovingOn n parts base count cycles c before start) where
  abbrev list : List ℤ → List Matrix
  list work = list_in (zone_size n) count (drop base work)

  abbrev searched : ℕ → ℕ → List Matrix → Outcome → Outcome
  searched r k zs e = moved_search n parts c (bounds_in start) r k zs e

  wet : (work : List ℤ) → dry (list work) ≡ false
  wet work = not_dry (zone_size n) count (drop base work) q.some_zone

  -- the clock stays
  pub stays : c ≡ pos 0 → (r k : ℕ) (e : Outcome) → searched r k (list before) e ≡ e
  unfolding moved_search met_by_cycle moved_on
  stays none-later r k e =
      let zones = every_map (λ d j. j.closed) (q.each 0 (omega arith)).meets.each in
      search_stays (map (moved n c)) (met_by_cycle n parts (bounds_in start)) (list before) (rw none-later (still_same n zones)) (wet before)
      (λ j. rw q.apart) r k e

  abbrev At : ℕ → ℕ → List ℤ → ℕ → Type 0
  At first last work k = Going n parts base count c before start first last work k

  pub going_start : (first last : ℕ) → cycles ≡ last - first → At first last before first
  going_start first last e = record { long = refl; each = λ j h. q.each j (omega arith); rest = λ o. refl }

  pub going_done : {first last : ℕ} {work : List ℤ} (k : ℕ) → At first last work k → last ≤ k → (e : Outcome)
      → searched (last - first) (suc first) (list before) e ≡ e
  unfolding moved_search search_by
  going_done {last} {work} k g h e = let z : last - k ≡ 0 = omega arith in g.rest e ∙ rw (z, wet work)

  module _ {first last : ℕ} {work : List ℤ} {k : ℕ} (g : At first last work k) (more : k < last) where
    abbrev next : List Matrix
    next = map (moved n c) (list work)

    next_looked : Lookable n parts start next
    unfolding moved_on
    next_looked = g.each 1 (omega arith)

    pub movable : Movable n base count c work
    movable = record {
      changing = record { few = next_looked.meets.limits.departures.few; small = q.small };
      inside = rw g.long q.inside;
      each = every_map (λ d j. fitting_bounded j.meetable) next_looked.meets.each;
    }

    -- what list k + 1 says
    onward : (o : Option Outcome) → met_by_cycle n parts (bounds_in start) (suc k) next ≡ o → (e : Outcome)
        → searched (last - first) (suc first) (list before) e ≡ elim o [ some x ↦ x | none ↦ searched (last - suc k) (suc (suc k)) next e ]
    unfolding moved_search search_by
    onward o is e =
        let d : last - k ≡ suc (last - suc k) = omega arith in
        g.rest e ∙ rw (d, wet work, is)

    module _ {after : List ℤ} (m : MoveList n base count c work after) (same : length after ≡ length work) where
      pub meeting : Meeting n parts base count after start
      meeting = record {
        meets = rw m.list next_looked.meets;
        startable = rw m.list next_looked.startable;
        long = omega (arith, q.inside, g.long);
      }

      pub going_met : {z : Matrix} → first_common n (bounds_in start) (list after) ≡ some z → (e : Outcome)
          → searched (last - first) (suc first) (list before) e ≡ reached (suc k) parts (start_in n parts z)
      unfolding met_by_cycle
      going_met {z} found e = onward (some (reached (suc k) parts (start_in n parts z))) (rw (rw m.list at found)) e

      pub going_on : first_common n (bounds_in start) (list after) ≡ none → At first last after (suc k)
      unfolding met_by_cycle moved_on
      going_on found = record {
        long = same ∙ g.long;
        each = λ j h. rw m.list (g.each (suc j) (omega arith));
        rest = λ e. rw m.list (onward none (rw (rw m.list at found)) e);
      }
