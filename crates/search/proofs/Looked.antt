-- One cycle: the list that is made, and what is found in it.
use Prim.Native.Nat.{ℕ, suc, ◌*◌, ◌≤◌, ◌<◌}
use native.Mathlib.Omega.{arith}
use native.Mathlib.Nat.{mul-le-mul_right, suc-mul}
use mathlib.Core.Path.{◌≡◌, refl, sym, ap, ◌∙◌}
use mathlib.Core.Logic.{⊎_elim}
use Rattle.std.specs.Prelude as std
use mathlib.Core.List.{List}
use mathlib.Core.Option.{Option, none, some}
use lib.IntN.{ℤ}
use lib.ListN.{length, take, drop}
use Rattle.ints.specs.declared.Seconds.{Seconds}
use Rattle.ints.proofs.Integers.{impossible}
use Rattle.model.specs.declared.Verdict.TheVariants.{Reached}
use Rattle.model.specs.Sizes.{zone_size}
use Rattle.model.specs.Matrix.{Matrix}
use Rattle.model.specs.Search.{Outcome, reached, previous, start_in}
use Rattle.model.specs.Answers.{cycle_number, answered, all_times}
use Rattle.model.proofs.Tabulated.{tabulate_ext}
use Rattle.memory.specs.Numbers.{bounds_in, times_in}
use Rattle.memory.proofs.Side.{part_of_lem}
use Rattle.lists.specs.Lists.{zone_at, list_in, ListHeld, Building, NextList, Meeting, found_by}
use Rattle.lists.proofs.Held.{held_open, held_list}
use Rattle.search.specs.Searching.{Lookable}

-- the list that was made can be looked through
pub meeting : {n parts capacity source goal count made : ℕ} {work times start seen after : List ℤ}
    → Building n capacity source goal count work times seen → length after ≡ length work
    → Lookable n parts start (previous n (times_in times) (list_in (zone_size n) count (drop source work)))
    → ListHeld (zone_size n) capacity (previous n (times_in times) (list_in (zone_size n) count (drop source work))) (std.Some made)
    (drop goal work) (drop goal after)
    → Meeting n parts goal made after start
meeting {n} {capacity} {made} b same looking h =
    let (c, l) = held_list h in
    let few : made ≤ capacity = omega (arith, held_open h) in
    let room = mul-le-mul_right (zone_size n) few in
    let long = b.halves.long in
    record {
      meets = rw l looking.meets;
      startable = rw l looking.startable;
      long = ⊎_elim (λ e. omega arith) (λ e. omega arith) b.halves.apart;
    }

-- the list that it was made from stays where it is
front_same : (size count t : ℕ) (l : List ℤ) → count * size ≤ t → list_in size count (take t l) ≡ list_in size count l
unfolding list_in zone_at
front_same size count t l h = tabulate_ext count 0 _ _ (λ k u v.
    let below : k < count = omega arith in
    ap bounds_in (part_of_lem t (k * size) size l (omega (arith, mul-le-mul_right size below, suc-mul k size))))

pub source_same : {n capacity source goal count : ℕ} {times work seen : List ℤ} {r : std.Option ℕ} (after : List ℤ) {seen' : List ℤ}
    → Building n capacity source goal count work times seen → NextList n capacity source goal count times work seen r after seen'
    → list_in (zone_size n) count (drop source after) ≡ list_in (zone_size n) count (drop source work)
source_same {n} {capacity} {source} {goal} {count} {work} after b h =
    let room = mul-le-mul_right (zone_size n) b.inside in
    ⊎_elim (λ e.
    let fits : count * zone_size n ≤ goal = omega arith in
    rw e.0 (sym (front_same (zone_size n) count goal after fits) ∙ ap (list_in (zone_size n) count) h.front
    ∙ front_same (zone_size n) count goal work fits)) (λ e.
    let same : drop (capacity * zone_size n) after ≡ drop (capacity * zone_size n) work = rw e.1 at h.list.beyond in
    rw e.0 (ap (list_in (zone_size n) count) same)) b.halves.apart

-- what is found
module _ (n parts : ℕ) where
  pub found_some : (o : Option Matrix) {x : List Seconds} → std.Some x ≡ found_by n parts o → (c : Matrix) × (o ≡ some c) × (x ≡ all_times (start_in n parts c))
  unfolding found_by
  found_some none e = impossible cc
  found_some (some c) e = (c, refl, cc)

  pub found_none : (o : Option Matrix) → std.None ≡ found_by n parts o → o ≡ none
  unfolding found_by
  found_none none e = refl
  found_none (some c) e = impossible cc

-- the answer where a list meets the start
pub answer_met : {parts k k' : ℕ} {xs : List ℤ} {x : List Seconds} {o : Outcome} → x ≡ all_times xs → k' ≡ suc k → o ≡ reached (suc k) parts xs
    → std.Ok (Reached (cycle_number k') (record { parts = parts; times = x })) ≡ answered o
answer_met e f g = rw (e, f, g) refl
