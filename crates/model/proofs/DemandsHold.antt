-- The three demands hold, of every call.
use Prim.Native.Nat.{ℕ, suc, ◌≤◌, ◌<◌}
use native.Mathlib.Omega.{arith}
use mathlib.Core.Path.{◌≡◌, refl, ap, ◌∙◌}
use mathlib.Core.Logic.{◌↔◌, ◌⊎◌, inl, inr, ⊎_elim}
use mathlib.Core.List.{List, [], ◌∷◌, map}
use mathlib.Core.Option.{some}
use Rattle.ints.proofs.Integers.{impossible}
use Rattle.model.specs.declared.Fault.TheVariants as fault
use lib.IntN.{ℤ}
use lib.ListN.{length, take, length-map}
use lib.Seq.{take_at}
use Rattle.model.specs.declared.Case.{Case}
use Rattle.model.specs.declared.Fault.{Fault}
use Rattle.std.specs.Prelude.{Result, Ok, Err}
use Rattle.model.specs.declared.Verdict.{Verdict}
use Rattle.model.specs.declared.StartTimes.{StartTimes}
use Rattle.model.specs.declared.Verdict.TheVariants as verdict
use Rattle.model.specs.Matrix.{Matrix}
use Rattle.model.specs.Network.{Network, in_parts}
use Rattle.model.specs.Search.{Outcome, reached, clear, never, table_full, first_common, parts_of, start_in, outcome, lists}
use Rattle.model.specs.Faults.{network, call_fault}
use Rattle.model.specs.Answers.{seconds, cycle_number, all_times, start_of, numbers_of, answered}
use Rattle.model.specs.Answers.{answer, workspace_after, answer_packed, workspace_after_packed}
use Rattle.model.specs.Zones.{ListsOfZones}
use Rattle.model.specs.Demands as D
use Rattle.model.specs.Demands.{InLimits, Ended, Reaches, Demand1, Witness, Met, NotBefore, First, EndsEarly, EndsAt}
use Rattle.model.specs.Demands.{FullAt, Demand2, Repeats, RunsDry, NeverHolds, Demand3, Demands, PackedDemands, ListLimits, Reserved}
use Rattle.model.specs.Conditions.{Regular}
use Rattle.model.proofs.ZoneSets.{lists_of_zones}
use Rattle.model.proofs.Searched.{met_by}
use Rattle.model.proofs.Limits.{limits_of}
use Rattle.model.proofs.Sizes.{list_limits}
use Rattle.model.proofs.Parsed.{parsed_call}
use Rattle.model.proofs.Beyond.{beyond}
use Rattle.model.proofs.Dry.{dry_beyond}
use Rattle.model.proofs.Concluded as concluded
use Rattle.model.proofs.Concluded.{Concluded, reached_at, clear_at, never_at, conclusion}

ended : (o : Outcome) → Ended (numbers_of (answered o))
ended (reached k parts xs) = D.Ended.reached k
ended (clear k) = D.Ended.clear k
ended never = D.Ended.never
ended (table_full k) = D.Ended.is_table_full k

-- ---- the answer of a call, by its first fault
module _ (c : Case) (capacity size : ℕ) where
  pub answer_in : InLimits c capacity size → answer c capacity size ≡ answered (outcome (network c) capacity)
  unfolding answer
  answer_in e = rw (e, answer)

  pub answer_refused : (f : Fault) → call_fault c capacity size ≡ some f → answer c capacity size ≡ Err f
  unfolding answer
  answer_refused f e = rw (e, answer)

pub demand1 : (c : Case) (capacity : ℕ) (work : List ℤ) → Demand1 c capacity work (answer c capacity (length work)) (workspace_after c capacity work)
unfolding workspace_after
demand1 c capacity work = record {
  ends = λ e. (rw (answer_in c capacity (length work) e) (ended (outcome (network c) capacity)), rw e);
  refuses = λ f e. (answer_refused c capacity (length work) f e, rw e);
}

-- the first n of n times in an array are those
pub first_times : (n : ℕ) (xs : List ℤ) → length xs ≡ n → take n (all_times xs) ≡ map seconds xs
first_times n xs l = take_at (map seconds xs) _ n (length-map xs seconds ∙ l)

-- the numbers of times
pub numbers : (xs : List ℤ) → map (λ x. x.0) (map seconds xs) ≡ xs
numbers [] = refl
numbers (x ∷ xs) = ap (◌∷◌ x) (numbers xs)

abbrev value_of : Result Verdict Fault → ℕ
value_of r = (numbers_of r).value

-- ---- what a network's outcome says, as an answer
-- reached comes of the first cycle met, with the start picked
pub record ReachedAt (w : Network) (o : Outcome) (k : ℕ) (s : StartTimes) : Type 0 where
  pub zone : Matrix
  pub is_first : First w k
  pub in_common : first_common w.n w.start (lists w k) ≡ some zone
  pub is : o ≡ reached k (parts_of w) (start_in w.n (parts_of w) zone)
  pub start_is : s ≡ start_of (parts_of w) (start_in w.n (parts_of w) zone)

pub reached_only : {w : Network} {capacity : ℕ} {o : Outcome} → Concluded w capacity o → (k : ℕ) (s : StartTimes)
    → answered o ≡ Ok (verdict.Reached (cycle_number k) s) → ReachedAt w o k s
reached_only (reached_at {d} {k = j} f c a) k s e =
    let q : j ≡ k = ap value_of e in
    rw (← q) (record { zone = d; is_first = f; in_common = c; is = refl; start_is = cc })
reached_only (concluded.is_table_full e h) k s q = impossible cc
reached_only (clear_at c u a) k s q = impossible cc
reached_only (never_at h) k s q = impossible cc

module _ (w : Network) (capacity : ℕ) (reg : Regular w.n w.times) (some_row : 1 ≤ w.n) where
  first_once : {j k : ℕ} → First w j → First w k → j ≡ k
  first_once {j} {k} f g =
      let not-less : ¬ (j < k) = λ h. g.not_before j f.from_one h f.met in
      let not_more : ¬ (k < j) = λ h. f.not_before k g.from_one h g.met in
      omega arith

  early : {k : ℕ} → FullAt w capacity k → EndsEarly w capacity
  early {k} (e, h) = record { at = k; from_one = e.from_one; searched = e.searched; longer = h; unmet = e.unmet }

  -- never means never
  never_met : NeverHolds w capacity → (k : ℕ) → 1 ≤ k → Met w k → ⊥
  never_met h = ⊎_elim (λ s. beyond w reg s.again s.first s.proviso s.unmet) (dry_beyond w reg) h.cause

  only_first : {o : Outcome} → Concluded w capacity o → (EndsEarly w capacity → ⊥) → (k : ℕ) → First w k → Reaches k (answered o)
  only_first (reached_at {d = z} f s a) d k g =
      let start = start_of (parts_of w) (start_in w.n (parts_of w) z) in
      (start, ap (λ (i : ℕ). Ok (verdict.Reached (cycle_number i) start)) (first_once f g))
  only_first (concluded.is_table_full e h) d k g = absurd (d (early (e, h)))
  only_first (clear_at s unmet a) d k g = absurd (unmet k g.from_one (let h = g.to_horizon in omega arith) g.met)
  only_first (never_at h) d k g = absurd (never_met h k g.from_one g.met)

  started : {o : Outcome} → Concluded w capacity o → (k : ℕ) (s : StartTimes) → answered o ≡ Ok (verdict.Reached (cycle_number k) s)
      → (s.parts ≡ parts_of w) × Witness (in_parts s.parts w) k (map (λ x. x.0) (take w.n s.times))
  unfolding in_parts
  started c k s e =
      let r = reached_only c k s e in
      let xs = start_in w.n (parts_of w) r.zone in
      let met = met_by w reg k r.in_common in
      rw (r.start_is, first_times w.n xs met.size, numbers xs) (refl, met)

  otherwise : {o : Outcome} → Concluded w capacity o → (EndsEarly w capacity → ⊥) → NotBefore w (suc w.horizon)
      → (answered o ≡ Ok (verdict.Clear (cycle_number w.horizon))) ⊎ (answered o ≡ Ok verdict.Never)
  otherwise (reached_at f s a) d unmet = absurd (unmet _ f.from_one (let h = f.to_horizon in omega arith) f.met)
  otherwise (concluded.is_table_full e h) d unmet = absurd (d (early (e, h)))
  otherwise (clear_at s u a) d unmet = inl refl
  otherwise (never_at h) d unmet = inr refl

  -- clear: neither cause of never
  clear_means : {o : Outcome} → Concluded w capacity o → answered o ≡ Ok (verdict.Clear (cycle_number w.horizon)) → (Repeats w → ⊥) × (RunsDry w → ⊥)
  clear_means (reached_at f s a) e = impossible cc
  clear_means (concluded.is_table_full f h) e = impossible cc
  clear_means (clear_at neither unmet a) e = (λ s. neither (inl s), λ d. neither (inr d))
  clear_means (never_at h) e = impossible cc

  never_exactly : {o : Outcome} → Concluded w capacity o → (answered o ≡ Ok verdict.Never) ↔ NeverHolds w capacity
  never_exactly (reached_at f s a) = (λ e. impossible cc, λ h. absurd (never_met h _ f.from_one f.met))
  never_exactly (concluded.is_table_full e f) = (λ e. impossible cc, λ h. absurd (h.not_early (early (e, f))))
  never_exactly (clear_at neither unmet a) = (λ e. impossible cc, λ h. absurd (neither h.cause))
  never_exactly (never_at h) = (λ e. h, λ g. refl)

  -- two lists cannot both end the search
  ends_once : {j k : ℕ} → FullAt w capacity j → FullAt w capacity k → j ≡ k
  ends_once {j} {k} (a, s) (b, t) =
      let not-less : ¬ (j < k) = λ h. let fits = b.fit_before j a.from_one h in omega arith in
      let not_more : ¬ (k < j) = λ h. let fits = a.fit_before k b.from_one h in omega arith in
      omega arith

  full_at : {o : Outcome} → Concluded w capacity o → (k : ℕ) → (answered o ≡ Err (fault.TableFull (cycle_number k))) ↔ FullAt w capacity k
  full_at (concluded.is_table_full {k = j} e h) k = (
    λ q. let p : j ≡ k = ap value_of q in rw (← p) (e, h),
    λ f. ap (λ (i : ℕ). Err (fault.TableFull (cycle_number i))) (ends_once (e, h) f),
  )
  full_at (reached_at f s a) k = (λ q. impossible cc, λ g. absurd (a (early g)))
  full_at (clear_at s u a) k = (λ q. impossible cc, λ g. absurd (a (early g)))
  full_at (never_at h) k = (λ q. impossible cc, λ g. absurd (h.not_early (early g)))

-- ---- for a case within the limits, whose table is regular
module _ (c : Case) (capacity size : ℕ) (limits : InLimits c capacity size) where
  abbrev w : Network
  w = network c

  regular_case : Regular (network c).n (network c).times
  regular_case = (limits_of c capacity size limits).table.regular

  some_departures : 1 ≤ (network c).n
  some_departures = (limits_of c capacity size limits).table.departures.some

  concludes : Concluded (network c) capacity (outcome (network c) capacity)
  concludes = conclusion (network c) capacity regular_case some_departures

  pub demand2 : Demand2 c capacity (answer c capacity size)
  unfolding network
  demand2 = rw (answer_in c capacity size limits) (record {
    first = λ k (s, e). (reached_only concludes k s e).is_first;
    exactly = λ d k. (λ (s, e). (reached_only concludes k s e).is_first, only_first w capacity regular_case some_departures concludes d k);
    start = started w capacity regular_case some_departures concludes;
    otherwise = otherwise w capacity regular_case some_departures concludes;
    full = full_at w capacity regular_case some_departures concludes;
  })

  never_is : (answer c capacity size ≡ Ok verdict.Never) ↔ NeverHolds (network c) capacity
  never_is = rw (answer_in c capacity size limits) (never_exactly (network c) capacity regular_case some_departures concludes)

  pub demand3 : Demand3 c capacity (answer c capacity size)
  unfolding network
  demand3 = record {
    beyond = beyond (network c) regular_case;
    dry_beyond = dry_beyond (network c) regular_case;
    exactly = never_is;
    clear = rw (answer_in c capacity size limits) (clear_means w capacity regular_case some_departures concludes);
    without_end = λ e. never_met w capacity regular_case some_departures (never_is.0 e);
  }

pub demands : (c : Case) (capacity : ℕ) (work : List ℤ) → Demands c capacity work (answer c capacity (length work)) (workspace_after c capacity work)
demands c capacity work = record {
  one = demand1 c capacity work;
  two = demand2 c capacity (length work);
  three = demand3 c capacity (length work);
}

pub packed_demands : (s : List ℕ) (capacity : ℕ) (work : List ℤ)
    → PackedDemands s capacity work (answer_packed s capacity (length work)) (workspace_after_packed s capacity work)
unfolding answer_packed workspace_after_packed
packed_demands s capacity work = record {
  refuses = λ f e. (rw (e, answer_packed), rw (e, workspace_after_packed));
  reads = λ c q e.
      let answered-so : answer_packed s capacity (length work) ≡ answer c capacity (length work) = rw (e, answer_packed) in
      let left_so : workspace_after_packed s capacity work ≡ workspace_after c capacity work = rw (e, workspace_after_packed) in
      (parsed_call s c q e capacity (length work), rw (answered-so, left_so) (demands c capacity work));
}

-- the lists of a case within the limits are document 01's
pub zones_of_case : (c : Case) (capacity size : ℕ) → InLimits c capacity size → ListsOfZones (network c)
unfolding network
zones_of_case c capacity size l = lists_of_zones (network c) (limits_of c capacity size l).table.regular

-- request [9]'s limits of its lists
pub limits_of_case : (c : Case) (capacity size : ℕ) → InLimits c capacity size → ListLimits (network c)
unfolding network
limits_of_case c capacity size l = let limits = limits_of c capacity size l in list_limits (network c) limits.table.times_small limits.target_small

pub reserved : Reserved
reserved (fault.CaseEnds p) e = impossible cc
reserved fault.Departures e = impossible cc
reserved fault.Horizon e = impossible cc
reserved (fault.Time p) e = impossible cc
reserved (fault.EmptyRow p) e = impossible cc
reserved (fault.Bound p) e = impossible cc
reserved (fault.FillBit p) e = impossible cc
reserved (fault.ExtraByte p) e = impossible cc
reserved fault.Capacity e = impossible cc
reserved fault.Workspace e = impossible cc
reserved (fault.TableFull k) e = impossible cc
reserved (fault.StartTime i) e = impossible cc
reserved (fault.Output bytes) e = impossible cc
reserved fault.Entry e = impossible cc
reserved (fault.Form p) e = impossible cc
