-- The demands on the exact answer hold, of every call.
use Prim.Native.Nat.{ℕ, suc, ◌*◌, ◌-◌, ◌≤◌, ◌<◌}
use native.Mathlib.Omega.{arith}
use mathlib.Core.Path.{◌≡◌, refl, sym, ap}
use mathlib.Core.Logic.{◌⊎◌, inl, inr}
use mathlib.Core.List.{List, map}
use mathlib.Core.Option.{Option, none, some}
use lib.IntN.{ℤ}
use lib.ListN.{take}
use Rattle.ints.proofs.Integers.{impossible}
use Rattle.model.specs.declared.Case.{Case}
use Rattle.model.specs.declared.Fault.{Fault}
use Rattle.std.specs.Prelude.{Result, Ok, Err}
use Rattle.model.specs.declared.Verdict.TheVariants as verdict
use Rattle.model.specs.declared.StartTimes.{StartTimes}
use Rattle.model.specs.Network.{Network, in_parts}
use Rattle.model.specs.Search.{Outcome, parts_of}
use Rattle.model.specs.Faults.{network, outside, case_fault, call_fault}
use Rattle.model.specs.Answers.{cycle_number, start_of, answered, answer}
use Rattle.model.specs.Conditions.{Regular, Limits}
use Rattle.model.specs.Demands.{InLimits, Reaches, Witness, Met, NotBefore, First, Differences, Repeated}
use Rattle.model.proofs.Searched.{parts_some}
use Rattle.model.proofs.Limits.{no_fault, case_limits}
use Rattle.model.proofs.Concluded as concluded
use Rattle.model.proofs.Concluded.{Concluded, conclusion}
use Rattle.model.proofs.DemandsHold.{answer_in, answer_refused, first_times, numbers, demand2, demand3}
use Rattle.decisions.specs.declared.Finding.{Finding}
use Rattle.decisions.specs.declared.Finding.TheVariants as finding
use Rattle.decisions.specs.Decide.{most_far, Decision, undecided, decide_marked, decide_fault, told, decided, finding_numbers}
use Rattle.decisions.specs.Deciding.{Accepted, Decisive, Settles, Finds, FirstTo, Demand1, Demand2, Demand3, Agrees, Decides, DecideGiven}
use Rattle.decisions.proofs.Whole.{Enough}
use Rattle.decisions.proofs.Meant.{Meant, reached_at, clear_at, never_at, undecided_at, meant, enough_marked, never_marked}

-- ---- a call, by its first fault
module _ (c : Case) (horizon : ℕ) where
  pub decided_in : Accepted c horizon → (steps : ℕ) → decided c horizon steps ≡ told (parts_of (network c)) (decide_marked (network c) horizon steps)
  unfolding decided
  decided_in e steps = rw (e, decided)

  pub decided_refused : (f : Fault) → decide_fault c horizon ≡ some f → (steps : ℕ) → decided c horizon steps ≡ Err f
  unfolding decided
  decided_refused f e steps = rw (e, decided)

  -- the horizon of an accepted call
  pub accepted_horizon : Accepted c horizon → (1 ≤ horizon) × (horizon ≤ most_far)
  unfolding decide_fault outside
  accepted_horizon h = let facts = simp no_fault at h in (omega arith, omega arith)

  pub accepted_case : Accepted c horizon → case_fault c ≡ none
  unfolding decide_fault
  accepted_case h = let facts = simp no_fault at h in facts.0

-- ---- what a decision on a network says, as an answer
abbrev value_of : Result Finding Fault → ℕ
value_of (Ok f) = (finding_numbers f).value
value_of (Err f) = 0

abbrev said : Network → Decision → Result Finding Fault
said w o = told (parts_of w) o

module _ {w : Network} {horizon : ℕ} where
  not_refused : {o : Decision} → Meant w horizon o → (f : Fault) → ¬ (said w o ≡ Err f)
  not_refused (reached_at l u before s) f e = impossible cc
  not_refused (clear_at before) f e = impossible cc
  not_refused (never_at nowhere) f e = impossible cc
  not_refused (undecided_at l u before) f e = impossible cc

  -- reached: the first cycle met, and the start
  reached_so : {o : Decision} → Meant w horizon o → (k : ℕ) (t : StartTimes) → Settles (verdict.Reached (cycle_number k) t) (said w o)
      → (xs : List ℤ) × (t ≡ start_of (parts_of w) xs) × FirstTo w horizon k × Witness (in_parts (parts_of w) w) k xs
  reached_so (reached_at {k = j} {xs} l u before s) k t e =
      let q : j ≡ k = ap value_of e in
      let is : FirstTo w horizon j
      = record { from_one = l; to_horizon = u; not_before = before; met = (parts_of w, parts_some w, xs, s) } in
      rw (← q) (xs, cc, is, s)
  reached_so (clear_at before) k t e = impossible cc
  reached_so (never_at nowhere) k t e = impossible cc
  reached_so (undecided_at l u before) k t e = impossible cc

  started : {o : Decision} → Meant w horizon o → (k : ℕ) (t : StartTimes) → Settles (verdict.Reached (cycle_number k) t) (said w o)
      → (t.parts ≡ parts_of w) × Witness (in_parts t.parts w) k (map (λ x. x.0) (take w.n t.times))
  unfolding in_parts
  started m k t e =
      let (xs, is, first, s) = reached_so m k t e in
      rw (is, first_times w.n xs s.size, numbers xs) (refl, s)

  -- the other way, where the steps are enough
  reached_at_first : {o : Decision} → Meant w horizon o → Enough o → (k : ℕ) → FirstTo w horizon k → Finds k (said w o)
  reached_at_first (reached_at {k = j} {xs} l u before s) enough k f =
      let not-less : ¬ (j < k) = λ h. f.not_before j l h (parts_of w, parts_some w, xs, s) in
      let not_more : ¬ (k < j) = λ h. before k f.from_one h f.met in
      let start = start_of (parts_of w) xs in
      (start, ap (λ (i : ℕ). Ok (finding.Settled (verdict.Reached (cycle_number i) start))) (omega arith))
  reached_at_first (clear_at before) enough k f = absurd (before k f.from_one (let h = f.to_horizon in omega arith) f.met)
  reached_at_first (never_at nowhere) enough k f = absurd (nowhere k f.from_one f.met)
  reached_at_first (undecided_at {k = j} l u before) enough k f = absurd (enough j refl)

  otherwise : {o : Decision} → Meant w horizon o → Enough o → NotBefore w (suc horizon)
      → Settles (verdict.Clear (cycle_number horizon)) (said w o) ⊎ Settles verdict.Never (said w o)
  otherwise (reached_at {k} {xs} l u before s) enough unmet = absurd (unmet k l (omega arith) (parts_of w, parts_some w, xs, s))
  otherwise (clear_at before) enough unmet = inl refl
  otherwise (never_at nowhere) enough unmet = inr refl
  otherwise (undecided_at {k = j} l u before) enough unmet = absurd (enough j refl)

  -- clear, never and undecided
  clear_so : {o : Decision} → Meant w horizon o → (k : ℕ) → Settles (verdict.Clear (cycle_number k)) (said w o) → (k ≡ horizon) × NotBefore w (suc horizon)
  clear_so (clear_at before) k e = (sym (ap value_of e), before)
  clear_so (reached_at l u before s) k e = impossible cc
  clear_so (never_at nowhere) k e = impossible cc
  clear_so (undecided_at l u before) k e = impossible cc

  never_so : {o : Decision} → Meant w horizon o → Settles verdict.Never (said w o) → (k : ℕ) → 1 ≤ k → Met w k → ⊥
  never_so (never_at nowhere) e = nowhere
  never_so (reached_at l u before s) e = impossible cc
  never_so (clear_at before) e = impossible cc
  never_so (undecided_at l u before) e = impossible cc

  undecided_so : {o : Decision} → Meant w horizon o → (k : ℕ) → said w o ≡ Ok (finding.Undecided (cycle_number k))
      → (o ≡ undecided k) × (1 ≤ k) × (k ≤ horizon) × NotBefore w k
  undecided_so (undecided_at {k = j} l u before) k e = let q : j ≡ k = ap value_of e in rw (← q) (refl, l, u, before)
  undecided_so (reached_at l u before s) k e = impossible cc
  undecided_so (clear_at before) k e = impossible cc
  undecided_so (never_at nowhere) k e = impossible cc

-- ---- the demands of an accepted call
module _ (c : Case) (horizon steps : ℕ) (ok : Accepted c horizon) where
  abbrev w : Network
  w = network c

  abbrev o : Decision
  o = decide_marked (network c) horizon steps

  limits : Limits (network c)
  limits = case_limits c (accepted_case c horizon ok)

  reg : Regular (network c).n (network c).times
  reg = limits.table.regular

  m : Meant (network c) horizon o
  m = meant (network c) reg horizon steps

  -- the steps were enough for the decision
  enough_of : Decisive (told (parts_of w) o) → Enough o
  enough_of decisive k e = decisive k (ap (told (parts_of w)) e)

  decisive_of : Enough o → Decisive (told (parts_of w) o)
  decisive_of enough k e = enough k (undecided_so m k e).0

  two : Demand2 c horizon (decided c horizon steps)
  unfolding network
  two = rw (decided_in c horizon ok steps) (record {
    first = λ k (t, e). (reached_so m k t e).2;
    exactly = λ d k. (λ (t, e). (reached_so m k t e).2, reached_at_first m (enough_of d) k);
    start = started m;
    otherwise = λ d. otherwise m (enough_of d);
  })

  told_never : (q p : ℕ) (number : ℤ) → Repeated w q p number → Differences w → NotBefore w q → 3 * (q - 1) ≤ horizon
      → Decisive (told (parts_of w) o) → Settles verdict.Never (told (parts_of w) o)
  told_never q p number s differences before long d =
      ap (told (parts_of w))
      (never_marked w reg horizon s differences limits.table.departures.some before long steps (enough_of d))

  three : Demand3 c horizon steps (decided c horizon steps)
  unfolding network
  three = rw (decided_in c horizon ok steps) (record {
    to_horizon = clear_so m;
    without_end = never_so m;
    so_far = λ k e. let (is, l, u, before) = undecided_so m k e in (l, u, before);
    enough = λ h. decisive_of (enough_marked w reg horizon steps h);
    told_never = told_never;
  })

-- ---- beside document 01's verdict
-- a call that is not refused is in the limits
in_limits : (c : Case) (capacity size : ℕ) → ((f : Fault) → ¬ (answer c capacity size ≡ Err f)) → InLimits c capacity size
in_limits c capacity size h = go (call_fault c capacity size) refl
  where
    go : (o : Option Fault) → call_fault c capacity size ≡ o → o ≡ none
    go none e = refl
    go (some f) e = absurd (h f (answer_refused c capacity size f e))

-- clear: nothing is met up to the case's own horizon
clear_means : {w : Network} {capacity : ℕ} {a : Outcome} → Concluded w capacity a → (k : ℕ) → answered a ≡ Ok (verdict.Clear (cycle_number k))
    → NotBefore w (suc w.horizon)
clear_means (concluded.clear_at s u a) k e = u
clear_means (concluded.reached_at f s a) k e = impossible cc
clear_means (concluded.is_table_full f h) k e = impossible cc
clear_means (concluded.never_at h) k e = impossible cc

module _ (c : Case) (horizon steps : ℕ) (ok : Accepted c horizon) where
  -- nothing is met where document 01 says never
  never_means : (capacity size : ℕ) → answer c capacity size ≡ Ok verdict.Never → (k : ℕ) → 1 ≤ k → Met (network c) k → ⊥
  never_means capacity size e = (demand3 c capacity size (in_limits c capacity size (λ f g. impossible cc))).without_end e

  first_means : (capacity size k : ℕ) → Reaches k (answer c capacity size) → First (network c) k
  first_means capacity size k (s, e) = (demand2 c capacity size (in_limits c capacity size (λ f g. impossible cc))).first k (s, e)

  unmet_means : (capacity size k : ℕ) → answer c capacity size ≡ Ok (verdict.Clear (cycle_number k)) → NotBefore (network c) (suc (network c).horizon)
  unmet_means capacity size k e =
      let l = limits c horizon steps ok in
      let inside = in_limits c capacity size (λ f g. impossible cc) in
      clear_means (conclusion (network c) capacity l.table.regular l.table.departures.some) k (rw (answer_in c capacity size inside) at e)

  agrees : Decisive (decided c horizon steps) → Agrees c horizon (decided c horizon steps)
  unfolding network
  agrees d =
      let is = two c horizon steps ok in
      record {
        reached = λ capacity size k far e.
            let f = first_means capacity size k e in
            (is.exactly d k).1 (record { from_one = f.from_one; to_horizon = omega (arith, f.to_horizon); not_before = f.not_before; met = f.met });
        clear = λ capacity size k near e. is.otherwise d (λ j l u. unmet_means capacity size k e j l (omega arith));
        never = λ capacity size e. swap (is.otherwise d (λ j l u. never_means capacity size e j l));
        never_too = λ capacity size e again least differences long.
            (three c horizon steps ok).told_never again.q again.p again.number least.repeated differences
            (λ j l u. never_means capacity size e j l) long d;
      }
    where
      swap : {X Y : Type 0} → X ⊎ Y → Y ⊎ X
      swap (inl x) = inr x
      swap (inr y) = inl y

-- ---- every call
module _ (c : Case) (horizon steps : ℕ) where
  one : Demand1 c horizon (decided c horizon steps)
  one = record {
    refuses = λ f e. decided_refused c horizon f e steps;
    answers = λ ok f e. not_refused (m c horizon steps ok) f (rw (decided_in c horizon ok steps) at e);
  }

  pub decides : Decides c horizon steps (decided c horizon steps)
  decides = record { one = one; two = two c horizon steps; three = three c horizon steps; agrees = agrees c horizon steps }

  -- of any answer that is the defined one
  pub given : {r : Result Finding Fault} → r ≡ decided c horizon steps → DecideGiven c horizon steps r
  given e = record { answer = e; demands = rw e decides }
