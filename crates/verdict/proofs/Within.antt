-- What a case within the limits gives the functions that search it.
use Prim.Native.Nat.{ℕ, ◌≤◌}
use native.Mathlib.Omega.{arith}
use mathlib.Core.Path.{◌≡◌, refl, sym, ap, ◌∙◌}
use mathlib.Core.Bool.{Bool, ◌||◌}
use mathlib.Core.List.{List}
use lib.IntN.{ℤ}
use Rattle.std.specs.Prelude.{Result, Option, Some, None}
use Rattle.model.specs.declared.Case.{Case}
use Rattle.model.specs.declared.Fault.{Fault}
use Rattle.model.specs.declared.Verdict.{Verdict}
use Rattle.model.specs.Sizes.{most_cycles}
use Rattle.model.specs.Pattern.{only_differences}
use Rattle.model.specs.Matrix.{Matrix}
use Rattle.model.specs.Network.{Network, repeat_of}
use Rattle.model.specs.Search as S
use Rattle.model.specs.Search.{Outcome, plan, plan_with, lists, outcome, parts_of, settled, search_from}
use Rattle.model.specs.Answers.{answered}
use Rattle.model.specs.Faults.{network}
use Rattle.model.specs.Demands.{InLimits}
use Rattle.model.proofs.Limits.{limits_of, room_of}
use Rattle.model.proofs.Repeats.{repeat_sound}
use Rattle.model.proofs.Searched as Q
use Rattle.model.proofs.Searched.{plan_is}
use Rattle.memory.specs.Numbers.{bounds_in, times_in}
use Rattle.memory.specs.Networks.{network_in, CaseIn}
use Rattle.judge.specs.Judgement.{start_parts}
use Rattle.judge.proofs.Laws.{parts_are}
use Rattle.powers.specs.declared.Again.{Again}
use Rattle.powers.specs.Readings.{repeat_read, repeat_in, TableReady}
use Rattle.search.specs.Searching.{Searchable, Searched}
use Rattle.verdict.specs.declared.Plan.{Plan}
use Rattle.verdict.specs.Planning.{Planned, Counted}

-- ---- the same network with another horizon: a search does not look at the horizon itself
abbrev pub within : Network → ℕ → Network
within w h = record { n = w.n; horizon = h; times = w.times; start = w.start; target = w.target }

pub same_search : (w : Network) (h capacity r k : ℕ) (zs : List Matrix) (end : Outcome)
    → search_from (within w h) capacity r k zs end ≡ search_from w capacity r k zs end
unfolding search_from settled parts_of
same_search w h capacity r k zs end = refl

same_from_first : (w : Network) (h capacity r : ℕ) (end : Outcome)
    → search_from (within w h) capacity r 1 (lists (within w h) 0) end ≡ search_from w capacity r 1 (lists w 0) end
unfolding lists
same_from_first w h capacity r end = same_search w h capacity r 1 (lists w 0) end

-- the searched horizon is within the horizon
plan_within : (w : Network) → (plan w).cycles ≤ w.horizon
plan_within w = go (plan_is w)
  where
    go : {p : S.Plan} → Q.Planned w p → p.cycles ≤ w.horizon
    go (Q.Planned.whole n) = omega arith
    go (Q.Planned.short s) = s.long_enough

-- ---- the case in memory
module _ (c : Case) (capacity size : ℕ) (h : InLimits c capacity size) {times start target : List ℤ} (l : CaseIn c times start target) where
  network_is : (k : ℕ) → network_in c.n k times start target ≡ within (network c) k
  unfolding network
  network_is k = ap (λ (w : Network). within w k) l.is

  times_are : times_in times ≡ (network c).times
  times_are = ap (λ (w : Network). w.times) (network_is 0)

  -- its powers can be searched
  pub powers_ready : TableReady c.n times
  unfolding network
  powers_ready = record { table = l.table; limits = rw times_are (limits_of c capacity size h).table }

  module _ (again : Option Again) (found : repeat_read again ≡ repeat_in c.n times) where
    -- what is found in them is the definition's first repeated power
    repeat_is : repeat_read again ≡ repeat_of (network c)
    unfolding repeat_of network
    repeat_is = found ∙ rw times_are refl

    pub counted : Counted again × (c.horizon.0 ≤ most_cycles)
    unfolding network
    counted = (go again repeat_is, (limits_of c capacity size h).few_cycles)
      where
        go : (r : Option Again) → repeat_read r ≡ repeat_of (network c) → Counted r
        go None e = tt
        go (Some a) e = let r = repeat_sound (network c) (sym e) in omega (arith, r.q_is)

    -- the searched horizon is that of the definition
    module _ (free : Bool) (free_is : free ≡ (only_differences c.n (bounds_in start) || only_differences c.n (bounds_in target))) (p : Plan)
        (made : Planned (plan_with c.horizon.0 (repeat_read again) free) p) where
      planned : Planned (plan (network c)) p
      unfolding plan network
      planned =
          let starts = ap (λ (w : Network). w.start) (network_is 0) in
          let targets = ap (λ (w : Network). w.target) (network_is 0) in
          rw (repeat_is, free_is, starts, targets) at made

      -- over which the network in memory can be searched
      pub searchable : (parts : ℕ) → parts ≡ start_parts c → Searchable c.n parts capacity p.cycles.0 size times start target
      unfolding network
      searchable parts e =
          let (some_zones, few-zones, long) = room_of c capacity size h in
          let w = limits_of c capacity size h in
          record {
            horizon = c.horizon.0;
            limits = rw (network_is c.horizon.0) w;
            parts_told = rw (network_is c.horizon.0) (e ∙ parts_are c w.table.departures);
            within = omega (arith, planned.cycles, plan_within (network c));
            table = l.table;
            start_held = l.start_held;
            target_held = l.target_held;
            some_zones = some_zones;
            long = long;
          }

      -- and what the search over it answers is the outcome
      pub outcome_found : (r : Result Verdict Fault) → Searched (network_in c.n p.cycles.0 times start target) capacity p.cycles.0 p.end r
          → r ≡ answered (outcome (network c) capacity)
      unfolding outcome
      outcome_found r s =
          (rw (network_is p.cycles.0, planned.cycles, planned.end) at s)
          ∙ ap answered (same_from_first (network c) (plan (network c)).cycles capacity (plan (network c)).cycles (plan (network c)).end)
