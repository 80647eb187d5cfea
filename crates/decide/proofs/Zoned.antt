-- A network in memory: its start and its target as zones in whole parts, and the decision between them.
use Prim.Native.Nat.{ℕ, suc, ◌≤◌}
use native.Mathlib.Omega.{arith}
use mathlib.Core.Path.{◌≡◌, sym, ap, ap₂, ◌∙◌}
use mathlib.Core.Bool.{◌||◌}
use mathlib.Core.List.{List}
use mathlib.Core.Option.{none}
use lib.IntN.{ℤ}
use lib.ListN.{take}
use Rattle.std.specs.Prelude.{Ok}
use Rattle.model.specs.Sizes.{most_departures, zone_size}
use Rattle.model.specs.Matrix.{Matrix, tighten}
use Rattle.model.specs.Pattern.{pattern_constraints, only_differences}
use Rattle.model.specs.Network.{Network}
use Rattle.model.specs.Search.{parts_of}
use Rattle.model.specs.Conditions.{Limits}
use Rattle.model.specs.declared.Verdict.TheVariants as verdict
use Rattle.model.proofs.Patterns.{closed_some}
use Rattle.model.proofs.Wholes.{whole_zone, wholes_closed}
use Rattle.model.proofs.Searched.{parts_some, parts_few}
use Rattle.memory.specs.Numbers as Memory
use Rattle.memory.specs.Wide.{bounds_in}
use Rattle.memory.specs.Networks.{network_in}
use Rattle.memory.specs.Conditions.{TableIn, PatternIn}
use Rattle.memory.proofs.Arrays.{part_zone}
use Rattle.lists.specs.Lists.{Wholable, PatternWhole}
use Rattle.lists.proofs.Patterned.{pattern_meets}
use Rattle.decisions.specs.declared.Finding.{Finding}
use Rattle.decisions.specs.declared.Finding.TheVariants as finding
use Rattle.decisions.specs.Decide.{most_far, kept_from, wholly, told, decide_marked}
use Rattle.decisions.specs.Conditions.{Parted}
use Rattle.decisions.proofs.Wholly.{zone_wholly, start_enough, target_enough}
use Rattle.decisions.proofs.ForCode.{decide_parted, decide_no_start, decide_no_target, tryable}
use Rattle.decide.specs.declared.Task.{Task}
use Rattle.decide.specs.Cycles.{SearchEnds, ZonesReady, SearchReady}
use Rattle.decide.proofs.Alone.{same_alone}

-- of the network w, within the limits
pub record Loaded (w : Network) (n parts horizon : ℕ) (times start target : List ℤ) : Type 0 where
  pub is : network_in n w.horizon times start target ≡ w
  pub limits : Limits w
  pub parts_are : parts ≡ parts_of w
  pub far : horizon ≤ most_far
  pub table : TableIn n times
  pub start_held : PatternIn n start
  pub target_held : PatternIn n target

module _ {w : Network} {n parts horizon : ℕ} {times start target : List ℤ} (l : Loaded w n parts horizon times start target) where
  abbrev net : Network
  net = network_in n w.horizon times start target

  limits : Limits net
  limits = rw l.is l.limits

  parts_is : parts ≡ parts_of net
  parts_is = rw l.is l.parts_are

  few_parts : parts ≤ suc most_departures
  few_parts = rw parts_is (parts_few net l.table.departures.few)

  some_parts : 1 ≤ parts
  some_parts = rw parts_is (parts_some net)

  -- what is decided of the numbers is decided of the network
  decided : (steps : ℕ) {x : Finding} → Ok x ≡ told parts (decide_marked net horizon steps) → Ok x ≡ told (parts_of w) (decide_marked w horizon steps)
  decided steps e = e ∙ ap₂ (λ (k : ℕ) (v : Network). told k (decide_marked v horizon steps)) l.parts_are l.is

  -- both patterns can be made zones in whole parts
  pub start_wholable : Wholable n start parts
  start_wholable = record {
    meets = pattern_meets l.start_held limits.start_small;
    few = few_parts;
    times = λ z e. let u = whole_zone (suc n) (parts_of net) z (start_enough net e) in (u.zone, rw parts_is u.is);
  }

  pub target_wholable : Wholable n target parts
  target_wholable = record {
    meets = pattern_meets l.target_held limits.target_small;
    few = few_parts;
    times = λ z e. let u = whole_zone (suc n) (parts_of net) z (target_enough net e) in (u.zone, rw parts_is u.is);
  }

  -- one of them has no times
  pub no_start : tighten (suc n) (pattern_constraints n (Memory.bounds_in start)) ≡ none → (steps : ℕ)
      → Ok (finding.Settled verdict.Never) ≡ told (parts_of w) (decide_marked w horizon steps)
  no_start e steps = decided steps (ap (told parts) (sym (decide_no_start net horizon steps e)))

  pub no_target : tighten (suc n) (pattern_constraints n (Memory.bounds_in target)) ≡ none → (steps : ℕ)
      → Ok (finding.Settled verdict.Never) ≡ told (parts_of w) (decide_marked w horizon steps)
  no_target e steps = decided steps (ap (told parts) (sym (decide_no_target net horizon steps e)))

-- both have: the decision between them
module _ (task : Task) (from : List ℤ) where
  abbrev z : Matrix
  z = bounds_in (take (zone_size task.n) from)

  abbrev d : Matrix
  d = bounds_in task.goal.now

  module _ {w : Network} {start target aim : List ℤ} (l : Loaded w task.n task.parts task.horizon task.times.now start target)
      (s : PatternWhole task.n start task.parts from) (t : PatternWhole task.n target task.parts aim) {size : ℕ} (is : size ≡ zone_size task.n)
      (lent : task.goal.now ≡ take size aim) where
    parted : Parted (net l) s.zone t.zone z d
    unfolding wholly
    parted =
        let from_is = rw (parts_is l) at s.whole in
        let goal_is = rw (parts_is l, ← is, ← lent) at t.whole in
        record {
          start_is = from_is;
          target_is = goal_is;
          posed = record {
            start = sym (zone_wholly (parts_of (net l)) task.n (Memory.bounds_in start) (parts_some (net l)) s.is) ∙ from_is;
            target = sym (zone_wholly (parts_of (net l)) task.n (Memory.bounds_in target) (parts_some (net l)) t.is) ∙ goal_is;
          };
        }

    zones_ready : ZonesReady task z
    zones_ready = record {
      table = l.table;
      times_small = (limits l).table.times_small;
      target = rw lent (part_zone l.table.departures is aim t.long);
      some_parts = some_parts l;
      few_parts = few_parts l;
      far = l.far;
      closed = closed_some (rw s.whole at (wholes_closed (suc task.n) task.parts s.zone));
      fits = λ k h. rw (parts_is l) (tryable (net l) (limits l) parted.posed k (omega arith) (omega arith));
    }

    pub search_ready : SearchReady task (take size from)
    search_ready = record { zones = rw is zones_ready; start = part_zone l.table.departures is from s.long }

    -- it is that on the network
    pub decided_so : {x : Finding} → task.may ≡ (only_differences task.n (Memory.bounds_in start) || only_differences task.n (Memory.bounds_in target))
        → SearchEnds task (bounds_in (take size from)) x → Ok x ≡ told (parts_of w) (decide_marked w task.horizon task.steps)
    decided_so e f =
        let a = (net l).times in
        let between = rw (← (parts_is l), ← e) at (decide_parted (net l) task.horizon task.steps parted) in
        decided l task.steps
        ((rw is at f.is)
        ∙ ap (told task.parts)
        (sym (between ∙ same_alone (net l) task.parts (some_parts l) task.may z d task.horizon task.horizon 1 a (kept_from 1 a) task.steps)))
