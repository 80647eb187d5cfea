-- Cycle after cycle: the loop's invariant, and what each answer means.
use Prim.Native.Nat.{ℕ, suc, ◌+◌, ◌*◌, ◌-◌, ◌≤◌, ◌<◌}
use native.Mathlib.Omega.{arith}
use native.Mathlib.Nat.{zero-mul, mul-le-mul}
use native.Mathlib.Numerals.{add-one}
use mathlib.Core.Path.{◌≡◌, refl, sym, ap, ap₂, ◌∙◌}
use mathlib.Core.Bool.{Bool, true, false, ◌&&◌, cond}
use mathlib.Core.Logic.{◌⊎◌, inl, inr}
use mathlib.Core.List.{List, ◌++◌}
use lib.IntN.{ℤ}
use lib.ListN.{length, take, drop}
use lib.Seq.{take_at}
use Rattle.std.specs.Prelude.{Ok}
use Rattle.std.specs.declared.ops.ControlFlow.{ControlFlow}
use Rattle.std.specs.declared.ops.ControlFlow.TheVariants.{Continue, Break}
use Rattle.model.specs.declared.Verdict.TheVariants as verdict
use Rattle.model.specs.Answers.{cycle_number}
use Rattle.model.specs.Sizes.{most_departures, most_numbers, table_size, zone_size}
use Rattle.model.specs.Matrix.{Matrix}
use Rattle.model.specs.Network.{Time, Network, product, power}
use Rattle.model.specs.Search.{pick}
use Rattle.model.specs.Conditions.{Departures}
use Rattle.memory.specs.Numbers.{times_in}
use Rattle.memory.specs.Wide.{bounds_in}
use Rattle.memory.proofs.Places.{zone_fits}
use Rattle.powers.proofs.Bounded.{powers_small}
use Rattle.decisions.specs.declared.Finding.{Finding}
use Rattle.decisions.specs.declared.Finding.TheVariants as finding
use Rattle.decisions.specs.Decide.{most_far, meeting, Decision, reached, clear, never, Kept, follows, told}
use Rattle.decisions.specs.Conditions.{table_in, from_seconds}
use Rattle.decisions.proofs.ForCode.{from_end, from_more}
use Rattle.descent.specs.declared.Stop.{Stop}
use Rattle.descent.specs.declared.Stop.TheVariants as stop
use Rattle.descent.specs.Trying.{set_at, ended_by}
use Rattle.decide.specs.declared.Task.{Task}
use Rattle.decide.specs.declared.LastPowers.{LastPowers}
use Rattle.decide.specs.Powers.{front, kept_by, FirstPower, Following, Followed}
use Rattle.decide.specs.Cycles.{table_alone, searched, CycleEnds, SearchReady, SearchEnds}

-- cycles 1 to k - 1 are not met: power k is the last one, and what is left is the decision from cycle k on
pub record Going (task : Task) (from sets : List ℤ) (p : LastPowers) (left k : ℕ) : Type 0 where
  pub from_one : 1 ≤ k
  pub to_end : k ≤ suc task.horizon
  pub first : set_at task.n sets 0 ≡ bounds_in from
  pub power_is : front task.n p.tables ≡ power task.n (times_in task.times.now) (k - 1)
  pub rest : searched task (bounds_in from)
      ≡ from_seconds (table_alone task) task.parts task.may (bounds_in from) (bounds_in task.goal.now) task.horizon (suc task.horizon - k) k
      (power task.n (times_in task.times.now) (k - 1)) (kept_by task.n p) left

-- the sets of all rows are no more numbers than there can be
pub rows_fit : {n : ℕ} → Departures n → suc n * zone_size n ≤ suc most_departures * most_numbers
rows_fit {n} d = let rows : suc n ≤ suc most_departures = omega (arith, d.few) in mul-le-mul rows (zone_fits d)

module _ {task : Task} {from : List ℤ} (ready : SearchReady task from) where
  abbrev n : ℕ
  n = task.n

  abbrev a : List Time
  a = times_in task.times.now

  abbrev w : Network
  w = table_alone task

  abbrev z : Matrix
  z = bounds_in from

  abbrev d : Matrix
  d = bounds_in task.goal.now

  abbrev cycles_from : ℕ → ℕ → List Time → Kept → ℕ → Decision
  cycles_from = from_seconds w task.parts task.may z d task.horizon

  abbrev whole : Decision
  whole = searched task z

  ends : {o : Decision} → whole ≡ o → {x : Finding} → Ok x ≡ told task.parts o → SearchEnds task z x
  ends e f = record { is = f ∙ ap (told task.parts) (sym e) }

  -- the set of the start, put in front of the sets, is that of row 0
  pub going_start : {front : List ℤ} → front ≡ from → (sets : List ℤ) → {p : LastPowers} → FirstPower n task.times.now p
      → Going task from (front ++ drop (length from) sets) p task.steps 1
  unfolding power set_at
  going_start is sets f =
      let e : suc task.horizon - 1 ≡ task.horizon = omega arith in
      record {
        from_one = omega arith;
        to_end = omega arith;
        first = rw (zero-mul (zone_size n), ← ready.start.size, is, take_at from (drop (length from) sets) (length from) refl) refl;
        power_is = f.power;
        rest = rw e (ap (λ (c : Kept). cycles_from task.horizon 1 a c task.steps) (sym f.keeps));
      }

  module _ {sets : List ℤ} {p : LastPowers} {left k : ℕ} (g : Going task from sets p left k) where
    -- past the last cycle
    pub going_end : task.horizon + 1 ≤ k → SearchEnds task z (finding.Settled (verdict.Clear (cycle_number task.horizon)))
    going_end h =
        let e : suc task.horizon - k ≡ 0 = omega arith in
        ends {o = clear task.horizon} (g.rest ∙ rw e (from_end w task.parts task.may z d task.horizon k (power n a (k - 1)) (kept_by n p) left)) refl

    module _ (h : k < task.horizon + 1) where
      near : k - 1 < most_far
      near = omega (arith, ready.zones.far, g.from_one)

      module _ {size : ℕ} (is-size : size ≡ table_size n) {r : ControlFlow Stop ℕ} {sets' : List ℤ}
          (e : CycleEnds task (take size p.tables) left sets r sets') where
        tried : meeting n (table_in task.parts (power n a (k - 1))) z d left ≡ ended_by r (set_at n sets' n)
        tried = sym (rw (is-size, g.power_is, g.first) at e.ends)

        followed : whole ≡ follows w task.may k (power n a (k - 1)) (kept_by n p) (cycles_from (task.horizon - k) (suc k)) (ended_by r (set_at n sets' n))
        followed =
            let more : suc task.horizon - k ≡ suc (task.horizon - k) = omega arith in
            g.rest ∙ rw more (from_more w task.parts task.may z d task.horizon ready.zones.some_parts (task.horizon - k) k (power n a (k - 1))
            (kept_by n p) left)
            ∙ ap (follows w task.may k (power n a (k - 1)) (kept_by n p) (cycles_from (task.horizon - k) (suc k))) tried

        pub going_found : r ≡ Break stop.Found → {x : Finding} → Ok x ≡ told task.parts (reached k (pick n (set_at n sets' n))) → SearchEnds task z x
        going_found f = ends (rw f at followed)

        pub going_spent : r ≡ Break stop.Spent → SearchEnds task z (finding.Undecided (cycle_number k))
        going_spent f = ends (rw f at followed) refl

      -- the next power can be made
      pub following : Following n task.times.now p (k + 1)
      unfolding power
      following =
          let small = powers_small n a ready.zones.times_small in
          record {
            table = ready.zones.table;
            table_small = small 0 (omega arith);
            last_small = rw g.power_is (small (k - 1) near);
            few = omega (arith, ready.zones.far);
          }

      module _ {again : Bool} {p' : LastPowers} (f : Followed n task.times.now p (k + 1) again p') where
        next_power : front n p'.tables ≡ power n a k
        unfolding power
        next_power =
            let is : k ≡ suc (k - 1) = omega (arith, g.from_one) in
            f.power ∙ ap (product n a) g.power_is ∙ sym (ap (power n a) is)

        module _ {size : ℕ} (is-size : size ≡ table_size n) {u : ℕ} {sets' : List ℤ}
            (e : CycleEnds task (take size p.tables) left sets (Continue u) sets') where
          missed_so : whole ≡ cond (task.may && again) never (cycles_from (task.horizon - k) (suc k) (power n a k) (kept_by n p') u)
          unfolding power
          missed_so =
              let is : k ≡ suc (k - 1) = omega (arith, g.from_one) in
              let b' : product n a (power n a (k - 1)) ≡ power n a k = sym (ap (power n a) is) in
              (rw b' at (followed is-size e))
              ∙ ap₂ (λ (t : Bool) (c : Kept). cond (task.may && t) never (cycles_from (task.horizon - k) (suc k) (power n a k) c u))
              (sym (rw next_power at f.repeats)) (sym (rw (next_power, add-one k) at f.keeps))

          pub going_never : task.may ≡ true → again ≡ true → SearchEnds task z (finding.Settled verdict.Never)
          going_never m t = ends {o = never} (missed_so ∙ rw (m, t)) refl

          pub going_on : ((task.may ≡ true) × (again ≡ false)) ⊎ (task.may ≡ false) → Going task from sets' p' u (k + 1)
          going_on either =
              let t : (task.may && again) ≡ false = elim either [ inl (m, t) ↦ rw (m, t) | inr m ↦ rw m ] in
              let same : k + 1 - 1 ≡ k = omega arith in
              let left-cycles : suc task.horizon - (k + 1) ≡ task.horizon - k = omega arith in
              record {
                from_one = omega arith;
                to_end = omega arith;
                first = e.first_same ∙ g.first;
                power_is = rw same next_power;
                rest = missed_so ∙ rw (t, same, left-cycles, add-one k);
              }

-- what closes the goals of the search
pub ruleset cycling = (rows_fit, zone_fits, going_end, going_found, going_spent, following, going_never)
