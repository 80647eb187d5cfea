-- The examples that document 01 marks (P), as document 02 changes them and adds to them: one list, one claim.
use Rattle.std.specs.Prelude.{Ok, Some, None, ℕ, ℤ, pos, negsuc, ◌≡◌, refl, true}
use mathlib.Core.List.{List, [], ◌∷◌}
use Rattle.std.proofs.Math.Option.{some}
use Rattle.model.specs.declared.Limit.{Limit}
use Rattle.model.specs.declared.Case.{Case}
use Rattle.model.specs.Sizes.{workspace_size}
use Rattle.model.specs.Lists as L
use Rattle.model.specs.Bound as B
use Rattle.model.specs.Matrix as M
use Rattle.model.specs.Pattern as P
use Rattle.model.specs.Network as N
use Rattle.model.specs.Network.{Repeat, repeat_of}
use Rattle.model.specs.Search as X
use Rattle.model.specs.Search.{reached, clear, never, table_full}
use Rattle.model.specs.Faults as F
use Rattle.model.specs.Faults.{Entry, present, unmarked, network}
use Rattle.model.specs.Packed.{case_of}
use Rattle.model.specs.Answers.{all_times, answered, answer, run, run_in_parts}

-- a claim: on the powers of a case, on its verdict with Z zones and a workspace that is just long enough, on a run's cycle k, and the same in parts
pub data Example : Type 0 where
  powers_of : Case → Repeat → Example
  verdict_of : Case → ℕ → X.Outcome → Example
  run_of : Case → List ℤ → ℕ → List ℤ → Example
  parts_run_of : ℕ → Case → List ℤ → ℕ → List ℤ → Example

abbrev pub Right : Example → Type 0
Right (powers_of c r) = repeat_of (network c) ≡ some r
Right (verdict_of c z o) = answer c z (workspace_size z c.n) ≡ answered o
Right (run_of c xs k ys) = run c (all_times xs) k ≡ Ok (all_times ys)
Right (parts_run_of parts c xs k ys) = run_in_parts parts c (all_times xs) k ≡ Ok (all_times ys)

abbrev pub AllRight : List Example → Type 0
AllRight [] = Unit {0}
AllRight (e ∷ es) = Right e × AllRight es

-- a bound that is absent, x ≤ z and x < z
abbrev pub free : Entry Limit
free = None

abbrev pub at_most : ℤ → Entry Limit
at_most z = unmarked (present z)

abbrev pub less_than : ℤ → Entry Limit
less_than z = Some (record { strict = true; value = record { 0 = z } })

-- pairs of two departures, in order: (0,1) (0,2) (1,0) (1,2) (2,0) (2,1)
abbrev pub any2 : List (Entry Limit)
any2 = free ∷ free ∷ free ∷ free ∷ free ∷ free ∷ []

-- bounds on d and on -d, d being x(1) - x(2)
abbrev pub d_within : Entry Limit → Entry Limit → List (Entry Limit)
d_within hi lo = free ∷ free ∷ free ∷ hi ∷ free ∷ lo ∷ []

-- both times in 0 to 1
abbrev pub in_0_to_1 : List (Entry Limit)
in_0_to_1 = at_most (pos 0) ∷ at_most (pos 0) ∷ at_most (pos 1) ∷ free ∷ at_most (pos 1) ∷ free ∷ []

-- d = 1
abbrev pub d_is_1 : List (Entry Limit)
d_is_1 = d_within (at_most (pos 1)) (at_most (negsuc 0))

-- 0 < d < 1, and the same with "less than b" read as at most b - 1
abbrev pub d_between : List (Entry Limit)
d_between = d_within (less_than (pos 1)) (less_than (pos 0))

abbrev pub d_between_read : List (Entry Limit)
d_between_read = d_within (at_most (pos 0)) (at_most (negsuc 0))

-- the networks R, S and O
abbrev pub R : ℕ → List (Entry Limit) → List (Entry Limit) → Case
R h start target = case_of 2 h (present (pos 2) ∷ present (pos 5) ∷ present (pos 3) ∷ present (pos 3) ∷ []) start target

abbrev pub S : ℕ → List (Entry Limit) → List (Entry Limit) → Case
S h start target = case_of 2 h (None ∷ present (pos 0) ∷ present (pos 0) ∷ None ∷ []) start target

abbrev pub O : ℕ → List (Entry Limit) → List (Entry Limit) → Case
O h start target = case_of 1 h (present (pos 1) ∷ []) start target

-- x(1) is v, as -x(1) ≤ -v and x(1) ≤ v
abbrev pub x_is_0 : List (Entry Limit)
x_is_0 = at_most (pos 0) ∷ at_most (pos 0) ∷ []

abbrev pub x_is_5 : List (Entry Limit)
x_is_5 = at_most (negsuc 4) ∷ at_most (pos 5) ∷ []

-- 0 ≤ x(1) ≤ 9
abbrev pub x_in_0_to_9 : List (Entry Limit)
x_in_0_to_9 = at_most (pos 0) ∷ at_most (pos 9) ∷ []

-- x(1) ≤ 5, and x(1) < 100
abbrev pub x_to_5 : List (Entry Limit)
x_to_5 = free ∷ at_most (pos 5) ∷ []

abbrev pub x_below_100 : List (Entry Limit)
x_below_100 = free ∷ less_than (pos 100) ∷ []

-- no bounds on x(1)
abbrev pub x_any : List (Entry Limit)
x_any = free ∷ free ∷ []

-- no bounds; strict bounds, met in thirds of a second where reading them as at most b - 1 leaves nothing; parts go by the patterns, also where the
-- zone shows no strict bound; times in thirds
abbrev pub strict_examples : List Example
strict_examples =
    verdict_of (case_of 1 1 (present (pos 60) ∷ []) x_any x_any) 128 (reached 1 1 (pos 0 ∷ []))
    ∷ verdict_of (S 2 d_between d_between) 128 (reached 2 3 (pos 0 ∷ negsuc 0 ∷ []))
    ∷ verdict_of (S 1 d_between d_between) 128 (clear 1)
    ∷ verdict_of (S 2 d_between_read d_between_read) 128 never
    ∷ verdict_of (O 1 x_to_5 x_below_100) 128 (reached 1 2 (pos 10 ∷ []))
    ∷ parts_run_of 3 (R 3 any2 any2) (pos 0 ∷ negsuc 0 ∷ []) 1 (pos 14 ∷ pos 9 ∷ [])
    ∷ []

abbrev pub examples : List Example
examples =
    powers_of (R 1 any2 any2) (record { q = 4; p = 2; number = pos 8 })
    ∷ powers_of (S 1 any2 any2) (record { q = 3; p = 1; number = pos 0 })
    ∷ powers_of (O 1 [] []) (record { q = 2; p = 1; number = pos 1 })
    ∷ verdict_of (R 3 (d_within (at_most (pos 0)) free) (d_within (at_most (pos 1)) (at_most (pos 1)))) 128 (reached 2 1 (pos 0 ∷ pos 0 ∷ []))
    ∷ run_of (R 3 any2 any2) (pos 0 ∷ pos 0 ∷ []) 1 (pos 5 ∷ pos 3 ∷ [])
    ∷ run_of (R 3 any2 any2) (pos 0 ∷ pos 0 ∷ []) 2 (pos 8 ∷ pos 8 ∷ [])
    ∷ verdict_of (R 1 (d_within (at_most (pos 0)) free) (d_within (at_most (pos 1)) (at_most (pos 1)))) 128 (clear 1)
    ∷ verdict_of (R 3 any2 (d_within free (at_most (negsuc 2)))) 128 never
    ∷ verdict_of (R 2 any2 (d_within free (at_most (negsuc 2)))) 128 never
    ∷ verdict_of (S 2 d_is_1 d_is_1) 128 (reached 2 1 (pos 0 ∷ negsuc 0 ∷ []))
    ∷ verdict_of (S 1 d_is_1 d_is_1) 128 (clear 1)
    ∷ verdict_of (O 5 x_is_0 x_is_5) 128 (reached 5 1 (pos 0 ∷ []))
    ∷ verdict_of (O 4 x_is_0 x_is_5) 128 (clear 4)
    ∷ verdict_of (R 1 any2 in_0_to_1) 128 (reached 1 1 (negsuc 1 ∷ negsuc 4 ∷ []))
    ∷ verdict_of (R 1 any2 in_0_to_1) 1 (table_full 1)
    ∷ verdict_of (R 3 any2 (d_within (at_most (pos 0)) (at_most (negsuc 0)))) 128 never
    ∷ verdict_of (case_of 1 1 (present (pos 60) ∷ []) x_in_0_to_9 (free ∷ free ∷ [])) 128 (reached 1 1 (pos 9 ∷ []))
    ∷ strict_examples

pub all_right : AllRight examples
unfolding L.tabulate L.any_of L.all_of mathlib.Core.List.flatten mathlib.Core.List.flat_map B.bit B.halves B.plus B.tighter B.negative B.same_z B.same_bound
    M.entry M.matrix M.diagonal M.everything M.relaxed M.within M.constrain M.tighten M.same_matrix P.pair_place P.pair_bound P.pattern_constraints P.is_none
    P.only_differences N.time N.is_time N.regular N.later N.latest N.after N.secs_of N.clocked N.next N.cycle N.cycles N.product N.powers_from N.added N.gap
    N.same_time L.same_lists N.repeats N.first_repeat N.repeat_of X.columns X.selections X.chosen X.slack X.attains X.keeps X.row_constraints X.rows_constraints
    X.preimage X.keep X.previous X.lists X.common X.first_common X.tightest X.above X.below X.greatest_or X.choices X.pick B.scale B.whole X.is_strict
    X.parts_of X.bounds_of X.wholes X.start_in X.plan_with X.plan X.settled X.dry X.search_by X.search_from X.outcome F.time_of F.bound_of
    F.network F.beyond F.over F.bound_fault F.entry_fault F.rows_fault F.outside F.table_fault F.patterns_fault F.case_fault F.room_fault
    F.call_fault F.run_fault
    answer run N.scale_time N.in_parts run_in_parts
all_right = (refl, (refl, (refl, (refl, (refl, (refl, (refl, (refl, (refl, (refl, (refl, (refl, (refl, (refl, (refl, (refl, (refl, rest)))))))))))))))))
  where
    rest : AllRight strict_examples
    rest = (refl, (refl, (refl, (refl, (refl, (refl, tt))))))
