-- Document 01's networks, decided, and one with strict bounds.
use Rattle.std.specs.Prelude.{Result, Err, ℕ, pos, negsuc, ◌≡◌, refl}
use mathlib.Core.List.{List, [], ◌∷◌}
use Rattle.model.specs.declared.Case.{Case}
use Rattle.model.specs.declared.Fault.{Fault}
use Rattle.model.specs.declared.Fault.TheVariants as fault
use Rattle.model.specs.Lists as L
use Rattle.model.specs.Bound as B
use Rattle.model.specs.Matrix as M
use Rattle.model.specs.Pattern as P
use Rattle.model.specs.Network as N
use Rattle.model.specs.Search as X
use Rattle.model.specs.Faults as F
use Rattle.model.specs.Examples.{any2, free, at_most, d_within, in_0_to_1, d_is_1, d_between, R, S, O, x_is_0, x_is_5}
use Rattle.decisions.specs.declared.Finding.{Finding}
use Rattle.decisions.specs.Decide as D
use Rattle.decisions.specs.Decide.{reached, clear, never, undecided, told, decided}

-- a case, a horizon, a number of steps, and the answer
pub record Example : Type 0 where
  pub case : Case
  pub horizon : ℕ
  pub steps : ℕ
  pub says : Result Finding Fault

abbrev pub AllRight : List Example → Type 0
AllRight [] = Unit {0}
AllRight (e ∷ es) = (decided e.case e.horizon e.steps ≡ e.says) × AllRight es

abbrev pub claim : Case → ℕ → ℕ → Result Finding Fault → Example
claim c h t r = record { case = c; horizon = h; steps = t; says = r }

-- at most one second apart from d ≤ 0, which document 01 reaches at 2; three seconds apart the other way, which is never
abbrev pub near : Case
near = R 3 (d_within (at_most (pos 0)) free) (d_within (at_most (pos 1)) (at_most (pos 1)))

abbrev pub far : Case
far = R 3 any2 (d_within free (at_most (negsuc 2)))

-- reached, clear and undecided; a repeat that is seen at horizon 4 and not at 2; strict bounds, met in thirds of a second; a horizon of 0
abbrev pub examples : List Example
examples =
    claim near 3 100 (told 1 (reached 2 (pos 0 ∷ pos 0 ∷ [])))
    ∷ claim near 1 100 (told 1 (clear 1))
    ∷ claim near 3 1 (told 1 (undecided 1))
    ∷ claim far 4 100 (told 1 never)
    ∷ claim far 2 100 (told 1 (clear 2))
    ∷ claim (S 2 d_is_1 d_is_1) 2 100 (told 1 (reached 2 (pos 0 ∷ negsuc 0 ∷ [])))
    ∷ claim (S 1 d_is_1 d_is_1) 1 100 (told 1 (clear 1))
    ∷ claim (O 5 x_is_0 x_is_5) 10 100 (told 1 (reached 5 (pos 0 ∷ [])))
    ∷ claim (O 4 x_is_0 x_is_5) 4 100 (told 1 (clear 4))
    ∷ claim (R 1 any2 in_0_to_1) 1 100 (told 1 (reached 1 (negsuc 1 ∷ negsuc 4 ∷ [])))
    ∷ claim (S 2 d_between d_between) 2 100 (told 3 (reached 2 (pos 0 ∷ negsuc 0 ∷ [])))
    ∷ claim near 0 100 (Err fault.Horizon)
    ∷ []

pub all_right : AllRight examples
unfolding L.tabulate L.any_of L.all_of mathlib.Core.List.flatten mathlib.Core.List.flat_map B.bit B.halves B.plus B.tighter B.negative B.same_z B.same_bound
    B.scale B.whole M.entry M.matrix M.diagonal M.everything M.relaxed M.within M.constrain M.tighten M.same_matrix P.pair_place P.pair_bound
    P.pattern_constraints P.is_none P.only_differences N.scale_time N.time N.is_time N.regular N.later N.latest N.after N.secs_of N.product N.added N.gap
    N.same_time L.same_lists X.columns X.chosen X.slack X.keeps X.tightest X.above X.below X.greatest_or X.choices X.pick X.is_strict X.parts_of
    F.time_of F.bound_of F.network F.beyond F.over F.bound_fault F.entry_fault F.rows_fault F.outside F.table_fault F.patterns_fault F.case_fault
    D.lead D.attains_first D.first_constraints D.first_of D.entered D.descend D.meeting D.again D.renewed D.decide_from D.decide_zones D.decide D.wholly
    D.decide_marked D.decide_fault D.decided
all_right = (refl, (refl, (refl, (refl, (refl, (refl, (refl, (refl, (refl, (refl, (refl, (refl, tt))))))))))))
