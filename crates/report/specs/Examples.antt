-- Texts of packed cases, the last one in the wide form, with strict bounds: one list, one claim.
use Rattle.std.specs.Prelude.{ℕ, ◌≡◌, refl}
use mathlib.Core.List.{List, [], ◌∷◌}
use Rattle.model.specs.Lists as L
use Rattle.model.specs.Bound as B
use Rattle.model.specs.Matrix as M
use Rattle.model.specs.Pattern as P
use Rattle.model.specs.Network as N
use Rattle.model.specs.Search as X
use Rattle.model.specs.Faults as F
use Rattle.model.specs.Packed as K
use Rattle.model.specs.Answers.{answer, run_in_parts}
use Rattle.puts.specs.Decimal as D
use Rattle.report.specs.Text as T
use Rattle.report.specs.Text.{text}

-- a packed case and its text
pub data Example : Type 0 where
  of_bytes : List ℕ → List ℕ → Example

abbrev pub Right : Example → Type 0
Right (of_bytes s t) = text s ≡ t

abbrev pub AllRight : List Example → Type 0
AllRight [] = Unit {0}
AllRight (e ∷ es) = Right e × AllRight es

abbrev pub examples : List Example
examples =
    of_bytes (32 ∷ 64 ∷ 3 ∷ 192 ∷ []) (114 ∷ 101 ∷ 97 ∷ 99 ∷ 104 ∷ 101 ∷ 100 ∷ 32 ∷ 49 ∷ 10 ∷ 48 ∷ 32 ∷ 48 ∷ 10 ∷ 49 ∷ 32 ∷ 54 ∷ 48 ∷ 10 ∷ [])
    ∷ of_bytes (32 ∷ 64 ∷ 3 ∷ []) (114 ∷ 101 ∷ 102 ∷ 117 ∷ 115 ∷ 101 ∷ 100 ∷ 32 ∷ 49 ∷ 32 ∷ 57 ∷ 10 ∷ [])
    ∷ of_bytes (32 ∷ 64 ∷ 3 ∷ 192 ∷ 0 ∷ []) (114 ∷ 101 ∷ 102 ∷ 117 ∷ 115 ∷ 101 ∷ 100 ∷ 32 ∷ 56 ∷ 32 ∷ 51 ∷ 50 ∷ 10 ∷ [])
    ∷ of_bytes [] (114 ∷ 101 ∷ 102 ∷ 117 ∷ 115 ∷ 101 ∷ 100 ∷ 32 ∷ 49 ∷ 32 ∷ 48 ∷ 10 ∷ [])
    ∷ of_bytes (0 ∷ []) (114 ∷ 101 ∷ 102 ∷ 117 ∷ 115 ∷ 101 ∷ 100 ∷ 32 ∷ 50 ∷ 32 ∷ 48 ∷ 10 ∷ [])
    ∷ of_bytes (2 ∷ []) (114 ∷ 101 ∷ 102 ∷ 117 ∷ 115 ∷ 101 ∷ 100 ∷ 32 ∷ 49 ∷ 32 ∷ 55 ∷ 10 ∷ [])
    ∷ of_bytes (4 ∷ 10 ∷ 0 ∷ 0 ∷ 64 ∷ 0 ∷ 0 ∷ 192 ∷ 0 ∷ 2 ∷ 192 ∷ 0 ∷ 0 ∷ 48 ∷ 0 ∷ 0 ∷ 176 ∷ 0 ∷ 0 ∷ 0 ∷ [])
    (114 ∷ 101 ∷ 97 ∷ 99 ∷ 104 ∷ 101 ∷ 100 ∷ 32 ∷ 50 ∷ 32 ∷ 111 ∷ 102 ∷ 32 ∷ 51 ∷ 10
    ∷ 48 ∷ 32 ∷ 48 ∷ 32 ∷ 45 ∷ 49 ∷ 10 ∷ 49 ∷ 32 ∷ 45 ∷ 49 ∷ 32 ∷ 48 ∷ 10 ∷ 50 ∷ 32 ∷ 48 ∷ 32 ∷ 45 ∷ 49 ∷ 10 ∷ [])
    ∷ []

pub all_right : AllRight examples
unfolding L.tabulate L.any_of L.all_of mathlib.Core.List.flatten mathlib.Core.List.flat_map B.bit B.halves B.plus B.tighter B.negative
    B.same_z B.same_bound M.entry
    M.matrix M.diagonal M.everything M.relaxed M.within M.constrain M.tighten M.same_matrix P.pair_place P.pair_bound P.pattern_constraints P.is_none
    P.only_differences N.time N.is_time N.regular N.later N.latest N.after N.secs_of N.clocked N.next N.cycle N.cycles N.product N.powers_from N.added N.gap
    N.same_time L.same_lists N.repeats N.first_repeat N.repeat_of X.columns X.selections X.chosen X.slack X.attains X.keeps X.row_constraints X.rows_constraints
    X.preimage X.keep X.previous X.lists X.common X.first_common X.tightest X.above X.below X.greatest_or X.choices X.pick B.scale B.whole X.is_strict
    X.parts_of X.bounds_of X.wholes X.start_in X.plan_with X.plan X.settled X.dry X.search_by X.search_from X.outcome F.time_of F.bound_of
    F.network F.beyond F.over F.bound_fault F.bound_fault_in F.entry_fault F.rows_fault F.outside F.table_fault F.patterns_fault F.case_fault F.room_fault
    F.call_fault F.run_fault K.bit_at K.num_of K.bits K.signed K.entry K.entries K.rows K.zeros K.fill K.body K.parse_as K.parse answer
    N.scale_time N.in_parts run_in_parts D.digits D.number D.signed_number T.fields T.line T.lines T.of_parts T.heading T.lines_after T.answer_text text
all_right = (refl, (refl, (refl, (refl, (refl, (refl, (refl, tt)))))))
