-- The exact answer, beside document 01's: cycle by cycle, whether some start meets the target by one step of that power of the table.
-- Row by row of the power it tries selections, with one set for each row. It keeps no list of zones, so that none can be full.
use Rattle.std.specs.Prelude.{Result, Ok, Err, ℕ, zero, suc, ◌+◌, ◌*◌, ℤ, pos, ◌-ℤ◌, Bool, ◌&&◌, ◌||◌, cond, get_or, ltb, eqb}
use mathlib.Core.List.{List, [], ◌∷◌, ◌++◌, map, flatten, foldl}
use Rattle.std.proofs.Math.Option.{Option, none, some}
use Rattle.model.specs.declared.Case.{Case}
use Rattle.model.specs.declared.Fault.{Fault}
use Rattle.model.specs.declared.Fault.TheVariants as fault
use Rattle.model.specs.Lists.{tabulate, same_lists, when, or_else}
use Rattle.model.specs.Bound.{scale, whole}
use Rattle.model.specs.Matrix.{Matrix, Constraint, constrain, tighten}
use Rattle.model.specs.Pattern.{pattern_constraints, only_differences}
use Rattle.model.specs.Network.{Time, Network, scale_time, time, product, added, gap, same_time}
use Rattle.model.specs.Search.{columns, chosen, slack, keeps, pick, parts_of}
use Rattle.model.specs.Faults.{network, outside, case_fault}
use Rattle.model.specs.declared.Verdict.TheVariants as verdict
use Rattle.model.specs.declared.Numbers.{Numbers}
use Rattle.model.specs.Answers.{cycle_number, start_of, verdict_numbers}
use Rattle.decisions.specs.declared.Finding.{Finding}
use Rattle.decisions.specs.declared.Finding.TheVariants as finding

-- the most cycles of a horizon
abbrev pub most_far : ℕ
most_far = 4096

-- ---- one max-plus step of the table b, from the set z to the zone d
-- c for column s; one less against an earlier column j, which then attains less
unfoldable pub lead : ℕ → ℕ → ℤ → ℤ
lead j s c = cond (ltb j s) (c -ℤ pos 1) c

-- in row i column s is the first that attains the largest sum
unfoldable pub attains_first : ℕ → List Time → ℕ → ℕ → List Constraint
attains_first n b i s = tabulate n 1 (λ j. record { row = j; col = s; limit = slack (lead j s (chosen n b i s)) (time n b i j) })

-- what row i adds with column s, the columns of rows 0 to i - 1 being those of sel
unfoldable pub first_constraints : ℕ → List Time → Matrix → List ℕ → ℕ → ℕ → List Constraint
first_constraints n b d sel i s =
    attains_first n b i s
    ++ flatten (tabulate i 0 (λ l. keeps n b d i s l (get_or sel l 0) ∷ keeps n b d l (get_or sel l 0) i s ∷ []))

-- how a try ends: with a set, with none and these steps left, or out of steps
pub data Tried : Type 0 where
  found : Matrix → Tried
  missed : ℕ → Tried
  spent : Tried

-- column after column, until one ends with a set. Each takes a step
unfoldable pub first_of : (ℕ → ℕ → Tried) → List ℕ → ℕ → Tried
first_of f [] t = missed t
first_of f (s ∷ ss) zero = spent
first_of f (s ∷ ss) (suc t) = elim (f s t) [ found z ↦ found z | missed u ↦ first_of f ss u | spent ↦ spent ]

-- an empty set is left at once
unfoldable pub entered : (Matrix → ℕ → Tried) → Option Matrix → ℕ → Tried
entered f none t = missed t
entered f (some z) t = f z t

-- r rows from row i on, with t steps
unfoldable pub descend : ℕ → List Time → Matrix → ℕ → ℕ → List ℕ → Matrix → ℕ → Tried
descend n b d zero i sel z t = found z
descend n b d (suc r) i sel z t =
    first_of (λ s. entered (descend n b d r (suc i) (sel ++ (s ∷ []))) (foldl (constrain (suc n)) (some z) (first_constraints n b d sel i s)))
    (columns n b i n 1) t

-- all rows: a set of times in z whose image by b is in d
unfoldable pub meeting : ℕ → List Time → Matrix → Matrix → ℕ → Tried
meeting n b z d t = descend n b d n 1 (0 ∷ []) z t

-- the most steps that r rows of n columns take: n + n * n + .., r terms
unfoldable pub steps_for : ℕ → ℕ → ℕ
steps_for n zero = 0
steps_for n (suc r) = n * suc (steps_for n r)

-- ---- power after power
pub data Decision : Type 0 where
  reached : ℕ → List ℤ → Decision
  clear : ℕ → Decision
  never : Decision
  undecided : ℕ → Decision

-- b is a with one number added
unfoldable pub again : List Time → List Time → Bool
again a b = same_lists same_time (added (gap a b) a) b

-- the one earlier power that is kept, and the power that is to replace it
pub record Kept : Type 0 where
  pub table : List Time
  pub until : ℕ

-- power k is kept until twice as far: powers 1, 2, 4, 8 and so on are
abbrev pub kept_from : ℕ → List Time → Kept
kept_from k b = record { table = b; until = k + k }

unfoldable pub renewed : ℕ → List Time → Kept → Kept
renewed k b c = cond (eqb k c.until) (kept_from k b) c

-- what follows the try at cycle k, b being power k and c the kept one: rest decides the cycles beyond, from power k + 1, what is kept then and the
-- steps left. may: never can be told from a repeated power
abbrev pub follows : Network → Bool → ℕ → List Time → Kept → (List Time → Kept → ℕ → Decision) → Tried → Decision
follows w may k b c rest (found y) = reached k (pick w.n y)
follows w may k b c rest spent = undecided k
follows w may k b c rest (missed u) =
    let b' = product w.n w.times b in
    cond (may && again c.table b') never (rest b' (renewed (suc k) b' c) u)

-- r cycles from cycle k on: from the start zone z to the target zone d, with t steps
unfoldable pub decide_from : Network → Bool → Matrix → Matrix → ℕ → ℕ → ℕ → List Time → Kept → ℕ → Decision
decide_from w may z d horizon zero k b c t = clear horizon
decide_from w may z d horizon (suc r) k b c t = follows w may k b c (decide_from w may z d horizon r (suc k)) (meeting w.n b z d t)

-- from start to target: where either is empty no cycle meets it. The network's own horizon is not looked at
unfoldable pub decide_zones : Network → ℕ → ℕ → Option Matrix → Option Matrix → Decision
decide_zones w horizon t none o = never
decide_zones w horizon t (some z) none = never
decide_zones w horizon t (some z) (some d) =
    decide_from w (only_differences w.n w.start || only_differences w.n w.target) z d horizon horizon 1 w.times
    (kept_from 1 w.times) t

-- the first cycle from 1 to the horizon that meets the target, from a start in whole numbers, with t steps for all
unfoldable pub decide : Network → ℕ → ℕ → Decision
decide w horizon t =
    decide_zones w horizon t (tighten (suc w.n) (pattern_constraints w.n w.start)) (tighten (suc w.n) (pattern_constraints w.n w.target))

-- ---- strict bounds: the same in parts of which parts make a second, "less than b" being at most b - 1 parts
unfoldable pub wholly : ℕ → Network → Network
wholly parts w = record {
  n = w.n;
  horizon = w.horizon;
  times = map (scale_time parts) w.times;
  start = map whole (map (scale parts) w.start);
  target = map whole (map (scale parts) w.target);
}

-- in the parts that document 01's starts are in
unfoldable pub decide_marked : Network → ℕ → ℕ → Decision
decide_marked w horizon t = decide (wholly (parts_of w) w) horizon t

-- ---- what the library answers
-- the first fault: of the case, 2 to 6; then 3 of the horizon that is asked
unfoldable pub decide_fault : Case → ℕ → Option Fault
decide_fault c horizon = or_else (case_fault c) (when (outside 1 most_far horizon) fault.Horizon)

-- the answer for a decision, whose start is in these parts
abbrev pub told : ℕ → Decision → Result Finding Fault
told parts (reached k xs) = Ok (finding.Settled (verdict.Reached (cycle_number k) (start_of parts xs)))
told parts (clear k) = Ok (finding.Settled (verdict.Clear (cycle_number k)))
told parts never = Ok (finding.Settled verdict.Never)
told parts (undecided k) = Ok (finding.Undecided (cycle_number k))

unfoldable pub decided : Case → ℕ → ℕ → Result Finding Fault
decided c horizon steps =
    elim (decide_fault c horizon) [
      | some f ↦ Err f
      | none ↦ told (parts_of (network c)) (decide_marked (network c) horizon steps)
    ]

-- a finding as numbers: those of its verdict, or 5, no fault, and the cycle at which the steps ran out
abbrev pub finding_numbers : Finding → Numbers
finding_numbers (finding.Settled v) = verdict_numbers v
finding_numbers (finding.Undecided k) = record { kind = 5; fault = 0; value = k.0 }
