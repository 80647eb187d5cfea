-- Zones, their lists, and the search.
use Rattle.std.specs.Prelude.{ℕ, zero, suc, ◌-◌, min, ℤ, pos, neg_ℤ, ◌-ℤ◌, Bool, true, false, ◌||◌, cond, get_or, length, drop, ltb, leb}
use mathlib.Core.List.{List, [], ◌∷◌, ◌++◌, map, flatten, flat_map, foldl, foldr}
use Rattle.std.proofs.Math.Option
use Rattle.std.proofs.Math.Option.{Option, none, some}
use Rattle.model.specs.Lists.{tabulate, any_of, when, or_else}
use Rattle.model.specs.Bound as B
use Rattle.model.specs.Bound.{Bound, upto, most, plus, tighter, scale, whole}
use Rattle.model.specs.Matrix.{Matrix, entry, Constraint, constrain, tighten, same_matrix}
use Rattle.model.specs.Pattern.{pattern_constraints, only_differences}
use Rattle.model.specs.Network.{Time, blank, secs, Network, time, is_time, secs_of, Repeat, repeat_of}

-- the columns of row i that hold a time, lower first: r of them to look at, from column j on
unfoldable pub columns : ℕ → List Time → ℕ → ℕ → ℕ → List ℕ
columns n a i zero j = []
columns n a i (suc r) j = cond (is_time (time n a i j)) (j ∷ columns n a i r (suc j)) (columns n a i r (suc j))

-- selections of r rows from row i on, ordered as words: a column for each
unfoldable pub selections : ℕ → List Time → ℕ → ℕ → List (List ℕ)
selections n a zero i = [] ∷ []
selections n a (suc r) i = flat_map (λ j. map (λ s. j ∷ s) (selections n a r (suc i))) (columns n a i n 1)

-- what column s adds in row i. The clock, as row 0, adds 0
unfoldable pub chosen : ℕ → List Time → ℕ → ℕ → ℤ
chosen n a zero s = pos 0
chosen n a (suc i) s = secs_of (time n a (suc i) s)

-- how far x(j) may be behind x(s) where column s attains the largest sum in row i, which adds c for s
unfoldable pub slack : ℤ → Time → Bound
slack c blank = B.Bound.none
slack c (secs t) = most (c -ℤ t)

-- in row i column s attains the largest sum, ties included
unfoldable pub attains : ℕ → List Time → ℕ → ℕ → List Constraint
attains n a i s = tabulate n 1 (λ j. record { row = j; col = s; limit = slack (chosen n a i s) (time n a i j) })

-- x'(i) - x'(l) keeps to d, with the columns s and t in rows i and l
unfoldable pub keeps : ℕ → List Time → Matrix → ℕ → ℕ → ℕ → ℕ → Constraint
keeps n a d i s l t = record { row = s; col = t; limit = plus (entry (suc n) d i l) (most (chosen n a l t -ℤ chosen n a i s)) }

-- what row i adds with column s, the columns of rows 0 to i - 1 being those of sel
unfoldable pub row_constraints : ℕ → List Time → Matrix → List ℕ → ℕ → ℕ → List Constraint
row_constraints n a d sel i s =
    attains n a i s
    ++ flatten (tabulate i 0 (λ l. keeps n a d i s l (get_or sel l 0) ∷ keeps n a d l (get_or sel l 0) i s ∷ []))

unfoldable pub rows_constraints : ℕ → List Time → Matrix → List ℕ → ℕ → List ℕ → List Constraint
rows_constraints n a d sel i [] = []
rows_constraints n a d sel i (s ∷ rest) = row_constraints n a d sel i s ++ rows_constraints n a d (sel ++ (s ∷ [])) (suc i) rest

-- the preimage of the zone d by a selection: the selected columns attain the largest sums and the image is in d
unfoldable pub preimage : ℕ → List Time → Matrix → List ℕ → Option Matrix
preimage n a d sel = tighten (suc n) (rows_constraints n a d (0 ∷ []) 1 sel)

-- a set is kept if it is not empty and differs from all kept earlier
unfoldable pub keep : List Matrix → Option Matrix → List Matrix
keep kept none = kept
keep kept (some z) = cond (any_of (same_matrix z) kept) kept (kept ++ (z ∷ []))

-- the list made from the list zs
unfoldable pub previous : ℕ → List Time → List Matrix → List Matrix
previous n a zs = foldl keep [] (flat_map (λ d. map (preimage n a d) (selections n a n 1)) zs)

-- list 0, then list k
unfoldable pub lists : Network → ℕ → List Matrix
lists w zero = keep [] (tighten (suc w.n) (pattern_constraints w.n w.target))
lists w (suc k) = previous w.n w.times (lists w k)

-- what a zone has in common with a pattern
unfoldable pub common : ℕ → Matrix → List Bound → Option Matrix
common n z b = foldl (constrain (suc n)) (some z) (pattern_constraints n b)

unfoldable pub first_common : ℕ → List Bound → List Matrix → Option Matrix
first_common n b [] = none
first_common n b (z ∷ zs) = or_else (common n z b) (first_common n b zs)

unfoldable pub tightest : List Bound → Bound
tightest bs = foldr tighter B.Bound.none bs

-- the start that is picked: how late the next departure may be, given the times chosen so far, the clock's first
unfoldable pub above : ℕ → Matrix → List ℤ → Bound
above m z xs = tightest (tabulate (length xs) 0 (λ s. plus (entry m z (length xs) s) (most (get_or xs s (pos 0)))))

-- and how early, negated
unfoldable pub below : ℕ → Matrix → List ℤ → Bound
below m z xs = tightest (tabulate (length xs) 0 (λ s. plus (entry m z s (length xs)) (most (neg_ℤ (get_or xs s (pos 0))))))

-- the greatest time; if there is no greatest, the least; if neither, 0. Given how early, negated, and how late
unfoldable pub greatest_or : Bound → Bound → ℤ
greatest_or w (upto s c) = c
greatest_or (upto s b) B.Bound.none = neg_ℤ b
greatest_or B.Bound.none B.Bound.none = pos 0

unfoldable pub choices : ℕ → Matrix → ℕ → List ℤ → List ℤ
choices m z zero xs = xs
choices m z (suc r) xs = choices m z r (xs ++ (greatest_or (below m z xs) (above m z xs) ∷ []))

unfoldable pub pick : ℕ → Matrix → List ℤ
pick n z = drop 1 (choices (suc n) z n (pos 0 ∷ []))

unfoldable pub is_strict : Bound → Bool
is_strict B.Bound.none = false
is_strict (upto s b) = s

-- one of the patterns has a strict bound
abbrev pub some_strict : Network → Bool
some_strict w = any_of is_strict w.start || any_of is_strict w.target

-- the parts of a second that a start is in: 1 if neither pattern has a strict bound, else n + 1
unfoldable pub parts_of : Network → ℕ
parts_of w = cond (some_strict w) (suc w.n) 1

-- the bounds of a matrix, as constraints
unfoldable pub bounds_of : ℕ → Matrix → List Constraint
bounds_of m d = flatten (tabulate m 0 (λ i. tabulate m 0 (λ j. record { row = i; col = j; limit = entry m d i j })))

-- the times of a zone in parts, "less than b" being at most b - 1 parts
unfoldable pub wholes : ℕ → ℕ → Matrix → Option Matrix
wholes m parts z = tighten m (bounds_of m (map whole (map (scale parts) z)))

-- the start that is picked in a zone, in parts
unfoldable pub start_in : ℕ → ℕ → Matrix → List ℤ
start_in n parts z = elim (wholes (suc n) parts z) [ some d ↦ pick n d | none ↦ [] ]

-- how a search ends: reached has the cycle, the parts and the start
pub data Outcome : Type 0 where
  reached : ℕ → ℕ → List ℤ → Outcome
  clear : ℕ → Outcome
  never : Outcome
  table_full : ℕ → Outcome

-- the searched horizon M, and what it means to get past it
pub record Plan : Type 0 where
  pub cycles : ℕ
  pub end : Outcome

unfoldable pub plan_with : ℕ → Option Repeat → Bool → Plan
plan_with n none t = record { cycles = n; end = clear n }
plan_with n (some r) false = record { cycles = n; end = clear n }
plan_with n (some r) true = record { cycles = min n (r.q - 1); end = cond (leb (r.q - 1) n) never (clear n) }

unfoldable pub plan : Network → Plan
plan w = plan_with w.horizon (repeat_of w) (only_differences w.n w.start || only_differences w.n w.target)

-- how list k ends the search, if it does
unfoldable pub settled : Network → ℕ → ℕ → List Matrix → Option Outcome
settled w capacity k zs =
    or_else (when (ltb capacity (length zs)) (table_full k))
    (Option.map (λ c. reached k (parts_of w) (start_in w.n (parts_of w) c)) (first_common w.n w.start zs))

-- no zone is left
unfoldable pub dry : List Matrix → Bool
dry [] = true
dry (z ∷ zs) = false

-- r cycles from cycle k on, with the list before it: step makes the next list, ends says how a list ends the search, if it does.
-- From a dry list on the target is never met
unfoldable pub search_by : (List Matrix → List Matrix) → (ℕ → List Matrix → Option Outcome) → ℕ → ℕ → List Matrix → Outcome → Outcome
search_by step ends zero k zs end = cond (dry zs) never end
search_by step ends (suc r) k zs end =
    let zs' = step zs in
    cond (dry zs) never (elim (ends k zs') [ some o ↦ o | none ↦ search_by step ends r (suc k) zs' end ])

-- over the network's lists
unfoldable pub search_from : Network → ℕ → ℕ → ℕ → List Matrix → Outcome → Outcome
search_from w capacity r k zs end = search_by (previous w.n w.times) (settled w capacity) r k zs end

unfoldable pub outcome : Network → ℕ → Outcome
outcome w capacity = search_from w capacity (plan w).cycles 1 (lists w 0) (plan w).end
