-- The parts of a line and of the text, one more at a time.
use Prim.Native.Nat.{ℕ, ◌+◌, ◌<◌}
use native.Mathlib.Omega.{arith}
use native.Mathlib.Numerals.{add-one}
use mathlib.Core.Path.{◌≡◌, refl}
use mathlib.Core.List.{List, [], ◌∷◌, ◌++◌, map, map-append, flatten, append-nil, append_assoc}
use lib.IntN.{pos}
use lib.ListN.{length, take, get_or}
use lib.Seq.{take-suc}
use Rattle.ints.specs.declared.Seconds.{Seconds}
use Rattle.model.specs.declared.Case.{Case}
use Rattle.model.specs.Answers.{seconds}
use Rattle.model.specs.Lists.{tabulate}
use Rattle.model.proofs.Tabulated.{tabulate_snoc}
use Rattle.report.specs.Text.{field, fields, line_of, lines}

flatten_snoc : (xss : List (List ℕ)) (xs : List ℕ) → flatten (xss ++ xs ∷ []) ≡ flatten xss ++ xs
unfolding flatten
flatten_snoc [] xs = append-nil xs
flatten_snoc (x ∷ xss) xs = rw (flatten_snoc xss xs, append_assoc)

pub fields_none : fields [] ≡ []
unfolding fields flatten
fields_none = refl

pub fields_next : (xs : List Seconds) (i : ℕ) → i < length xs → fields (take (i + 1) xs) ≡ fields (take i xs) ++ field (get_or xs i (seconds (pos 0)))
unfolding fields
fields_next xs i h =
    let x = get_or xs i (seconds (pos 0)) in
    rw (add-one, take-suc xs i (seconds (pos 0)) h, map-append field (take i xs) (x ∷ [])) (flatten_snoc (map field (take i xs)) (field x))

pub lines_none : (parts : ℕ) (c : Case) (start : List Seconds) → lines parts c start 0 ≡ []
unfolding lines flatten tabulate
lines_none parts c start = refl

pub lines_next : (parts : ℕ) (c : Case) (start : List Seconds) (j : ℕ) → lines parts c start (j + 1) ≡ lines parts c start j ++ line_of parts c start j
unfolding lines
lines_next parts c start j =
    let f = line_of parts c start in
    let e : 0 + j ≡ j = omega arith in
    rw (add-one, ← (tabulate_snoc j 0 f), e) (flatten_snoc (tabulate j 0 f) (f j))
