-- What a planner sees: the text of the answer to a packed case, as bytes of ASCII.
use Rattle.std.specs.Prelude.{Result, Ok, Err, ℕ, suc, cond, ltb, leb, take}
use mathlib.Core.List.{List, [], ◌∷◌, ◌++◌, map, flatten}
use Rattle.puts.specs.Decimal.{number, signed_number}
use Rattle.ints.specs.declared.Seconds.{Seconds}
use Rattle.model.specs.Sizes.{few_departures, most_departures, workspace_size}
use Rattle.model.specs.declared.Case.{Case}
use Rattle.model.specs.declared.Fault.{Fault}
use Rattle.model.specs.declared.Verdict.{Verdict}
use Rattle.model.specs.declared.Verdict.TheVariants as verdict
use Rattle.model.specs.Lists.{tabulate}
use Rattle.model.specs.Faults.{number as faultNumber, returned}
use Rattle.model.specs.Packed.{got, refused, parse}
use Rattle.model.specs.Answers.{answer, run_in_parts}

-- times, a blank before each
abbrev pub field : Seconds → List ℕ
field x = 32 ∷ signed_number x.0

unfoldable pub fields : List Seconds → List ℕ
fields xs = flatten (map field xs)

-- a cycle and its times
unfoldable pub line : ℕ → List Seconds → List ℕ
line j xs = (number j ++ fields xs) ++ 10 ∷ []

-- the lines of the cycles from 0 on, count of them, of the run in parts of a second from these start times
abbrev pub shown : Case → ℕ → Result (List Seconds) Fault → List ℕ
shown c j (Ok times) = line j (take c.n times)
shown c j (Err f) = []

abbrev pub line_of : ℕ → Case → List Seconds → ℕ → List ℕ
line_of parts c start j = shown c j (run_in_parts parts c start j)

unfoldable pub lines : ℕ → Case → List Seconds → ℕ → List ℕ
lines parts c start count = flatten (tabulate count 0 (line_of parts c start))

-- "reached ", " of ", "clear ", "never", "refused ", " "
abbrev pub reached_word : List ℕ
reached_word = 114 ∷ 101 ∷ 97 ∷ 99 ∷ 104 ∷ 101 ∷ 100 ∷ 32 ∷ []

abbrev pub of_word : List ℕ
of_word = 32 ∷ 111 ∷ 102 ∷ 32 ∷ []

abbrev pub clear_word : List ℕ
clear_word = 99 ∷ 108 ∷ 101 ∷ 97 ∷ 114 ∷ 32 ∷ []

abbrev pub never_word : List ℕ
never_word = 110 ∷ 101 ∷ 118 ∷ 101 ∷ 114 ∷ []

abbrev pub refused_word : List ℕ
refused_word = 114 ∷ 101 ∷ 102 ∷ 117 ∷ 115 ∷ 101 ∷ 100 ∷ 32 ∷ []

abbrev pub blank_word : List ℕ
blank_word = 32 ∷ []

-- a word and the number behind it
abbrev pub numbered : List ℕ → ℕ → List ℕ
numbered word x = word ++ number x

-- the parts of a second that the times are in, where these are not seconds
unfoldable pub of_parts : ℕ → List ℕ
of_parts parts = cond (ltb 1 parts) (numbered of_word parts) []

-- the first line, without its end
unfoldable pub heading : Result Verdict Fault → List ℕ
heading (Ok (verdict.Reached k s)) = numbered reached_word k.0 ++ of_parts s.parts
heading (Ok (verdict.Clear h)) = numbered clear_word h.0
heading (Ok verdict.Never) = never_word
heading (Err f) = numbered refused_word (faultNumber f) ++ numbered blank_word (returned f)

-- its end, and the lines of times that follow it
unfoldable pub lines_after : Case → Result Verdict Fault → List ℕ
lines_after c (Ok (verdict.Reached k s)) = lines s.parts c s.times (suc k.0)
lines_after c (Ok (verdict.Clear h)) = []
lines_after c (Ok verdict.Never) = []
lines_after c (Err f) = []

abbrev pub first_line : Result Verdict Fault → List ℕ
first_line r = heading r ++ 10 ∷ []

unfoldable pub answer_text : Case → Result Verdict Fault → List ℕ
answer_text c r = first_line r ++ lines_after c r

-- the program's Z for n departures, and its workspace, which is long enough for any n
abbrev pub few_zones : ℕ
few_zones = 32

abbrev pub program_zones : ℕ → ℕ
program_zones n = cond (leb n few_departures) 128 few_zones

abbrev pub program_space : ℕ
program_space = workspace_size few_zones most_departures

-- what the program prints for these bytes
unfoldable pub text : List ℕ → List ℕ
text s = elim (parse s) [ refused f ↦ first_line (Err f) | got c q ↦ answer_text c (answer c (program_zones c.n) program_space) ]
