-- How long the parts of the text are at most.
use Rattle.std.specs.Prelude.{ℕ, suc, ◌+◌, ◌*◌, ◌≤◌, ◌≡◌}
use Rattle.model.specs.Sizes.{most_departures, most_cycles}
use Rattle.model.specs.declared.Case.{Case}
use Rattle.model.specs.declared.StartTimes.{StartTimes}
use Rattle.model.specs.Search.{parts_of}
use Rattle.model.specs.Faults.{network}
use Rattle.puts.specs.Decimal.{most_digits, most_signed}

-- a time and the blank before it; a cycle, its times and the end of the line
abbrev pub field_size : ℕ
field_size = suc most_signed

abbrev pub line_size : ℕ
line_size = most_digits + field_size * most_departures + 1

-- a word of the heading; a word and a number, of which the heading has at most two
abbrev pub word_size : ℕ
word_size = 8

abbrev pub numbered_size : ℕ
numbered_size = word_size + most_digits

abbrev pub heading_size : ℕ
heading_size = numbered_size + numbered_size

-- a line for each cycle from 0 on
abbrev pub most_lines : ℕ
most_lines = suc most_cycles

-- a run to cycle k has few lines, of few times, and is in the parts of a second that a start of the case is in
pub record FewLines (c : Case) (k : ℕ) (s : StartTimes) : Type 0 where
  pub departures : c.n ≤ most_departures
  pub lines : suc k ≤ most_lines
  pub parts : s.parts ≡ parts_of (network c)

-- the text, which the heading, the end of its line and the lines are at most
abbrev pub text_size : ℕ
text_size = 24576
