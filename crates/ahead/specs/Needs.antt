-- What a zone asks of the times whose image is in it, whatever the selection.
use Rattle.std.specs.Prelude.{ℕ, zero, suc, ◌+◌, ◌≤◌, ◌<◌, ◌≡◌, ◌⊎◌, List, true, pos, ◌-ℤ◌, get_or}
use Rattle.model.specs.Bound as B
use Rattle.model.specs.Bound.{Bound, most, plus, negative}
use Rattle.model.specs.Matrix.{Matrix, entry, matrix}
use Rattle.model.specs.Network.{Time, blank, secs, time}
use Rattle.model.specs.Search.{chosen}
use Rattle.model.specs.Conditions.{Column, tightest_of}
use Rattle.memory.specs.Numbers.{InMemory}
use Rattle.zones.specs.declared.Choice.{Choice}
use Rattle.zones.specs.Inner.{choice}

-- A(o, j). The clock, as row 0, has the time 0 in column 0, and no other
unfoldable pub row_time : ℕ → List Time → ℕ → ℕ → Time
row_time n a zero zero = secs (pos 0)
row_time n a zero (suc j) = blank
row_time n a (suc o) zero = blank
row_time n a (suc o) (suc j) = time n a (suc o) (suc j)

-- x(j) + t is at most the image in a row, which is within b of that in row r: what x(j) less the image in row r is within
unfoldable pub asks : Bound → Time → Bound
asks b blank = B.Bound.none
asks b (secs t) = plus b (most (pos 0 -ℤ t))

-- the tightest that a row o asks so
unfoldable pub need : ℕ → List Time → Matrix → ℕ → ℕ → Bound
need n a d r j = tightest_of (suc n) (λ o. asks (entry (suc n) d o r) (row_time n a o j))

unfoldable pub needs : ℕ → List Time → Matrix → Matrix
needs n a d = matrix (suc n) (need n a d)

-- the most that a need is in size: a bound and a time, each a number in memory
abbrev pub NeedMost : ℕ
NeedMost = InMemory + InMemory

-- where column c attains the image in its row, x(j) - x(c) is within this
abbrev pub needed : ℕ → List Time → Matrix → Choice → ℕ → Bound
needed n a ns c j = plus (entry (suc n) ns c.row j) (most (chosen n a c.row c.column))

-- no time of part is; and so it is for some j
abbrev pub Beyond : ℕ → List Time → Matrix → Matrix → Choice → ℕ → Type 0
Beyond n a ns part c j = negative (plus (entry (suc n) part c.column j) (needed n a ns c j)) ≡ true

pub record Unfit (n : ℕ) (a : List Time) (ns part : Matrix) (c : Choice) : Type 0 where
  pub at : ℕ
  pub to_n : at ≤ n
  pub beyond : Beyond n a ns part c at

-- it is so of the column of a row before row i
pub record UnfitBefore (n : ℕ) (a : List Time) (ns part : Matrix) (cols : List ℕ) (i : ℕ) : Type 0 where
  pub row : ℕ
  pub before : row < i
  pub unfit : Unfit n a ns part (choice row (get_or cols row 0))

-- of every column of row r, and of a row from row i on
abbrev pub NoneFits : ℕ → List Time → Matrix → Matrix → ℕ → Type 0
NoneFits n a ns part r = (s : ℕ) → Column n a r s → Unfit n a ns part (choice r s)

pub record UnfitFrom (n : ℕ) (a : List Time) (ns part : Matrix) (i : ℕ) : Type 0 where
  pub row : ℕ
  pub from : i ≤ row
  pub to_n : row ≤ n
  pub none_fits : NoneFits n a ns part row

-- either: then no selection leaves anything of part
abbrev pub Barred : ℕ → List Time → Matrix → Matrix → List ℕ → ℕ → Type 0
Barred n a ns part cols i = UnfitBefore n a ns part cols i ⊎ UnfitFrom n a ns part i
