-- Document 01's faults, and 14 to 16 of requests [1], [2], [6] and [7]: their numbers, what they return, and the first one of an unpacked case, of a case
-- for a packed form, of a call and of a run.
use Rattle.std.specs.Prelude as P
use Rattle.std.specs.Prelude.{Some, None, ℕ, zero, suc, ◌+◌, ℤ, pos, nat_abs, List, [], ◌∷◌, map, Bool, true, false, not, ◌&&◌, ◌||◌, cond, take, drop, ltb}
use Rattle.std.proofs.Math.Option.{Option, none}
use Rattle.ints.specs.declared.Seconds.{Seconds}
use Rattle.model.specs.declared.Limit.{Limit}
use Rattle.model.specs.declared.Case.{Case}
use Rattle.model.specs.declared.Form.{Form}
use Rattle.model.specs.declared.Fault.{Fault}
use Rattle.model.specs.declared.Fault.TheVariants as fault
use Rattle.model.specs.Sizes.{most_departures, most_cycles, most_zones, time_limit, bound_limit, start_limit, table_size, pattern_size, workspace_size}
use Rattle.model.specs.Forms.{most_in, markless}
use Rattle.model.specs.Lists.{when, or_else}
use Rattle.model.specs.Bound as B
use Rattle.model.specs.Bound.{Bound, upto}
use Rattle.model.specs.Network.{Time, blank, secs, Network, regular}

-- the number and what is returned. Number 12 is reserved: document 01's outcome that it stood for cannot occur, as request [9] says
abbrev pub code : Fault → ℕ × ℕ
code (fault.CaseEnds p) = (1, p)
code fault.Departures = (2, 0)
code fault.Horizon = (3, 0)
code (fault.Time p) = (4, p)
code (fault.EmptyRow p) = (5, p)
code (fault.Bound p) = (6, p)
code (fault.FillBit p) = (7, p)
code (fault.ExtraByte p) = (8, p)
code fault.Capacity = (9, 0)
code fault.Workspace = (10, 0)
code (fault.TableFull k) = (11, k.0)
code (fault.StartTime i) = (13, i)
code (fault.Output bytes) = (14, bytes)
code fault.Entry = (15, 0)
code (fault.Form p) = (16, p)

abbrev pub number : Fault → ℕ
number f = (code f).0

abbrev pub returned : Fault → ℕ
returned f = (code f).1

-- an entry of a table or of a pattern: None where it is absent
abbrev pub Entry : Type 0 → Type 0
Entry A = P.Option A

-- an entry as a time of the table, and a bound of a pattern
unfoldable pub time_of : Entry Seconds → Time
time_of None = blank
time_of (Some x) = secs x.0

unfoldable pub bound_of : Entry Limit → Bound
bound_of None = B.Bound.none
bound_of (Some e) = upto e.strict e.value.0

abbrev pub present : ℤ → Entry Seconds
present z = Some (record { 0 = z })

-- the number of a bound, and whether it is strict; a time as a bound that is not strict
abbrev pub stated : Entry Limit → Entry Seconds
stated None = None
stated (Some e) = Some e.value

abbrev pub marked : Entry Limit → Bool
marked None = false
marked (Some e) = e.strict

abbrev pub unmarked : Entry Seconds → Entry Limit
unmarked None = None
unmarked (Some x) = Some (record { strict = false; value = x })

-- the times of a table of n departures
abbrev pub table_of : ℕ → List (Entry Seconds) → List Time
table_of n slots = map time_of (take (table_size n) slots)

-- the network of a case: entries beyond n are ignored
unfoldable pub network : Case → Network
network c = record {
  n = c.n;
  horizon = c.horizon.0;
  times = table_of c.n c.times;
  start = map bound_of (take (pattern_size c.n) c.start);
  target = map bound_of (take (pattern_size c.n) c.target);
}

unfoldable pub beyond : ℕ → Entry Seconds → Bool
beyond limit None = false
beyond limit (Some x) = ltb limit (nat_abs x.0)

-- a fault of the entry at p: it is beyond the limit
unfoldable pub over : ℕ → (ℕ → Fault) → ℕ → Entry Seconds → Option Fault
over limit f p e = when (beyond limit e) (f p)

-- of the bound at p: 6
unfoldable pub bound_fault : ℕ → Entry Limit → Option Fault
bound_fault p e = over bound_limit fault.Bound p (stated e)

-- 16 at p: it is strict, and the form has no place for its mark
abbrev pub mark_fault : Form → ℕ → Entry Limit → Option Fault
mark_fault f p e = when (markless f && marked e) (fault.Form p)

-- for a form: 6, then 16
unfoldable pub bound_fault_in : Form → ℕ → Entry Limit → Option Fault
bound_fault_in f p e = or_else (bound_fault p e) (mark_fault f p e)

-- the first fault of the entries by what judge says of each: the first of them is at place p, and next gives the place after an entry
abbrev pub fault_along : {A : Type 0} → (ℕ → A → ℕ) → (ℕ → A → Option Fault) → ℕ → List A → Option Fault
fault_along next judge p [] = none
fault_along next judge p (e ∷ es) = or_else (judge p e) (fault_along next judge (next p e) es)

-- where they are numbered from p on
unfoldable pub entry_fault : {A : Type 0} → (ℕ → A → Option Fault) → ℕ → List A → Option Fault
entry_fault judge p es = fault_along (λ q e. suc q) judge p es

-- r rows of n entries each, a row after its last entry
unfoldable pub rows_fault : ℕ → ℕ → ℕ → List (Entry Seconds) → Option Fault
rows_fault n zero p es = none
rows_fault n (suc r) p es =
    or_else (entry_fault (over time_limit fault.Time) p (take n es))
    (or_else (when (not (regular (map time_of (take n es)))) (fault.EmptyRow p)) (rows_fault n r (p + n) (drop n es)))

unfoldable pub outside : ℕ → ℕ → ℕ → Bool
outside low high k = ltb k low || ltb high k

-- fault 2
abbrev pub departures_fault : Case → Option Fault
departures_fault c = when (outside 1 most_departures c.n) fault.Departures

-- fault 3, for k cycles of which there are to be at least low; then 4 and 5, row by row
abbrev pub times_fault : Case → ℕ → ℕ → Option Fault
times_fault c low k = or_else (when (outside low most_cycles k) fault.Horizon) (rows_fault c.n c.n 0 c.times)

unfoldable pub table_fault : Case → ℕ → ℕ → Option Fault
table_fault c low k = or_else (departures_fault c) (times_fault c low k)

-- the bounds, of the start followed by the target, by what judge says of each
unfoldable pub patterns_fault : (ℕ → Entry Limit → Option Fault) → Case → Option Fault
patterns_fault judge c =
    let size = pattern_size c.n in
    or_else (entry_fault judge 0 (take size c.start)) (entry_fault judge size (take size c.target))

-- the first fault of an unpacked case by itself, 2 to 6
unfoldable pub case_fault : Case → Option Fault
case_fault c = or_else (table_fault c 1 c.horizon.0) (patterns_fault bound_fault c)

-- 16 at p: the form has no place for n
abbrev pub too_many : Form → ℕ → Case → Option Fault
too_many f p c = when (ltb (most_in f) c.n) (fault.Form p)

-- of a case for a packed form: 2; 16 of n; 3 to 5; 6 and 16 of the bounds
unfoldable pub form_fault : Form → Case → Option Fault
form_fault f c =
    or_else (departures_fault c)
    (or_else (too_many f 0 c)
    (or_else (times_fault c 1 c.horizon.0) (patterns_fault (bound_fault_in f) c)))

-- then 9 and 10
unfoldable pub room_fault : ℕ → ℕ → ℕ → Option Fault
room_fault n capacity size =
    or_else (when (outside 1 most_zones capacity) fault.Capacity) (when (ltb size (workspace_size capacity n)) fault.Workspace)

-- the first fault of a call for a verdict: the case, Z, the length of the workspace
unfoldable pub call_fault : Case → ℕ → ℕ → Option Fault
call_fault c capacity size = or_else (case_fault c) (room_fault c.n capacity size)

-- the first fault of a run: the case, the start times, the cycle
unfoldable pub run_fault : Case → List Seconds → ℕ → Option Fault
run_fault c xs k =
    or_else (table_fault c 0 k) (entry_fault (over start_limit fault.StartTime) 0 (map (λ x. present x.0) (take c.n xs)))
