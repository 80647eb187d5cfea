-- Conditions that the contracts inside the library name. The demands do not rest on them.
use Rattle.std.specs.Prelude.{ℕ, zero, suc, ◌*◌, ◌≤◌, ◌<◌, ◌≡◌, List, [], ◌∷◌, map, Bool, false, ◌&&◌, ℤ, pos, neg_ℤ, nat_abs, ◌+ℤ◌, length, get_or}
use Rattle.std.proofs.Math.Option.{Option, some}
use Rattle.ints.specs.declared.Seconds.{Seconds}
use Rattle.model.specs.declared.Limit.{Limit}
use Rattle.model.specs.declared.Form.{Form}
use Rattle.model.specs.Sizes.{most_departures, most_cycles, time_limit, bound_limit, wide_lead, wide_digits, wide_mark}
use Rattle.model.specs.Forms.{markless}
use Rattle.model.specs.Lists.{tabulate, Every}
use Rattle.model.specs.Bound.{Bound, none, upto, most, LeB, plus, scale}
use Rattle.model.specs.Matrix.{Matrix, entry, Member, everything, Constraint, constrain}
use Rattle.model.specs.Pattern.{pair_bound, pattern_constraints}
use Rattle.model.specs.Network.{Time, secs, scale_time, Network, time, next}
use Rattle.model.specs.Search.{chosen, rows_constraints, tightest}
use Rattle.model.specs.Faults.{Entry, stated, marked, beyond}

-- ---- departures
pub record Departures (n : ℕ) : Type 0 where
  pub some : 1 ≤ n
  pub few : n ≤ most_departures

-- ---- packed forms
-- no field of the form is longer than the wide form's
pub record FormLimits (f : Form) : Type 0 where
  pub lead_few : f.lead ≤ wide_lead
  pub digits_few : f.digits ≤ wide_digits
  pub mark_few : f.mark ≤ wide_mark

-- ---- columns
-- column j of row i holds a time
pub record Column (n : ℕ) (a : List Time) (i j : ℕ) : Type 0 where
  pub from_one : 1 ≤ j
  pub to_n : j ≤ n
  pub value : ℤ
  pub is : time n a i j ≡ secs value

-- each row holds a time
abbrev pub Regular : ℕ → List Time → Type 0
Regular n a = (i : ℕ) → 1 ≤ i → i ≤ n → (j : ℕ) × Column n a i j

-- the column of a row: the clock's, of row 0, is 0
pub data Chosen (n : ℕ) (a : List Time) : ℕ → ℕ → Type 0 where
  clock : Chosen n a 0 0
  column : {r s : ℕ} → Column n a (suc r) s → Chosen n a (suc r) s

-- the columns of rows 0 to i - 1
abbrev pub Cols : ℕ → List Time → List ℕ → ℕ → Type 0
Cols n a cols i = (l : ℕ) → l < i → Chosen n a l (get_or cols l 0)

-- a column for each of r rows from row i on
pub data Selection (n : ℕ) (a : List Time) : ℕ → ℕ → List ℕ → Type 0 where
  no_row : {i : ℕ} → Selection n a zero i []
  choose : {r i j : ℕ} {s : List ℕ} → Column n a i j → Selection n a r (suc i) s → Selection n a (suc r) i (j ∷ s)

-- ---- sizes
-- no bound, or one of at most B in size
pub data Small (B : ℕ) : Bound → Type 0 where
  free : Small B none
  sized : {s : Bool} {z : ℤ} → nat_abs z ≤ B → Small B (upto s z)

-- times in their limit
abbrev pub TimesSmall : ℕ → List Time → Type 0
TimesSmall n a = (i j : ℕ) (v : ℤ) → time n a i j ≡ secs v → nat_abs v ≤ time_limit

-- the stated bounds of a pattern are at most B in size
abbrev pub PatternSmall : ℕ → ℕ → List Bound → Type 0
PatternSmall n B b = (i j : ℕ) → Small B (pair_bound n b i j)

-- the limits of a table
pub record TableLimits (n : ℕ) (times : List Time) : Type 0 where
  pub departures : Departures n
  pub regular : Regular n times
  pub times_small : TimesSmall n times

-- the limits of a call's network
pub record Limits (w : Network) : Type 0 where
  pub table : TableLimits w.n w.times
  pub some_cycles : 1 ≤ w.horizon
  pub few_cycles : w.horizon ≤ most_cycles
  pub start_small : PatternSmall w.n bound_limit w.start
  pub target_small : PatternSmall w.n bound_limit w.target

-- it is absent, or at most limit in size
abbrev pub InLimit : ℕ → Entry Seconds → Type 0
InLimit limit e = beyond limit e ≡ false

-- of a bound
abbrev pub BoundInLimit : Entry Limit → Type 0
BoundInLimit e = InLimit bound_limit (stated e)

-- for a form: also, it is not strict where the form has no place for its mark
abbrev pub BoundIn : Form → Entry Limit → Type 0
BoundIn f e = BoundInLimit e × ((markless f && marked e) ≡ false)

-- each limit is at most B in size
abbrev pub AllSmall : ℕ → List Constraint → Type 0
AllSmall B ks = Every (λ k. Small B k.limit) ks

-- ---- matrices
-- a constraint on x(0) to x(m - 1)
pub record Fits (m : ℕ) (k : Constraint) : Type 0 where
  pub row_fits : k.row < m
  pub col_fits : k.col < m

pub record Closed (m : ℕ) (d : Matrix) : Type 0 where
  pub size : length d ≡ m * m
  pub diag : (i : ℕ) → i < m → entry m d i i ≡ most (pos 0)
  pub triangle : (i j k : ℕ) → i < m → j < m → k < m → LeB (entry m d i j) (plus (entry m d i k) (entry m d k j))

-- each finite bound is at most L in size
abbrev pub Bounded : ℕ → ℕ → Matrix → Type 0
Bounded m L d = (i j : ℕ) → i < m → j < m → Small L (entry m d i j)

-- no set on the way has a finite bound beyond L: neither the set itself nor what any front of the constraints leaves of it
pub data Fitting (m L : ℕ) : Option Matrix → List Constraint → Type 0 where
  gone : {ks : List Constraint} → Fitting m L Option.none ks
  last : {d : Matrix} → Bounded m L d → Fitting m L (some d) []
  more : {d : Matrix} {k : Constraint} {ks : List Constraint} → Bounded m L d → Fitting m L (constrain m (some d) k) ks → Fitting m L (some d) (k ∷ ks)

-- the preimages of d by all selections can be built within L
abbrev pub Buildable : ℕ → List Time → ℕ → Matrix → Type 0
Buildable n a L d = (sel : List ℕ) → Selection n a n 1 sel → Fitting (suc n) L (some (everything (suc n))) (rows_constraints n a d (0 ∷ []) 1 sel)

-- and what d has in common with a pattern
abbrev pub Meetable : ℕ → List Bound → ℕ → Matrix → Type 0
Meetable n b L d = Fitting (suc n) L (some d) (pattern_constraints n b)

-- the tightest of f 0, .., f (t - 1)
abbrev pub tightest_of : ℕ → (ℕ → Bound) → Bound
tightest_of t f = tightest (tabulate t 0 f)

-- how late the time of t may be in d, given those below t, and how early, negated
abbrev pub how_late : ℕ → Matrix → ℕ → (ℕ → ℤ) → Bound
how_late m d t x = tightest_of t (λ s. plus (entry m d t s) (most (x s)))

abbrev pub how_early : ℕ → Matrix → ℕ → (ℕ → ℤ) → Bound
how_early m d t x = tightest_of t (λ s. plus (entry m d s t) (most (neg_ℤ (x s))))

-- ---- images
-- the image of x: the clock's time, then the times of the next cycle
unfoldable pub image : ℕ → List Time → (ℕ → ℤ) → ℕ → ℤ
image n a x zero = x zero
image n a x (suc i) = next n a x (suc i)

-- x(s) with what column s adds in row l
abbrev pub sum : ℕ → List Time → (ℕ → ℤ) → ℕ → ℕ → ℤ
sum n a x l s = x s +ℤ chosen n a l s

-- at all times of p, in all parts, these columns attain the images in the rows before i
abbrev pub Imaged : ℕ → List Time → Matrix → List ℕ → ℕ → Type 0
Imaged n a p cols i =
    (parts : ℕ) → 1 ≤ parts → (x : ℕ → ℤ) → Member (suc n) (map (scale parts) p) x → (l : ℕ) → l < i
    → let b = map (scale_time parts) a in sum n b x l (get_or cols l 0) ≡ image n b x l

-- a set, with columns of rows 0 to i - 1 that attain the images
pub record Before (n : ℕ) (a : List Time) (p : Matrix) (cols : List ℕ) (i : ℕ) : Type 0 where
  pub closed_set : Closed (suc n) p
  pub from_one : 1 ≤ i
  pub long : length cols ≡ i
  pub columns : Cols n a cols i
  pub imaged : Imaged n a p cols i
