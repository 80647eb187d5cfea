-- Matrices in memory, on the way: rows that are stored place by place, constraints that are taken in one by one, times that are picked.
-- Said of the bounds alone, whatever the numbers that stand for them: d is the matrix that the numbers z are.
use Rattle.std.specs.Prelude.{ℕ, suc, ◌*◌, ◌≤◌, ◌<◌, ◌≡◌, Bool, true, false, ℤ, nat_abs}
use mathlib.Core.List.{List, [], ◌∷◌, foldl, map}
use Rattle.std.proofs.Math.Option.{Option, none, some}
use Rattle.ints.specs.declared.Seconds.{Seconds}
use Rattle.model.specs.Sizes.{most_times_at_once}
use Rattle.model.specs.Lists.{Every}
use Rattle.model.specs.Bound.{Bound, LeB, plus, tighter}
use Rattle.model.specs.Matrix.{Matrix, entry, Constraint, constrain}
use Rattle.model.specs.Network.{clocked}
use Rattle.model.specs.Search.{greatest_or}
use Rattle.model.specs.Conditions.{Departures, Closed, Fits, Small, Fitting, how_early, how_late}
use Rattle.memory.specs.Conditions.{ZoneIn}

-- ---- stores by rows
-- row i of d is f in its first j places; all else is as in d₀
pub record RowFilled (n : ℕ) (d₀ d : Matrix) (f : ℕ → Bound) (i j : ℕ) : Type 0 where
  pub done : (l : ℕ) → l < suc n → l < j → entry (suc n) d i l ≡ f l
  pub left : (l : ℕ) → l < suc n → j ≤ l → entry (suc n) d i l ≡ entry (suc n) d₀ i l
  pub others : (k l : ℕ) → k < suc n → l < suc n → (k ≡ i → ⊥) → entry (suc n) d k l ≡ entry (suc n) d₀ k l

-- entry (i, j), or the way by row b where that is tighter: `way` bounds x(i) - x(b)
abbrev pub across : ℕ → Matrix → ℕ → ℕ → Bound → ℕ → Bound
across n d i b way j = tighter (entry (suc n) d i j) (plus way (entry (suc n) d b j))

-- row i can be made so: the way is at most W in size, and no bound to be stored passes L
pub record Relaxable {A : Type 0} (n L W : ℕ) (z : List A) (d : Matrix) (i b : ℕ) (way : Bound) : Type 0 where
  pub zone : ZoneIn n z
  pub row : i < suc n
  pub base : b < suc n
  pub way_small : Small W way
  pub closed : (j : ℕ) → j < suc n → LeB (entry (suc n) d i j) (plus (entry (suc n) d i b) (entry (suc n) d b j))
  pub new_small : (j : ℕ) → j < suc n → Small L (across n d i b way j)

-- ---- constraints taken in one by one
-- what they leave of d
abbrev pub leaves : ℕ → Matrix → List Constraint → Option Matrix
leaves n d ks = foldl (constrain (suc n)) (some d) ks

-- the set o that is left, by the answer. False: no times are left, and e is free. True: e is that set
pub data Left : Option Matrix → Bool → Matrix → Type 0 where
  gone : {e : Matrix} → Left none false e
  kept : {d e : Matrix} → e ≡ d → Left (some d) true e

-- they leave something
pub record SomeLeft (n : ℕ) (d : Matrix) (ks : List Constraint) : Type 0 where
  pub zone : Matrix
  pub is : leaves n d ks ≡ some zone

-- d can take in the constraints ks: it holds the tightest bounds, and no set on the way has a finite bound beyond L
pub record Takes (n L : ℕ) (d : Matrix) (ks : List Constraint) : Type 0 where
  pub few : n ≤ most_times_at_once
  pub closed : Closed (suc n) d
  pub fits : Every (Fits (suc n)) ks
  pub fitting : Fitting (suc n) L (some d) ks

-- x(a) - x(b) is within c
abbrev pub limited : ℕ → ℕ → Bound → List Constraint
limited a b c = record { row = a; col = b; limit = c } ∷ []

-- d can take it in, and c is at most W in size: small enough to be added to
pub record TakesOne (n L W : ℕ) (d : Matrix) (a b : ℕ) (c : Bound) : Type 0 where
  pub taking : Takes n L d (limited a b c)
  pub small : Small W c

-- and that leaves some times
pub record ConstrainReady (n L W : ℕ) (d : Matrix) (a b : ℕ) (c : Bound) : Type 0 where
  pub one : TakesOne n L W d a b c
  pub times : SomeLeft n d (limited a b c)

-- ---- the start that is picked
abbrev pub values : List Seconds → List ℤ
values xs = map (λ x. x.0) xs

-- the times xs of the departures before t are small, where a number of z is at most S in size
pub record NextFrom (n S : ℕ) (z xs : List ℤ) (t : ℕ) : Type 0 where
  pub departures : Departures n
  pub zone : ZoneIn n z
  pub to_n : t ≤ n
  pub small : (s : ℕ) → s < t → nat_abs (clocked xs s) ≤ t * S

-- r is the time of departure t, given those before it
pub record NextOf (n S : ℕ) (d : Matrix) (xs : List ℤ) (t : ℕ) (r : Seconds) : Type 0 where
  pub is : r.0 ≡ greatest_or (how_early (suc n) d t (clocked xs)) (how_late (suc n) d t (clocked xs))
  pub small : nat_abs r.0 ≤ suc t * S
