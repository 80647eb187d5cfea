-- What is written in a form: entries and cases without a fault, and their bytes in front of an output.
use Rattle.std.specs.Prelude.{Option, Some, ◌≡◌, ℕ, ◌+◌, ◌*◌, ◌^◌, ◌≤◌, ◌<◌, List, ◌++◌, length, take, drop}
use Rattle.std.proofs.Math.Option.{none}
use Rattle.model.specs.declared.Case.{Case}
use Rattle.model.specs.declared.Form.{Form}
use Rattle.model.specs.Sizes.{most_cycles}
use Rattle.model.specs.Forms.{most_in}
use Rattle.model.specs.Lists.{Every}
use Rattle.model.specs.Packed.{Kind, time_kind, bound_kind}
use Rattle.model.specs.Conditions.{Departures, FormLimits}

-- the bytes, and what stood in the output behind them
abbrev pub InFront : List ℕ → List ℕ → List ℕ → Type 0
InFront bytes out after = after ≡ bytes ++ drop (length bytes) out

-- ---- entries
-- an entry of this kind has no fault
abbrev pub Faultless : {A : Type 0} → Kind A → A → Type 0
Faultless k e = (p : ℕ) → k.judge p e ≡ none

-- one that is present has no fault in a form, and so has a place there
pub record Placed {A : Type 0} (kind : Form → Kind (Option A)) (x : A) (f : Form) : Type 0 where
  pub limits : FormLimits f
  pub faultless : Faultless (kind f) (Some x)

-- its number
pub record Spells {A : Type 0} (kind : Form → Kind (Option A)) (x : A) (f : Form) (r : ℕ) : Type 0 where
  pub is : r ≡ (kind f).raw (Some x)
  pub small : r < 2 ^ (kind f).width

-- ---- a case
-- n and h have their fields
pub record NumbersIn (f : Form) (n h : ℕ) : Type 0 where
  pub place : n ≤ most_in f
  pub some_cycles : 0 < h
  pub few_cycles : h ≤ most_cycles

-- it keeps to its limits and to those of the form
pub record Sound (f : Form) (c : Case) : Type 0 where
  pub limits : FormLimits f
  pub departures : Departures c.n
  pub numbers : NumbersIn f c.n c.horizon.0
  pub times : Every (Faultless time_kind) (take (c.n * c.n) c.times)
  pub start : Every (Faultless (bound_kind f)) (take (c.n * (c.n + 1)) c.start)
  pub target : Every (Faultless (bound_kind f)) (take (c.n * (c.n + 1)) c.target)
