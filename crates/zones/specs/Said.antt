-- Bounds on x(i) - x(j) that a function says, for all i and j.
use Rattle.std.specs.Prelude.{ℕ, suc, ◌<◌, List, Bool}
use mathlib.Core.List.{flatten}
use Rattle.model.specs.Lists.{tabulate}
use Rattle.model.specs.Bound.{Bound}
use Rattle.model.specs.Matrix.{Matrix, Constraint}
use Rattle.memory.specs.declared.Number.{Number}
use Rattle.memory.specs.Conditions.{ReadWithin}
use Rattle.memory.specs.Matrices.{leaves, Left, Takes}

abbrev pub said : (ℕ → ℕ → Bound) → ℕ → ℕ → Constraint
said f i j = record { row = i; col = j; limit = f i j }

abbrev pub said_row : ℕ → ℕ → (ℕ → ℕ → Bound) → List Constraint
said_row n i f = tabulate (suc n) 0 (said f i)

abbrev pub said_all : ℕ → (ℕ → ℕ → Bound) → List Constraint
said_all n f = flatten (tabulate (suc n) 0 (λ i. said_row n i f))

-- d can take in the constraints ks, of those that f says, no bound beyond L; a call with i and j may be made where P says so, and gives r where Q says
-- so: what f says, where a finite bound is at most S in size
pub record Saying (n L S : ℕ) (d : Matrix) (P : ℕ → ℕ → Type 0) (Q : ℕ → ℕ → Number → Type 0) (f : ℕ → ℕ → Bound) (ks : List Constraint)
    : Type 0 where
  pub taking : Takes n L d ks
  pub asks : (i j : ℕ) → i < suc n → j < suc n → P i j
  pub tells : (i j : ℕ) (r : Number) → i < suc n → j < suc n → Q i j r → ReadWithin S (f i j) r

-- some f is what is said
abbrev pub Sayable : ℕ → ℕ → ℕ → Matrix → (ℕ → ℕ → Type 0) → (ℕ → ℕ → Number → Type 0) → ((ℕ → ℕ → Bound) → List Constraint) → Type 0
Sayable n L S d P Q ks = (f : ℕ → ℕ → Bound) × Saying n L S d P Q f (ks f)

-- r and e are what its constraints leave of d
abbrev pub SaidLeft : ℕ → ℕ → ℕ → Matrix → (ℕ → ℕ → Type 0) → (ℕ → ℕ → Number → Type 0) → ((ℕ → ℕ → Bound) → List Constraint) → Bool → Matrix
    → Type 0
SaidLeft n L S d P Q ks r e = (f : ℕ → ℕ → Bound) → Saying n L S d P Q f (ks f) → Left (leaves n d (ks f)) r e
