-- How the reader's answers say what a reading gives.
use Rattle.std.specs.Prelude.{◌≡◌, ℕ, ◌+◌, ◌≤◌, List, [], map, cond, Result, Ok, Err, MatchResult}
use Rattle.ints.specs.declared.Seconds.{Seconds}
use Rattle.model.specs.declared.Fault.{Fault}
use Rattle.model.specs.declared.Fault.TheVariants as fault
use Rattle.model.specs.Network.{regular}
use Rattle.model.specs.Faults.{Entry, time_of}
use Rattle.model.specs.Packed.{Reading, got, refused, and_then, time_kind, entries}
use Rattle.packed.specs.declared.Cursor.{Cursor}

-- a value was read, and the next cursor is behind it, at most so many bits further on
pub record Next {A : Type 0} (before : Cursor) (most : ℕ) (x : List ℕ → ℕ → Reading A) (a : A) (after : Cursor) : Type 0 where
  pub bytes_kept : after.bytes.now ≡ before.bytes.now
  pub form_kept : after.form ≡ before.form
  pub near : after.at ≤ before.at + most
  pub gives : x before.bytes.now before.at ≡ got a after.at

-- the answer is what a reading of the bytes gives
abbrev pub Reads : {A : Type 0} → Cursor → ℕ → Result (A × Cursor) Fault → (List ℕ → ℕ → Reading A) → Type 0
Reads before most answer x = MatchResult answer (λ field. Next before most x field.0 field.1) (λ f. x before.bytes.now before.at ≡ refused f)

-- what was put into its places, with the next cursor, unless there is a fault
abbrev pub filled : {A : Type 0} → Result Cursor Fault → A → Result (A × Cursor) Fault
filled (Ok next) a = Ok (a, next)
filled (Err f) a = Err f

-- a row of n times, unless none of them is there
unfoldable pub row_of : ℕ → List ℕ → ℕ → Reading (List (Entry Seconds))
row_of n s p = and_then (entries time_kind s n p []) (λ row q. cond (regular (map time_of row)) (got row q) (refused (fault.EmptyRow p)))
