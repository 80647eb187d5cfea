-- What `any` and `all` over a range say of its numbers, where they answer true.
use Prim.Native.Nat.{ℕ, ◌+◌, ◌-◌, ◌≤◌, ◌<◌}
use native.Mathlib.Omega.{arith}
use mathlib.Core.Path.{◌≡◌}
use mathlib.Core.Bool.{Bool, true}
use lib.ListN.{length}
use Rattle.std.specs.Bool.{MatchBool}
use Rattle.std.specs.List.{range_with_len, HoldsAt, AllWithin}
use Rattle.std.proofs.lemmas.Bool.{MatchBool-at_true}
use Rattle.std.proofs.lemmas.List.FromFn.{length-range_with_len, get_or-range_with_len}

module _ (P : ℕ → Type 0) (Q : Type 0) (low n : ℕ) {r : Bool} (t : r ≡ true) where
  pub some_number : MatchBool r ((k : ℕ) × (k < length (range_with_len low n)) × HoldsAt P (range_with_len low n) k) Q
      → (k : ℕ) × (low ≤ k) × (k < low + n) × P k
  some_number m =
      let w = MatchBool-at_true _ _ t m in
      let h : w.0 < n = omega (arith, length-range_with_len low n, w.1) in
      (low + w.0, omega arith, omega arith, rw (get_or-range_with_len low n w.0 0 h) at (w.2 0))

  pub each_number : MatchBool r (AllWithin P (range_with_len low n) 0 (length (range_with_len low n))) Q → (k : ℕ) → low ≤ k → k < low + n → P k
  each_number m k l h =
      let i = k - low in
      let is : low + i ≡ k = omega arith in
      rw (get_or-range_with_len low n i 0 (omega arith), is) at (MatchBool-at_true _ _ t m i 0 (omega arith) (omega (arith, length-range_with_len low n)))
