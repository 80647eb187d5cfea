-- A decision between two zones looks at a network's table alone.
use Prim.Native.Nat.{ℕ, zero, suc, ◌≤◌}
use mathlib.Core.Path.{◌≡◌, refl, sym, ap, ◌∙◌}
use mathlib.Core.Bool.{Bool, ◌&&◌, cond}
use mathlib.Core.List.{List, []}
use Rattle.model.specs.Matrix.{Matrix}
use Rattle.model.specs.Network.{Time, Network, product}
use Rattle.decisions.specs.Decide.{Tried, found, missed, spent, Decision, never, again, Kept, renewed, follows}
use Rattle.decisions.specs.Decide as D
use Rattle.decisions.specs.Conditions.{table_in, from_seconds}
use Rattle.decisions.proofs.ForCode.{from_end, from_more}

-- the same table, with no patterns
abbrev pub alone : Network → Network
alone w = record { n = w.n; horizon = 0; times = w.times; start = []; target = [] }

module _ (w : Network) (parts : ℕ) (some_parts : 1 ≤ parts) (may : Bool) (z d : Matrix) (horizon : ℕ) where
  abbrev whole : ℕ → ℕ → List Time → Kept → ℕ → Decision
  whole = from_seconds w parts may z d horizon

  abbrev bare : ℕ → ℕ → List Time → Kept → ℕ → Decision
  bare = from_seconds (alone w) parts may z d horizon

  pub same_alone : (r k : ℕ) (b : List Time) (c : Kept) (t : ℕ) → whole r k b c t ≡ bare r k b c t
  same_alone zero k b c t = from_end w parts may z d horizon k b c t ∙ sym (from_end (alone w) parts may z d horizon k b c t)
  same_alone (suc r) k b c t =
      from_more w parts may z d horizon some_parts r k b c t ∙ go (same_alone r (suc k)) (D.meeting w.n (table_in parts b) z d t)
      ∙ sym (from_more (alone w) parts may z d horizon some_parts r k b c t)
    where
      go : ((b : List Time) (c : Kept) (u : ℕ) → whole r (suc k) b c u ≡ bare r (suc k) b c u) → (o : Tried)
          → follows w may k b c (whole r (suc k)) o ≡ follows (alone w) may k b c (bare r (suc k)) o
      go rest (found y) = refl
      go rest spent = refl
      go rest (missed u) =
          let b' = product w.n w.times b in
          ap (cond (may && again c.table b') never) (rest b' (renewed (suc k) b' c) u)
