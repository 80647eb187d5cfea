-- The first column that attains the largest sum of a row: in a regular table each row has one at any times,
-- and its constraints say that it attains the largest sum.
use Prim.Native.Nat.{ℕ, zero, suc, ◌+◌, ◌-◌, ◌≤◌, ◌<◌}
use native.Mathlib.Omega.{arith}
use mathlib.Core.Path.{◌≡◌, refl, ◌∙◌}
use mathlib.Core.Bool.{Bool, true, false, cond}
use mathlib.Core.List.{List}
use borrow.Author.Tests.{ltb-true}
use lib.IntN.{ℤ, pos, ◌+ℤ◌, ◌-ℤ◌}
use lib.Dec.{ltb}
use Rattle.ints.proofs.Integers.{up, dn, nat_eq, add_ud, sub_ud, pos_ud}
use Rattle.model.specs.Bound.{most, any, Holds}
use Rattle.model.specs.Matrix.{Matrix, Constraint}
use Rattle.model.specs.Network.{Time, blank, secs, time, after, secs_of, same_time}
use Rattle.model.specs.Search.{chosen, slack, attains, row_constraints}
use Rattle.model.specs.Lists.{Every}
use Rattle.model.specs.Conditions.{Fits, Column, Regular, Chosen, Cols}
use Rattle.model.proofs.Bounds.{bounds, nat_le_b}
use Rattle.model.proofs.Same.{same_time_true, same_time_refl}
use Rattle.model.proofs.MaxPlus.{LeT, le_t_nat}
use Rattle.model.proofs.Listed.{every_append, every_split, every_tabulate, at_tabulate}
use Rattle.model.proofs.Zones.{Keeps}
use Rattle.model.proofs.Rows.{behind, of_row}
use Rattle.model.proofs.Selections.{chosen_fits}
use Rattle.model.proofs.Preimage.{Attains, row_fits}
use Rattle.model.proofs.ZoneLists.{sum_time, attaining}
use Rattle.decisions.specs.Decide.{lead, attains_first, first_constraints}

-- the least number that passes a test which s passes
least : (p : ℕ → Bool) (s : ℕ) → p s ≡ true → (t : ℕ) × (p t ≡ true) × (t ≤ s) × ((j : ℕ) → j < t → p j ≡ false)
least p zero e = (0, e, omega arith, λ j h. absurd (omega arith))
least p (suc s) e = go (p 0) refl (least (λ j. p (suc j)) s e)
  where
    go : (b : Bool) → p 0 ≡ b → (t : ℕ) × (p (suc t) ≡ true) × (t ≤ s) × ((j : ℕ) → j < t → p (suc j) ≡ false)
        → (t : ℕ) × (p t ≡ true) × (t ≤ suc s) × ((j : ℕ) → j < t → p j ≡ false)
    go true z rest = (0, z, omega arith, λ j h. absurd (omega arith))
    go false z (t, f, l, before) = (suc t, f, omega arith, at)
      where
        at : (j : ℕ) → j < suc t → p j ≡ false
        at zero h = z
        at (suc j) h = before j (omega arith)

-- times that fail the test are not equal
times_differ : (t u : Time) → same_time t u ≡ false → ¬ (t ≡ u)
times_differ t u e d = let z : ◌≡◌ {A = ℕ} 0 1 = cc (rw d at e, same_time_refl u) in omega arith

-- column j of row i, against the column s
abbrev pub leading : ℕ → List Time → ℕ → ℕ → ℕ → Constraint
leading n b i s j = record { row = j; col = s; limit = slack (lead j s (chosen n b i s)) (time n b i j) }

-- column s is the first that attains the largest sum of row i
abbrev pub AttainsFirst : ℕ → List Time → (ℕ → ℤ) → ℕ → ℕ → Type 0
AttainsFirst n b x i s = (j : ℕ) → 1 ≤ j → j ≤ n → Keeps x (leading n b i s j)

-- room up to a sum w + c, and up to one less where the sum u + t is not equal to it
room : (u w c : ℤ) (t : Time) → LeT (after (secs u) t) (secs (w +ℤ c)) → Holds (u -ℤ w) (slack c t)
unfolding slack after
room u w c blank h = any
room u w c (secs t) h = nat_le_b (omega (bounds, le_t_nat, sub_ud u w, sub_ud c t, add_ud u t, add_ud w c))

room_before : (u w c : ℤ) (t : Time) → LeT (after (secs u) t) (secs (w +ℤ c)) → ¬ (after (secs u) t ≡ secs (w +ℤ c)) → Holds (u -ℤ w) (slack (c -ℤ pos 1) t)
unfolding slack after
room_before u w c blank h ne = any
room_before u w c (secs t) h ne =
    let apart : ¬ (up (u +ℤ t) + dn (w +ℤ c) ≡ up (w +ℤ c) + dn (u +ℤ t)) = λ e. let z = nat_eq e in ne (rw z) in
    nat_le_b (omega (bounds, le_t_nat, sub_ud u w, sub_ud c (pos 1), sub_ud (c -ℤ pos 1) t, add_ud u t, add_ud w c, pos_ud 1))

-- less room is room
lead_slack : (j s : ℕ) (c v : ℤ) (t : Time) → Holds v (slack (lead j s c) t) → Holds v (slack c t)
unfolding lead slack
lead_slack j s c v blank h = any
lead_slack j s c v (secs t) h = go (ltb j s) h
  where
    go : (b : Bool) → Holds v (most (cond b (c -ℤ pos 1) c -ℤ t)) → Holds v (most (c -ℤ t))
    go true k = omega (bounds, sub_ud c (pos 1), sub_ud (c -ℤ pos 1) t, sub_ud c t, pos_ud 1)
    go false k = k

module _ (n : ℕ) (b : List Time) where
  -- some column is the first, in a regular table
  module _ (reg : Regular n b) (x : ℕ → ℤ) (r : ℕ) where
    sums : ℕ → Time
    sums j = after (secs (x j)) (time n b (suc r) j)

    -- column t has the largest sum and none before it has
    first_is : {t : ℕ} (k : Column n b (suc r) t) → ((j : ℕ) → 1 ≤ j → j ≤ n → LeT (sums j) (sums t))
        → ((j : ℕ) → 1 ≤ j → j < t → ¬ (sums j ≡ sums t)) → AttainsFirst n b x (suc r) t
    unfolding sums lead chosen secs_of after
    first_is {t} k most_sum before j l u = rw k.is (go (ltb j t) refl)
      where
        sum_is : after (secs (x t)) (time n b (suc r) t) ≡ secs (x t +ℤ k.value)
        sum_is = rw k.is

        go : (q : Bool) → ltb j t ≡ q → Holds (x j -ℤ x t) (slack (cond q (k.value -ℤ pos 1) k.value) (time n b (suc r) j))
        go true e = room_before (x j) (x t) k.value (time n b (suc r) j)
            (rw sum_is at (most_sum j l u)) (rw sum_is at (before j l (omega (arith, ltb-true))))
        go false e = room (x j) (x t) k.value (time n b (suc r) j) (rw sum_is at (most_sum j l u))

    pub first_attaining : r < n → (s : ℕ) × Column n b (suc r) s × (AttainsFirst n b x (suc r) s × Attains n b x (suc r) s)
    unfolding sums after
    first_attaining h =
        let (s, k, at) = attaining n b reg x (suc r) (omega arith) (omega arith) in
        let one : suc (s - 1) ≡ s = let l = k.from_one in omega arith in
        let (t, e, le, before) = least (λ j. same_time (sums (suc j)) (sums s)) (s - 1) (rw one (same_time_refl (sums s))) in
        let same : sums (suc t) ≡ sums s = same_time_true (sums (suc t)) (sums s) e in
        let sum-s : sums s ≡ secs (x s +ℤ k.value) = rw k.is in
        let (v, is) = sum_time n b (x (suc t)) (x s +ℤ k.value) (time n b (suc r) (suc t)) (same ∙ sum-s) in
        let col : Column n b (suc r) (suc t) = record { from_one = omega arith; to_n = let u = k.to_n in omega arith; value = v; is = is } in
        let top : (j : ℕ) → 1 ≤ j → j ≤ n → LeT (sums j) (sums (suc t)) = λ j l u. rw same (at j l u) in (
          suc t,
          col,
          (
            first_is col top (λ j l u d.
                let e : suc (j - 1) ≡ j = omega arith in
                times_differ _ _ (rw e at (before (j - 1) (omega arith))) (d ∙ same)),
            top,
          ),
        )

  -- ---- the constraints of a row
  module _ (d : Matrix) (cols : List ℕ) (i s : ℕ) where
    -- they are on x(0) to x(n)
    pub first_fits : Cols n b cols i → Chosen n b i s → Every (Fits (suc n)) (first_constraints n b d cols i s)
    unfolding first_constraints attains_first row_constraints
    first_fits before c =
        let (p, q) = every_split (attains n b i s) _ (of_row (Fits (suc n)) n b d cols i s (row_fits n b d before c)) in
        every_append (every_tabulate n 1 (leading n b i s) (λ j h. record { row_fits = omega arith; col_fits = chosen_fits c })) q

    module _ (x : ℕ → ℤ) where
      -- they imply those of document 01
      pub first_row : Every (Keeps x) (first_constraints n b d cols i s) → Every (Keeps x) (row_constraints n b d cols i s)
      unfolding first_constraints attains_first row_constraints attains
      first_row e =
          let (p, q) = every_split (attains_first n b i s) _ e in
          every_append (every_tabulate n 1 (behind n b i s) (λ j h.
          lead_slack (1 + j) s (chosen n b i s) _ (time n b i (1 + j)) (at_tabulate n 1 (leading n b i s) p j h))) q

      -- and are implied by them where the column is the first
      pub row_first : AttainsFirst n b x i s → Every (Keeps x) (row_constraints n b d cols i s) → Every (Keeps x) (first_constraints n b d cols i s)
      unfolding first_constraints attains_first row_constraints
      row_first first e =
          let (p, q) = every_split (attains n b i s) _ e in
          every_append (every_tabulate n 1 (leading n b i s) (λ j h. first (1 + j) (omega arith) (omega arith))) q
