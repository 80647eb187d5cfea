-- List k holds exactly the times whose k-step image is in the target. Its zones are closed.
use Prim.Native.Nat.{ℕ, zero, suc, ◌+◌, ◌≤◌, ◌<◌}
use native.Mathlib.Omega.{arith}
use mathlib.Core.Path.{◌≡◌, refl, sym, ap, ◌∙◌}
use mathlib.Core.Logic.{◌↔◌, ⊎_elim}
use mathlib.Core.List.{List, [], ◌∷◌, map, flat_map}
use mathlib.Core.Option.{Option}
use lib.IntN.{ℤ}
use lib.ListN.{get_or}
use Rattle.ints.proofs.Integers.{impossible}
use Rattle.model.specs.Lists.{tabulate, Every, done, both, Some, here, there}
use Rattle.model.specs.Matrix.{Matrix, tighten, Member}
use Rattle.model.specs.Pattern.{pattern_constraints, InPattern}
use Rattle.model.specs.Network.{Time, blank, secs, Network, time, latest, after, clocked, next, cycle, cycles}
use Rattle.model.specs.Search.{selections, preimage, previous, lists}
use Rattle.model.specs.Conditions.{Closed, Column, Regular, image, Selection}
use Rattle.model.proofs.MaxPlus.{latest_attained, latest_of_upper}
use Rattle.model.proofs.Listed.{every_map, every_all, map_every, flat_map_every, some_map, every_some, some_at, in_map, of_map, in_flat_map, of_flat_map}
use Rattle.model.proofs.Entries.{length_tabulate, get_d_tabulate}
use Rattle.model.proofs.Zones.{Is}
use Rattle.model.proofs.Cycles.{next_is, clocked_cycle, cycles_add}
use Rattle.model.proofs.Patterns.{closed_some, pattern_closed, pattern_in}
use Rattle.model.proofs.Selections.{selections_sound, selections_complete, select}
use Rattle.model.proofs.Preimage.{Attains, preimage_closed, preimage_in}
use Rattle.model.proofs.Kept.{kept_of, of_kept, kept_every}

-- membership looks at x(0) to x(m - 1) alone
pub member_at : (m : ℕ) (d : Matrix) {x y : ℕ → ℤ} → ((i : ℕ) → i < m → x i ≡ y i) → Member m d x → Member m d y
member_at m d same mem i j hi hj = rw (same i hi, same j hj) at (mem i j hi hj)

module _ (n : ℕ) (a : List Time) where
  pub image_cycle : (xs : List ℤ) (i : ℕ) → i < suc n → image n a (clocked xs) i ≡ clocked (cycle n a xs) i
  unfolding image clocked
  image_cycle xs zero h = refl
  image_cycle xs (suc i) h = sym (clocked_cycle n a xs (suc i) (omega arith) (omega arith))

  -- a sum that is a time is made of times
  pub sum_time : (u v : ℤ) (t : Time) → after (secs u) t ≡ secs v → (w : ℤ) × (t ≡ secs w)
  unfolding after
  sum_time u v blank e = impossible cc
  sum_time u v (secs w) e = (w, refl)

  module _ (reg : Regular n a) where
    -- in a regular table some column of each row attains the largest sum
    pub attaining : (x : ℕ → ℤ) (i : ℕ) → 1 ≤ i → i ≤ n → (s : ℕ) × Column n a i s × Attains n a x i s
    attaining x i l u =
        let sums : ℕ → Time = λ j. after (secs (x j)) (time n a i j) in
        let top : latest (tabulate n 1 sums) ≡ secs (next n a x i) = next_is n a reg x i l u in
        let (k, h, e) = latest_attained (tabulate n 1 sums) top in
        let k-fits : k < n = rw (length_tabulate n 1 sums) at h in
        let at : sums (1 + k) ≡ secs (next n a x i) = sym (get_d_tabulate n 1 k sums blank k-fits) ∙ e in
        let (w, is) = sum_time _ _ (time n a i (1 + k)) at in (
          1 + k,
          record { from_one = omega arith; to_n = omega arith; value = w; is = is },
          λ j lj uj. rw (at, ← top) (latest_of_upper n sums j lj uj),
        )

    -- the selection of such columns
    selecting : (x : ℕ → ℤ) → (sel : List ℕ) × Selection n a n 1 sel × ((r : ℕ) → r < n → Attains n a x (suc r) (get_or sel r 0))
    selecting x =
        let (sel, q, at) = select n a (Attains n a x) n 1 (λ i l u. attaining x i l (omega arith)) in
        (sel, q, λ r h. let e : 1 + r ≡ suc r = omega arith in rw e at (at r h))

    -- one list further back
    module _ (zs : List Matrix) (cl : Every (Closed (suc n)) zs) (xs : List ℤ) where
      abbrev Has : List ℤ → Matrix → Type 0
      Has ys z = Member (suc n) z (clocked ys)

      previous_of : Some (Has xs) (previous n a zs) → Some (Has (cycle n a xs)) zs
      unfolding previous
      previous_of p =
          ⊎_elim (λ q. elim q [ ])
          (λ q. some_map (λ d h. go d h.0 (of_map (preimage n a d) (selections n a n 1) h.1))
          (every_some cl (of_flat_map (λ d. map (preimage n a d) (selections n a n 1)) zs q)))
          (kept_of [] (flat_map (λ d. map (preimage n a d) (selections n a n 1)) zs) p)
        where
          go : (d : Matrix) → Closed (suc n) d → Some (λ sel. Is (Has xs) (preimage n a d sel)) (selections n a n 1) → Has (cycle n a xs) d
          go d c q =
              let (sel, h, e) = some_at (every_some (selections_sound n a n 1) q) in
              member_at (suc n) d (image_cycle xs) ((preimage_in n a d sel h.0 (clocked xs) c).0 h.1).1

      of_previous : Some (Has (cycle n a xs)) zs → Some (Has xs) (previous n a zs)
      unfolding previous
      of_previous p =
          let (sel, q, at) = selecting (clocked xs) in
          of_kept [] (in_flat_map (λ d. map (preimage n a d) (selections n a n 1))
          (some_map (λ d h. in_map (preimage n a d) (some_map (λ s e. rw e
          ((preimage_in n a d sel q (clocked xs) h.0).1 (at, member_at (suc n) d (λ i l. sym (image_cycle xs i l)) h.1)))
          (selections_complete n a q))) (every_some cl p)))

-- ---- the lists of a network
module _ (w : Network) where
  -- each zone of a list is closed
  pub lists_closed : (k : ℕ) → Every (Closed (suc w.n)) (lists w k)
  unfolding lists previous
  lists_closed zero = kept_every done (both (λ z e. closed_some (rw e at (pattern_closed w.n w.target))) done)
  lists_closed (suc k) =
      kept_every done (flat_map_every _ (every_all
      (λ d. map_every (preimage w.n w.times d)
      (every_map (λ sel q z e. closed_some (rw e at (preimage_closed w.n w.times d sel q))) (selections_sound w.n w.times w.n 1)))
      (lists w k)))

  -- the times of list k are those whose k-step image is in the target
  module _ (reg : Regular w.n w.times) where
    pub list_in_lem : (k : ℕ) (xs : List ℤ)
        → Some (λ z. Member (suc w.n) z (clocked xs)) (lists w k) ↔ InPattern w.n w.target (clocked (cycles w.n w.times k xs))
    unfolding lists cycles
    list_in_lem zero xs =
        let zone = pattern_in w.n w.target (clocked xs) in
        let o = tighten (suc w.n) (pattern_constraints w.n w.target) in
        (λ p. zone.0 (⊎_elim (λ q. elim q [ ]) only (kept_of [] (o ∷ []) p)), λ h. of_kept [] (here {x = o} {xs = []} (zone.1 h)))
      where
        only : {P : Option Matrix → Type 0} {o : Option Matrix} → Some P (o ∷ []) → P o
        only (here h) = h
        only (there q) = elim q [ ]
    list_in_lem (suc k) xs =
        let one : (j : ℕ) → 1 + j ≡ suc j = λ j. omega arith in
        let e : cycles w.n w.times k (cycle w.n w.times xs) ≡ cycle w.n w.times (cycles w.n w.times k xs)
        = sym (cycles_add w.n w.times 1 k xs) ∙ ap (λ (j : ℕ). cycles w.n w.times j xs) (one k) in
        let rest = list_in_lem k (cycle w.n w.times xs) in (
          λ p. rw e at (rest.0 (previous_of w.n w.times reg (lists w k) (lists_closed k) xs p)),
          λ h. of_previous w.n w.times reg (lists w k) (lists_closed k) xs (rest.1 (rw e h)),
        )
