-- The list made from the zones with the clock moved is the list made from them, moved: the columns of a selection are the clock's in the clock's row alone.
use Prim.Native.Nat.{ℕ, zero, suc, ◌≤◌, ◌<◌}
use native.Mathlib.Omega.{arith}
use mathlib.Core.Path.{◌≡◌, refl, sym, ap, ap₂, ◌∙◌}
use mathlib.Core.List.{List, [], ◌∷◌, ◌++◌, map, map-map, map-append, flatten, flat_map, foldl}
use mathlib.Core.Option
use mathlib.Core.Option.{Option}
use lib.IntN.{ℤ, pos, ◌-ℤ◌}
use lib.ListN.{get_or}
use Rattle.model.specs.Lists.{tabulate, Every, done, both}
use Rattle.model.specs.Bound.{Bound, most, plus}
use Rattle.model.specs.Matrix.{Matrix, entry, Constraint, tighten}
use Rattle.model.specs.Network.{Time}
use Rattle.model.specs.Search.{chosen, attains, keeps, row_constraints, keep, preimage, selections, previous}
use Rattle.model.specs.Conditions.{Closed, Chosen, clock, column, Cols, Selection}
use Rattle.ints.proofs.Integers.{up, dn, ints, sub_ud}
use Rattle.model.proofs.Bounds.{plus_assoc, plus_comm}
use Rattle.model.proofs.Listed.{every_map, every_all, map_every, flat_map_every}
use Rattle.model.proofs.Entries.{ext_entry}
use Rattle.model.proofs.Tabulated.{tabulate_ext, map_tabulate}
use Rattle.model.proofs.Rows.{behind}
use Rattle.model.proofs.Patterns.{closed_some}
use Rattle.model.proofs.Selections.{selections_sound}
use Rattle.model.proofs.Preimage.{col, cols, row_of, selection_front, selection_fits, preimage_closed}
use Rattle.moves.specs.Moving.{clock_by, moved}
use Rattle.moves.proofs.Numbers.{on_time}
use Rattle.moves.proofs.Potentials.{plus_nothing, move_one, move_size, move_entry, move_tighten, kept_moved}

map_flatten : {X Y : Type 0} (f : X → Y) (xss : List (List X)) → map f (flatten xss) ≡ flatten (map (map f) xss)
unfolding flatten
map_flatten f [] = refl
map_flatten f (xs ∷ xss) = map-append f xs (flatten xss) ∙ ap (◌++◌ (map f xs)) (map_flatten f xss)

map_every_same : {X Y : Type 0} (f g : X → Y) {xs : List X} → Every (λ x. f x ≡ g x) xs → map f xs ≡ map g xs
map_every_same f g done = refl
map_every_same f g (both h hs) = rw (h, map_every_same f g hs)

module _ (n : ℕ) (a : List Time) (c : ℤ) where
  abbrev by : ℕ → ℤ
  by = clock_by c

  abbrev move_k : Constraint → Constraint
  move_k = move_one (suc n) by

  -- a column is as late as its row
  still : {i s : ℕ} → Chosen n a i s → by s ≡ by i
  unfolding clock_by
  still clock = refl
  still (column k) = on_time c _ k.from_one

  -- ---- the constraints of a selection
  module _ (d : Matrix) where
    keeps_moved : {i s l t : ℕ} → i < suc n → l < suc n → Chosen n a i s → Chosen n a l t
        → keeps n a (moved n c d) i s l t ≡ move_k (keeps n a d i s l t)
    unfolding keeps moved
    keeps_moved {i} {s} {l} {t} hi hl ci cl =
        let far = most (chosen n a l t -ℤ chosen n a i s) in
        let e = entry (suc n) d i l in
        let u = most (by i -ℤ by l) in
        ap (λ (b : Bound). record { row = s; col = t; limit = b })
        (rw (move_entry (suc n) by d i l hi hl, still ci, still cl)
        (plus_assoc e u far ∙ ap (plus e) (plus_comm u far) ∙ sym (plus_assoc e far u)))

    -- that a column of a row other than the clock's is behind another is as it was
    behind_moved : {i s j : ℕ} → 1 ≤ i → 1 ≤ j → Chosen n a i s → behind n a i s j ≡ move_k (behind n a i s j)
    unfolding up dn
    behind_moved {i} {s} {j} from l ci =
        let none : by j -ℤ by s ≡ pos 0 = rw (on_time c j l, still ci, on_time c i from) (omega (ints, sub_ud (pos 0) (pos 0))) in
        ap (λ (b : Bound). record { row = j; col = s; limit = b }) (rw none (sym (plus_nothing _)))

    -- the two that rows i and l make
    abbrev pairs : Matrix → List ℕ → ℕ → ℕ → ℕ → List Constraint
    pairs e all i s l = keeps n a e i s l (get_or all l 0) ∷ keeps n a e l (get_or all l 0) i s ∷ []

    row_moved : (all : List ℕ) (i s : ℕ) → i < suc n → 1 ≤ i → Cols n a all i → Chosen n a i s
        → row_constraints n a (moved n c d) all i s ≡ map move_k (row_constraints n a d all i s)
    unfolding row_constraints attains
    row_moved all i s hi from before ci =
        ap₂ ◌++◌
        (tabulate_ext n 1 _ _ (λ j l u. behind_moved from l ci) ∙ sym (map_tabulate move_k n 1 (behind n a i s)))
        (ap flatten (tabulate_ext i 0 (pairs (moved n c d) all i s) (λ l. map move_k (pairs d all i s l)) (λ l u v.
        let cl = before l (omega arith) in
        let hl : l < suc n = omega arith in
        ap₂ (λ (j k : Constraint). j ∷ k ∷ []) (keeps_moved hi hl ci cl) (keeps_moved hl hi cl ci))
        ∙ sym (map_tabulate (map move_k) i 0 (pairs d all i s))) ∙ sym (map_flatten move_k (tabulate i 0 (pairs d all i s))))
        ∙ sym (map-append move_k (attains n a i s) (flatten (tabulate i 0 (pairs d all i s))))

    preimage_moved : (sel : List ℕ) → Selection n a n 1 sel → preimage n a (moved n c d) sel ≡ Option.map (moved n c) (preimage n a d sel)
    unfolding preimage moved
    preimage_moved sel q =
        ap (tighten (suc n)) (selection_front n a (moved n c d) sel q ∙ ap flatten (tabulate_ext n 1 _ _ (λ i l u.
        row_moved (0 ∷ sel) i (col sel i) (omega arith) l (λ k h. cols n a sel q k (omega arith)) (cols n a sel q i (omega arith)))
        ∙ sym (map_tabulate (map move_k) n 1 (row_of n a d sel))) ∙ sym (map_flatten move_k (tabulate n 1 (row_of n a d sel)))
        ∙ ap (map move_k) (sym (selection_front n a d sel q)))
        ∙ move_tighten (suc n) by (selection_fits n a d sel q)

  -- ---- the list
  abbrev sets : Matrix → List (Option Matrix)
  sets d = map (preimage n a d) (selections n a n 1)

  sets_moved : (d : Matrix) → sets (moved n c d) ≡ map (Option.map (moved n c)) (sets d)
  sets_moved d =
      map_every_same _ _ (every_map (λ sel q. preimage_moved d sel q) (selections_sound n a n 1))
      ∙ sym (map-map (Option.map (moved n c)) (preimage n a d) (selections n a n 1))

  all_moved : (zs : List Matrix) → flat_map sets (map (moved n c) zs) ≡ map (Option.map (moved n c)) (flat_map sets zs)
  unfolding flat_map
  all_moved [] = refl
  all_moved (d ∷ zs) = ap₂ ◌++◌ (sets_moved d) (all_moved zs) ∙ sym (map-append (Option.map (moved n c)) (sets d) (flat_map sets zs))

  pub previous_moved : (zs : List Matrix) → previous n a (map (moved n c) zs) ≡ map (moved n c) (previous n a zs)
  unfolding previous moved
  previous_moved zs = ap (foldl keep []) (all_moved zs) ∙ kept_moved (suc n) by [] done (flat_map_every sets (every_all (λ d.
      map_every (preimage n a d) (every_map (λ sel q z e. (closed_some (rw e at (preimage_closed n a d sel q))).size) (selections_sound n a n 1))) zs))

-- ---- the clock stays
clock_stays : (i : ℕ) → clock_by (pos 0) i ≡ pos 0
unfolding clock_by
clock_stays zero = refl
clock_stays (suc i) = refl

pub still_same : (n : ℕ) {zs : List Matrix} → Every (Closed (suc n)) zs → map (moved n (pos 0)) zs ≡ zs
unfolding moved up dn
still_same n done = refl
still_same n (both {x = d} {xs = zs} h hs) = ap₂ ◌∷◌
    (ext_entry (suc n) _ _ (move_size (suc n) (clock_by (pos 0)) d) h.size (λ i j hi hj.
    let none : clock_by (pos 0) i -ℤ clock_by (pos 0) j ≡ pos 0 = rw (clock_stays i, clock_stays j) (omega (ints, sub_ud (pos 0) (pos 0))) in
    move_entry (suc n) (clock_by (pos 0)) d i j hi hj ∙ rw none (plus_nothing (entry (suc n) d i j))))
    (still_same n hs)
