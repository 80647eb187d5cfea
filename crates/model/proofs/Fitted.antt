-- No set on the way passes the limit: the laws of Fitting, and that it holds of sets that are built from small constraints.
use Prim.Native.Nat.{ℕ, zero, suc, ◌+◌, ◌*◌, ◌-◌, ◌≤◌, ◌<◌}
use native.Mathlib.Omega.{arith}
use native.Mathlib.Nat.{mul-le-mul_right}
use mathlib.Core.Path.{◌≡◌, refl}
use mathlib.Core.List.{List, [], ◌∷◌, ◌++◌, flatten, foldl, append-nil}
use mathlib.Core.Option.{Option, none, some}
use Rattle.model.specs.Sizes.{times_apart, bound_limit}
use Rattle.model.specs.Lists.{tabulate, Every, done, both}
use Rattle.model.specs.Bound.{Bound}
use Rattle.model.specs.Matrix.{Matrix, everything, Constraint, constrain, tighten}
use Rattle.model.specs.Network.{Time}
use Rattle.model.specs.Conditions.{Fits, AllSmall, TimesSmall, PatternSmall, Selection, Bounded, Fitting, gone, last, more, Buildable, Meetable}
use Rattle.model.proofs.Listed.{every_map}
use Rattle.model.proofs.Patterns.{pattern_fits}
use Rattle.model.proofs.Size.{small_mono}
use Rattle.model.proofs.Spread.{Made, Spread, spread_each, spread_more, spread_small, Near, small}
use Rattle.model.proofs.Rows.{of_row}
use Rattle.model.proofs.Selections.{chosen_fits}
use Rattle.model.proofs.Preimage.{col, cols, front, front_more, rows_fit, selection_front}
use Rattle.model.proofs.PartSizes.{part, next_near}
use Rattle.model.proofs.Sizes.{made_everything, pattern_small}

module _ {m L : ℕ} where
  -- the set itself, and one step
  pub fitting_bounded : {d : Matrix} {ks : List Constraint} → Fitting m L (some d) ks → Bounded m L d
  fitting_bounded (last b) = b
  fitting_bounded (more b f) = b

  pub fitting_step : {o : Option Matrix} {k : Constraint} {ks : List Constraint} → Fitting m L o (k ∷ ks) → Fitting m L (constrain m o k) ks
  unfolding constrain
  fitting_step gone = gone
  fitting_step (more b f) = f

  -- two lists of constraints in a row
  pub fitting_append : {o : Option Matrix} {ks ls : List Constraint} → Fitting m L o ks → Fitting m L (foldl (constrain m) o ks) ls → Fitting m L o (ks ++ ls)
  fitting_append gone g = gone
  fitting_append (last b) g = g
  fitting_append (more b f) g = more b (fitting_append f g)

  pub fitting_front : (ks ls : List Constraint) {o : Option Matrix} → Fitting m L o (ks ++ ls) → Fitting m L o ks
  fitting_front [] ls {o = none} f = gone
  fitting_front [] ls {o = some d} f = last (fitting_bounded f)
  fitting_front (k ∷ ks) ls gone = gone
  fitting_front (k ∷ ks) ls (more b f) = more b (fitting_front ks ls f)

  pub fitting_rest : (ks ls : List Constraint) {o : Option Matrix} → Fitting m L o (ks ++ ls) → Fitting m L (foldl (constrain m) o ks) ls
  fitting_rest [] ls f = f
  fitting_rest (k ∷ ks) ls f = fitting_rest ks ls (fitting_step f)

  -- a set, if there is one
  fitting_some : (o : Option Matrix) {ks : List Constraint} → ((d : Matrix) → o ≡ some d → Fitting m L (some d) ks) → Fitting m L o ks
  fitting_some none f = gone
  fitting_some (some d) f = f d refl

  -- what is left in the end
  pub fitting_left : {o : Option Matrix} (ks : List Constraint) {c : Matrix} → Fitting m L o ks → foldl (constrain m) o ks ≡ some c → Bounded m L c
  fitting_left {o} ks f e = fitting_bounded (rw e at (fitting_rest ks [] {o = o} (rw (append-nil ks) f)))

-- a set that is given by constraints of at most B, but for those on s, and further such
module _ {n m B r s L : ℕ} (at : s < suc m) (room : (m + r + r) * B ≤ L) where
  spread_bounded : {z : Matrix} → Spread n m (Near B r s) z → Bounded (suc n) L z
  spread_bounded sp i j hi hj = small_mono room (spread_small at sp i j hi hj)

  spread_fitting : {z : Matrix} {ks : List Constraint} → Spread n m (Near B r s) z → Every (Fits (suc n)) ks → Every (Near B r s) ks
      → Fitting (suc n) L (some z) ks
  spread_fitting sp done done = last (spread_bounded sp)
  spread_fitting {z} {ks = k ∷ ks} sp (both f fs) (both h hs) =
      more (spread_bounded sp) (fitting_some (constrain (suc n) (some z) k) (λ c e. spread_fitting (spread_more sp (both f done) (both h done) e) fs hs))

module _ {n B L : ℕ} where
  pub made_fitting : n * B ≤ L → {z : Matrix} {ks : List Constraint} → Made n B z → Every (Fits (suc n)) ks → AllSmall B ks
      → Fitting (suc n) L (some z) ks
  made_fitting room m fits limits =
      let e : n + 0 + 0 ≡ n = omega arith in
      spread_fitting {m = n} {B = B} {r = 0} {s = 0} (omega arith) (rw e room) (spread_each (λ k. small) m) fits (every_map (λ k. small) limits)

  -- what a zone has in common with a pattern
  pub made_meetable : (b : List Bound) → PatternSmall n bound_limit b → bound_limit ≤ B → n * B ≤ L → {d : Matrix} → Made n B d → Meetable n b L d
  made_meetable b limits wider room m = made_fitting room m (pattern_fits n b) (every_map (λ c. small_mono wider) (pattern_small n b limits))

-- its preimages, row by row
module _ {n B L : ℕ} (a : List Time) (ts : TimesSmall n a) (room : 4 * n * (B + times_apart) ≤ L) where
  front_fitting : {d : Matrix} → Made n B d → (sel : List ℕ) → Selection n a n 1 sel → (r : ℕ) → r ≤ n
      → Fitting (suc n) L (some (everything (suc n))) (front n a d sel r)
  unfolding tabulate flatten tighten
  front_fitting m sel q zero few = made_fitting {B = 0} (omega arith) (made_everything n 0) done done
  front_fitting {d} m sel q (suc r) few =
      let s = col sel (suc r) in
      let at : s < suc n = chosen_fits (cols n a sel q (suc r) (omega arith)) in
      let wide : (n + (n - r) + n + n) * (B + times_apart) ≤ L
      = omega (arith, mul-le-mul_right {m = n + (n - r) + n + n} {n = 4 * n} (B + times_apart) (omega arith)) in
      rw (front_more n a d sel r)
      (fitting_append (front_fitting m sel q r (omega arith)) (fitting_some (tighten (suc n) (front n a d sel r)) (λ p left.
      spread_fitting {B = B + times_apart} {r = n} {s = s} (omega arith) wide (spread_each (λ k. small) (part n a sel q r (omega arith) ts m left))
      (of_row (Fits (suc n)) n a d (0 ∷ sel) (suc r) s (rows_fit n a d sel q r few)) (next_near n a sel q ts m r few))))

  pub made_buildable : {d : Matrix} → Made n B d → Buildable n a L d
  made_buildable {d} m sel q = rw (selection_front n a d sel q) (front_fitting m sel q n (omega arith))
