-- What a zone asks of the times whose image is in it: a column that does not fit is lost, and a row without a column that fits ends all selections.
use Prim.Native.Nat.{ℕ, zero, suc, ◌-◌, ◌≤◌, ◌<◌}
use native.Mathlib.Omega.{arith}
use mathlib.Core.Path.{◌≡◌, refl, sym, ap, ◌∙◌}
use mathlib.Core.Logic.{⊎_elim}
use mathlib.Core.Bool.{true}
use mathlib.Core.List.{List, [], ◌∷◌, ◌++◌, map, foldl}
use mathlib.Core.Option.{Option, none, some}
use lib.IntN.{ℤ, pos, ◌+ℤ◌, ◌-ℤ◌, ◌*ℤ◌}
use lib.Signed.{◌≤ℤ◌}
use lib.ListN.{get_or, get_or-append}
use Rattle.ints.proofs.Integers.{impossible, ints, add_ud, sub_ud, pos_ud}
use Rattle.model.specs.Bound as B
use Rattle.model.specs.Bound.{Bound, upto, most, LeB, any, Holds, plus, negative, scale}
use Rattle.model.specs.Matrix.{Matrix, entry, Constraint, constrain, within}
use Rattle.model.specs.Network.{Time, blank, secs, scale_time, time, after, secs_of, next}
use Rattle.model.specs.Search.{chosen, rows_constraints}
use Rattle.model.specs.Lists.{done, both}
use Rattle.model.specs.Conditions.{Fits, image, sum, Selection}
use Rattle.model.proofs.Bounds.{bounds, le_b_trans, across, plus_none}
use Rattle.model.proofs.Scale.{scale_plus, mul_sub, mul_zero}
use Rattle.model.proofs.Attained.{tightest_of_either}
use Rattle.model.proofs.Entries.{entry_matrix}
use Rattle.model.proofs.MaxPlus.{latest_of_upper, le_t_secs}
use Rattle.model.proofs.Mapped.{entry_map}
use Rattle.model.proofs.Inner.{scaling}
use Rattle.model.proofs.Unique.{scaled}
use Rattle.model.proofs.Zones.{closed, all_in_parts}
use Rattle.model.proofs.Parts.{time_parts, chosen_parts}
use Rattle.model.proofs.Selections.{chosen_fits}
use Rattle.zones.specs.declared.Choice.{Choice}
use Rattle.zones.specs.Inner.{choice}
use Rattle.ahead.specs.Needs.{row_time, asks, need, needs, needed, Unfit, Barred}
use Rattle.ahead.specs.Outlook.{Shut, Lost, Outlook}
use Rattle.ahead.proofs.Leaving.{LeftTime, column_at, left_time}

-- x(j) with the time that row o has in column j is at most the image in row o; in parts
time_under : (n : ℕ) (a : List Time) (parts : ℕ) (x : ℕ → ℤ) (o j : ℕ) (t : ℤ) → j ≤ n → row_time n a o j ≡ secs t
    → (x j +ℤ (t *ℤ pos parts)) ≤ℤ image n (map (scale_time parts) a) x o
unfolding row_time image next secs_of scale_time after
time_under n a parts x zero zero t h e =
    let z : image n (map (scale_time parts) a) x 0 ≡ x 0 = refl in
    rw (mul_is t e) (omega (ints, add_ud (x 0) (pos 0), pos_ud 0))
  where
    mul_is : (t : ℤ) → secs (pos 0) ≡ secs t → t *ℤ pos parts ≡ pos 0
    mul_is t e = ap (λ (s : Time). secs_of s *ℤ pos parts) (sym e) ∙ mul_zero parts
time_under n a parts x zero (suc j) t h e = impossible cc
time_under n a parts x (suc o) zero t h e = impossible cc
time_under n a parts x (suc o) (suc j) t h e =
    let at : time n (map (scale_time parts) a) (suc o) (suc j) ≡ secs (t *ℤ pos parts) = time_parts parts n a (suc o) (suc j) ∙ ap (scale_time parts) e in
    let upper = latest_of_upper n (λ j. after (secs (x j)) (time n (map (scale_time parts) a) (suc o) j)) (suc j) (omega arith) h in
    let (b, is, le) = le_t_secs (rw at at upper) in
    rw is le

module _ {n : ℕ} {a : List Time} {d part : Matrix} where
  -- each time that is left keeps to what is asked
  need_holds : {all : List ℕ} (t : LeftTime n a d part all) (r j : ℕ) → r < suc n → j < suc n
      → Holds (t.x j -ℤ image n (map (scale_time t.parts) a) t.x r) (scale t.parts (need n a d r j))
  unfolding need asks scale
  need_holds t r j hr hj = tightest_of_either (λ b. Holds (t.x j -ℤ image n (map (scale_time t.parts) a) t.x r) (scale t.parts b)) (suc n) _ any (λ o h.
      go o h (row_time n a o j) refl)
    where
      go : (o : ℕ) → o < suc n → (u : Time) → row_time n a o j ≡ u
          → Holds (t.x j -ℤ image n (map (scale_time t.parts) a) t.x r) (scale t.parts (asks (entry (suc n) d o r) u))
      go o h blank e = any
      go o h (secs u) e =
          let A = map (scale_time t.parts) a in
          let parts = t.parts in
          let x = t.x in
          let mine = image n A x r in
          let under = time_under n a parts x o j u (omega arith) e in
          let neg : (pos 0 -ℤ u) *ℤ pos parts ≡ pos 0 -ℤ (u *ℤ pos parts) = mul_sub (pos 0) u parts ∙ ap (λ (v : ℤ). v -ℤ (u *ℤ pos parts)) (mul_zero parts) in
          let less : LeB (most ((x j -ℤ mine) -ℤ (pos 0 -ℤ (u *ℤ pos parts)))) (most (image n A x o -ℤ mine))
          = omega (
            bounds,
            add_ud (x j) (u *ℤ pos parts),
            sub_ud (x j) mine,
            sub_ud (pos 0) (u *ℤ pos parts),
            pos_ud 0,
            sub_ud (x j -ℤ mine) (pos 0 -ℤ (u *ℤ pos parts)),
            sub_ud (image n A x o) mine,
          ) in
          rw (scale_plus parts (entry (suc n) d o r) (most (pos 0 -ℤ u)), neg, ← (entry_map (scaling parts t.some_parts) (suc n) d o r))
          ((across (x j -ℤ mine) (pos 0 -ℤ (u *ℤ pos parts)) (entry (suc n) (scaled parts d) o r)).1
          (le_b_trans less (t.lands o r h hr)))

-- a constraint that no time of the set keeps to leaves nothing
no_way : (m : ℕ) (d : Matrix) (k : Constraint) → negative (plus (entry m d k.col k.row) k.limit) ≡ true → constrain m (some d) k ≡ none
unfolding constrain within negative
no_way m d k e = go k.limit e
  where
    go : (b : Bound) → negative (plus (entry m d k.col k.row) b) ≡ true → within m d k.row k.col b ≡ none
    go B.Bound.none e = let f : negative B.Bound.none ≡ true = rw (plus_none (entry m d k.col k.row)) at e in impossible cc
    go (upto s c) e = rw e

module _ {n : ℕ} {a : List Time} {d part : Matrix} {cols : List ℕ} {i : ℕ} (o : Outlook n a d part cols i) where
  -- nothing is left if no time is
  none_of : (rest : List ℕ) → Selection n a (suc n - i) i rest → (LeftTime n a d part (cols ++ rest) → ⊥)
      → foldl (constrain (suc n)) (some part) (rows_constraints n a d cols i rest) ≡ none
  none_of rest q never = go _ refl
    where
      go : (z : Option Matrix) → foldl (constrain (suc n)) (some part) (rows_constraints n a d cols i rest) ≡ z → z ≡ none
      go none e = refl
      go (some z) e = absurd (never (left_time o q e))

  module _ {c : Choice} (row : c.row ≤ n) (col : c.column ≤ n) where
    -- what the zone asks where column c attains the image
    abbrev asked : ℕ → Constraint
    asked j = record { row = j; col = c.column; limit = needed n a (needs n a d) c j }

    asked_kept : {all : List ℕ} (t : LeftTime n a d part all) → get_or all c.row 0 ≡ c.column → (j : ℕ) → j ≤ n
        → Holds (t.x j -ℤ t.x c.column) (scale t.parts (asked j).limit)
    unfolding needs scale
    asked_kept t is j h =
        let A = map (scale_time t.parts) a in
        let x = t.x in
        let v = chosen n A c.row c.column in
        let at : sum n A x c.row c.column ≡ image n A x c.row = rw is at (t.attained c.row (omega arith)) in
        let w = x c.column in
        let same : (x j -ℤ w) -ℤ v ≡ x j -ℤ image n A x c.row
        = rw (← at) (omega (ints, sub_ud (x j) w, sub_ud (x j -ℤ w) v, add_ud w v, sub_ud (x j) (sum n A x c.row c.column))) in
        rw (
          entry_matrix (suc n) c.row j (need n a d) (omega arith) (omega arith),
          scale_plus t.parts (need n a d c.row j) (most (chosen n a c.row c.column)),
          ← (chosen_parts t.parts n a c.row c.column),
        )
        ((across (x j -ℤ x c.column) v (scale t.parts (need n a d c.row j))).1 (rw same (need_holds t c.row j (omega arith) (omega arith))))

    -- a column that does not fit is lost
    pub lost_unfit : Unfit n a (needs n a d) part c → Lost n a d part cols i c
    lost_unfit u rest q is = none_of rest q (λ t.
        let k = asked u.at in
        let fits : Fits (suc n) k = record { row_fits = omega (arith, u.to_n); col_fits = omega arith } in
        let back = (all_in_parts (suc n) t.parts t.some_parts {ks = k ∷ []} (closed o.before.closed_set) (both fits done) t.x).1 in
        rw (no_way (suc n) part k u.beyond) at (back (t.inside, both (asked_kept t is u.at u.to_n) done)))

  -- nothing is left of a set if a row before has a column that does not fit, or a row from row i on has no other
  pub shut_barred : i ≤ suc n → Barred n a (needs n a d) part cols i → Shut n a d part cols i
  shut_barred few barred rest q = ⊎_elim
      (λ u.
      let column = chosen_fits (o.before.columns u.row u.before) in
      lost_unfit {c = choice u.row (get_or cols u.row 0)} (omega (arith, u.before)) (omega arith) u.unfit rest q
      (get_or-append cols rest 0 u.row (omega (arith, o.before.long, u.before))))
      (λ u.
      let c = column_at o q u.row u.from (omega (arith, u.to_n)) in
      lost_unfit {c = choice u.row (get_or (cols ++ rest) u.row 0)} u.to_n c.to_n (u.none_fits _ c) rest q refl)
      barred
