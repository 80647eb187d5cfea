-- Zones without strict bounds: constraints that are not strict leave none, so a network whose patterns have none meets none.
use Prim.Native.Nat.{ℕ, zero, suc, ◌+◌, ◌*◌}
use mathlib.Core.Path.{◌≡◌, refl}
use mathlib.Core.Bool.{Bool, true, false, cond}
use mathlib.Core.List.{List, [], ◌∷◌, ◌++◌, foldl}
use mathlib.Core.Option.{Option, none, some}
use lib.IntN.{ℤ, pos}
use lib.Dec.{eqb}
use lib.ListN.{get_or}
use Rattle.ints.proofs.Integers.{impossible}
use Rattle.model.specs.Lists.{any_of, Every, done, both}
use Rattle.model.specs.Bound as B
use Rattle.model.specs.Bound.{Bound, upto, most}
use Rattle.model.specs.Matrix.{Matrix, entry, matrix, diagonal, everything, relaxed, Constraint, constrain, tighten}
use Rattle.model.specs.Pattern.{pair_place, pair_bound, pattern_constraints}
use Rattle.model.specs.Network.{Time, blank, secs, Network, time}
use Rattle.model.specs.Search.{selections, chosen, slack, keeps, row_constraints, rows_constraints, preimage, previous, lists, common}
use Rattle.model.specs.Search.{is_strict, some_strict, parts_of}
use Rattle.model.proofs.Bounds.{Plain, unbounded, at_most, plus_plain, tighter_either}
use Rattle.model.proofs.Listed.{every_append, every_map, every_all, every_tabulate, every_flatten, at_get_d, map_every, flat_map_every}
use Rattle.model.proofs.Closed.{Within, free, ruled_out, kept, within_is}
use Rattle.model.proofs.Attained.{AllPlain}
use Rattle.model.proofs.Size.{PlainLimits}
use Rattle.model.proofs.Limits.{or_is_false}
use Rattle.model.proofs.Rows.{of_row}
use Rattle.model.proofs.Kept.{any_of_false, kept_every}

abbrev pub PlainZone : Option Matrix → Type 0
PlainZone o = (d : Matrix) → o ≡ some d → Every Plain d

pub entry_plain : {d : Matrix} → Every Plain d → (m i j : ℕ) → Plain (entry m d i j)
unfolding entry
entry_plain p m i j = at_get_d B.Bound.none unbounded p (i * m + j)

pub all_plain : {d : Matrix} → Every Plain d → (m : ℕ) → AllPlain m d
all_plain p m i j hi hj = entry_plain p m i j

matrix_plain : (m : ℕ) (f : ℕ → ℕ → Bound) → ((i j : ℕ) → Plain (f i j)) → Every Plain (matrix m f)
unfolding matrix
matrix_plain m f h = every_flatten (every_tabulate m 0 _ (λ i l. every_tabulate m 0 _ (λ j k. h (0 + i) (0 + j))))

everything_plain : (m : ℕ) → Every Plain (everything m)
unfolding everything diagonal
everything_plain m = matrix_plain m diagonal (λ i j. go (eqb i j))
  where
    go : (t : Bool) → Plain (cond t (most (pos 0)) B.Bound.none)
    go true = at_most
    go false = unbounded

-- ---- constraints taken in
module _ (m : ℕ) where
  within_plain : {d : Matrix} {a b : ℕ} {limit : Bound} {o : Option Matrix} → Every Plain d → Plain limit → Within m d a b limit o → PlainZone o
  unfolding relaxed
  within_plain {d} p l free e q = let z : d ≡ e = cc in rw (← z) p
  within_plain p l (ruled_out no_way) e q = impossible cc
  within_plain {d} {a} {b} p l (kept {c} ok) e q =
      let z : relaxed m d a b c ≡ e = cc in
      rw (← z) (matrix_plain m _ (λ i j.
      tighter_either Plain _ _ (entry_plain p m i j) (plus_plain (plus_plain (entry_plain p m i a) l) (entry_plain p m b j))))

  pub constraints_plain : {ks : List Constraint} (o : Option Matrix) → PlainZone o → PlainLimits ks → PlainZone (foldl (constrain m) o ks)
  unfolding constrain
  constraints_plain o p done = p
  constraints_plain none p (both l ls) = constraints_plain none p ls
  constraints_plain (some d) p (both {x = k} l ls) =
      constraints_plain _ (within_plain (p d refl) l (within_is m d k.row k.col k.limit)) ls

  pub tighten_plain : {ks : List Constraint} → PlainLimits ks → PlainZone (tighten m ks)
  unfolding tighten
  tighten_plain ls = constraints_plain (some (everything m)) (λ d e. let z : everything m ≡ d = cc in rw (← z) (everything_plain m)) ls

-- ---- those of a pattern and of a selection
pub pattern_plain : (n : ℕ) {b : List Bound} → Every Plain b → PlainLimits (pattern_constraints n b)
unfolding pattern_constraints pair_bound
pattern_plain n {b} p = every_flatten (every_tabulate (suc n) 0 _ (λ i l. every_tabulate (suc n) 0 _ (λ j k. go (0 + i) (0 + j) (eqb (0 + i) (0 + j)))))
  where
    go : (i j : ℕ) (t : Bool) → Plain (cond t B.Bound.none (get_or b (pair_place n i j) B.Bound.none))
    go i j true = unbounded
    go i j false = at_get_d B.Bound.none unbounded p (pair_place n i j)

pub slack_plain : (c : ℤ) (t : Time) → Plain (slack c t)
unfolding slack
slack_plain c blank = unbounded
slack_plain c (secs t) = at_most

module _ (n : ℕ) (a : List Time) {d : Matrix} (p : Every Plain d) where
  pub row_plain : (cols : List ℕ) (i s : ℕ) → PlainLimits (row_constraints n a d cols i s)
  unfolding keeps
  row_plain cols i s = of_row (λ k. Plain k.limit) n a d cols i s (record {
    attained = λ j h. slack_plain (chosen n a i s) (time n a i (1 + j));
    ahead = λ l h. plus_plain (entry_plain p (suc n) i l) at_most;
    back = λ l h. plus_plain (entry_plain p (suc n) l i) at_most;
  })

  rows_plain : (cols : List ℕ) (i : ℕ) (rest : List ℕ) → PlainLimits (rows_constraints n a d cols i rest)
  unfolding rows_constraints
  rows_plain cols i [] = done
  rows_plain cols i (s ∷ rest) = every_append (row_plain cols i s) (rows_plain (cols ++ (s ∷ [])) (suc i) rest)

  preimage_plain : (sel : List ℕ) → PlainZone (preimage n a d sel)
  unfolding preimage
  preimage_plain sel = tighten_plain (suc n) (rows_plain (0 ∷ []) 1 sel)

-- ---- the zones of a network whose patterns have no strict bound
not_strict : (b : Bound) → is_strict b ≡ false → Plain b
unfolding is_strict
not_strict B.Bound.none e = unbounded
not_strict (upto false b) e = at_most
not_strict (upto true b) e = impossible cc

module _ (w : Network) (none-strict : some_strict w ≡ false) where
  pub patterns_plain : Every Plain w.start × Every Plain w.target
  patterns_plain =
      let (start, target) = (or_is_false (any_of is_strict w.start) (any_of is_strict w.target)).0 none-strict in
      (every_map not_strict (any_of_false is_strict start), every_map not_strict (any_of_false is_strict target))

  pub lists_plain : (k : ℕ) → Every (Every Plain) (lists w k)
  unfolding lists previous
  lists_plain zero = kept_every done (both (tighten_plain (suc w.n) (pattern_plain w.n patterns_plain.1)) done)
  lists_plain (suc k) =
      kept_every done (flat_map_every _ (every_map (λ d p.
      map_every (preimage w.n w.times d) (every_all (preimage_plain w.n w.times p) (selections w.n w.times w.n 1))) (lists_plain k)))

  -- and what they have in common with the start
  pub common_plain : {z : Matrix} → Every Plain z → PlainZone (common w.n z w.start)
  unfolding common
  common_plain {z} p = constraints_plain (suc w.n) (some z) (λ d e. let y : z ≡ d = cc in rw (← y) p) (pattern_plain w.n patterns_plain.0)

  pub parts_one : parts_of w ≡ 1
  unfolding parts_of
  parts_one = rw none-strict
