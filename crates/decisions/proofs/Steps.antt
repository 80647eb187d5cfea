-- How many steps are enough: a try of n rows takes at most n + n * n + .. of them, n terms, so as many for each cycle up to the
-- horizon leave nothing undecided.
use Prim.Native.Nat.{ℕ, zero, suc, ◌+◌, ◌*◌, ◌≤◌}
use native.Mathlib.Omega.{arith}
use native.Mathlib.Nat.{mul-le-mul_right}
use mathlib.Core.Path.{◌≡◌}
use mathlib.Core.Bool.{Bool, true, false, ◌&&◌, cond}
use mathlib.Core.List.{List, [], ◌∷◌, ◌++◌, foldl}
use mathlib.Core.Option.{Option, none, some}
use lib.ListN.{length}
use Rattle.ints.proofs.Integers.{impossible}
use Rattle.model.specs.Matrix.{Matrix, constrain, tighten}
use Rattle.model.specs.Pattern.{pattern_constraints}
use Rattle.model.specs.Network.{Time, Network, time, is_time, product}
use Rattle.model.specs.Search.{columns}
use Rattle.decisions.specs.Decide.{first_constraints, Tried, found, missed, spent, first_of, entered, descend, meeting, Decision, never}
use Rattle.decisions.specs.Decide.{steps_for, again, Kept, renewed, follows, decide_from, decide_zones, decide}
use Rattle.decisions.proofs.Whole.{Enough}

-- ---- of t steps at most c are taken
pub data Leaves (t c : ℕ) : Tried → Type 0 where
  found_one : {z : Matrix} → Leaves t c (found z)
  missed_all : {u : ℕ} → t ≤ u + c → Leaves t c (missed u)

leaves_mono : {t v c e : ℕ} {o : Tried} → t + e ≤ v + c → Leaves v e o → Leaves t c o
leaves_mono h found_one = found_one
leaves_mono {t} {v} {c} {e} h (missed_all {u} l) = missed_all (more t u v c e h l)
  where
    more : (t u v c e : ℕ) → t + e ≤ v + c → v ≤ u + e → t ≤ u + c
    more t u v c e h l = omega arith

-- column after column
first_of_leaves : (c : ℕ) (f : ℕ → ℕ → Tried) → ((s t : ℕ) → c ≤ t → Leaves t c (f s t)) → (ss : List ℕ) (t : ℕ) → length ss * suc c ≤ t
    → Leaves t (length ss * suc c) (first_of f ss t)
unfolding first_of
first_of_leaves c f h [] t l = missed_all {u = t} (omega arith)
first_of_leaves c f h (s ∷ ss) zero l = absurd (let e : suc (length ss) * suc c ≡ suc c + length ss * suc c = omega arith in omega arith)
first_of_leaves c f h (s ∷ ss) (suc t) l =
    let e : suc (length ss) * suc c ≡ suc c + length ss * suc c = omega arith in
    go (f s t) (h s t (omega arith)) (first_of_leaves c f h ss)
  where
    go : (o : Tried) → Leaves t c o → ((u : ℕ) → length ss * suc c ≤ u → Leaves u (length ss * suc c) (first_of f ss u))
        → Leaves (suc t) (suc (length ss) * suc c) (elim o [ found z ↦ found z | missed u ↦ first_of f ss u | spent ↦ spent ])
    go (found z) found_one rest = found_one
    go (missed u) (missed_all k) rest =
        let e : suc (length ss) * suc c ≡ suc c + length ss * suc c = omega arith in
        leaves_mono {t = suc t} {v = u} {c = suc (length ss) * suc c} {e = length ss * suc c} (omega arith) (rest u (omega arith))
    go spent h rest = elim h [ ]

columns_few : (n : ℕ) (a : List Time) (i r j : ℕ) → length (columns n a i r j) ≤ r
unfolding columns
columns_few n a i zero j = omega arith
columns_few n a i (suc r) j = go (is_time (time n a i j)) (columns_few n a i r (suc j))
  where
    go : (t : Bool) → length (columns n a i r (suc j)) ≤ r → length (cond t (j ∷ columns n a i r (suc j)) (columns n a i r (suc j))) ≤ suc r
    go true h = omega arith
    go false h = omega arith

-- row after row
descend_leaves : (n : ℕ) (b : List Time) (d : Matrix) (r i : ℕ) (sel : List ℕ) (z : Matrix) (t : ℕ) → steps_for n r ≤ t
    → Leaves t (steps_for n r) (descend n b d r i sel z t)
unfolding descend entered steps_for
descend_leaves n b d zero i sel z t h = found_one
descend_leaves n b d (suc r) i sel z t h =
    let few : length (columns n b i n 1) * suc (steps_for n r) ≤ n * suc (steps_for n r) = mul-le-mul_right (suc (steps_for n r)) (columns_few n b i n 1) in
    leaves_mono {t = t} {v = t} {c = n * suc (steps_for n r)} {e = length (columns n b i n 1) * suc (steps_for n r)} (omega arith)
    (first_of_leaves (steps_for n r) _ (λ s u l. by s u l (foldl (constrain (suc n)) (some z) (first_constraints n b d sel i s))
    (λ y. descend_leaves n b d r (suc i) (sel ++ (s ∷ [])) y u l))
    (columns n b i n 1) t (omega arith))
  where
    by : (s u : ℕ) → steps_for n r ≤ u → (o : Option Matrix) → ((y : Matrix) → Leaves u (steps_for n r) (descend n b d r (suc i) (sel ++ (s ∷ [])) y u))
        → Leaves u (steps_for n r) (entered (descend n b d r (suc i) (sel ++ (s ∷ []))) o u)
    by s u l none rest = missed_all {u = u} (omega arith)
    by s u l (some y) rest = rest y

-- ---- cycle after cycle
module _ (w : Network) (may : Bool) (z d : Matrix) (horizon : ℕ) where
  abbrev each : ℕ
  each = steps_for w.n w.n

  from_enough : (r k : ℕ) (b : List Time) (c : Kept) (t : ℕ) → r * each ≤ t → Enough (decide_from w may z d horizon r k b c t)
  unfolding decide_from meeting
  from_enough zero k b c t h = λ j e. impossible cc
  from_enough (suc r) k b c t h =
      let e : suc r * each ≡ each + r * each = omega arith in
      go (meeting w.n b z d t) (descend_leaves w.n b d w.n 1 (0 ∷ []) z t (omega arith)) (λ u l. from_enough r (suc k) _ _ u l)
    where
      rest : ℕ → Decision
      rest u = decide_from w may z d horizon r (suc k) (product w.n w.times b) (renewed (suc k) (product w.n w.times b) c) u

      on : (s : Bool) (o : Decision) → Enough o → Enough (cond s never o)
      on true o h = λ j e. impossible cc
      on false o h = h

      go : (o : Tried) → Leaves t each o → ((u : ℕ) → r * each ≤ u → Enough (rest u))
          → Enough (follows w may k b c (decide_from w may z d horizon r (suc k)) o)
      go (found y) found_one more = λ j e. impossible cc
      go (missed u) (missed_all l) more =
          let e : suc r * each ≡ each + r * each = omega arith in
          on (may && again c.table (product w.n w.times b)) (rest u) (more u (omega arith))
      go spent h more = elim h [ ]

pub enough_steps : (w : Network) (horizon t : ℕ) → horizon * steps_for w.n w.n ≤ t → Enough (decide w horizon t)
unfolding decide decide_zones
enough_steps w horizon t h =
    go (tighten (suc w.n) (pattern_constraints w.n w.start)) (tighten (suc w.n) (pattern_constraints w.n w.target))
  where
    go : (o p : Option Matrix) → Enough (decide_zones w horizon t o p)
    go none p = λ j e. impossible cc
    go (some z) none = λ j e. impossible cc
    go (some z) (some d) = from_enough w _ z d horizon horizon 1 w.times _ t h
