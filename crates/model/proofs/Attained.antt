-- A closed matrix without strict bounds has members, and each of its bounds is met: the departures get their times one by one.
use Prim.Native.Nat.{ℕ, zero, suc, ◌+◌, ◌-◌, ◌<◌}
use native.Mathlib.Omega.{arith}
use native.Mathlib.Nat.{zero-add}
use mathlib.Core.Path.{◌≡◌, refl, ◌∙◌}
use mathlib.Core.List.{List, [], ◌∷◌}
use mathlib.Core.Bool.{Bool, true, false, cond}
use mathlib.Core.Option.{some}
use mathlib.Core.Logic.{◌≢◌}
use lib.Signed.{◌≤ℤ◌}
use lib.IntN.{ℤ, pos, ◌+ℤ◌, ◌-ℤ◌, neg_ℤ}
use native.Mathlib.Decide.{ℕ_discrete}
use lib.Dec.{eqb, eqb→eq, eqb_refl, T}
use Rattle.ints.proofs.Integers.{up, dn, ints, add_ud, neg_ud, sub_ud}
use Rattle.model.specs.Bound as B
use Rattle.model.specs.Bound.{Bound, most, LeB, any, Holds, plus}
use Rattle.model.proofs.Bounds.{bounds, Plain, unbounded, at_most, plus_plain, holds_none, holds_sum, across, over, between, le_b_refl, le_b_trans}
use Rattle.model.proofs.Bounds.{plus_assoc, plus_left_comm, plus_comm, plus_none, tighter_either, tighter_left, tighter_right}
use Rattle.model.specs.Lists.{tabulate, Every, done, both}
use Rattle.model.specs.Matrix.{Matrix, entry, relaxed, Member}
use Rattle.model.specs.Search.{tightest}
use Rattle.model.specs.Conditions.{Closed, how_early, how_late, tightest_of}
use Rattle.model.proofs.Listed.{at_tabulate, every_tabulate}
use Rattle.model.proofs.Closed.{Within, kept, within_closed}
use Rattle.model.proofs.Members.{entry_relaxed, within_sound}

-- what is at least as tight as the tightest of a list is so for each, and what holds of none and of each holds of the tightest
tightest_each : {u : Bound} (bs : List Bound) → LeB u (tightest bs) → Every (LeB u) bs
unfolding tightest
tightest_each [] h = done
tightest_each (b ∷ bs) h = both (le_b_trans h (tighter_left b (tightest bs))) (tightest_each bs (le_b_trans h (tighter_right b (tightest bs))))

tightest_either : (P : Bound → Type 0) {bs : List Bound} → P B.Bound.none → Every P bs → P (tightest bs)
unfolding tightest
tightest_either P p done = p
tightest_either P p (both {x = b} {xs = bs} h hs) = tighter_either P b (tightest bs) h (tightest_either P p hs)

tightest_of_each : (t : ℕ) (f : ℕ → Bound) {u : Bound} → LeB u (tightest_of t f) → (s : ℕ) → s < t → LeB u (f s)
tightest_of_each t f h s l = rw zero-add at (at_tabulate t 0 f (tightest_each (tabulate t 0 f) h) s l)

pub tightest_of_either : (P : Bound → Type 0) (t : ℕ) (f : ℕ → Bound) → P B.Bound.none → ((s : ℕ) → s < t → P (f s)) → P (tightest_of t f)
tightest_of_either P t f p h = tightest_either P p (every_tabulate t 0 f (λ s l. rw zero-add (h s l)))

shuffle : (p q r s : Bound) → plus (plus p q) (plus r s) ≡ plus (plus r p) (plus q s)
shuffle p q r s = simp (plus_assoc, plus_left_comm, plus_comm)

-- x with v at t
unfoldable pub update : (ℕ → ℤ) → ℕ → ℤ → ℕ → ℤ
update x t v s = cond (eqb s t) v (x s)

pub update_same : (x : ℕ → ℤ) (t : ℕ) (v : ℤ) → update x t v t ≡ v
unfolding update
update_same x t v = go (eqb t t) (eqb_refl t)
  where
    go : (b : Bool) → T b → cond b v (x t) ≡ v
    go true e = refl
    go false e = absurd e

pub update_other : (x : ℕ → ℤ) (t : ℕ) (v : ℤ) (s : ℕ) → s ≢ t → update x t v s ≡ x s
unfolding update
update_other x t v s n = go (eqb s t) refl
  where
    go : (b : Bool) → eqb s t ≡ b → cond b v (x s) ≡ x s
    go true e = absurd (n (eqb→eq s t (rw e tt)))
    go false e = refl

-- no bound is strict
abbrev pub AllPlain : ℕ → Matrix → Type 0
AllPlain m d = (i j : ℕ) → i < m → j < m → Plain (entry m d i j)

module _ (m : ℕ) (d : Matrix) where
  abbrev D : ℕ → ℕ → Bound
  D = entry m d

  -- the times below t are set, and keep to the bounds among them
  abbrev pub Upto : ℕ → (ℕ → ℤ) → Type 0
  Upto t x = (i j : ℕ) → i < t → j < t → Holds (x i -ℤ x j) (D i j)

  -- v is a time for t
  abbrev pub Possible : ℕ → (ℕ → ℤ) → ℤ → Type 0
  Possible t x v = Holds v (how_late m d t x) × Holds (neg_ℤ v) (how_early m d t x)

  module _ (cl : Closed m d) (plain : AllPlain m d) where
    module _ (t : ℕ) (x : ℕ → ℤ) (ht : t < m) (ok : Upto t x) where
      room_at : (s s' : ℕ) → s < t → s' < t → LeB (most (pos 0)) (plus (plus (D t s) (most (x s))) (plus (D s' t) (most (neg_ℤ (x s')))))
      unfolding plus up dn
      room_at s s' h h' =
          rw (shuffle (D t s) (most (x s)) (D s' t) (most (neg_ℤ (x s'))))
          (holds_sum (x s' -ℤ x s) (x s +ℤ neg_ℤ (x s')) (pos 0)
          (le_b_trans (ok s' s h' h) (cl.triangle s' s t (omega arith) (omega arith) ht))
          (le_b_refl (most (x s +ℤ neg_ℤ (x s'))))
          (omega (ints, sub_ud (x s') (x s), sub_ud (x s) (x s'), add_ud (x s' -ℤ x s) (x s -ℤ x s'))))

      -- there is a time for t
      room : LeB (most (pos 0)) (plus (how_late m d t x) (how_early m d t x))
      unfolding plus
      room =
          tightest_of_either (λ u. LeB (most (pos 0)) (plus u (how_early m d t x))) t _ any (λ s h.
          tightest_of_either (λ w. LeB (most (pos 0)) (plus (plus (D t s) (most (x s))) w)) t _ (rw plus_none any) (λ s' h'. room_at s s' h h'))

      pub late_plain : Plain (how_late m d t x)
      late_plain = tightest_of_either Plain t _ unbounded (λ s h. plus_plain (plain t s ht (omega arith)) at_most)

      pub early_plain : Plain (how_early m d t x)
      early_plain = tightest_of_either Plain t _ unbounded (λ s h. plus_plain (plain s t (omega arith) ht) at_most)

      pub next_time_lem : (v : ℤ) × Possible t x v
      next_time_lem = let (v, hu, hw) = between late_plain early_plain room in (v, (hu, hw))

      -- it is set: y is x below t, and has it at t
      pub upto_next : (y : ℕ → ℤ) → ((s : ℕ) → s < t → y s ≡ x s) → Possible t x (y t) → Upto (suc t) y
      upto_next y same f i j hi hj = go (ℕ_discrete i t) (ℕ_discrete j t)
        where
          go : Dec (i ≡ t) → Dec (j ≡ t) → Holds (y i -ℤ y j) (D i j)
          go (yes p) (yes q) = rw (p, q, cl.diag t ht) (holds_none (y t))
          go (yes p) (no q) = rw (p, same j (omega arith)) ((across (y t) (x j) (D t j)).0 (tightest_of_each t _ f.0 j (omega arith)))
          go (no p) (yes q) = rw (q, same i (omega arith)) (over (y t) (x i) (D i t) (tightest_of_each t _ f.1 i (omega arith)))
          go (no p) (no q) = rw (same i (omega arith), same j (omega arith)) (ok i j (omega arith) (omega arith))

      set_next : (v : ℤ) → Possible t x v → Upto (suc t) (update x t v)
      set_next v f = upto_next (update x t v) (λ s h. update_other x t v s (omega arith)) (rw update_same f)

    -- times below t that keep to the bounds among them are those of a member: r more are set
    pub set_all : (r t : ℕ) (x : ℕ → ℤ) → r + t ≡ m → Upto t x → (y : ℕ → ℤ) × Member m d y × ((s : ℕ) → s < t → y s ≡ x s)
    set_all zero t x e ok = let same : t ≡ m = omega arith in (x, rw same at ok, λ s h. refl)
    set_all (suc r) t x e ok =
        let (v, f) = next_time_lem t x (omega arith) ok in
        let (y, mem, same) = set_all r (suc t) (update x t v) (omega arith) (set_next t x (omega arith) ok v f) in
        (y, mem, λ s h. same s (omega arith) ∙ update_other x t v s (omega arith))

    -- and with them any time that is possible for t
    pub takes_next : (t : ℕ) (x : ℕ → ℤ) → t < m → Upto t x → (v : ℤ) → Possible t x v
        → (y : ℕ → ℤ) × Member m d y × ((s : ℕ) → s < t → y s ≡ x s) × y t ≡ v
    takes_next t x ht ok v f =
        let (y, mem, same) = set_all (m - suc t) (suc t) (update x t v) (omega arith) (set_next t x ht ok v f) in
        (y, mem, λ s h. same s (omega arith) ∙ update_other x t v s (omega arith), same t (omega arith) ∙ update_same x t v)

    pub has_member : (x : ℕ → ℤ) × Member m d x
    has_member = let (x, mem, same) = set_all m 0 (λ s. pos 0) (omega arith) (λ i j hi hj. absurd (omega arith)) in (x, mem)

-- a bound that is not strict, taken in
relaxed_plain : (m : ℕ) (d : Matrix) → AllPlain m d → (a b : ℕ) (c : ℤ) → a < m → b < m → AllPlain m (relaxed m d a b (most c))
relaxed_plain m d plain a b c ha hb i j hi hj =
    rw (entry_relaxed m d a b (most c) i j hi hj)
    (tighter_either Plain _ _ (plain i j hi hj) (plus_plain (plus_plain (plain i a hi ha) at_most) (plain b j hb hj)))

-- a number that entry (i, j) allows, or any smaller, is reached by x(i) - x(j): constrain x(j) - x(i) by it
module _ (m : ℕ) (d : Matrix) (cl : Closed m d) (plain : AllPlain m d) (i j : ℕ) (hi : i < m) (hj : j < m) where
  pub reaches : (v : ℤ) → Holds v (entry m d i j) → (x : ℕ → ℤ) × Member m d x × v ≤ℤ (x i -ℤ x j)
  unfolding up dn
  reaches v h =
      let w : Within m d j i (most (neg_ℤ v)) (some (relaxed m d j i (most (neg_ℤ v))))
      = kept (holds_sum v (neg_ℤ v) (pos 0) h (le_b_refl _) (omega (ints, neg_ud v, add_ud v (neg_ℤ v)))) in
      let (x, mem) = has_member m _ (within_closed cl hj hi w) (relaxed_plain m d plain j i (neg_ℤ v) hj hi) in
      let (old, new) = within_sound hj hi x cl w mem in
      (x, old, omega (bounds, neg_ud v, sub_ud (x i) (x j), sub_ud (x j) (x i)))

  -- each finite bound is met
  pub meets : (b : ℤ) → entry m d i j ≡ most b → (x : ℕ → ℤ) × Member m d x × (x i -ℤ x j) ≡ b
  meets b e =
      let (x, mem, le) = reaches b (rw e (le_b_refl (most b))) in
      let up_to : Holds (x i -ℤ x j) (most b) = rw e at (mem i j hi hj) in
      (x, mem, omega bounds)
