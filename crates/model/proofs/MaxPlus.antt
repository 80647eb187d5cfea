-- Times as a max-plus semiring: `later` adds and a blank is its zero, `after` multiplies.
-- The laws of `later` and `latest` come from an order on times, in which each is a least upper bound.
use Prim.Native.Nat.{ℕ, zero, suc, ◌+◌, ◌-◌, ◌≤◌, ◌<◌}
use native.Mathlib.Omega.{arith}
use mathlib.Core.Path.{◌≡◌, refl, ap, sym, ◌∙◌}
use mathlib.Core.List.{List, [], ◌∷◌, map}
use mathlib.Core.Bool.{Bool, true, false, cond}
use lib.IntN.{ℤ, ◌+ℤ◌}
use lib.Signed.{◌≤ℤ◌, le_z}
use lib.ListN.{length, get_or}
use Rattle.ints.proofs.Integers.{impossible, up, dn, ints, le_nat, nat_le, add_ud}
use Rattle.model.specs.Lists.{tabulate, Every, done, both}
use Rattle.model.specs.Network.{Time, blank, secs, later, latest, after}
use Rattle.model.proofs.Listed.{every_tabulate}
use Rattle.model.proofs.Entries.{get_d_tabulate}
use Rattle.model.proofs.Tabulated.{tabulate_ext, map_tabulate}

-- ---- the order: the first is a blank, or at most the second
pub data LeT : Time → Time → Type 0 where
  low : {t : Time} → LeT blank t
  fin : {a b : ℤ} → a ≤ℤ b → LeT (secs a) (secs b)

-- omega's way out of the order at two numbers, and into it
pub le_t_nat : {a b : ℤ} → LeT (secs a) (secs b) → up a + dn b ≤ up b + dn a
le_t_nat (fin h) = le_nat h

pub nat_le_t : {a b : ℤ} → up a + dn b ≤ up b + dn a → LeT (secs a) (secs b)
nat_le_t h = fin (nat_le h)

-- it is reflexive, transitive and antisymmetric
pub le_t_refl : (t : Time) → LeT t t
le_t_refl blank = low
le_t_refl (secs a) = omega (ints, nat_le_t)

pub le_t_trans : {t u v : Time} → LeT t u → LeT u v → LeT t v
le_t_trans low k = low
le_t_trans (fin h) (fin k) = omega (ints, nat_le_t)

pub le_t_antisym : {t u : Time} → LeT t u → LeT u t → t ≡ u
le_t_antisym low low = refl
le_t_antisym (fin {a} {b} h) (fin k) = ap secs (omega ints)

-- a time that is at least a number is a number
pub le_t_secs : {a : ℤ} {t : Time} → LeT (secs a) t → (b : ℤ) × (t ≡ secs b) × (a ≤ℤ b)
le_t_secs (fin {b} h) = (b, refl, h)

-- ---- the later of two: it is one of them
pub later_either : (P : Time → Type 0) (t u : Time) → P t → P u → P (later t u)
unfolding later
later_either P blank u p q = q
later_either P (secs a) blank p q = p
later_either P (secs a) (secs b) p q = elim (le_z a b) as (λ c. P (cond c (secs b) (secs a))) [ true ↦ q | false ↦ p ]

-- it is at least both
pub later_upper : (t u : Time) → LeT t (later t u) × LeT u (later t u)
unfolding later
later_upper blank u = (low, le_t_refl u)
later_upper (secs a) blank = (le_t_refl (secs a), low)
later_upper (secs a) (secs b) = go (le_z a b) refl
  where
    go : (c : Bool) → le_z a b ≡ c → let m = cond c (secs b) (secs a) in LeT (secs a) m × LeT (secs b) m
    go true e = (omega (ints, nat_le_t), le_t_refl (secs b))
    go false e = (le_t_refl (secs a), omega (ints, nat_le_t))

-- a time that is at least both is at least the later
pub later_least : {t u v : Time} → LeT t v → LeT u v → LeT (later t u) v
later_least {t} {u} {v} h k = later_either (λ x. LeT x v) t u h k

-- it is commutative and associative
pub later_comm : (t u : Time) → later t u ≡ later u t
later_comm t u = let (a, b) = later_upper t u in let (c, d) = later_upper u t in le_t_antisym (later_least d c) (later_least b a)

pub later_assoc : (t u v : Time) → later (later t u) v ≡ later t (later u v)
later_assoc t u v =
    let (a, b) = later_upper t u in let (ab, c) = later_upper (later t u) v in
    let (b', c') = later_upper u v in let (a', bc) = later_upper t (later u v) in
    le_t_antisym (later_least (later_least a' (le_t_trans b' bc)) (le_t_trans c' bc)) (later_least (le_t_trans a ab) (later_least (le_t_trans b ab) c))

-- ---- one after the other: a blank absorbs; it is commutative and associative
pub after_blank : (t : Time) → after blank t ≡ blank
unfolding after
after_blank t = refl

pub after_comm : (t u : Time) → after t u ≡ after u t
unfolding after
after_comm blank blank = refl
after_comm blank (secs b) = refl
after_comm (secs a) blank = refl
after_comm (secs a) (secs b) = ap secs (omega (ints, add_ud a b, add_ud b a))

pub after_assoc : (t u v : Time) → after (after t u) v ≡ after t (after u v)
unfolding after
after_assoc blank u v = refl
after_assoc (secs a) blank v = refl
after_assoc (secs a) (secs b) blank = refl
after_assoc (secs a) (secs b) (secs c) = ap secs (omega (ints, add_ud a b, add_ud (a +ℤ b) c, add_ud b c, add_ud a (b +ℤ c)))

pub after_left_comm : (t u v : Time) → after t (after u v) ≡ after u (after t v)
after_left_comm t u v = sym (after_assoc t u v) ∙ ap (λ (x : Time). after x v) (after_comm t u) ∙ after_assoc u t v

-- it is monotone, and distributes over the later of two and the latest of a list
pub after_mono : (t : Time) {u v : Time} → LeT u v → LeT (after t u) (after t v)
unfolding after
after_mono blank h = low
after_mono (secs a) low = low
after_mono (secs a) (fin {a = b} {b = c} h) = omega (ints, nat_le_t, add_ud a b, add_ud a c)

pub after_later : (t u v : Time) → after t (later u v) ≡ later (after t u) (after t v)
after_later t u v =
    let (a, b) = later_upper (after t u) (after t v) in let (c, d) = later_upper u v in
    le_t_antisym (later_either (λ x. LeT (after t x) (later (after t u) (after t v))) u v a b) (later_least (after_mono t c) (after_mono t d))

pub after_latest : (t : Time) (ts : List Time) → latest (map (after t) ts) ≡ after t (latest ts)
unfolding latest
after_latest t [] = sym (after_comm t blank ∙ after_blank t)
after_latest t (u ∷ ts) = rw (after_latest t ts) (sym (after_later t u (latest ts)))

-- ---- the latest of a list: it is at least each element
pub latest_upper : (ts : List Time) (i : ℕ) → LeT (get_or ts i blank) (latest ts)
unfolding latest
latest_upper [] i = low
latest_upper (t ∷ ts) zero = (later_upper t (latest ts)).0
latest_upper (t ∷ ts) (suc i) = le_t_trans (latest_upper ts i) (later_upper t (latest ts)).1

-- what holds of a blank and of each element holds of the latest
pub latest_either : (P : Time → Type 0) → P blank → {ts : List Time} → Every P ts → P (latest ts)
unfolding latest
latest_either P b done = b
latest_either P b (both {x = t} {xs = ts} h p) = later_either P t (latest ts) h (latest_either P b p)

-- a latest that is a number is in the list
pub latest_attained : (ts : List Time) {v : ℤ} → latest ts ≡ secs v → (i : ℕ) × (i < length ts) × (get_or ts i blank ≡ secs v)
unfolding latest
latest_attained [] e = impossible cc
latest_attained (t ∷ ts) {v} e =
    later_either (λ x. x ≡ secs v → (i : ℕ) × (i < length (t ∷ ts)) × (get_or (t ∷ ts) i blank ≡ secs v)) t (latest ts)
    (λ d. (0, omega arith, d)) (λ d. let (i, l, f) = latest_attained ts d in (suc i, omega arith, f)) e

-- ---- the latest of f 1 to f n
abbrev pub latest_of : ℕ → (ℕ → Time) → Time
latest_of n f = latest (tabulate n 1 f)

module _ (n : ℕ) where
  -- it is at least each of them
  pub latest_of_upper : (f : ℕ → Time) (i : ℕ) → 1 ≤ i → i ≤ n → LeT (f i) (latest_of n f)
  latest_of_upper f i l u =
      let e : 1 + (i - 1) ≡ i = omega arith in
      rw (get_d_tabulate n 1 (i - 1) f blank (omega arith), e) at (latest_upper (tabulate n 1 f) (i - 1))

  -- a time that is at least each of them is at least the latest
  pub latest_of_least : (f : ℕ → Time) {v : Time} → ((i : ℕ) → 1 ≤ i → i ≤ n → LeT (f i) v) → LeT (latest_of n f) v
  latest_of_least f {v} h = latest_either (λ t. LeT t v) low (every_tabulate n 1 f (λ i l. h (1 + i) (omega arith) (omega arith)))

  -- it depends on f 1 to f n alone
  pub latest_of_cong : (f g : ℕ → Time) → ((i : ℕ) → 1 ≤ i → i ≤ n → f i ≡ g i) → latest_of n f ≡ latest_of n g
  latest_of_cong f g h = ap latest (tabulate_ext n 1 f g (λ i l u. h i l (omega arith)))

  -- `after` distributes over it
  pub after_latest_of : (t : Time) (f : ℕ → Time) → latest_of n (λ i. after t (f i)) ≡ after t (latest_of n f)
  after_latest_of t f = rw (← (map_tabulate (after t) n 1 f)) (after_latest t (tabulate n 1 f))

-- two latests exchange
exchange_le : (n m : ℕ) (f : ℕ → ℕ → Time) → LeT (latest_of n (λ i. latest_of m (λ j. f i j))) (latest_of m (λ j. latest_of n (λ i. f i j)))
exchange_le n m f = latest_of_least n _ (λ i l u. latest_of_least m _ (λ j l' u'.
    le_t_trans (latest_of_upper n (λ i. f i j) i l u) (latest_of_upper m (λ j. latest_of n (λ i. f i j)) j l' u')))

pub exchange : (n m : ℕ) (f : ℕ → ℕ → Time) → latest_of n (λ i. latest_of m (λ j. f i j)) ≡ latest_of m (λ j. latest_of n (λ i. f i j))
exchange n m f = le_t_antisym (exchange_le n m f) (exchange_le m n (λ j i. f i j))

-- the latest sum of f l and g l, l from 1 to n: a row by a column
abbrev pub latest_sum : ℕ → (ℕ → Time) → (ℕ → Time) → Time
latest_sum n f g = latest_of n (λ l. after (f l) (g l))

-- a row by a table by a column, in either order
pub latest_sum_assoc : (n : ℕ) (f g : ℕ → Time) (h : ℕ → ℕ → Time)
    → latest_sum n (λ l. latest_sum n f (h l)) g ≡ latest_sum n f (λ j. latest_sum n g (λ l. h l j))
latest_sum_assoc n f g h =
    latest_of_cong n _ _ (λ l _ _. after_comm (latest_sum n f (h l)) (g l) ∙ sym (after_latest_of n (g l) _)
    ∙ latest_of_cong n _ _ (λ j _ _. after_left_comm (g l) (f j) (h l j)))
    ∙ exchange n n (λ l j. after (f j) (after (g l) (h l j)))
    ∙ latest_of_cong n _ _ (λ j _ _. after_latest_of n (f j) (λ l. after (g l) (h l j)))
