-- What `repeat_of` finds: the first power that is an earlier one with a number added, or that there is none among the first most_cycles.
-- For two powers the search tries one number, their gap. If the table is regular, no other number can be what is added.
use Prim.Native.Nat.{ℕ, zero, suc, ◌+◌, ◌-◌, ◌≤◌, ◌<◌}
use native.Mathlib.Omega.{arith}
use native.Mathlib.Nat.{zero-add}
use mathlib.Core.Path.{◌≡◌, refl, sym, ap, ◌∙◌}
use mathlib.Core.List.{List, [], ◌∷◌, ◌++◌}
use mathlib.Core.Option.{Option, none, some}
use mathlib.Core.Bool.{Bool, true, false, cond}
use lib.IntN.{ℤ, ◌+ℤ◌}
use lib.ListN.{get_or}
use Rattle.ints.proofs.Integers.{impossible, ints, add_ud, sub_ud}
use Rattle.model.specs.Sizes.{most_cycles}
use Rattle.model.specs.Lists.{tabulate, same_lists}
use Rattle.model.specs.Network.{Time, blank, secs, Network, time, after, power, added, gap, same_time, Repeat, repeats, first_repeat, repeat_of}
use Rattle.model.specs.Demands.{LeastRepeat}
use Rattle.model.specs.Conditions.{Regular}
use Rattle.model.proofs.Listed.{Below, one_more}
use Rattle.model.proofs.Same.{same_lists_true, same_lists_refl, same_time_true, same_time_refl}
use Rattle.model.proofs.Tabulated.{tabulate_snoc}
use Rattle.model.proofs.Powers.{power_regular, powers_from_is}

-- the gap from a table that holds a time to the table with c added is c
pub gap_added : (c : ℤ) (a : List Time) (i : ℕ) {v : ℤ} → get_or a i blank ≡ secs v → gap a (added c a) ≡ c
unfolding gap added after
gap_added c [] i e = cc
gap_added c (blank ∷ ts) zero e = cc
gap_added c (blank ∷ ts) (suc i) e = gap_added c ts i e
gap_added c (secs t ∷ ts) i e = omega (ints, add_ud c t, sub_ud (c +ℤ t) t)

-- tables that fail the test are not equal
differ : (a b : List Time) → same_lists same_time a b ≡ false → ¬ (a ≡ b)
differ a b e d = impossible (cc (rw d at e, same_lists_refl same_time same_time_refl b))

module _ (w : Network) where
  -- power r + 1 of the network's table
  abbrev pub powers : ℕ → List Time
  powers = power w.n w.times

  -- power p + 1 with the gap added is power q + 1
  abbrev pub Again : ℕ → ℕ → Type 0
  Again p q = added (gap (powers p) (powers q)) (powers p) ≡ powers q

  -- power q + 1 repeats no earlier one
  abbrev pub New : ℕ → Type 0
  New q = Below (λ p. ¬ (Again p q)) q

  -- powers p = p' + 1 and q = q' + 1: the first repeated power, and what is added
  pub record Repeats (r : Repeat) : Type 0 where
    pub p' : ℕ
    pub q' : ℕ
    pub p_is : r.p ≡ suc p'
    pub q_is : r.q ≡ suc q'
    pub earlier : p' < q'
    pub among : q' < most_cycles
    pub again : powers q' ≡ added r.number (powers p')
    pub first : Below New q'

  -- what a search finds, or A where it finds nothing
  abbrev Found : Type 0 → Option Repeat → Type 0
  Found A (some r) = Repeats r
  Found A none = A

  -- power q + 1 is looked for among the earlier ones, from power s + 1 on
  module _ (q : ℕ) (among : q < most_cycles) (first : Below New q) where
    repeats_is : (m s : ℕ) → s + m ≡ q → Below (λ p. ¬ (Again p q)) s → Found (New q) (repeats (suc q) (suc s) (tabulate m s powers) (powers q))
    unfolding repeats tabulate
    repeats_is zero s d h = λ p l. h p (omega arith)
    repeats_is (suc m) s d h = go _ _ refl (λ here. repeats_is m (suc s) (omega arith) (one_more _ s h here))
      where
        go : (t : Bool) (o : Option Repeat) → same_lists same_time (added (gap (powers s) (powers q)) (powers s)) (powers q) ≡ t
            → (¬ (Again s q) → Found (New q) o) → Found (New q) (cond t (some (record { q = suc q; p = suc s; number = gap (powers s) (powers q) })) o)
        go true o e more = record {
          p' = s;
          q' = q;
          p_is = refl;
          q_is = refl;
          earlier = omega arith;
          among = among;
          again = sym (same_lists_true same_time same_time_true _ _ e);
          first = first;
        }
        go false o e more = more (differ _ _ e)

  -- the first repeated power is looked for, from power s + 1 on
  first_repeat_is : (k s : ℕ) → s + k ≡ most_cycles → Below New s
      → Found (Below New most_cycles) (first_repeat (suc s) (tabulate s 0 powers) (tabulate k s powers))
  unfolding first_repeat tabulate
  first_repeat_is zero s d h = λ q l. h q (omega arith)
  first_repeat_is (suc k) s d h =
      go (repeats (suc s) 1 (tabulate s 0 powers) (powers s)) (first_repeat (suc (suc s)) (tabulate s 0 powers ++ (powers s ∷ [])) (tabulate k (suc s) powers))
      (repeats_is s (omega arith) h s 0 (zero-add s) (λ p l. absurd (omega arith)))
      (λ here. rw (rw zero-add at (tabulate_snoc s 0 powers)) (first_repeat_is k (suc s) (omega arith) (one_more New s h here)))
    where
      go : (o rest : Option Repeat) → Found (New s) o → (New s → Found (Below New most_cycles) rest)
          → Found (Below New most_cycles) (elim o [ some r ↦ some r | none ↦ rest ])
      go (some r) rest h more = h
      go none rest h more = more h

  -- it is looked for among the first most_cycles
  repeat_of_is : Found (Below New most_cycles) (repeat_of w)
  unfolding repeat_of power tabulate
  repeat_of_is = rw (powers_from_is w.n w.times most_cycles 0) (first_repeat_is most_cycles 0 (zero-add most_cycles) (λ q l. absurd (omega arith)))

  -- what is found repeats an earlier power
  pub repeat_sound : {r : Repeat} → repeat_of w ≡ some r → Repeats r
  repeat_sound e = rw e at repeat_of_is

  -- no power before power m is an earlier one with a number added, p and q being counted from 0
  abbrev pub NoRepeat : ℕ → Type 0
  NoRepeat m = (p q : ℕ) → p < q → suc q < m → (c : ℤ) → powers q ≡ added c (powers p) → ⊥

  module _ (reg : Regular w.n w.times) (some_row : 1 ≤ w.n) where
    -- no number that is added can differ from the gap
    no_repeat : (m : ℕ) → Below New m → NoRepeat (suc m)
    unfolding time
    no_repeat m h p q l u c e =
        let (j, k) = power_regular w.n w.times reg p 1 (omega arith) some_row in
        h q (omega arith) p l (rw (e, gap_added c (powers p) _ k.is))

    -- what is found is the first to repeat one
    pub repeat_first : {r : Repeat} → repeat_of w ≡ some r → NoRepeat r.q
    repeat_first e = let h = repeat_sound e in rw h.q_is (no_repeat h.q' h.first)

    -- where nothing is found, none of the first most_cycles repeats one
    pub repeat_none : repeat_of w ≡ none → NoRepeat (suc most_cycles)
    repeat_none e = no_repeat most_cycles (rw e at repeat_of_is)

    -- what is found is the first repeated power as document 01 says
    pub repeat_is : {r : Repeat} → repeat_of w ≡ some r → LeastRepeat w r
    repeat_is {r} e =
        let h = repeat_sound e in
        let q_is : r.q - 1 ≡ h.q' = omega (arith, h.q_is) in
        let p_is : h.p' ≡ r.p - 1 = omega (arith, h.p_is) in
        record {
          among = omega (arith, h.q_is, h.among);
          repeated = record {
            from_one = omega (arith, h.p_is);
            earlier = omega (arith, h.p_is, h.q_is, h.earlier);
            again = ap powers q_is ∙ h.again ∙ ap (λ (i : ℕ). added r.number (powers i)) p_is;
          };
          first = λ q p c l s. let lower = s.from_one in let upper = s.earlier in repeat_first e (p - 1) (q - 1) (omega arith) (omega arith) c s.again;
        }

    -- and where there is one, it is found, as the same power
    pub repeat_found : {r : Repeat} → LeastRepeat w r → (s : Repeat) × (repeat_of w ≡ some s) × (s.q ≡ r.q)
    repeat_found {r} least = go (repeat_of w) refl
      where
        same : (s : Repeat) → LeastRepeat w s → s.q ≡ r.q
        same s other =
            let not-less : ¬ (s.q < r.q) = λ h. least.first s.q s.p s.number h other.repeated in
            let not_more : ¬ (r.q < s.q) = λ h. other.first r.q r.p r.number h least.repeated in
            omega arith

        go : (o : Option Repeat) → repeat_of w ≡ o → (s : Repeat) × (repeat_of w ≡ some s) × (s.q ≡ r.q)
        go none e =
            let is = least.repeated in
            let lower = is.from_one in
            let upper = is.earlier in
            absurd (repeat_none e (r.p - 1) (r.q - 1) (omega arith) (omega (arith, least.among)) r.number is.again)
        go (some s) e = (s, e, same s (repeat_is e))
