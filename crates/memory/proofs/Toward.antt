-- Constraints taken in one after the other: a loop's invariant, and how a turn carries it on.
use Prim.Native.Nat.{ℕ, suc, ◌+◌, ◌≤◌, ◌<◌}
use mathlib.Core.Path.{◌≡◌, refl, sym, ap, ◌∙◌}
use mathlib.Core.List.{List, [], ◌∷◌, ◌++◌, foldl, foldl-append, flatten}
use mathlib.Core.Option.{Option, none, some}
use Rattle.ints.proofs.Integers.{impossible}
use Rattle.model.specs.Matrix.{Matrix, Constraint, constrain}
use Rattle.model.proofs.Listed.{every_split}
use Rattle.model.proofs.Fitted.{fitting_front, fitting_rest}
use Rattle.model.proofs.Patterns.{closed_some}
use Rattle.model.proofs.Tabulated.{from, from_next, from_end}
use Rattle.model.proofs.Zones.{closed, all_closed}
use Rattle.memory.specs.Matrices.{leaves, SomeLeft, Takes}

-- nothing is left of no times
none_stays : (n : ℕ) (ks : List Constraint) → foldl (constrain (suc n)) none ks ≡ none
unfolding constrain
none_stays n [] = refl
none_stays n (k ∷ ks) = none_stays n ks

-- ks, then ls
pub record Parts (ms ks ls : List Constraint) : Type 0 where
  pub is : ms ≡ ks ++ ls

-- of the constraints ms, which d₀ is to take in, ks are left, and d is what the others leave
pub record Toward (n L : ℕ) (d₀ : Matrix) (ms : List Constraint) (d : Matrix) (ks : List Constraint) : Type 0 where
  pub taking : Takes n L d ks
  pub rest : leaves n d ks ≡ leaves n d₀ ms

pub toward_start : {n L : ℕ} {d : Matrix} {ms ks : List Constraint} → Takes n L d ms → ms ≡ ks → Toward n L d ms d ks
toward_start {n} {d} t e = record { taking = rw e at t; rest = ap (leaves n d) (sym e) }

module _ {n L : ℕ} {d₀ : Matrix} {ms : List Constraint} {d : Matrix} where
  module _ {js ks ls : List Constraint} (p : Parts js ks ls) (w : Toward n L d₀ ms d js) where
    -- the first part can be taken in
    pub first_of : Takes n L d ks
    first_of =
        let t = rw p.is at w.taking in
        record { few = t.few; closed = t.closed; fits = (every_split ks ls t.fits).0; fitting = fitting_front ks ls t.fitting }

    split_rest : foldl (constrain (suc n)) (leaves n d ks) ls ≡ leaves n d₀ ms
    split_rest = sym (foldl-append (constrain (suc n)) (some d) ks ls) ∙ rw p.is at w.rest

    -- it leaves no times
    pub nothing_left : leaves n d ks ≡ none → leaves n d₀ ms ≡ none
    nothing_left e = sym (rw e at split_rest) ∙ none_stays n ls

    -- it leaves d', and the second part is to be taken in
    pub onward_to : {d' : Matrix} → leaves n d ks ≡ some d' → Toward n L d₀ ms d' ls
    unfolding first_of
    onward_to e =
        let t = rw p.is at w.taking in
        record {
          taking = record {
            few = t.few;
            closed = closed_some (rw e at (all_closed (suc n) (closed t.closed) first_of.fits));
            fits = (every_split ks ls t.fits).1;
            fitting = rw e at (fitting_rest ks ls t.fitting);
          };
          rest = rw e at split_rest;
        }

    -- it leaves something, if all do
    pub first_some : SomeLeft n d₀ ms → SomeLeft n d ks
    first_some s = go (leaves n d ks) refl
      where
        go : (o : Option Matrix) → leaves n d ks ≡ o → SomeLeft n d ks
        go none e = let both = sym (nothing_left e) ∙ s.is in impossible cc
        go (some c) e = record { zone = c; is = e }

  -- none is to be taken in any more
  pub all_in : {ks : List Constraint} → Toward n L d₀ ms d ks → ks ≡ [] → leaves n d₀ ms ≡ some d
  all_in w e = sym w.rest ∙ ap (leaves n d) e

-- ---- the lists of constraints that a loop goes through
pub next_one : (f : ℕ → Constraint) (e j : ℕ) → j < e → Parts (from f e j) (f j ∷ []) (from f e (j + 1))
next_one f e j h = record { is = from_next f e j h }

pub next_list : (f : ℕ → List Constraint) (e j : ℕ) → j < e → Parts (flatten (from f e j)) (f j) (flatten (from f e (j + 1)))
unfolding flatten
next_list f e j h = record { is = ap flatten (from_next f e j h) }

pub end_list : (f : ℕ → List Constraint) (e j : ℕ) → e ≤ j → flatten (from f e j) ≡ []
unfolding flatten
end_list f e j h = ap flatten (from_end f e j h)
