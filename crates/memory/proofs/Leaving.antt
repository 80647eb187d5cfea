-- What an answer tells of the set that is left.
use Prim.Native.Nat.{ℕ}
use mathlib.Core.Path.{◌≡◌, refl, sym, ap}
use mathlib.Core.List.{List, []}
use mathlib.Core.Option.{Option, none, some}
use mathlib.Core.Bool.{Bool, true, false}
use Rattle.ints.proofs.Integers.{impossible}
use Rattle.model.specs.Matrix.{Matrix, Constraint}
use Rattle.memory.specs.Matrices.{leaves, Left, gone, kept}
use Rattle.memory.proofs.Toward.{Parts, Toward, nothing_left, onward_to, all_in}

pub left_none : {o : Option Matrix} {b : Bool} {e : Matrix} → Left o b e → b ≡ false → o ≡ none
left_none gone f = refl
left_none (kept h) f = impossible cc

pub left_some : {o : Option Matrix} {b : Bool} {e : Matrix} → Left o b e → b ≡ true → o ≡ some e
left_some gone t = impossible cc
left_some (kept h) t = ap some (sym h)

-- where some times are left, they are those
pub left_surely : {o : Option Matrix} {b : Bool} {e d : Matrix} → Left o b e → o ≡ some d → o ≡ some e
left_surely gone s = impossible cc
left_surely (kept h) s = ap some (sym h)

-- and the other way round
pub is_gone : {o : Option Matrix} {e : Matrix} → o ≡ none → Left o false e
is_gone h = rw h gone

pub is_kept : {o : Option Matrix} {e : Matrix} → o ≡ some e → Left o true e
is_kept h = rw h (kept refl)

-- ---- constraints in turn, by the answers
module _ {n L : ℕ} {d₀ : Matrix} {ms : List Constraint} {d : Matrix} where
  module _ {js ks ls : List Constraint} (p : Parts js ks ls) (w : Toward n L d₀ ms d js) {r : Bool} {e : Matrix} (q : Left (leaves n d ks) r e) where
    -- the first part leaves no times
    pub given_up : {e' : Matrix} → r ≡ false → Left (leaves n d₀ ms) false e'
    given_up f = is_gone (nothing_left p w (left_none q f))

    -- it leaves e, and the second part is to be taken in
    pub onward : r ≡ true → Toward n L d₀ ms e ls
    onward t = onward_to p w (left_some q t)

  -- they are all that are to be taken in
  pub at_last : {ks : List Constraint} {r : Bool} {e : Matrix} → Toward n L d₀ ms d ks → Left (leaves n d ks) r e → Left (leaves n d₀ ms) r e
  at_last w q = rw w.rest at q

  -- none is to be taken in any more
  pub arrived : {ks : List Constraint} → Toward n L d₀ ms d ks → ks ≡ [] → Left (leaves n d₀ ms) true d
  arrived w e = is_kept (all_in w e)
