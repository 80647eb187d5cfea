-- How a list that is handed back ends; one set put to it: it is there already, there is no room, or it goes behind the others.
use Prim.Native.Nat.{ℕ, ◌+◌, ◌*◌, ◌≤◌, ◌<◌}
use native.Mathlib.Omega.{arith}
use native.Mathlib.Decide.{dec_lt}
use native.Mathlib.Nat.{mul-le-mul_right, suc-mul}
use mathlib.Core.Path.{◌≡◌, refl, sym, ap, ◌∙◌}
use mathlib.Core.Bool.{Bool, true, false, cond}
use mathlib.Core.List.{List, [], ◌∷◌, ◌++◌, foldl, append-nil, append_assoc}
use mathlib.Core.Option.{Option, none, some}
use lib.IntN.{ℤ}
use lib.ListN.{length, take, drop, length-append}
use lib.Seq.{take-append-le, take_at}
use Rattle.ints.proofs.Integers.{impossible}
use Rattle.model.specs.Lists.{any_of}
use Rattle.model.specs.Matrix.{Matrix, same_matrix}
use Rattle.model.specs.Search.{keep}
use Rattle.model.proofs.Entries.{length_tabulate}
use Rattle.model.proofs.Kept.{Put, empty, there_already, new, keep_is}
use Rattle.memory.specs.Matrices.{Left, gone, kept}
use Rattle.std.specs.Prelude as std
use Rattle.lists.specs.Lists.{zone_at, list_in, ListRoom, ListHeld}
use Rattle.lists.specs.Met.{unmet}
use Rattle.lists.specs.Inner.{PlacedAt}
use Rattle.memory.proofs.Side.{beyond_same}
use Rattle.lists.proofs.places.Zones.{list_same, list_more}

length_list_in : (size count : ℕ) (work : List ℤ) → length (list_in size count work) ≡ count
unfolding list_in
length_list_in size count work = length_tabulate count 0 (zone_at size work)

-- ---- a list of kept zones keeps its front
put_front : {zs zs' : List Matrix} {o : Option Matrix} → Put zs o zs' → (more : List Matrix) × (zs' ≡ zs ++ more)
put_front {zs} empty = ([], sym (append-nil zs))
put_front {zs} (there_already q) = ([], sym (append-nil zs))
put_front (new {z} q) = (z ∷ [], refl)

kept_front : (zs : List Matrix) (os : List (Option Matrix)) → (more : List Matrix) × (foldl keep zs os ≡ zs ++ more)
kept_front zs [] = ([], sym (append-nil zs))
kept_front zs (o ∷ os) =
    let (more, e) = put_front (keep_is zs o) in
    let (rest, f) = kept_front (keep zs o) os in
    (more ++ rest, f ∙ ap (λ (l : List Matrix). l ++ rest) e ∙ append_assoc zs more rest)

-- ---- how it ends
module _ {size capacity : ℕ} {zs : List Matrix} {before after : List ℤ} where
  pub held_full : ListHeld size capacity zs std.None before after → capacity < length zs
  held_full h = elim (dec_lt capacity (length zs)) [
    | yes p ↦ p
    | no p ↦ let f = (h.fits (omega arith)).0 in impossible cc
  ]

  module _ {count : ℕ} (h : ListHeld size capacity zs (std.Some count) before after) where
    pub held_open : length zs ≤ capacity
    held_open = elim (dec_lt capacity (length zs)) [
      | yes p ↦ let f = (h.full p).0 in impossible cc
      | no p ↦ omega arith
    ]

    pub held_list : (count ≡ length zs) × (list_in size count after ≡ zs)
    held_list =
        let (f, l) = h.fits held_open in
        let c : count ≡ length zs = cc in
        (c, ap (λ (k : ℕ). list_in size k after) c ∙ l)

    -- there is room for more
    pub held_room : capacity * size ≤ length after → ListRoom size capacity count after
    held_room long = record { inside = omega (arith, held_open, held_list.0); long = long }

  -- where it is full, it is full with whatever is put to it after that
  pub held_still : ListHeld size capacity zs std.None before after → (os : List (Option Matrix))
      → ListHeld size capacity (foldl keep zs os) std.None before after
  held_still h os =
      let (more, is) = kept_front zs os in
      let long : capacity < length zs = held_full h in
      let longer : capacity < length (foldl keep zs os) = rw is (omega (arith, length-append zs more)) in
      let front : take capacity (foldl keep zs os) ≡ take capacity zs = rw is (take-append-le capacity zs more (omega arith)) in
      record {
        beyond = h.beyond;
        fits = λ f. absurd (omega arith);
        full = λ f. (refl, (h.full long).1 ∙ sym front);
      }

  -- as what became of an earlier one
  pub held_since : {r : std.Option ℕ} {first : List ℤ} → ListHeld size capacity zs r before after
      → drop (capacity * size) before ≡ drop (capacity * size) first → ListHeld size capacity zs r first after
  held_since h e = record { beyond = h.beyond ∙ e; fits = h.fits; full = h.full }

-- ---- a set put to a list goes behind it, unless it is there
behind : List Matrix → Option Matrix → List Matrix
behind zs none = zs
behind zs (some z) = zs ++ (z ∷ [])

keep_behind : (zs : List Matrix) (o : Option Matrix) → keep zs o ≡ behind zs (unmet zs o)
unfolding keep unmet behind
keep_behind zs none = refl
keep_behind zs (some z) = go (any_of (same_matrix z) zs)
  where
    go : (t : Bool) → cond t zs (zs ++ (z ∷ [])) ≡ behind zs (cond t none (some z))
    go true = refl
    go false = refl

-- ---- how it is handed back
module _ {size capacity count : ℕ} {list : List ℤ} (room : ListRoom size capacity count list) where
  -- a list in place
  in_place : {zs : List Matrix} {before after : List ℤ} (count : ℕ) → count ≤ capacity → length zs ≡ count → list_in size count after ≡ zs
      → drop (capacity * size) after ≡ drop (capacity * size) before → ListHeld size capacity zs (std.Some count) before after
  in_place {after} count h l e d = record {
    beyond = d;
    fits = λ f. (ap (λ (k : ℕ). std.Some k) (sym l), ap (λ (k : ℕ). list_in size k after) l ∙ e);
    full = λ f. absurd (omega arith);
  }

  pub held_as_is : ListHeld size capacity (list_in size count list) (std.Some count) list list
  held_as_is = in_place count room.inside (length_list_in size count list) refl refl

  abbrev zs : List Matrix
  zs = list_in size count list

  longer : (z : Matrix) → length (zs ++ (z ∷ [])) ≡ count + 1
  longer z = omega (arith, length-append zs (z ∷ []), length_list_in size count list)

  -- the set is built beside where there is no place left
  pub held_beside : (o : Option Matrix) {k : ℕ} {before : List ℤ} {r : Bool} {after : List ℤ} → PlacedAt size k (unmet zs o) before r after → count ≡ capacity
      → ListHeld size capacity (keep zs o) (cond r std.None (std.Some count)) list list
  unfolding behind
  held_beside o p same = rw (keep_behind zs o) (go p.left)
    where
      go : {u : Option Matrix} {r : Bool} {e : Matrix} → Left u r e → ListHeld size capacity (behind zs u) (cond r std.None (std.Some count)) list list
      go gone = held_as_is
      go (kept {d} h) = record {
        beyond = refl;
        fits = λ f. absurd (omega (arith, longer d));
        full = λ f.
            let front = take_at zs (d ∷ []) count (length_list_in size count list) in
            (refl, rw (← same) (sym front));
      }

  -- or at the next place, and counted
  pub held_next : (o : Option Matrix) {r : Bool} {after : List ℤ} → PlacedAt size count (unmet zs o) list r after → (count ≡ capacity → ⊥)
      → ListHeld size capacity (keep zs o) (std.Some (cond r (count + 1) count)) list after
  unfolding zone_at behind
  held_next o {after} p other = rw (keep_behind zs o) (go p.left)
    where
      more : count < capacity
      more = let h = room.inside in omega arith

      beyond : drop (capacity * size) after ≡ drop (capacity * size) list
      beyond = beyond_same p.elsewhere (capacity * size) (omega (arith, mul-le-mul_right size more, suc-mul count size))

      go : {u : Option Matrix} {r : Bool} → Left u r (zone_at size after count)
          → ListHeld size capacity (behind zs u) (std.Some (cond r (count + 1) count)) list after
      go gone = in_place count room.inside (length_list_in size count list) (list_same p.elsewhere) beyond
      go (kept {d} h) =
          in_place (count + 1) (omega arith) (longer d) (list_more p.elsewhere ∙ ap (λ (m : Matrix). zs ++ (m ∷ [])) h) beyond
