-- The times of a zone in parts, as a zone of whole numbers, and the start that is picked there.
use Prim.Native.Nat.{ℕ, suc, ◌+◌, ◌*◌, ◌≤◌, ◌<◌}
use native.Mathlib.Omega.{arith}
use mathlib.Core.Path.{◌≡◌, refl, ap, ap₂, sym, ◌∙◌}
use mathlib.Core.Logic.{◌↔◌}
use mathlib.Core.List.{◌∷◌, map, flatten}
use mathlib.Core.Option.{Option, none, some}
use lib.IntN.{ℤ, pos, ◌-ℤ◌}
use lib.ListN.{length, get_or-map}
use Rattle.ints.proofs.Integers.{ints, sub_ud, pos_ud}
use Rattle.model.specs.Lists.{Every, done, both}
use Rattle.model.specs.Bound as B
use Rattle.model.specs.Bound.{Bound, upto, most, bit, any, Holds, scale, whole}
use Rattle.model.specs.Matrix.{Matrix, entry, tighten, Member}
use Rattle.model.specs.Network.{clocked}
use Rattle.model.specs.Search.{bounds_of, wholes, pick, start_in}
use Rattle.model.specs.Conditions.{Closed, Fits, Small, AllSmall, Bounded}
use Rattle.model.proofs.Bounds.{bounds, bit_le, Plain, unbounded, at_most}
use Rattle.model.proofs.Scale.{scale_one}
use Rattle.model.proofs.Entries.{every_bound, at_bound}
use Rattle.model.proofs.Tabulated.{tabulate_ext, map_tabulate}
use Rattle.model.proofs.Attained.{has_member}
use Rattle.model.proofs.Mapped.{through, entry_map}
use Rattle.model.proofs.Inner.{scaling}
use Rattle.model.proofs.Ranked.{parts_member}
use Rattle.model.proofs.Unique.{scaled}
use Rattle.model.proofs.Zones as Z
use Rattle.model.proofs.Zones.{ClosedZone, In, Keeps, scaled_all, same_zones, tighten_closed, tighten_in, tighten_in_parts}
use Rattle.model.proofs.Patterns.{closed_some}
use Rattle.model.proofs.Parts.{map_flatten}
use Rattle.model.proofs.Size.{PlainLimits}
use Rattle.model.proofs.Plain.{all_plain, tighten_plain}
use Rattle.model.proofs.Start.{Picked, pick_length, pick_member, pick_rule}

-- ---- a bound, read without strictness
pub whole_plain : (b : Bound) → Plain (whole b)
unfolding whole
whole_plain B.Bound.none = unbounded
whole_plain (upto s b) = at_most

pub holds_whole : (v : ℤ) (b : Bound) → Holds v (whole b) ↔ Holds v b
unfolding whole
holds_whole v B.Bound.none = (λ h. any, λ h. any)
holds_whole v (upto s b) = (
  λ h. omega (bounds, bit_le s, sub_ud b (pos (bit s)), pos_ud (bit s)),
  λ h. omega (bounds, bit_le s, sub_ud b (pos (bit s)), pos_ud (bit s)),
)

whole_same : {b : Bound} → Plain b → whole (scale 1 b) ≡ b
unfolding whole bit
whole_same unbounded = rw scale_one
whole_same (at_most {b}) = rw scale_one (ap most (omega (ints, sub_ud b (pos 0), pos_ud 0)))

-- ---- the bounds of a matrix, as constraints
module _ (m : ℕ) (d : Matrix) where
  pub bounds_fit : Every (Fits m) (bounds_of m d)
  bounds_fit = every_bound (Fits m) m d (λ i j hi hj. record { row_fits = hi; col_fits = hj })

  pub keeps_bounds : (x : ℕ → ℤ) → Every (Keeps x) (bounds_of m d) ↔ Member m d x
  keeps_bounds x = (at_bound (Keeps x) m d, every_bound (Keeps x) m d)

  bounds_plain : ((i j : ℕ) → Plain (entry m d i j)) → PlainLimits (bounds_of m d)
  bounds_plain p = every_bound (λ k. Plain k.limit) m d (λ i j hi hj. p i j)

  pub bounds_small : {S : ℕ} → Bounded m S d → AllSmall S (bounds_of m d)
  bounds_small {S} = every_bound (λ k. Small S k.limit) m d

-- in parts
pub entry_parts : (m parts : ℕ) (d : Matrix) (i j : ℕ) → entry m (scaled parts d) i j ≡ scale parts (entry m d i j)
unfolding entry scale
entry_parts m parts d i j = get_or-map (scale parts) d (i * m + j) B.Bound.none

bounds_parts : (m parts : ℕ) → 1 ≤ parts → (d : Matrix) → scaled_all parts (bounds_of m d) ≡ bounds_of m (scaled parts d)
unfolding bounds_of
bounds_parts m parts h d =
    map_flatten (through (scale parts)) _ ∙ ap flatten (map_tabulate (map (through (scale parts))) m 0 _
    ∙ tabulate_ext m 0 _ _ (λ i l u. map_tabulate (through (scale parts)) m 0 _
    ∙ tabulate_ext m 0 _ _ (λ j p q. ap (λ (b : Bound). record { row = i; col = j; limit = b }) (sym (entry_map (scaling parts h) m d i j)))))

-- they leave the matrix, if it is closed
pub bounds_leave : (m : ℕ) (d : Matrix) → 1 ≤ m → Closed m d → tighten m (bounds_of m d) ≡ some d
bounds_leave m d rows cl = same_zones m rows (tighten_closed m (bounds_fit m d)) (Z.closed cl) (λ parts h x.
    let zone = tighten_in_parts m parts h (bounds_fit m d) x in
    let keeps = keeps_bounds m (scaled parts d) x in
    (λ p. keeps.0 (rw (bounds_parts m parts h d) at (zone.0 p)), λ p. zone.1 (rw (bounds_parts m parts h d) (keeps.1 p))))

-- ---- the times of a zone in parts
-- parts are enough for a zone if it has a time in them: as many as its rows are, and one is if no bound is strict
abbrev pub Enough : ℕ → ℕ → Matrix → Type 0
Enough m parts z = (x : ℕ → ℤ) × Member m (scaled parts z) x

pub rows_enough : (m : ℕ) (z : Matrix) → 1 ≤ m → Closed m z → Enough m m z
rows_enough m z rows cl = parts_member m z rows cl

pub one_enough : (m : ℕ) (z : Matrix) → Closed m z → Every Plain z → Enough m 1 z
one_enough m z cl plain =
    let (x, mem) = has_member m z cl (all_plain plain m) in
    (x, λ i j hi hj. rw (entry_map (scaling 1 (omega arith)) m z i j, scale_one) (mem i j hi hj))

-- each bound read so
pub read_entry : (m : ℕ) (d : Matrix) (i j : ℕ) → entry m (map whole d) i j ≡ whole (entry m d i j)
unfolding entry whole
read_entry m d i j = get_or-map whole d (i * m + j) B.Bound.none

module _ (m parts : ℕ) (z : Matrix) where
  pub wholes_closed : ClosedZone m (wholes m parts z)
  unfolding wholes
  wholes_closed = tighten_closed m (bounds_fit m _)

  -- its times are those of the zone in parts
  pub wholes_in : (x : ℕ → ℤ) → In m (wholes m parts z) x ↔ Member m (scaled parts z) x
  unfolding wholes
  wholes_in x =
      let zone = tighten_in m (bounds_fit m (map whole (scaled parts z))) x in
      let keeps = keeps_bounds m (map whole (scaled parts z)) x in
      (λ h i j hi hj. (same i j).0 (keeps.0 (zone.0 h) i j hi hj), λ h. zone.1 (keeps.1 (λ i j hi hj. (same i j).1 (h i j hi hj))))
    where
      same : (i j : ℕ) → Holds (x i -ℤ x j) (entry m (map whole (scaled parts z)) i j) ↔ Holds (x i -ℤ x j) (entry m (scaled parts z) i j)
      same i j = rw (read_entry m (scaled parts z) i j) (holds_whole (x i -ℤ x j) (entry m (scaled parts z) i j))

  pub wholes_plain : (d : Matrix) → wholes m parts z ≡ some d → Every Plain d
  unfolding wholes
  wholes_plain = tighten_plain m (bounds_plain m (map whole (scaled parts z)) (λ i j. rw (read_entry m (scaled parts z) i j) (whole_plain _)))

  -- where there are times, they are those of a closed matrix without strict bounds
  pub record WholeZone : Type 0 where
    pub zone : Matrix
    pub is : wholes m parts z ≡ some zone
    pub closed_zone : Closed m zone
    pub plain : Every Plain zone
    pub same : (x : ℕ → ℤ) → Member m zone x ↔ Member m (scaled parts z) x

  pub whole_zone : Enough m parts z → WholeZone
  whole_zone (x, mem) = go (wholes m parts z) refl
    where
      go : (o : Option Matrix) → wholes m parts z ≡ o → WholeZone
      go none e = absurd (rw e at ((wholes_in x).1 mem))
      go (some d) e = record {
        zone = d;
        is = e;
        closed_zone = closed_some (rw e at wholes_closed);
        plain = wholes_plain d e;
        same = λ y. rw e at (wholes_in y);
      }

-- a zone without strict bounds, in whole seconds, is itself
pub wholes_same : (m : ℕ) (z : Matrix) → 1 ≤ m → Closed m z → Every Plain z → wholes m 1 z ≡ some z
unfolding wholes
wholes_same m z rows cl plain = ap (λ (d : Matrix). tighten m (bounds_of m d)) (back plain) ∙ bounds_leave m z rows cl
  where
    back : {d : Matrix} → Every Plain d → map whole (map (scale 1) d) ≡ d
    back done = refl
    back (both p ps) = ap₂ ◌∷◌ (whole_same p) (back ps)

-- ---- the start that is picked
module _ (n parts : ℕ) (z : Matrix) (enough : Enough (suc n) parts z) where
  abbrev pub W : WholeZone (suc n) parts z
  W = whole_zone (suc n) parts z enough

  -- it is picked in the zone of whole numbers
  pub start_is : start_in n parts z ≡ pick n W.zone
  unfolding start_in
  start_is = rw (W.is, start_in)

  pub start_length : length (start_in n parts z) ≡ n
  start_length = rw start_is (pick_length n W.zone)

  -- and is a time of the zone in parts
  pub start_member : Member (suc n) (scaled parts z) (clocked (start_in n parts z))
  start_member = rw start_is ((W.same (clocked (pick n W.zone))).0 (pick_member W.closed_zone (all_plain W.plain (suc n))))

  -- each departure is picked by the rule, among the times of the zone in parts (`W.same`)
  pub start_rule : (i : ℕ) → i < n → Picked n W.zone i (clocked (start_in n parts z) (suc i))
  start_rule i h = rw start_is (pick_rule W.closed_zone (all_plain W.plain (suc n)) i h)

-- without strict bounds it is picked in the zone
pub start_same : (n : ℕ) (z : Matrix) → Closed (suc n) z → Every Plain z → start_in n 1 z ≡ pick n z
unfolding start_in
start_same n z cl plain = rw (wholes_same (suc n) z (omega arith) cl plain, start_in)
