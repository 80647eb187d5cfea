-- The zone's bounds in parts are taken in to all times.
use borrow.Author.Rules.{rules}
use Prim.Native.Nat.{ℕ, suc}
use mathlib.Core.Path.{◌≡◌, refl, sym, ap, ◌∙◌}
use mathlib.Core.List.{List, map}
use lib.IntN.{ℤ}
use lib.ListN.{take}
use Rattle.model.specs.Bound.{scale, whole}
use Rattle.model.specs.Sizes.{zone_size}
use Rattle.model.specs.Matrix.{entry}
use Rattle.model.specs.Search.{bounds_of}
use Rattle.memory.specs.Numbers as Memory
use Rattle.memory.proofs.Leaving.{left_surely}
use Rattle.memory.proofs.Arrays.{part_long, part_zone, back_is, back_long}
use Rattle.starts.specs.Numbers.{bounds_in}
use Rattle.starts.specs.Conditions.{PartsOf, StartReady}
use Rattle.starts.proofs.Readied.{all_ready, bounds_ready, wholes_are}
use Rattle.starts.proofs.whole_zone.Goals as goal

-- the bounds are the zone's, in parts
there : {n size parts : ℕ} {zone bounds : List ℤ} → size ≡ zone_size n → StartReady n zone parts → PartsOf zone parts bounds
    → bounds_in (take size bounds) ≡ map whole (map (scale parts) (Memory.bounds_in zone))
there {bounds} e r p = ap (λ (k : ℕ). bounds_in (take k bounds)) (e ∙ sym r.source.size) ∙ p.is

pub take_all-requires : goal.take_all-requires
unfolding bounds_of
take_all-requires c =
    let size = c.zone_size-size.ensures in
    let b = c.in_parts-bounds.ensures in
    let r = c.requires in
    let a = all_ready _ (bounds_ready r _ (there size r b) (part_zone r.departures size c.in_parts-bounds.result b.long)) c.everything.ensures in (
      entry (suc c.args.n) (bounds_in (take c.zone_size-size.result c.in_parts-bounds.result)),
      record { taking = a.taking; asks = λ i j hi hj. search rules; tells = λ i j x hi hj e. search rules },
    )

pub returns : goal.returns
unfolding bounds_of
returns c =
    let size = c.zone_size-size.ensures in
    let b = c.in_parts-bounds.ensures in
    let r = c.requires in
    let a = all_ready _ (bounds_ready r _ (there size r b) (part_zone r.departures size c.in_parts-bounds.result b.long)) c.everything.ensures in
    let q = c.take_all.ensures (entry (suc c.args.n) (bounds_in (take c.zone_size-size.result c.in_parts-bounds.result)))
    (record { taking = a.taking; asks = λ i j hi hj. search rules; tells = λ i j x hi hj e. search rules }) in
    let out = c.take_all.new.zone in
    let left = wholes_are r _ (there size r b) (rw c.everything.ensures at (left_surely q a.times.is)) in
    let same = c.take_all.auto.zone ∙ c.everything.auto.zone ∙ part_long r.departures size _ refl in
    record { is = rw (back_is r.departures size _ refl out same) left; long = back_long r.departures size _ refl out same }
