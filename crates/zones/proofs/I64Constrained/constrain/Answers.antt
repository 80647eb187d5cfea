-- Row by row.
use native.Mathlib.Omega.{arith}
use lib.ListN.{length}
use Rattle.model.specs.Sizes.{zone_size}
use mathlib.Core.Path.{◌≡◌, ap, ◌∙◌}
use Rattle.model.specs.Bound.{Bound, plus}
use Rattle.model.proofs.Size.{small_mono, small_sum}
use Rattle.memory.specs.Numbers.{of_halves}
use Rattle.memory.specs.Wide.{bounds_in, bounds_mapped}
use Rattle.memory.proofs.Places.{size_of, zone_of}
use Rattle.memory.proofs.Relaxing.{inside, not_around, next_closed, next_small, row_taken, all_taken}
use Rattle.zones.proofs.I64Constrained.constrain.Goals as goal

pub bound_at-requires : goal.bound_at-requires
bound_at-requires c =
    let t = c.requires.one.taking in
    let z = zone_of bounds_mapped _ t in
    record { zone = record { few = z.few; size = omega (arith, z.size) }; row = omega arith; col = (inside t).row_fits }

pub add-way-requires : goal.add-way-requires
add-way-requires c = small_mono (omega arith) (small_sum c.bound_at.ensures.small c.requires.one.small)

pub across_row-requires : goal.across_row-requires
across_row-requires c =
    let one = c.requires.one in
    let t = one.taking in
    let z = zone_of bounds_mapped _ t in
    let around = not_around t.closed (inside t) c.requires.times in
    let way = c.add-way.ensures ∙ ap (λ (l : Bound). plus l (of_halves c.args.c.0)) c.bound_at.ensures.is in
    record {
      zone = record { few = z.few; size = omega (arith, z.size) };
      row = omega arith;
      base = (inside t).col_fits;
      way_small = rw c.add-way.ensures (small_sum c.bound_at.ensures.small one.small);
      closed = next_closed t around c.loop-i.invariant (omega arith) way;
      new_small = next_small t around c.loop-i.invariant (omega arith) way;
    }

pub loop-i-preserved : goal.loop-i-preserved
loop-i-preserved c =
    let t = c.requires.one.taking in
    let way = c.add-way.ensures ∙ ap (λ (l : Bound). plus l (of_halves c.args.c.0)) c.bound_at.ensures.is in
    row_taken t (not_around t.closed (inside t) c.requires.times) c.loop-i.invariant (omega arith) way c.across_row.ensures

pub returns : goal.returns
returns c =
    let t = c.requires.one.taking in
    let size : length (bounds_in c.loop-i.zone) ≡ zone_size c.args.n = size_of bounds_mapped c.loop-i.zone ∙ omega (arith, (zone_of bounds_mapped _ t).size) in
    all_taken t (not_around t.closed (inside t) c.requires.times) c.loop-i.invariant size (omega arith)
