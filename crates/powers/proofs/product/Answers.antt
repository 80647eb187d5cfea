-- Row by row.
use native.Mathlib.Omega.{arith}
use native.Mathlib.Nat.{add-mul, zero-mul, mul-le-mul_right}
use Prim.Native.Nat.{◌+◌, ◌*◌}
use mathlib.Core.Path.{◌≡◌, refl, sym, ap, ◌∙◌}
use lib.ListN.{take}
use lib.Seq.{take-take, take_all}
use Rattle.model.specs.Sizes.{table_size}
use Rattle.model.specs.Network as network
use Rattle.model.proofs.Powers.{length_product}
use Rattle.memory.specs.Numbers.{times_in}
use Rattle.powers.specs.Readings.{numbers_at, table_at}
use Rattle.powers.proofs.Places.{same_part, next_row}
use Rattle.powers.proofs.product.Goals as goal

pub loop-i-init : goal.loop-i-init
unfolding times_in
loop-i-init c = rw (zero-mul c.args.n) (refl, refl, refl)

pub product_row-requires : goal.product_row-requires
product_row-requires c =
    let a = c.args in
    let size = table_size a.n in
    let (p, front, long) = c.loop-i.invariant in
    let r = c.requires in
    let e = add-mul a.r 1 size in
    let same : numbers_at a.n c.loop-i.powers a.r ≡ numbers_at a.n a.powers.now a.r =
    same_part ((a.r + 1) * size) c.loop-i.powers a.powers.now front (omega (arith, r.room.inside)) (omega (arith, r.room.inside)) (a.r * size) size
    (omega arith) in (
      record {
        factors = rw same r.factors;
        room = record { departures = r.room.departures; among = r.room.among; inside = omega (arith, r.room.inside) };
      },
      c.loop-i-test.true,
    )

pub loop-i-preserved : goal.loop-i-preserved
loop-i-preserved c =
    let a = c.args in
    let size = table_size a.n in
    let at = (a.r + 1) * size in
    let table = network.product a.n (times_in a.times.now) (table_at a.n a.powers.now a.r) in
    let l = c.loop-i in
    let next = c.product_row.new.powers in
    let (p, front, long) = l.invariant in
    let m = c.product_row.ensures in
    let room = c.requires.room.inside in
    let e = add-mul a.r 1 size in
    let f = add-mul l.i 1 a.n in
    let rows = mul-le-mul_right a.n c.loop-i-test.true in
    let last : (l.i + 1) * a.n ≡ l.i * a.n + a.n = omega arith in
    let same : numbers_at a.n l.powers a.r ≡ numbers_at a.n a.powers.now a.r =
    same_part at l.powers a.powers.now front (omega arith) (omega arith) (a.r * size) size (omega arith) in
    let before = at + l.i * a.n in
    let is = ap times_in (same_part before next l.powers m.front (omega (arith, c.product_row.auto.powers)) (omega arith) at (l.i * a.n) (omega arith)) ∙ p in (
      rw last (next_row a.n at (l.i * a.n) next table is (rw same at m.is)),
      sym (take-take at before next (omega arith)) ∙ ap (take at) m.front ∙ take-take at before l.powers (omega arith) ∙ front,
      c.product_row.auto.powers ∙ long,
    )

pub returns : goal.returns
returns c =
    let a = c.args in
    let table = network.product a.n (times_in a.times.now) (table_at a.n a.powers.now a.r) in
    let l = c.loop-i in
    let (p, front, long) = l.invariant in
    let e : l.i ≡ a.n = omega arith in
    record {
      is = (rw e at p) ∙ take_all (a.n * a.n) table (omega (arith, length_product a.n (times_in a.times.now) (table_at a.n a.powers.now a.r)));
      front = front;
    }
