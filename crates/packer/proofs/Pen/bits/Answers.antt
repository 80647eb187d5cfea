-- The field is taken up, then byte after byte is stored.
use Rattle.std.proofs.Common.{◌-◌, ◌<◌, length, arith}
use Rattle.model.proofs.Spelled.{length_field}
use Rattle.packer.proofs.Spelling.{power}
use Rattle.packer.proofs.Inking.{moved, taken_fits, extends_on, extends_field, extends_byte}
use Rattle.packer.proofs.Pen.bits.Goals as goal

pub overflow_add-self : goal.overflow_add-self
overflow_add-self c =
    let (can, few, small) = c.requires in
    record { fits = taken_fits c.args.self.now c.args.width c.args.value can few small }

pub loop-init : goal.loop-init
loop-init c =
    let (can, few, small) = c.requires in
    let a = c.args in
    rw (moved a.self.now a.width a.value can few small) (omega arith, extends_field a.self.now a.width a.value can few small)

-- of eight bits and the others the first eight are stored
pub loop-preserved : goal.loop-preserved
loop-preserved c =
    let pen = c.loop.self in
    let rest = pen.held - 8 in
    let room : pen.full < length pen.out.now = omega (arith, length_field c.args.width c.args.value) in
    rw (power rest (omega arith)) (omega arith, extends_on c.loop.invariant.1 (extends_byte pen rest (omega arith) room))
