-- The numbers of the row, then blanks.
use native.Mathlib.Omega.{arith}
use native.Mathlib.Numerals.{add-one}
use Prim.Native.Nat.{suc, ◌+◌, ◌-◌}
use mathlib.Core.Path.{◌≡◌}
use Rattle.zones.proofs.Rows.{row_copied}
use Rattle.zones.proofs.row_of.Goals as goal

pub returns : goal.returns
returns c =
    let base = c.place-base.result in
    let e : base + c.args.n + 1 - base ≡ suc c.args.n = omega arith in
    let p = rw add-one at c.place-base.ensures.is in
    rw (c.copy_from_slice.ensures.after, e, add-one) (row_copied c.args.zone.now c.requires.0 c.requires.1 (omega arith))
