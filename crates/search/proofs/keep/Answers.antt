-- Number by number.
use borrow.Author.Rules.{rules}
use native.Mathlib.Omega.{arith}
use Prim.Native.Nat.{◌+◌, ◌*◌, ◌%◌}
use mathlib.Core.Path.{◌≡◌, refl, ap, ap₂, ◌∙◌}
use mathlib.Core.Logic.{inr}
use lib.IntN.{pos}
use lib.ListN.{length, set, get_or}
use lib.Seq.{paste}
use mir.Syntax.{w32}
use mir.Val.{SFits}
use mir.ValLaws.{to_z-of_z}
use Rattle.std.proofs.lemmas.List.Edits.{paste_none, paste_more}
use Rattle.search.specs.Keeping.{places, room_in}
use Rattle.search.proofs.Keeping.{place_inside}
use Rattle.search.proofs.keep.Goals as goal

pub loop-p-init : goal.loop-p-init
loop-p-init c = let a = c.args in paste_none a.numbers.now (a.k % places * room_in a.numbers.now) a.zones.now

pub loop-p-preserved : goal.loop-p-preserved
loop-p-preserved c =
    let l = c.loop-p in
    let numbers = c.args.numbers.now in
    let zones = c.args.zones.now in
    let room = room_in numbers in
    let base = c.args.k % places * room in
    let inside = place_inside room c.args.k (length numbers) (omega arith) in
    let fits : SFits w32 (get_or zones l.p (pos 0)) = search rules in
    ap₂ (λ xs x. set xs (base + l.p) x) l.invariant (to_z-of_z w32 _ fits)
    ∙ paste_more numbers base zones l.p (pos 0) (omega (arith, inside, c.if-room-zones.false)) (omega arith)

pub returns : goal.returns
returns c =
    let a = c.args in
    let l = c.loop-p in
    let e : l.p ≡ length a.zones.now = omega arith in
    inr (
      refl,
      record {
        some_zone = omega (arith, c.if-count-eq0.false);
        fits = omega (arith, c.if-room-zones.false);
        counted = refl;
        list = l.invariant ∙ ap (paste a.numbers.now (a.k % places * room_in a.numbers.now) a.zones.now) e;
      },
    )
