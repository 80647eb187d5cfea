-- Number by number.
use borrow.Author.Rules.{rules}
use native.Mathlib.Omega.{arith}
use Prim.Native.Nat.{◌+◌, ◌*◌}
use mathlib.Core.Path.{◌≡◌, ap, ap₂, ◌∙◌}
use lib.IntN.{pos}
use lib.ListN.{length, set, get_or}
use lib.Seq.{paste}
use mir.Syntax.{w32}
use mir.Val.{SFits}
use mir.ValLaws.{to_z-of_z}
use Rattle.std.proofs.lemmas.List.Edits.{paste_none, paste_more}
use Rattle.lists.proofs.places.store.Goals as goal

pub loop-p-init : goal.loop-p-init
loop-p-init c = paste_none c.args.list.now (c.args.k * length c.args.zone.now) c.args.zone.now

pub loop-p-preserved : goal.loop-p-preserved
loop-p-preserved c =
    let l = c.loop-p in
    let list = c.args.list.now in
    let zone = c.args.zone.now in
    let base = c.args.k * length zone in
    let fits : SFits w32 (get_or zone l.p (pos 0)) = search rules in
    ap₂ (λ xs x. set xs (base + l.p) x) l.invariant (to_z-of_z w32 _ fits) ∙ paste_more list base zone l.p (pos 0) (omega arith) (omega arith)

pub returns : goal.returns
returns c =
    let zone = c.args.zone.now in
    let l = c.loop-p in
    let e : l.p ≡ length zone = omega arith in
    l.invariant ∙ ap (paste c.args.list.now (c.args.k * length zone) zone) e
