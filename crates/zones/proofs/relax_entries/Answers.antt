-- Place by place; past the row each number stays.
use borrow.Author.Rules.{rules}
use Prim.Native.Nat.{ℕ, suc, ◌+◌, ◌-◌, ◌*◌, ◌≤◌, ◌<◌}
use native.Mathlib.Omega.{arith}
use native.Mathlib.Numerals.{add-one}
use native.Mathlib.Decide.{dec_lt}
use mathlib.Core.Path.{◌≡◌, refl, ◌∙◌}
use mathlib.Core.List.{List}
use mathlib.Core.Bool.{Bool}
use lib.IntN.{ℤ, pos}
use lib.ListN.{length, get_or}
use mir.Syntax.{w32}
use mir.Val.{SFits, to_z, of_z}
use borrow.Rule.Slice.PartMut.{put_mid}
use mir.ValLaws.{to_z-of_z}
use Rattle.model.specs.Bound.{any, plus, tighter}
use Rattle.model.proofs.Bounds.{plus_none, tighter_of_le}
use Rattle.memory.specs.Numbers.{of_halves, bound_in, bounds_in}
use Rattle.memory.specs.Matrices.{RowFilled}
use Rattle.memory.proofs.Places.{bounds_size}
use Rattle.memory.proofs.Fills.{row_step}
use Rattle.zones.specs.Inner.{beside, EntriesReady}
use Rattle.zones.proofs.Rows.{part_long, part_length, part_at, part_set, part_same, entry_number, row_past, number_put, same_put}
use Rattle.zones.proofs.relax_entries.Goals as goal

module _ {n : ℕ} {zone₀ rest : List ℤ} {i columns : ℕ} {way : ℤ} {narrow : Bool} (r : EntriesReady n zone₀ rest i columns way narrow)
    (zone : List ℤ) (j k : ℕ) (p : RowFilled n (bounds_in zone₀) (bounds_in zone) (beside n zone₀ rest i (of_halves way)) i j)
    (same : length zone ≡ length zone₀) (here : k ≡ i * suc n + j) (inside : j < columns) where
  below : k < length zone
  below = omega (arith, r.passed)

  -- what the numbers stand for together
  new_is : j < suc n
      → tighter (bound_in (get_or zone k (pos 0))) (plus (of_halves way) (bound_in (get_or rest j (pos 0)))) ≡ beside n zone₀ rest i (of_halves way) j
  new_is h = rw (← entry_number _ _ _ _ _ here below, p.left j h (omega arith))

  old_stays : suc n ≤ j
      → tighter (bound_in (get_or zone k (pos 0))) (plus (of_halves way) (bound_in (get_or rest j (pos 0)))) ≡ bound_in (get_or zone k (pos 0))
  old_stays h = rw (r.blank j h (omega (arith, r.passed)), plus_none (of_halves way)) (tighter_of_le any)

pub loop-j-init : goal.loop-j-init
loop-j-init c =
    rw (part_same c.place-base.result _ c.args.zone.now)
    (record { done = λ l h k. absurd (omega arith); left = λ l h k. refl; others = λ k l h g ne. refl })

pub relaxed-requires : goal.relaxed-requires
relaxed-requires c =
    let r = c.requires in
    let j = c.loop-j.j in
    let base = c.place-base.result in
    let k = base + c.args.rest.width - base in
    let row = c.loop-j.number-items in
    let first = rw add-one at c.place-base.ensures.is in
    let here : base + j ≡ c.args.i * suc c.args.n + j = omega arith in
    let room : base + k ≤ length c.args.zone.now = omega (arith, r.passed) in
    let whole = part_long base k c.args.zone.now room in
    let long : length row ≡ k = c.loop-j.auto.number-items ∙ whole in
    let inside : j < k = rw whole at c.loop-j-test.true in
    let passed : j < c.args.rest.width = omega (arith, inside) in
    let f : SFits w32 (get_or row j (pos 0)) = search rules in
    let g : SFits w32 (get_or c.args.rest.numbers.now j (pos 0)) = search rules in
    let zone = put_mid base k c.args.zone.now row in
    let same = part_length base k c.args.zone.now row room long in
    rw (to_z-of_z w32 _ f, to_z-of_z w32 _ g, ← (part_at base k c.args.zone.now row room long j inside))
    (record {
      way_small = r.way_small;
      new_small = λ ne. elim (dec_lt j (suc c.args.n)) [
        | yes h ↦ rw (new_is r zone j (base + j) c.loop-j.invariant same here passed h) (r.new_small _ h)
        | no h ↦ absurd (ne (r.blank j (omega arith) (omega (arith, r.passed))))
      ];
      narrow_sum = λ e. let h = r.narrow_sums e in (h.0, h.1 _ (omega arith));
    })

pub loop-j-preserved : goal.loop-j-preserved
loop-j-preserved c =
    let r = c.requires in
    let j = c.loop-j.j in
    let base = c.place-base.result in
    let k = base + c.args.rest.width - base in
    let row = c.loop-j.number-items in
    let first = rw add-one at c.place-base.ensures.is in
    let here : base + j ≡ c.args.i * suc c.args.n + j = omega arith in
    let room : base + k ≤ length c.args.zone.now = omega (arith, r.passed) in
    let whole = part_long base k c.args.zone.now room in
    let long : length row ≡ k = c.loop-j.auto.number-items ∙ whole in
    let inside : j < k = rw whole at c.loop-j-test.true in
    let passed : j < c.args.rest.width = omega (arith, inside) in
    let zone = put_mid base k c.args.zone.now row in
    let same = part_length base k c.args.zone.now row room long in
    let fits : SFits w32 c.relaxed.result = record { sfits = c.relaxed.type_inv } in
    let f : SFits w32 (get_or row j (pos 0)) = search rules in
    let g : SFits w32 (get_or c.args.rest.numbers.now j (pos 0)) = search rules in
    let e = rw (to_z-of_z w32 _ f, to_z-of_z w32 _ g, ← (part_at base k c.args.zone.now row room long j inside)) at c.relaxed.ensures in
    rw (← (part_set base k c.args.zone.now row room long j (to_z w32 (of_z w32 c.relaxed.result)) inside))
    (elim (dec_lt j (suc c.args.n)) [
      | yes h ↦
          rw (number_put zone (base + j) c.relaxed.result _ fits (e ∙ new_is r zone j (base + j) c.loop-j.invariant same here passed h), here)
          (row_step _ c.loop-j.invariant (bounds_size _ ∙ omega (arith, r.zone)) r.at h refl)
      | no h ↦
          rw (same_put zone (base + j) c.relaxed.result (below r zone j (base + j) c.loop-j.invariant same here passed) fits
          (e ∙ old_stays r zone j (base + j) c.loop-j.invariant same here passed (omega arith)))
          (row_past _ c.loop-j.invariant (omega arith) (omega arith))
    ])

pub returns : goal.returns
returns c =
    let base = c.place-base.result in
    let k = base + c.args.rest.width - base in
    let first = rw add-one at c.place-base.ensures.is in
    let whole = part_long base k c.args.zone.now (omega (arith, c.requires.passed)) in
    row_past _ c.loop-j.invariant (omega (arith, whole, c.requires.passed)) (omega arith)
