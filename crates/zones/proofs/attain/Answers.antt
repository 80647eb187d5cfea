-- Column by column.
use native.Mathlib.Omega.{arith}
use Prim.Native.Nat.{ℕ, suc, ◌+◌, ◌≤◌}
use mathlib.Core.Path.{◌≡◌, ap, ap₂, ◌∙◌}
use mathlib.Core.List.{List}
use mathlib.Core.Bool.{Bool}
use lib.IntN.{nat_abs}
use Rattle.ints.specs.declared.Seconds.{Seconds}
use Rattle.model.specs.Network.{Time, time}
use Rattle.model.specs.Faults.{Entry, time_of}
use Rattle.model.specs.Search.{chosen, slack}
use Rattle.model.specs.Conditions.{Small}
use Rattle.model.proofs.Size.{small_mono}
use Rattle.model.proofs.Tabulated.{from_end}
use Rattle.memory.specs.Conditions.{TimeWithin}
use Rattle.memory.proofs.Toward.{first_of, next_one}
use Rattle.memory.proofs.Leaving.{given_up, onward, arrived}
use Rattle.zones.specs.Inner.{AddedWithin, led}
use Rattle.zones.proofs.Columns.{slack_small}
use Rattle.zones.proofs.attain.Goals as goal

-- the limit for column j
module _ {S n : ℕ} {a : List Time} {i s : ℕ} (first : Bool) (j : ℕ) {c by : Seconds} {t : Entry Seconds} (added : AddedWithin S n a i s c)
    (lead : (by.0 ≡ led first j s c.0) × (nat_abs by.0 ≤ suc (nat_abs c.0))) (at : TimeWithin S (time n a i j) t) where
  near : Small (suc S + suc S) (slack by.0 (time_of t))
  near = rw at.is (slack_small _ _ (omega (arith, added.small, lead.1)) (omega (arith, at.small)))

  limit : slack by.0 (time_of t) ≡ slack (led first j s (chosen n a i s)) (time n a i j)
  limit = ap₂ slack (lead.0 ∙ ap (led first j s) added.is) at.is

pub slack-limit-requires : goal.slack-limit-requires
slack-limit-requires g c =
    small_mono (omega (arith, g.met.T.Stored.room)) (near c.args.first c.loop-j.j c.chosen-added.ensures c.lead.ensures c.time_at.ensures)

pub take_in-requires : goal.take_in-requires
take_in-requires g c =
    let e = c.slack-limit.ensures ∙ limit c.args.first c.loop-j.j c.chosen-added.ensures c.lead.ensures c.time_at.ensures in
    record {
      taking = rw e (first_of (next_one _ _ _ (omega arith)) c.loop-j.invariant);
      small = rw c.slack-limit.ensures
          (small_mono (omega (arith, g.met.T.Stored.room)) (near c.args.first c.loop-j.j c.chosen-added.ensures c.lead.ensures c.time_at.ensures));
    }

pub returns-then-not-take_in : goal.returns-then-not-take_in
returns-then-not-take_in g c =
    let e = c.slack-limit.ensures ∙ limit c.args.first c.loop-j.j c.chosen-added.ensures c.lead.ensures c.time_at.ensures in
    given_up (next_one _ _ _ (omega arith)) c.loop-j.invariant (rw e at c.take_in.ensures) c.if-not-take_in.true

pub loop-j-preserved : goal.loop-j-preserved
loop-j-preserved g c =
    let e = c.slack-limit.ensures ∙ limit c.args.first c.loop-j.j c.chosen-added.ensures c.lead.ensures c.time_at.ensures in
    onward (next_one _ _ _ (omega arith)) c.loop-j.invariant (rw e at c.take_in.ensures) c.if-not-take_in.false

pub returns : goal.returns
returns g c = arrived c.loop-j.invariant (from_end _ _ _ (omega arith))
