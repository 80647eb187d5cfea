-- Zone by zone, the last first: none of those behind is this one.
use native.Mathlib.Omega.{arith}
use Prim.Native.Nat.{ℕ, ◌+◌, ◌-◌, ◌≤◌}
use mathlib.Core.Path.{◌≡◌, sym, ap}
use mathlib.Core.Bool.{false}
use mathlib.Core.List.{List}
use lib.IntN.{ℤ}
use lib.ListN.{length}
use Rattle.model.specs.Lists.{any_of}
use Rattle.model.specs.Matrix.{same_matrix}
use Rattle.model.proofs.Tabulated.{from, from_next, from_end}
use Rattle.memory.specs.Numbers.{bounds_in}
use Rattle.lists.specs.Lists.{zone_at}
use Rattle.lists.proofs.places.Zones.{any_found}
use Rattle.lists.proofs.places.has.Goals as goal

-- zone k - 1 is another one too
one_more : (size : ℕ) (list zone : List ℤ) (end k : ℕ) → 1 ≤ k → k ≤ end → same_matrix (bounds_in zone) (zone_at size list (k - 1)) ≡ false
    → any_of (same_matrix (bounds_in zone)) (from (zone_at size list) end k) ≡ false
    → any_of (same_matrix (bounds_in zone)) (from (zone_at size list) end (k - 1)) ≡ false
unfolding any_of
one_more size list zone end k low high other none =
    let e : k - 1 + 1 ≡ k = omega arith in rw (from_next (zone_at size list) end (k - 1) (omega arith), e, other) none

pub loop-k-init : goal.loop-k-init
unfolding any_of
loop-k-init c = record { lower = omega arith; none_behind = ap (any_of _) (from_end _ c.args.end c.args.end (omega arith)) }

pub loop-k-preserved-then-apart : goal.loop-k-preserved-then-apart
loop-k-preserved-then-apart c =
    let i = c.loop-k.invariant in
    record {
      lower = omega arith;
      none_behind = one_more _ _ _ c.args.end c.loop-k.k (omega arith) (omega arith) (c.apart.ensures c.if-apart.true) i.none_behind;
    }

pub returns-in-None : goal.returns-in-None
returns-in-None c =
    let a = c.args in
    let l = c.loop-k in
    sym (any_found _ (zone_at (length a.zone.now) a.list.now) (a.end - a.first) a.first (l.k - 1) (omega arith) (omega (arith, l.invariant.lower))
    c.in-None.ensures)

pub loop-k-preserved : goal.loop-k-preserved
loop-k-preserved c =
    let i = c.loop-k.invariant in
    record {
      lower = omega arith;
      none_behind = one_more _ _ _ c.args.end c.loop-k.k (omega arith) (omega arith) c.in-Some.ensures.1 i.none_behind;
    }

pub returns : goal.returns
returns c =
    let l = c.loop-k in
    let e : l.k ≡ c.args.first = omega (arith, l.invariant.lower) in
    sym (rw e at l.invariant.none_behind)
