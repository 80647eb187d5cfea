-- List 0 is made, and the search begins.
use native.Mathlib.Omega.{arith}
use Prim.Native.Nat.{◌≤◌}
use mathlib.Core.Bool.{true, false}
use Rattle.std.specs.Int.{from_bool}
use Rattle.model.specs.Search.{lists}
use Rattle.search.proofs.Searching.{target_meets, zone_room, begun}
use Rattle.search.proofs.search_with.Goals as goal

pub first_list-requires : goal.first_list-requires
first_list-requires g c = let q = c.requires.0 in (target_meets q, zone_room q)

pub search_cycles-requires : goal.search_cycles-requires
unfolding lists
search_cycles-requires g c =
    rw c.first_list.auto.work (
      c.requires.0,
      c.requires.1,
      begun c.requires.0 c.first_list.auto.work (rw c.from-count.ensures c.first_list.ensures.list)
          (rw c.from-count.ensures (elim c.first_list.result as (λ b. from_bool b ≤ 1) [ true ↦ omega arith | false ↦ omega arith ])),
      omega arith,
      omega (arith, c.min-early.ensures),
    )
