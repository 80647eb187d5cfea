-- Values put into an array one by one; and what an entry that is present says.
use Prim.Native.Nat.{ℕ, suc, ◌-◌, ◌<◌}
use native.Mathlib.Omega.{arith}
use mathlib.Core.Path.{◌≡◌, refl, sym, ◌∙◌}
use Rattle.std.specs.Prelude.{Some, None, is_some}
use mathlib.Core.List.{List, [], ◌∷◌, ◌++◌, append_assoc}
use lib.ListN.{length, set, replicate, length-append}
use lib.Seq.{set_at}
use Rattle.ints.specs.declared.Seconds.{Seconds}
use Rattle.model.specs.Lists.{padded}
use Rattle.model.specs.Network.{is_time}
use Rattle.model.specs.Faults.{Entry, time_of}

-- one more value, in the first place that is still free
pub padded_set : {X : Type 0} (z : X) (size i : ℕ) (es : List X) (e : X) → length es ≡ i → i < size
    → set (padded z size es) i e ≡ padded z size (es ++ e ∷ [])
padded_set z size i es e l h =
    let m : size - length es ≡ suc (size - length (es ++ e ∷ [])) = omega (arith, length-append es (e ∷ [])) in
    rw m (set_at es z (replicate (size - length (es ++ e ∷ [])) z) e i l)
    ∙ sym (append_assoc es (e ∷ []) (replicate (size - length (es ++ e ∷ [])) z))

-- an entry is a time where it is present
pub has_time : (e : Entry Seconds) → is_time (time_of e) ≡ is_some e
unfolding is_time time_of
has_time None = refl
has_time (Some x) = refl
