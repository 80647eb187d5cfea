-- Zones without strict bounds: they are determined by their times in whole numbers.
use Prim.Native.Nat.{ℕ, ◌<◌}
use mathlib.Core.Path.{◌≡◌, refl, ap}
use mathlib.Core.Logic.{◌↔◌}
use mathlib.Core.Option.{Option, some}
use lib.IntN.{ℤ, pos, ◌+ℤ◌}
use Rattle.ints.proofs.Integers.{add_ud, pos_ud}
use Rattle.model.specs.Bound as B
use Rattle.model.specs.Bound.{Bound, upto, LeB, any}
use Rattle.model.specs.Matrix.{Matrix, entry, Member}
use Rattle.model.specs.Conditions.{Closed}
use Rattle.model.proofs.Bounds.{bounds, le_b_antisym, Plain, at_most}
use Rattle.model.proofs.Entries.{ext_entry}
use Rattle.model.proofs.Attained.{AllPlain, has_member, reaches, meets}
use Rattle.model.proofs.Zones.{ClosedZone, empty, closed, In}
use Rattle.model.proofs.Plain.{PlainZone, all_plain}

-- fewer times, tighter bounds
tighter_by : (m : ℕ) (d e : Matrix) → Closed m d → AllPlain m d → AllPlain m e → ((x : ℕ → ℤ) → Member m d x → Member m e x)
    → (i j : ℕ) → i < m → j < m → LeB (entry m d i j) (entry m e i j)
tighter_by m d e cl plain other sub i j hi hj = go (entry m d i j) refl (entry m e i j) refl (plain i j hi hj) (other i j hi hj)
  where
    go : (b : Bound) → entry m d i j ≡ b → (c : Bound) → entry m e i j ≡ c → Plain b → Plain c → LeB b c
    go b p B.Bound.none q u v = any
    go B.Bound.none p (upto t c) q u at_most =
        let (x, mem, le) = reaches m d cl plain i j hi hj (c +ℤ pos 1) (rw p any) in
        let k = rw q at (sub x mem i j hi hj) in
        absurd (omega (bounds, add_ud c (pos 1), pos_ud 1))
    go (upto s b) p (upto t c) q at_most at_most =
        let (x, mem, is) = meets m d cl plain i j hi hj b p in
        rw (is, q) at (sub x mem i j hi hj)

pub same_plain : (m : ℕ) {o p : Option Matrix} → ClosedZone m o → ClosedZone m p → PlainZone o → PlainZone p
    → ((x : ℕ → ℤ) → In m o x ↔ In m p x) → o ≡ p
same_plain m empty empty u v same = refl
same_plain m empty (closed {d} c) u v same = let (x, mem) = has_member m d c (all_plain (v d refl) m) in absurd ((same x).1 mem)
same_plain m (closed {d} c) empty u v same = let (x, mem) = has_member m d c (all_plain (u d refl) m) in absurd ((same x).0 mem)
same_plain m (closed {d} c) (closed {d = e} f) u v same =
    let p = all_plain (u d refl) m in
    let q = all_plain (v e refl) m in
    ap some (ext_entry m d e c.size f.size (λ i j hi hj.
    le_b_antisym (tighter_by m d e c p q (λ x. (same x).0) i j hi hj) (tighter_by m e d f q p (λ x. (same x).1) i j hi hj)))
