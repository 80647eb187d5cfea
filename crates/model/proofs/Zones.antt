-- Matrices, or none, as sets of times: what a list of constraints leaves.
use Prim.Native.Nat.{ℕ, ◌≤◌, ◌<◌}
use mathlib.Core.Path.{◌≡◌, refl, ap, sym}
use mathlib.Core.Logic.{◌↔◌}
use mathlib.Core.List.{List, [], ◌∷◌, map, foldl}
use mathlib.Core.Option
use mathlib.Core.Option.{Option, none, some}
use lib.IntN.{ℤ, pos, ◌-ℤ◌}
use Rattle.model.specs.Bound.{Bound, most, LeB, Holds, scale}
use Rattle.model.specs.Matrix.{Matrix, entry, everything, Constraint, constrain, tighten, Member}
use native.Mathlib.Omega.{arith}
use Rattle.model.specs.Lists.{Every, done, both}
use Rattle.model.specs.Conditions.{Closed, Fits}
use Rattle.model.proofs.Bounds.{le_b_trans}
use Rattle.model.proofs.Scale.{scale_le, le_scale, scale_zero}
use Rattle.model.proofs.Mapped.{through, entry_map, map_closed, map_all, map_everything}
use Rattle.model.proofs.Inner.{scaling}
use Rattle.model.proofs.Listed.{every_map, map_every}
use Rattle.model.proofs.Closed.{Within, within_is, within_closed, everything_closed}
use Rattle.model.proofs.Ranked.{parts_member}
use Rattle.model.proofs.Unique.{scaled, same_members}
use Rattle.model.proofs.Members.{within_sound, within_complete, within_none, everything_member}

pub data ClosedZone (m : ℕ) : Option Matrix → Type 0 where
  empty : ClosedZone m none
  closed : {d : Matrix} → Closed m d → ClosedZone m (some d)

-- there is a zone, and it has P
abbrev pub Is : (Matrix → Type 0) → Option Matrix → Type 0
Is P none = ⊥
Is P (some d) = P d

abbrev pub In : ℕ → Option Matrix → (ℕ → ℤ) → Type 0
In m o x = Is (λ d. Member m d x) o

-- a zone in parts, and constraints
abbrev pub zone_parts : ℕ → Option Matrix → Option Matrix
zone_parts parts o = Option.map (scaled parts) o

abbrev pub scaled_all : ℕ → List Constraint → List Constraint
scaled_all parts ks = map (through (scale parts)) ks

abbrev pub Keeps : (ℕ → ℤ) → Constraint → Type 0
Keeps x k = Holds (x k.row -ℤ x k.col) k.limit

-- a first constraint, then the others
step_in : {A Z M : Type 0} (x : ℕ → ℤ) {k : Constraint} {ks : List Constraint}
    → A ↔ (Z × Every (Keeps x) ks) → Z ↔ (M × Keeps x k) → A ↔ (M × Every (Keeps x) (k ∷ ks))
step_in {A} {M} x {k} {ks} rest here = (to, λ h. from h.0 h.1)
  where
    to : A → M × Every (Keeps x) (k ∷ ks)
    to h = let (p, ps) = rest.0 h in let (q, r) = here.0 p in (q, both r ps)

    from : M → Every (Keeps x) (k ∷ ks) → A
    from h (both p ps) = rest.1 (here.1 (h, p), ps)

module _ (m : ℕ) where
  -- zones with the same times in all parts are equal
  pub same_zones : {o p : Option Matrix} → 1 ≤ m → ClosedZone m o → ClosedZone m p
      → ((parts : ℕ) → 1 ≤ parts → (x : ℕ → ℤ) → In m (zone_parts parts o) x ↔ In m (zone_parts parts p) x) → o ≡ p
  same_zones rows empty empty same = refl
  same_zones rows empty (closed {d} c) same = let (x, mem) = parts_member m d rows c in absurd ((same m rows x).1 mem)
  same_zones rows (closed {d} c) empty same = let (x, mem) = parts_member m d rows c in absurd ((same m rows x).0 mem)
  same_zones rows (closed {d} c) (closed {d = e} f) same = ap some (same_members m d e c f same)

  -- one constraint
  within_zone : {d : Matrix} {a b : ℕ} {limit : Bound} {o : Option Matrix} → Closed m d → a < m → b < m → Within m d a b limit o → ClosedZone m o
  within_zone {o = none} cl ha hb w = empty
  within_zone {o = some d'} cl ha hb w = closed (within_closed cl ha hb w)

  pub constrain_closed : {o : Option Matrix} {k : Constraint} → ClosedZone m o → Fits m k → ClosedZone m (constrain m o k)
  unfolding constrain
  constrain_closed empty f = empty
  constrain_closed {k} (closed {d} cl) f = within_zone cl f.row_fits f.col_fits (within_is m d k.row k.col k.limit)

  within_in : {d : Matrix} {a b : ℕ} {limit : Bound} {o : Option Matrix} → Closed m d → a < m → b < m → Within m d a b limit o
      → (x : ℕ → ℤ) → In m o x ↔ (Member m d x × Holds (x a -ℤ x b) limit)
  within_in {o = none} cl ha hb w x = (λ h. absurd h, λ h. within_none ha hb x w h.0 h.1)
  within_in {o = some d'} cl ha hb w x = (within_sound ha hb x cl w, λ h. within_complete ha hb x w h.0 h.1)

  pub constrain_in : {o : Option Matrix} {k : Constraint} → ClosedZone m o → Fits m k → (x : ℕ → ℤ)
      → In m (constrain m o k) x ↔ (In m o x × Keeps x k)
  unfolding constrain
  constrain_in empty f x = (λ h. absurd h, λ h. h.0)
  constrain_in {k} (closed {d} cl) f x = within_in cl f.row_fits f.col_fits (within_is m d k.row k.col k.limit) x

  -- a list of them
  pub all_closed : {ks : List Constraint} {o : Option Matrix} → ClosedZone m o → Every (Fits m) ks → ClosedZone m (foldl (constrain m) o ks)
  all_closed c done = c
  all_closed c (both f fs) = all_closed (constrain_closed c f) fs

  pub all_in : {ks : List Constraint} {o : Option Matrix} → ClosedZone m o → Every (Fits m) ks → (x : ℕ → ℤ)
      → In m (foldl (constrain m) o ks) x ↔ (In m o x × Every (Keeps x) ks)
  all_in c done x = (λ h. (h, done), λ h. h.0)
  all_in c (both f fs) x = step_in x (all_in (constrain_closed c f) fs x) (constrain_in c f x)

  pub tighten_closed : {ks : List Constraint} → Every (Fits m) ks → ClosedZone m (tighten m ks)
  unfolding tighten
  tighten_closed f = all_closed (closed (everything_closed m)) f

  pub tighten_in : {ks : List Constraint} → Every (Fits m) ks → (x : ℕ → ℤ) → In m (tighten m ks) x ↔ Every (Keeps x) ks
  unfolding tighten
  tighten_in f x =
      let all = all_in (closed (everything_closed m)) f x in
      (λ h. (all.0 h).1, λ h. all.1 (everything_member m x, h))

  -- ---- in parts
  module _ (parts : ℕ) (some_parts : 1 ≤ parts) where
    parts_closed : {o : Option Matrix} → ClosedZone m o → ClosedZone m (zone_parts parts o)
    parts_closed empty = empty
    parts_closed (closed cl) = closed (map_closed (scaling parts some_parts) cl)

    pub parts_fit : {ks : List Constraint} → Every (Fits m) ks → Every (Fits m) (scaled_all parts ks)
    parts_fit f = map_every (through (scale parts)) (every_map (λ k g. record { row_fits = g.row_fits; col_fits = g.col_fits }) f)

    -- what a list of constraints leaves, and its times
    pub all_parts : (ks : List Constraint) (o : Option Matrix)
        → zone_parts parts (foldl (constrain m) o ks) ≡ foldl (constrain m) (zone_parts parts o) (scaled_all parts ks)
    all_parts ks o = sym (map_all (scaling parts some_parts) (λ b l. le_scale parts some_parts (most (pos 0)) b (rw scale_zero l)) m ks o)

    pub all_in_parts : {ks : List Constraint} {o : Option Matrix} → ClosedZone m o → Every (Fits m) ks → (x : ℕ → ℤ)
        → In m (zone_parts parts (foldl (constrain m) o ks)) x ↔ (In m (zone_parts parts o) x × Every (Keeps x) (scaled_all parts ks))
    all_in_parts {ks} {o} c f x = rw (all_parts ks o) (all_in (parts_closed c) (parts_fit f) x)

    pub tighten_parts : (ks : List Constraint) → zone_parts parts (tighten m ks) ≡ tighten m (scaled_all parts ks)
    unfolding tighten
    tighten_parts ks = rw (all_parts ks (some (everything m)), map_everything (scaling parts some_parts) m)

    pub tighten_in_parts : {ks : List Constraint} → Every (Fits m) ks → (x : ℕ → ℤ)
        → In m (zone_parts parts (tighten m ks)) x ↔ Every (Keeps x) (scaled_all parts ks)
    tighten_in_parts {ks} f x = rw (tighten_parts ks) (tighten_in (parts_fit f) x)

  -- a constraint that the matrix implies changes nothing
  pub constrain_implied : {d : Matrix} {k : Constraint} → Closed m d → Fits m k → LeB (entry m d k.row k.col) k.limit
      → constrain m (some d) k ≡ some d
  constrain_implied {d} {k} cl f le = same_zones (omega (arith, f.row_fits)) (constrain_closed (closed cl) f) (closed cl) (λ parts h x.
      let now = all_in_parts parts h {ks = k ∷ []} (closed cl) (both f done) x in
      let tighter : LeB (entry m (scaled parts d) k.row k.col) (scale parts k.limit)
      = rw (entry_map (scaling parts h) m d k.row k.col) (scale_le parts h le) in
      (λ p. (now.0 p).0, λ p. now.1 (p, both (le_b_trans (p _ _ f.row_fits f.col_fits) tighter) done)))

  -- times in some parts exist exactly if there are times in as many parts as rows: of a zone, and of a list of constraints
  module _ (rows : 1 ≤ m) where
    pub nonempty_rows : {o : Option Matrix} → ClosedZone m o
        → ((parts : ℕ) × (1 ≤ parts) × (x : ℕ → ℤ) × In m (zone_parts parts o) x) ↔ ((x : ℕ → ℤ) × In m (zone_parts m o) x)
    nonempty_rows empty = (λ h. absurd h.3, λ h. absurd h.1)
    nonempty_rows (closed {d} cl) = (λ h. parts_member m d rows cl, λ h. (m, rows, h.0, h.1))

    pub constraints_rows : {ks : List Constraint} → Every (Fits m) ks
        → ((parts : ℕ) × (1 ≤ parts) × (x : ℕ → ℤ) × Every (Keeps x) (scaled_all parts ks)) ↔ ((x : ℕ → ℤ) × Every (Keeps x) (scaled_all m ks))
    constraints_rows fits =
        let zone = nonempty_rows (tighten_closed fits) in (
          λ h.
              let (parts, l, x, k) = h in
              let (y, i) = zone.0 (parts, l, x, (tighten_in_parts parts l fits x).1 k) in
              (y, (tighten_in_parts m rows fits y).0 i),
          λ h. (m, rows, h.0, h.1),
        )
