-- Strict bounds: a case is met, in any parts of a second, exactly if it is met in whole numbers of the parts that document 01's starts are in,
-- with "less than b" read as at most b - 1 parts. So decisions on that network of whole numbers are decisions on the case.
use Prim.Native.Nat.{ℕ, suc, ◌≤◌}
use native.Mathlib.Omega.{arith}
use mathlib.Core.Path.{◌≡◌, refl, sym, ap, ap₂, ◌∙◌, fun_ext}
use mathlib.Core.Logic.{◌↔◌}
use mathlib.Core.Bool.{Bool, true, false, ◌&&◌, cond}
use mathlib.Core.List.{List, map}
use mathlib.Core.Option.{Option, none, some}
use lib.Dec.{eqb}
use lib.IntN.{ℤ}
use lib.ListN.{get_or, get_or-map}
use Rattle.ints.proofs.Integers.{impossible}
use Rattle.model.specs.Lists.{tabulate, all_of, Every}
use Rattle.model.specs.Bound as B
use Rattle.model.specs.Bound.{Bound, upto, scale, whole}
use Rattle.model.specs.Matrix.{Matrix, tighten}
use Rattle.model.specs.Pattern.{pair_place, pair_bound, pattern_constraints, is_none, only_differences, InPattern}
use Rattle.model.specs.Network.{Network, in_parts}
use Rattle.model.specs.Search.{lists, first_common, some_strict, parts_of, wholes, start_in}
use Rattle.model.specs.Conditions.{Regular, Closed}
use Rattle.model.specs.Demands.{Witness, Met, NotBefore}
use Rattle.model.proofs.Bounds.{Plain}
use Rattle.model.proofs.Listed.{every_all, map_every}
use Rattle.model.proofs.Zones.{zone_parts, empty, In, tighten_parts}
use Rattle.model.proofs.Patterns.{closed_some, pattern_closed, pattern_in}
use Rattle.model.proofs.Parts.{regular_parts, pattern_parts}
use Rattle.model.proofs.PowersInParts.{differences_parts}
use Rattle.model.proofs.Plain.{PlainZone, tighten_plain, pattern_plain, patterns_plain}
use Rattle.model.proofs.Wholes.{Enough, rows_enough, one_enough, whole_plain, holds_whole, wholes_closed, wholes_in, wholes_plain, whole_zone}
use Rattle.model.proofs.Searched.{parts_some, met_by, unmet}
use Rattle.decisions.specs.Decide.{wholly}
use Rattle.decisions.specs.Conditions.{Posed, Parted}
use Rattle.decisions.proofs.Whole.{MetWhole, UnmetBefore}
use Rattle.decisions.proofs.Meeting.{PlainPatterns}
use Rattle.decisions.proofs.PlainZones.{same_plain}

-- ---- a pattern, read without strictness
module _ (n : ℕ) (b : List Bound) where
  pub pair_whole : (i j : ℕ) → pair_bound n (map whole b) i j ≡ whole (pair_bound n b i j)
  unfolding pair_bound whole
  pair_whole i j = go (eqb i j)
    where
      go : (t : Bool) → cond t B.Bound.none (get_or (map whole b) (pair_place n i j) B.Bound.none)
          ≡ whole (cond t B.Bound.none (get_or b (pair_place n i j) B.Bound.none))
      go true = refl
      go false = get_or-map whole b (pair_place n i j) B.Bound.none

  in_whole : (x : ℕ → ℤ) → InPattern n (map whole b) x ↔ InPattern n b x
  in_whole x = (
    λ h. record { keeps = λ i j hi hj. (holds_whole _ (pair_bound n b i j)).0 (rw (pair_whole i j) at (h.keeps i j hi hj)) },
    λ h. record { keeps = λ i j hi hj. rw (pair_whole i j) ((holds_whole _ (pair_bound n b i j)).1 (h.keeps i j hi hj)) },
  )

  none_whole : (c : Bound) → is_none (whole c) ≡ is_none c
  unfolding is_none whole
  none_whole B.Bound.none = refl
  none_whole (upto s c) = refl

  -- it bounds only differences where it did
  differences_whole : only_differences n (map whole b) ≡ only_differences n b
  unfolding only_differences
  differences_whole =
      ap (λ (f : ℕ → Bool). all_of f (tabulate n 1 (λ j. j)))
      (fun_ext (λ j. ap₂ ◌&&◌ (ap is_none (pair_whole 0 j) ∙ none_whole _) (ap is_none (pair_whole j 0) ∙ none_whole _)))

-- ---- the same in parts
module _ (parts n : ℕ) (b : List Bound) where
  abbrev pub read : List Bound
  read = map whole (map (scale parts) b)

  pub read_plain : Every Plain read
  read_plain = map_every whole (every_all whole_plain (map (scale parts) b))

  pub differences_read : only_differences n read ≡ only_differences n b
  differences_read = differences_whole n (map (scale parts) b) ∙ differences_parts parts n b

  module _ (some_parts : 1 ≤ parts) where
    -- its times are those of the pattern's zone, in parts
    read_in : (x : ℕ → ℤ) → In (suc n) (zone_parts parts (tighten (suc n) (pattern_constraints n b))) x
        ↔ In (suc n) (tighten (suc n) (pattern_constraints n read)) x
    read_in x =
        let same = tighten_parts (suc n) parts some_parts (pattern_constraints n b) ∙ ap (tighten (suc n)) (pattern_parts parts n b) in
        let scaled-in = rw (← same) at (pattern_in n (map (scale parts) b) x) in
        let whole_in = in_whole n (map (scale parts) b) x in
        let here = pattern_in n read x in
        (λ h. here.1 (whole_in.1 (scaled-in.0 h)), λ h. scaled-in.1 (whole_in.0 (here.0 h)))

    zone_plain : PlainZone (tighten (suc n) (pattern_constraints n read))
    zone_plain = tighten_plain (suc n) (pattern_plain n read_plain)

    -- so it is the pattern's zone in whole parts, and empty where that is
    pub zone_wholly : {z : Matrix} → tighten (suc n) (pattern_constraints n b) ≡ some z
        → wholes (suc n) parts z ≡ tighten (suc n) (pattern_constraints n read)
    zone_wholly {z} e =
        same_plain (suc n) (wholes_closed (suc n) parts z) (pattern_closed n read) (wholes_plain (suc n) parts z) zone_plain (λ x.
        let scaled-in = wholes_in (suc n) parts z x in
        let whole_in = rw e at (read_in x) in
        (λ h. whole_in.0 (scaled-in.0 h), λ h. scaled-in.1 (whole_in.1 h)))

    pub none_wholly : tighten (suc n) (pattern_constraints n b) ≡ none → tighten (suc n) (pattern_constraints n read) ≡ none
    none_wholly e = same_plain (suc n) (pattern_closed n read) empty zone_plain (λ d f. impossible cc) (λ x.
        let whole_in = rw e at (read_in x) in (λ h. whole_in.1 h, λ h. absurd h))

-- ---- networks
module _ (w : Network) where
  -- a start in parts
  pub witness_wholly : (parts k : ℕ) (xs : List ℤ) → Witness (wholly parts w) k xs ↔ Witness (in_parts parts w) k xs
  unfolding wholly in_parts
  witness_wholly parts k xs = (
    λ s. record { size = s.size; started = (in_whole w.n _ _).0 s.started; arrived = (in_whole w.n _ _).0 s.arrived },
    λ s. record { size = s.size; started = (in_whole w.n _ _).1 s.started; arrived = (in_whole w.n _ _).1 s.arrived },
  )

  pub wholly_plain : (parts : ℕ) → PlainPatterns (wholly parts w)
  unfolding wholly
  wholly_plain parts = record { start = read_plain parts w.n w.start; target = read_plain parts w.n w.target }

  -- ---- the parts are enough for the zones of its patterns
  pattern_enough : (b : List Bound) → (some_strict w ≡ false → Every Plain b) → {z : Matrix}
      → tighten (suc w.n) (pattern_constraints w.n b) ≡ some z → Enough (suc w.n) (parts_of w) z
  unfolding parts_of
  pattern_enough b plain {z} e = go (some_strict w) refl
    where
      cl : Closed (suc w.n) z
      cl = closed_some (rw e at (pattern_closed w.n b))

      go : (t : Bool) → some_strict w ≡ t → Enough (suc w.n) (cond t (suc w.n) 1) z
      go true f = rows_enough (suc w.n) z (omega arith) cl
      go false f = one_enough (suc w.n) z cl (tighten_plain (suc w.n) (pattern_plain w.n (plain f)) z e)

  pub start_enough : {z : Matrix} → tighten (suc w.n) (pattern_constraints w.n w.start) ≡ some z → Enough (suc w.n) (parts_of w) z
  start_enough = pattern_enough w.start (λ f. (patterns_plain w f).0)

  pub target_enough : {d : Matrix} → tighten (suc w.n) (pattern_constraints w.n w.target) ≡ some d → Enough (suc w.n) (parts_of w) d
  target_enough = pattern_enough w.target (λ f. (patterns_plain w f).1)

  -- the start zone and the target zone in whole parts
  pub parted : {z d : Matrix} → Posed w z d → (z' : Matrix) × (d' : Matrix) × Parted w z d z' d'
  unfolding wholly
  parted {z} {d} p =
      let u = whole_zone (suc w.n) (parts_of w) z (start_enough p.start) in
      let v = whole_zone (suc w.n) (parts_of w) d (target_enough p.target) in (
        u.zone,
        v.zone,
        record {
          start_is = u.is;
          target_is = v.is;
          posed = record {
            start = sym (zone_wholly (parts_of w) w.n w.start (parts_some w) p.start) ∙ u.is;
            target = sym (zone_wholly (parts_of w) w.n w.target (parts_some w) p.target) ∙ v.is;
          };
        },
      )

  module _ (reg : Regular w.n w.times) where
    pub wholly_regular : (parts : ℕ) → Regular (wholly parts w).n (wholly parts w).times
    unfolding wholly
    wholly_regular parts = regular_parts parts w.n w.times reg

    -- ---- met in any parts, exactly if in those of the starts
    pub met_wholly : (k : ℕ) → Met w k ↔ MetWhole (wholly (parts_of w) w) k
    met_wholly k = (
      λ m. go m (first_common w.n w.start (lists w k)) refl,
      λ m. let (xs, s) = m in (parts_of w, parts_some w, xs, (witness_wholly (parts_of w) k xs).0 s),
    )
      where
        go : Met w k → (o : Option Matrix) → first_common w.n w.start (lists w k) ≡ o → MetWhole (wholly (parts_of w) w) k
        go m none e = absurd (unmet w reg k e m)
        go m (some c) e = (start_in w.n (parts_of w) c, (witness_wholly (parts_of w) k _).1 (met_by w reg k e))

    pub unmet_wholly : (k : ℕ) → UnmetBefore (wholly (parts_of w) w) k ↔ NotBefore w k
    unmet_wholly k = (λ h j l u m. h j l u ((met_wholly j).0 m), λ h j l u m. h j l u ((met_wholly j).1 m))
