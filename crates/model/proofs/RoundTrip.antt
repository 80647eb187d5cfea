-- The bits of a case are read as the case without what is ignored, and the bits that a case was read from are its bits.
use Prim.Native.Nat.{ℕ, zero, suc, ◌+◌, ◌-◌, ◌*◌, ◌≤◌}
use native.Mathlib.Omega.{arith}
use native.Mathlib.Nat.{zero-mul}
use mathlib.Core.Path.{◌≡◌}
use mathlib.Core.List.{List, [], ◌++◌, map, flat_map, append_assoc, append-nil}
use mathlib.Core.Option.{none}
use lib.Dec.{ltb, eqb}
use lib.Pow.{pow_pos}
use lib.ListN.{length, take, drop, replicate, length-append, length-drop}
use lib.Seq.{take_at, take-add}
use borrow.Author.Tests.{ltb-false, ne_eqb}
use Rattle.model.specs.Sizes.{time_limit, table_size, pattern_size, horizon_width}
use Rattle.ints.specs.declared.Seconds.{Seconds}
use Rattle.model.specs.declared.Limit.{Limit}
use Rattle.model.specs.declared.Case.{Case}
use Rattle.model.specs.declared.Form.{Form}
use Rattle.model.specs.declared.Fault.TheVariants as fault
use Rattle.model.specs.Lists.{Every}
use Rattle.model.specs.Network.{regular}
use Rattle.model.specs.Faults.{Entry, time_of, outside, patterns_fault, form_fault}
use Rattle.model.specs.Packed.{got, time_kind, bound_kind, entries, rows, case_of, body, parse_as}
use Rattle.model.specs.Writing.{field_bits, entries_bits, all_bounds, table_bits, case_bits, tidied, Whole}
use Rattle.model.specs.Conditions.{FormLimits, InLimit, BoundIn}
use Rattle.model.proofs.Listed.{every_map}
use Rattle.model.proofs.Limits.{over_none, bound_fault_in_none, RowsInLimit, no_row, row, no_fault}
use Rattle.model.proofs.Parsed.{Gives, value, no_value, test_gives, then_gives}
use Rattle.model.proofs.Spelled.{Spells, end, ends, join, split, bits_of, bits_spell}
use Rattle.model.proofs.Inverse.{bits_append, entries_split, first_of, first_spell}
use Rattle.model.proofs.Complement.{time_lawful, bound_lawful}
use Rattle.model.proofs.Bytes.{missing, filled, fill_of, fill_spells}

-- ---- rows
module _ (s : List ℕ) (n : ℕ) where
  -- times in their limit are read where they are written
  times_of_lem : {p q : ℕ} (count : ℕ) (es : List (Entry Seconds)) → count ≤ length es → Every (InLimit time_limit) (take count es)
      → Spells s p (entries_bits time_kind (take count es)) q → entries time_kind s count p [] ≡ got (take count es) q
  times_of_lem count es long h = first_of time_kind time_lawful s count es long (every_map (λ e l p. (over_none time_limit fault.Time p e).1 l) h)

  -- rows in their limits are read where they are written
  rows_of : {r p q : ℕ} {es : List (Entry Seconds)} (before : List (Entry Seconds)) → RowsInLimit n r es → r * n ≤ length es
      → Spells s p (entries_bits time_kind (take (r * n) es)) q
      → rows s n r p before ≡ got (before ++ take (r * n) es) q
  unfolding rows entries_bits flat_map time_of
  rows_of {p} {q} before no_row long t =
      let e : q ≡ p = omega (arith, ends (rw (zero-mul n) at t)) in
      rw (zero-mul, append-nil, e)
  rows_of {p} before (row {r} {es} inside reg rest) long t =
      let now = take n es in
      let later = take (r * n) (drop n es) in
      let e : suc r * n ≡ n + r * n = omega arith in
      let whole : take (suc r * n) es ≡ now ++ later = rw e (take-add n (r * n) es) in
      let (m, x, y) = entries_split time_kind now later (rw whole at t) in
      let first = times_of_lem n es (omega arith) inside x in
      let others = rows_of (before ++ now) rest (omega (arith, length-drop n es)) y in
      rw (first, reg, others, whole, append_assoc)

  -- rows that are read after those of before, whose bits start at place first: m entries in all
  rows_spell : (m k first p : ℕ) (before : List (Entry Seconds)) → Spells s first (entries_bits time_kind before) p → length before + k * n ≡ m
      → Gives (λ es q. Spells s first (entries_bits time_kind es) q × (length es ≡ m)) (rows s n k p before)
  unfolding rows
  rows_spell m zero first p before h e = value {a = before} (h, omega arith)
  rows_spell m (suc k) first p before h e =
      then_gives (first_spell time_kind time_lawful s n p (omega (arith, ends h))) (λ es q r.
      test_gives (regular (map time_of es))
      (λ t. rows_spell m k first q (before ++ es) (rw (bits_append time_kind before es) (join h r.0)) (omega (arith, r.1, length-append before es)))
      (λ t. no_value))

-- ---- the case in a form
module _ (f : Form) where
  -- the bits of a case that is made of lists of the right length
  made : (n m : ℕ) (times : List (Entry Seconds)) (start target : List (Entry Limit))
      → length times ≡ table_size n → length start ≡ pattern_size n → length target ≡ pattern_size n
      → case_bits f (case_of n (m + 1) times start target)
      ≡ field_bits f.lead 0 ++ field_bits f.digits n ++ field_bits horizon_width m ++ entries_bits time_kind times
      ++ (entries_bits (bound_kind f) start ++ entries_bits (bound_kind f) target)
  unfolding case_bits
  made n m times start target t u v =
      let e : m + 1 - 1 ≡ m = omega arith in
      rw (e, take_at times _ (table_size n) t, take_at start _ (pattern_size n) u, take_at target _ (pattern_size n) v, bits_append (bound_kind f) start target)

module _ {f : Form} (lim : FormLimits f) (s : List ℕ) where
  -- the bounds of a pattern that the form has a place for are read where they are written
  bounds_of : {p q : ℕ} (count : ℕ) (es : List (Entry Limit)) → count ≤ length es → Every (BoundIn f) (take count es)
      → Spells s p (entries_bits (bound_kind f) (take count es)) q → entries (bound_kind f) s count p [] ≡ got (take count es) q
  bounds_of count es long h = first_of (bound_kind f) (bound_lawful lim) s count es long (every_map (λ e b p. (bound_fault_in_none f p e).1 b) h)

  -- the bits of a case are read as the case without what is ignored
  pub parse_of : (c : Case) → form_fault f c ≡ none → Whole c → Spells s 0 (filled (case_bits f c)) (8 * length s)
      → parse_as f s ≡ got (tidied c) (8 * length s)
  unfolding form_fault patterns_fault outside parse_as body case_bits tidied
  parse_of c h whole r =
      let facts = simp no_fault at h in
      let n = c.n in
      let size = pattern_size n in
      let Z = field_bits f.lead 0 in
      let D = field_bits f.digits n in
      let N = field_bits horizon_width (c.horizon.0 - 1) in
      let T = table_bits c in
      let (e, in_front, zeros) = split (case_bits f c) (replicate (missing (length (case_bits f c))) 0) r in
      let (_, table, patterns) = split (Z ++ D ++ N ++ T) (entries_bits (bound_kind f) (all_bounds c)) in_front in
      let (_, head, times) = split (Z ++ D ++ N) T table in
      let (d, numbers, horizon) = split (Z ++ D) N head in
      let (z, lead, departures) = split Z D numbers in
      let (_, start, target) = entries_split (bound_kind f) (take size c.start) (take size c.target) patterns in
      let one_less : c.horizon.0 - 1 + 1 ≡ c.horizon.0 = omega arith in
      rw (
        bits_of s f.lead 0 0 (pow_pos f.lead) lead,
        bits_of s f.digits z n (omega arith) departures,
        ne_eqb n 0 (λ z. omega arith),
        bits_of s horizon_width d (c.horizon.0 - 1) (omega arith) horizon,
        one_less,
        rows_of s n [] facts.1.1.0.1 whole.times times,
        bounds_of size c.start whole.start facts.1.1.1.0 start,
        bounds_of size c.target whole.target facts.1.1.1.1 target,
        fill_of s e in_front zeros,
      )

  -- bounds that are read are written there
  bounds_spell : (n p : ℕ) → p ≤ 8 * length s
      → Gives (λ es q. Spells s p (entries_bits (bound_kind f) es) q × (length es ≡ pattern_size n)) (entries (bound_kind f) s (pattern_size n) p [])
  bounds_spell n = first_spell (bound_kind f) (bound_lawful lim) s (pattern_size n)

  -- what is read behind the two numbers is written behind them
  body_spells : (n m p : ℕ) → Spells s 0 (field_bits f.lead 0 ++ field_bits f.digits n ++ field_bits horizon_width m) p
      → Gives (λ c q. Spells s 0 (filled (case_bits f c)) (8 * length s)) (body f s n (m + 1) p)
  unfolding body entries_bits flat_map
  body_spells n m p head =
      then_gives (rows_spell s n (table_size n) n p p [] (end p (omega (arith, ends head))) (omega arith)) (λ times a t.
      then_gives (bounds_spell n a (omega (arith, ends t.0))) (λ start b u.
      then_gives (bounds_spell n b (omega (arith, ends u.0))) (λ target c v.
      then_gives (fill_spells s c (join (join head t.0) (join u.0 v.0))) (λ z d r.
      value {q = d} (rw (made f n m times start target t.1 u.1 v.1) r)))))

  -- the bits that a case is read from are its bits, and the fill
  pub parse_spells : Gives (λ c q. Spells s 0 (filled (case_bits f c)) (8 * length s)) (parse_as f s)
  unfolding parse_as
  parse_spells =
      then_gives (bits_spell s f.lead 0 0) (λ z a x.
      test_gives (ltb 0 z) (λ t. no_value) (λ t.
      let zero : z ≡ 0 = omega (arith, ltb-false) in
      then_gives (bits_spell s f.digits a a) (λ n b y.
      test_gives (eqb n 0) (λ t. no_value) (λ t.
      then_gives (bits_spell s horizon_width b b) (λ m c w.
      body_spells n m c (join (join (rw zero at x.0) y.0) w.0))))))
