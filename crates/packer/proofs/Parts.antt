-- The parts of a case: the number of an entry, its bits, and those of one entry more.
use Prim.Native.Nat.{ℕ, zero, suc, ◌+◌, ◌-◌, ◌*◌, ◌%◌, ◌^◌, ◌≤◌, ◌<◌}
use native.Mathlib.Omega.{arith}
use native.Mathlib.Numerals.{add-one}
use mathlib.Core.Path.{◌≡◌, refl, ap}
use mathlib.Core.Bool.{Bool, true, false, cond}
use mathlib.Core.List.{List, [], ◌∷◌, ◌++◌, flat_map, append-nil}
use borrow.Author.Tests.{ltb-true}
use lib.IntN.{ℤ, pos, negsuc, nat_abs}
use lib.Signed.{lt_z}
use mir.Val.{bool_byte}
use lib.ListN.{length, get_or, take, drop, length-append, take-append-drop}
use lib.Seq.{take-suc}
use Rattle.std.specs.Prelude.{Option, Some, None, is_some, count_by}
use Rattle.std.proofs.lemmas.List.Sums.{sum_by-cons}
use Rattle.ints.specs.declared.Seconds.{Seconds}
use Rattle.model.specs.declared.Limit.{Limit}
use Rattle.model.specs.declared.Form.{Form}
use Rattle.model.specs.declared.Fault.TheVariants as fault
use Rattle.model.specs.Sizes.{most_width, time_limit, time_width, bound_width}
use Rattle.model.specs.Lists.{tabulate, Every, done, both}
use Rattle.model.specs.Packed.{raw_of, Kind, time_kind, bound_kind}
use Rattle.model.specs.Writing.{field_bits, entry_bits, entries_bits}
use Rattle.model.proofs.Complement.{in_half, time_lawful, bound_lawful}
use Rattle.model.proofs.Inverse.{bits_append}
use Rattle.model.proofs.Limits.{over_none, bound_fault_in_none}
use Rattle.model.proofs.Spelled.{length_field}
use Rattle.packer.proofs.Inking.{extends_nothing}
use Rattle.packer.specs.Sound.{Placed, Spells}

-- ---- two's complement by the test
pub raw_below : (half : ℕ) (z : ℤ) → lt_z z (pos 0) ≡ true → raw_of half z ≡ half * 2 - nat_abs z
unfolding raw_of
raw_below half (pos v) h = absurd (omega (arith, ltb-true))
raw_below half (negsuc v) h = refl

pub raw_above : (half : ℕ) (z : ℤ) → lt_z z (pos 0) ≡ false → raw_of half z ≡ nat_abs z
unfolding raw_of
raw_above half (pos v) h = refl
raw_above half (negsuc v) h = cc

-- ---- the numbers of entries that have no fault
module _ (x : Seconds) {f : Form} (placed : Placed (λ f. time_kind) x f) where
  pub time_half : nat_abs x.0 < 2 ^ (time_width - 1)
  time_half = in_half {half = 2 ^ (time_width - 1)} (omega arith) x ((over_none time_limit fault.Time 0 (Some x)).0 (placed.faultless 0))

  pub time_spelt : {r : ℕ} → r ≡ time_kind.raw (Some x) → Spells (λ f. time_kind) x f r
  time_spelt e = record { is = e; small = rw e (time_lawful.raw_small (Some x) refl placed.faultless) }

-- the machine's mark in front of a bound's value
pub mark_weight : (t : Bool) → bool_byte t * 2 ^ bound_width % 2 ^ 32 ≡ cond t (2 ^ bound_width) 0
mark_weight true = refl
mark_weight false = refl

module _ (e : Limit) {f : Form} (placed : Placed bound_kind e f) where
  pub bound_half : nat_abs e.value.0 < 2 ^ (bound_width - 1)
  bound_half = in_half {half = 2 ^ (bound_width - 1)} (omega arith) e.value ((bound_fault_in_none f 0 (Some e)).0 (placed.faultless 0)).0

  pub bound_spelt : {r : ℕ} → r ≡ (bound_kind f).raw (Some e) → Spells bound_kind e f r
  bound_spelt h = record { is = h; small = rw h ((bound_lawful placed.limits).raw_small (Some e) refl placed.faultless) }

-- ---- an entry
module _ {A : Type 0} (k : Kind (Option A)) (has : (e : Option A) → k.has e ≡ is_some e) where
  pub entry_present : (x : A) → entry_bits k (Some x) ≡ field_bits 1 1 ++ field_bits k.width (k.raw (Some x))
  unfolding entry_bits field_bits tabulate
  entry_present x = rw (has (Some x)) refl

  pub entry_absent : entry_bits k None ≡ field_bits 1 0
  unfolding entry_bits field_bits tabulate
  entry_absent = rw (has None) refl

  -- how long it is
  pub present_length : (x : A) → length (entry_bits k (Some x)) ≡ 1 + k.width
  present_length x = rw (entry_present x) (simp (length-append, length_field))

  pub absent_length : length (entry_bits k None) ≡ 1
  absent_length = rw entry_absent (length_field 1 0)

  -- how long entries are of which r are there
  pub entries_length : (es : List (Option A)) {r w : ℕ} → r ≡ count_by is_some es → w ≡ k.width → w ≤ most_width
      → (length (entries_bits k es) ≡ length es + r * w) × (r * w ≤ length es * most_width)
  unfolding entries_bits flat_map
  entries_length [] h e l = rw h (omega arith)
  entries_length (None ∷ es) h e l = rw h (omega (arith, length-append (entry_bits k None) (entries_bits k es), absent_length, entries_length es refl e l))
  entries_length (Some x ∷ es) h e l =
      let one = sum_by-cons (λ y. cond (is_some y) 1 0) (Some x) es in
      rw (h, one) (omega (arith, length-append (entry_bits k (Some x)) (entries_bits k es), present_length x, entries_length es refl e l))

-- what the proofs of one entry use
pub ruleset entry_parts = (entry_absent, present_length, absent_length, length_field)

-- ---- entries
-- one of them
pub every_item : {A : Type 0} {P : A → Type 0} {es : List A} → Every P es → (i : ℕ) → i < length es → (x : A) → x ≡ get_or es i x → P x
every_item done i l x e = absurd (omega arith)
every_item (both p ps) zero l x e = rw e p
every_item (both p ps) (suc i) l x e = every_item ps i (omega arith) x e

module _ {A : Type 0} (k : Kind A) (es : List A) (i : ℕ) (x : A) (inside : i < length es) (e : x ≡ get_or es i x) where
  -- one more
  pub entries_next : entries_bits k (take (i + 1) es) ≡ entries_bits k (take i es) ++ entry_bits k x
  unfolding entries_bits flat_map
  entries_next =
      rw (add-one, take-suc es i x inside, ← e, bits_append k (take i es) (x ∷ []))
      (ap (λ (bs : List ℕ). entries_bits k (take i es) ++ bs) (append-nil (entry_bits k x)))

  -- the bits of the first i and of the next one are no more than those of all
  pub entries_room : length (entries_bits k (take i es)) + length (entry_bits k x) ≤ length (entries_bits k es)
  entries_room =
      let all = bits_append k (take (i + 1) es) (drop (i + 1) es) in
      omega (arith, simp length-append at (ap length entries_next), simp (length-append, take-append-drop) at (ap length all))

-- none
pub entries_none : {A : Type 0} (k : Kind A) → entries_bits k [] ≡ []
unfolding entries_bits flat_map
entries_none k = refl

-- what the proofs of entries use
pub ruleset entries_parts = (entries_none, entries_room, every_item, extends_nothing)
