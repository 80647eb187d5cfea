-- One byte more than the longest case has decides what reading gives: it shows that a byte follows.
-- `Agree last x y` says that x and y are one reading, whose place after it, if it gives a value, is at most last.
use Prim.Native.Nat.{ℕ, zero, suc, ◌+◌, ◌-◌, ◌*◌, ◌/◌, ◌%◌, ◌^◌, ◌≤◌, ◌<◌}
use native.Mathlib.Omega.{arith}
use native.Mathlib.Nat.{mul-le-mul}
use mathlib.Core.Path.{◌≡◌, refl}
use mathlib.Core.List.{List, [], ◌∷◌, ◌++◌, map}
use mathlib.Core.Bool.{Bool, true, false, cond}
use mathlib.Core.Option.{Option, none, some}
use lib.Dec.{ltb, leb, eqb}
use lib.ListN.{length, take}
use lib.Seq.{take_all, length-take-le, get_or-take}
use borrow.Author.Tests.{leb-true, leb-false, le-leb, ne_eqb}
use Rattle.model.specs.Sizes.{most_departures, table_size, pattern_size, most_times, most_bounds}
use Rattle.model.specs.Sizes.{wide_lead, wide_digits, horizon_width, time_width, bound_width, most_width, most_bits, most_bytes}
use Rattle.ints.specs.declared.Seconds.{Seconds}
use Rattle.model.specs.declared.Form.{Form}
use Rattle.model.specs.declared.Fault.{Fault}
use Rattle.model.specs.Forms.{old, wide}
use Rattle.model.specs.Network.{regular}
use Rattle.model.specs.Faults.{Entry, time_of}
use Rattle.model.specs.Packed.{Reading, got, refused, and_then, bit_at, num_at, bits, Kind, time_kind, bound_kind, unless_faulty, entry, entries, rows}
use Rattle.model.specs.Packed.{zeros, fill, body, parse_as, parse}
use Rattle.model.specs.Conditions.{FormLimits}
use Rattle.model.proofs.Digits.{num_same}
use Rattle.model.proofs.Parsed.{old_form, wide_form, agreed_limits, places_few, num_small}

data Agree {A : Type 0} (last : ℕ) : Reading A → Reading A → Type 0 where
  value : {a : A} {q : ℕ} → q ≤ last → Agree last (got a q) (got a q)
  no_value : {f : Fault} → Agree last (refused f) (refused f)

module _ {A : Type 0} {last : ℕ} where
  agree_same : {x y : Reading A} → Agree last x y → x ≡ y
  agree_same (value h) = refl
  agree_same no_value = refl

  agree_test : {x y u v : Reading A} (t : Bool) → Agree last x y → Agree last u v → Agree last (cond t x u) (cond t y v)
  agree_test true h k = h
  agree_test false h k = k

  agree_then : {B : Type 0} {end : ℕ} {x y : Reading A} {f g : A → ℕ → Reading B}
      → Agree last x y → ((a : A) (q : ℕ) → q ≤ last → Agree end (f a q) (g a q)) → Agree end (and_then x f) (and_then y g)
  agree_then (value {a} {q} h) k = k a q h
  agree_then no_value k = no_value

  agree_later : {end : ℕ} {x y : Reading A} → last ≤ end → Agree last x y → Agree end x y
  agree_later l (value {q} h) = value {q = q} (omega arith)
  agree_later l no_value = no_value

  agree_unless : (o : Option Fault) (a : A) (q : ℕ) → q ≤ last → Agree last (unless_faulty o a q) (unless_faulty o a q)
  agree_unless none a q l = value l
  agree_unless (some f) a q l = no_value

-- two lists of bytes whose bits below top are the same, neither of them shorter
module _ (s t : List ℕ) (top : ℕ) (long : top ≤ 8 * length s) (long' : top ≤ 8 * length t) (same : (p : ℕ) → p < top → bit_at s p ≡ bit_at t p) where
  read_s : (w first p : ℕ) → p + w ≤ top → bits s w first p ≡ got (num_at t p w) (p + w)
  unfolding bits
  read_s w first p h =
      let same_number = num_same (bit_at s) (bit_at t) p p w (λ i l. same (p + i) (omega arith)) in
      rw (le-leb (p + w) (8 * length s) (omega arith), same_number) refl

  read_t : (w first p : ℕ) → p + w ≤ top → bits t w first p ≡ got (num_at t p w) (p + w)
  unfolding bits
  read_t w first p h = rw (le-leb (p + w) (8 * length t) (omega arith)) refl

  bits_agree : (w first p : ℕ) → p + w ≤ top → Agree (p + w) (bits s w first p) (bits t w first p)
  bits_agree w first p h = rw (read_s w first p h, read_t w first p h) (value {q = p + w} (omega arith))

  -- and the number that is read is what w bits spell
  bits_then : {B : Type 0} {end : ℕ} (w first p : ℕ) → p + w ≤ top → (f g : ℕ → ℕ → Reading B)
      → ((v : ℕ) → v < 2 ^ w → Agree end (f v (p + w)) (g v (p + w))) → Agree end (and_then (bits s w first p) f) (and_then (bits t w first p) g)
  bits_then w first p h f g k = rw (read_s w first p h, read_t w first p h) (k (num_at t p w) (num_small t p w))

  entry_agrees : {A : Type 0} (k : Kind A) (p : ℕ) → p + suc k.width ≤ top → Agree (p + suc k.width) (entry k s p) (entry k t p)
  unfolding entry
  entry_agrees k p h =
      agree_then (bits_agree 1 p p (omega arith)) (λ bit q l.
      agree_test (eqb bit 0) (value (omega arith))
      (agree_then (bits_agree k.width p q (omega arith)) (λ raw r m. agree_unless (k.judge p (k.value raw)) (k.value raw) r (omega arith))))

  entries_agree : {A : Type 0} (k : Kind A) (count p : ℕ) (before : List A) → p + count * suc k.width ≤ top
      → Agree (p + count * suc k.width) (entries k s count p before) (entries k t count p before)
  unfolding entries
  entries_agree k zero p before h = value {q = p} (omega arith)
  entries_agree k (suc count) p before h =
      agree_then (entry_agrees k p (omega arith)) (λ e q l.
      agree_later (omega arith) (entries_agree k count q (before ++ e ∷ []) (omega arith)))

  rows_agree : (n count p : ℕ) (before : List (Entry Seconds)) → p + count * n * suc time_width ≤ top
      → Agree (p + count * n * suc time_width) (rows s n count p before) (rows t n count p before)
  unfolding rows
  rows_agree n zero p before h = value {q = p} (omega arith)
  rows_agree n (suc count) p before h =
      agree_then (entries_agree time_kind n p [] (omega arith)) (λ es q l.
      agree_test (regular (map time_of es)) (agree_later (omega arith) (rows_agree n count q (before ++ es) (omega arith))) no_value)

  zeros_agree : (k p : ℕ) → p + k ≤ top → Agree (p + k) (zeros s k p) (zeros t k p)
  unfolding zeros
  zeros_agree zero p h = value {q = p} (omega arith)
  zeros_agree (suc k) p h =
      rw (same p (omega arith)) (agree_test (eqb (bit_at t p) 0) (agree_later (omega arith) (zeros_agree k (p + 1) (omega arith))) no_value)

  -- a byte follows, in both
  fill_agrees : (p : ℕ) → p + 8 ≤ top → Agree (p + 8) (fill s p) (fill t p)
  unfolding fill
  fill_agrees p h =
      agree_then (zeros_agree ((8 - p % 8) % 8) p (omega arith)) (λ z q l.
      rw (ne_eqb q (8 * length s) (λ e. omega arith), ne_eqb q (8 * length t) (λ e. omega arith)) no_value)

  module _ {f : Form} (lim : FormLimits f) where
    body_agrees : (n h p : ℕ) → n ≤ most_departures → p ≤ wide_lead + wide_digits + horizon_width → most_bits + 8 ≤ top
        → Agree (most_bits + 8) (body f s n h p) (body f t n h p)
    unfolding body
    body_agrees n h p few near room =
        let squares : table_size n ≤ most_times = mul-le-mul few few in
        let more : suc n ≤ suc most_departures = omega arith in
        let width : suc (f.mark + bound_width) ≤ suc most_width = omega arith in
        let pairs : pattern_size n * suc (f.mark + bound_width) ≤ most_bounds * suc most_width = mul-le-mul (mul-le-mul few more) width in
        agree_then (rows_agree n n p [] (omega arith)) (λ times a l.
        agree_then (entries_agree (bound_kind f) (pattern_size n) a [] (omega arith)) (λ start b m.
        agree_then (entries_agree (bound_kind f) (pattern_size n) b [] (omega arith)) (λ target c k.
        agree_then (fill_agrees c (omega arith)) (λ z d j.
        value {q = d} (omega arith)))))

    parse_agrees_as : most_bits + 8 ≤ top → Agree (most_bits + 8) (parse_as f s) (parse_as f t)
    unfolding parse_as
    parse_agrees_as room =
        agree_then (bits_agree f.lead 0 0 (omega arith)) (λ z a l.
        agree_test (ltb 0 z) no_value
        (bits_then f.digits a a (omega arith) _ _ (λ n small.
        let b = a + f.digits in
        agree_test (eqb n 0) no_value
        (agree_then (bits_agree horizon_width b b (omega arith)) (λ m q k.
        body_agrees n (m + 1) q (omega (arith, places_few lim)) (omega arith) room)))))

  parse_agrees : most_bits + 8 ≤ top → Agree (most_bits + 8) (parse s) (parse t)
  unfolding parse
  parse_agrees room = agree_then (bits_agree wide_lead 0 0 (omega arith)) (λ z a l. chosen (eqb z 0))
    where
      chosen : (b : Bool) → Agree (most_bits + 8) (parse_as (cond b wide old) s) (parse_as (cond b wide old) t)
      chosen true = parse_agrees_as (agreed_limits wide_form) room
      chosen false = parse_agrees_as (agreed_limits old_form) room

bit_of_prefix : (m : ℕ) (s : List ℕ) (p : ℕ) → p / 8 < m → bit_at (take m s) p ≡ bit_at s p
unfolding bit_at
bit_of_prefix m s p h = rw (get_or-take m s (p / 8) 0 h) refl

-- a list of bytes is read as its first m bytes are, where m is more than the longest case has
pub prefix_decides : (m : ℕ) (s : List ℕ) → most_bytes < m → parse (take m s) ≡ parse s
prefix_decides m s h = go (leb (length s) m) refl
  where
    go : (b : Bool) → leb (length s) m ≡ b → parse (take m s) ≡ parse s
    go true e = rw (take_all m s (leb-true (length s) m e)) refl
    go false e =
        let more : m < length s = leb-false (length s) m e in
        let long = length-take-le m s (omega arith) in
        agree_same (parse_agrees (take m s) s (most_bits + 8) (omega arith) (omega arith) (λ p k. bit_of_prefix m s p (omega arith)) (omega arith))
