-- What is written: a field taken up, a byte stored, one thing behind another, and the last byte.
use Prim.Native.Nat.{ℕ, zero, suc, ◌+◌, ◌-◌, ◌*◌, ◌/◌, ◌%◌, ◌^◌, ◌≤◌, ◌<◌}
use native.Mathlib.Omega.{arith}
use native.Mathlib.Nat.{zero-add, zero-div, mod-lt}
use native.Mathlib.Numerals.{add-one}
use mathlib.Core.Path.{◌≡◌, refl, sym, ap, ap₂, subst, ◌∙◌}
use mathlib.Core.List.{List, [], ◌∷◌, ◌++◌, append_assoc, append-nil}
use lib.ListN.{length, get_or, drop, set, length-append, length-drop, length-set}
use lib.Seq.{drop-cons, set_at, append_snoc}
use lib.Arith.{digits_lt}
use lib.Pow.{pow-add, pow_mono, pow_pos, shl_exact, shr_lt, high, low}
use Rattle.model.specs.Sizes.{most_width}
use Rattle.model.specs.declared.Form.{Form}
use Rattle.model.specs.Lists.{tabulate, done}
use Rattle.model.specs.Conditions.{FormLimits}
use Rattle.model.specs.Packed.{num_of}
use Rattle.model.specs.Writing.{field_bits, bytes_of}
use Rattle.model.proofs.Entries.{length_tabulate}
use Rattle.model.proofs.Listed.{every_append, every_tabulate, at_get_d}
use Rattle.model.proofs.Tabulated.{tabulate_ext, tabulate_snoc}
use Rattle.packer.specs.declared.Pen.{Pen}
use Rattle.packer.specs.Ink.{bit_of, Inked, CanInk, Extends, Inks, Filled}
use Rattle.model.proofs.Digits.{num_same, num_below}
use Rattle.model.proofs.Bytes.{length_bytes}
use Rattle.model.proofs.Spelled.{length_field}
use Rattle.packer.proofs.Spelling.{num_add, field_bits_lem, num_front, num_field}

-- ---- nothing, and one thing behind another
pub extends_nothing : {pen : Pen} → pen.part < 2 ^ pen.held → Extends [] pen pen
extends_nothing h = record { form_kept = refl; small = h; place = omega arith; same = refl; kept = refl; inked = λ first before i. rw append-nil i }

pub extends_then : {a b : List ℕ} {pen next last : Pen} → Extends a pen next → Extends b next last → Extends (a ++ b) pen last
extends_then {a} {b} p q = record {
  form_kept = q.form_kept ∙ p.form_kept;
  small = q.small;
  place = omega (arith, length-append a b);
  same = q.same ∙ p.same;
  kept = q.kept ∙ p.kept;
  inked = λ first before i. rw append_assoc at (q.inked first (before ++ a) (p.inked first before i));
}

-- a thing of no bits
pub extends_on : {a : List ℕ} {pen next last : Pen} → Extends a pen next → Extends [] next last → Extends a pen last
extends_on p q = rw append-nil at (extends_then p q)

pub inks_then : {a b : List ℕ} {pen next last : Pen} → Inks a pen next → Inks b next last → Inks (a ++ b) pen last
inks_then p q = (extends_then p.0 q.0, q.1)

-- where the second goes by the form
pub inks_in : {a : List ℕ} (b : Form → List ℕ) {pen next last : Pen} → Inks a pen next → Inks (b next.form) next last → Inks (a ++ b pen.form) pen last
inks_in b {next = next} {last} p q = inks_then p (subst (λ (f : Form). Inks (b f) next last) p.0.form_kept q)

-- ---- the first pen
pub inked_first : (pen : Pen) → pen.full ≡ 0 → pen.held ≡ 0 → pen.part ≡ 0 → Inked pen.out.now [] pen
unfolding num_of tabulate
inked_first pen f h p = record { bits = done; long = omega arith; spells = rw (p, h); stored = rw f }

-- ---- a field taken up: its bits are held behind those that were
abbrev pub taken : (pen : Pen) → FormLimits pen.form → ℕ → ℕ → Pen
taken pen few w v = record pen { held = pen.held + w; part = pen.part * 2 ^ w + v; form_few = few }

module _ (pen : Pen) (w v : ℕ) (can : CanInk w pen) (few : w ≤ most_width) (h : v < 2 ^ w) where
  -- the held bits make room for it, and none is lost
  pub moved : pen.part * 2 ^ w % 2 ^ 32 ≡ pen.part * 2 ^ w
  moved = shl_exact pen.held w 32 can.small (omega (arith, can.few))

  pub extends_field : {form_few : FormLimits pen.form} → Extends (field_bits w v) pen (taken pen form_few w v)
  extends_field = record {
    form_kept = refl;
    small = rw (pow-add 2 pen.held w) (digits_lt can.small h);
    place = omega (arith, length_field w v);
    same = refl;
    kept = refl;
    inked = λ first before i.
        let all = before ++ field_bits w v in
        let front = num_front before (field_bits w v) in
        record {
          bits = every_append i.bits (field_bits_lem w v);
          long = omega (arith, i.long, length-append before (field_bits w v), length_field w v);
          spells =
              let held = i.spells ∙ sym (front (8 * pen.full) pen.held (omega (arith, i.long))) in
              let more = rw (← i.long) at (sym (num_field before w v h)) in
              ap₂ (λ (x y : ℕ). x * 2 ^ w + y) held more ∙ sym (num_add (bit_of all) (8 * pen.full) pen.held w);
          stored =
              let same = tabulate_ext pen.full 0 (λ k. num_of (bit_of all) (8 * k) 8) (λ k. num_of (bit_of before) (8 * k) 8)
              (λ k l u. front (8 * k) 8 (omega (arith, i.long))) in
              i.stored ∙ ap (λ (x : List ℕ). x ++ drop pen.full first) (sym same);
        };
  }

  pub taken_fits : pen.part * 2 ^ w % 2 ^ 32 + v < 2 ^ 32
  taken_fits =
      let m : 2 ^ (pen.held + w) ≤ 2 ^ 31 = pow_mono {j = 31} (omega (arith, can.few)) in
      rw moved (omega (arith, (extends_field {form_few = pen.form_few}).small))

-- ---- a byte stored: of eight bits and r more the first eight
-- one more of the numbers f 0, f 1, .. in front of a list
stored_next : (f : ℕ → ℕ) (n : ℕ) (xs : List ℕ) → n < length xs → set (tabulate n 0 f ++ drop n xs) n (f n) ≡ tabulate (n + 1) 0 f ++ drop (n + 1) xs
stored_next f n xs h =
    rw (drop-cons xs n 0 h, add-one, ← (tabulate_snoc n 0 f), zero-add)
    (set_at (tabulate n 0 f) (get_or xs n 0) (drop (suc n) xs) (f n) n (length_tabulate n 0 f)
    ∙ sym (append_snoc (tabulate n 0 f) (f n) (drop (suc n) xs)))

abbrev pub rest : (pen : Pen) → FormLimits pen.form → ℕ → Pen
rest pen few r = record {
  form = pen.form;
  out = record pen.out { now = set pen.out.now pen.full (pen.part / 2 ^ r) };
  full = pen.full + 1;
  held = r;
  part = pen.part % 2 ^ r;
  form_few = few;
}

module _ (pen : Pen) (r : ℕ) (e : pen.held ≡ 8 + r) (room : pen.full < length pen.out.now) where
  pub extends_byte : {form_few : FormLimits pen.form} → Extends [] pen (rest pen form_few r)
  extends_byte = record {
    form_kept = refl;
    small = mod-lt pen.part (pow_pos r);
    place = omega arith;
    same = refl;
    kept = length-set pen.out.now pen.full (pen.part / 2 ^ r);
    inked = λ first before i.
        let f = bit_of before in
        let at = 8 * pen.full in
        let two : pen.part ≡ num_of f at 8 * 2 ^ r + num_of f (at + 8) r = i.spells ∙ ap (num_of f at) e ∙ num_add f at 8 r in
        let below = num_below f (at_get_d {P = λ b. b ≤ 1} 0 (omega arith) i.bits) (at + 8) r in
        let size : length pen.out.now ≡ pen.full + (length first - pen.full) = rw (i.stored, length-append, length_tabulate, length-drop) refl in
        rw append-nil (record {
          bits = i.bits;
          long = omega (arith, i.long);
          spells = rw (two, low (num_of f at 8) r below) (ap (λ (p : ℕ). num_of f p r) (omega arith));
          stored = rw (i.stored, two, high (num_of f at 8) r below) (stored_next (λ k. num_of f (8 * k) 8) pen.full first (omega arith));
        });
  }

-- what is stored is a byte
pub byte_fits : (pen : Pen) → pen.part < 2 ^ pen.held → 8 ≤ pen.held → pen.part / 2 ^ (pen.held - 8) < 2 ^ 8
byte_fits pen small h = let e : pen.held ≡ 8 + (pen.held - 8) = omega arith in shr_lt 8 (pen.held - 8) (rw e at small)

-- what the proof of a field's bits uses
pub ruleset fields = (byte_fits, length_field)

-- ---- the last byte, filled with zero bits
zeros_behind : (bs : List ℕ) (w q : ℕ) → bit_of (bs ++ field_bits w 0) q ≡ bit_of bs q
unfolding field_bits
zeros_behind [] w q = at_get_d {P = λ b. b ≡ 0} 0 refl (every_tabulate w 0 _ (λ i l. omega (arith, zero-div (2 ^ (w - 1 - (0 + i)))))) q
zeros_behind (b ∷ bs) w zero = refl
zeros_behind (b ∷ bs) w (suc q) = zeros_behind bs w q

-- so many bits fill up the byte of which some are held
abbrev pub unfilled : ℕ → ℕ
unfilled held = (8 - held) % 8

pub fills : {pen next : Pen} → pen.held < 8 → Inks (field_bits (unfilled pen.held) 0) pen next → Filled pen next
unfolding bytes_of
fills {pen} {next} few h = record {
  same = h.0.same;
  bytes = λ first bs i.
      let w = unfilled pen.held in
      let j = h.0.inked first bs i in
      let e : next.full ≡ (length bs + 7) / 8 = omega (arith, i.long, j.long, length-append bs (field_bits w 0), length_field w 0) in
      j.stored ∙ rw (length_bytes bs, ← e) (ap (λ (x : List ℕ). x ++ drop next.full first)
      (tabulate_ext next.full 0 _ _ (λ k l u. num_same _ _ (8 * k) (8 * k) 8 (λ m g. zeros_behind bs w (8 * k + m)))));
}
