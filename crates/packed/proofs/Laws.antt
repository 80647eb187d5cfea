-- Laws of the packed case's definition, and of a cursor that reads one thing after another.
use Rattle.std.proofs.Common.{◌≡◌, refl, ap, sym, subst, ◌∙◌, ℕ, zero, suc, ◌+◌, ◌-◌, ◌*◌, ◌%◌, ◌^◌, ◌≤◌, ◌<◌, eqb, add-one, arith}
use Rattle.std.proofs.Common.{List, [], ◌∷◌, ◌++◌, map, length, take, drop, replicate, length-take, length-drop}
use Rattle.std.proofs.Common.{is_some, Bool, true, false, ◌||◌, cond, Ok}
use native.Mathlib.Nat.{add-mul, mul-le-mul_right, zero-mul, zero-add, suc-add}
use lib.Pow.{pow_mono}
use borrow.Author.Tests.{eq-eqb, ne_eqb}
use borrow.Rule.Slice.PartMut.{put_mid, same_len_mid}
use Rattle.std.proofs.lemmas.Slice.{take-put_mid}
use Rattle.std.proofs.lemmas.List.{drop-replicate, length-replicate}
use Rattle.ints.proofs.Integers.{impossible}
use Rattle.std.specs.Int.{next_multiple_of}
use Rattle.std.specs.List.{list_any}
use Rattle.ints.specs.declared.Seconds.{Seconds}
use Rattle.model.specs.Sizes.{most_bounds, most_width, time_width}
use Rattle.model.specs.Lists.{padded, any_of}
use Rattle.model.specs.Network.{regular}
use Rattle.model.specs.Faults.{Entry, time_of}
use Rattle.model.specs.declared.Limit.{Limit}
use Rattle.model.specs.declared.Form.{Form}
use Rattle.model.specs.declared.Fault.{Fault}
use Rattle.model.specs.declared.Fault.TheVariants as fault
use Rattle.model.specs.Packed.{Reading, got, refused, and_then, bit_at, num_of, num_at, zeros, fill, case_of, body}
use Rattle.model.specs.Packed.{Kind, time_kind, bound_kind, entry, entries, rows}
use Rattle.model.specs.Answers.{outcome_of}
use Rattle.model.proofs.Digits.{bit_small}
use Rattle.model.proofs.Parsed.{num_small}
use Rattle.model.proofs.Stored.{has_time}
use Rattle.packed.specs.declared.Cursor.{Cursor}
use Rattle.packed.specs.Readings.{Next, row_of}

-- ---- the number that the bits from p up to q spell
pub num_none : (s : List ℕ) (p : ℕ) → num_at s p (p - p) ≡ 0
unfolding num_of
num_none s p = let z : p - p ≡ 0 = omega arith in rw z

pub num_more : (s : List ℕ) (p q : ℕ) → p ≤ q → num_at s p (q + 1 - p) ≡ num_at s p (q - p) * 2 + bit_at s q
unfolding num_of
num_more s p q h =
    let e : q + 1 - p ≡ suc (q - p) = omega arith in
    let d : p + (q - p) ≡ q = omega arith in
    rw (e, d)

-- one more bit fits
pub num_fits : (s : List ℕ) (p q : ℕ) → q < p + most_width → num_at s p (q - p) * 2 + bit_at s q < 2 ^ 32
num_fits s p q h =
    let m : 2 ^ (q - p) ≤ 2 ^ (most_width - 1) = pow_mono {i = q - p} {j = most_width - 1} (omega arith) in
    omega (arith, num_small s p (q - p), bit_small s q)

pub ruleset number_turns = (num_none, num_more, num_fits, num_small)

-- ---- one reading after the other
-- what follows each value follows in two steps
then_each : {A B C : Type 0} (x : Reading A) (f : A → ℕ → Reading C) (g : A → ℕ → Reading B) (h : B → ℕ → Reading C)
    → ((a : A) (q : ℕ) → f a q ≡ and_then (g a q) h) → and_then x f ≡ and_then (and_then x g) h
then_each (got a q) f g h same = same a q
then_each (refused e) f g h same = refl

-- x is read, then y: what that says of z, which is read by the two
next_on : {A B C : Type 0} {a b d : Cursor} {m w : ℕ} {u : A} {v : B} {x : List ℕ → ℕ → Reading A} {y : List ℕ → ℕ → Reading B}
    (z : List ℕ → ℕ → Reading C) (c : C) → Next a m x u b → Next b w y v d
    → ((s : List ℕ) (p : ℕ) → x s p ≡ got u b.at → y s b.at ≡ got v d.at → z s p ≡ got c d.at) → Next a (m + w) z c d
next_on z c first second same = record {
  bytes_kept = second.bytes_kept ∙ first.bytes_kept;
  form_kept = second.form_kept ∙ first.form_kept;
  near = omega arith;
  gives = same _ _ first.gives (rw first.bytes_kept at second.gives);
}

-- y has a fault
stop_on : {A B C : Type 0} {a b : Cursor} {m : ℕ} {u : A} {f : Fault} {x : List ℕ → ℕ → Reading A} (y : List ℕ → ℕ → Reading B)
    (z : List ℕ → ℕ → Reading C) → Next a m x u b → y b.bytes.now b.at ≡ refused f
    → ((s : List ℕ) (p : ℕ) → x s p ≡ got u b.at → y s b.at ≡ refused f → z s p ≡ refused f) → z a.bytes.now a.at ≡ refused f
stop_on y z first second same = same _ _ first.gives (rw first.bytes_kept at second)

-- a cursor need not be told how far it is exactly
no_further : {A : Type 0} {a b : Cursor} {m m' : ℕ} {x : List ℕ → ℕ → Reading A} {u : A} → m ≤ m' → Next a m x u b → Next a m' x u b
no_further h n = record { bytes_kept = n.bytes_kept; form_kept = n.form_kept; near = omega arith; gives = n.gives }

-- i + 1 of n have room
pub room_more : (i n w : ℕ) → i < n → i * w + w ≤ n * w
room_more i n w h = let m : i + 1 ≤ n = omega arith in omega (arith, mul-le-mul_right w m)

-- ---- entries
-- the first i of i + j entries, then the others
entries_split : {A : Type 0} (k : Kind A) (s : List ℕ) (i j p : ℕ) (before : List A)
    → entries k s (i + j) p before ≡ and_then (entries k s i p before) (λ es q. entries k s j q es)
unfolding entries
entries_split k s zero j p before = rw zero-add
entries_split k s (suc i) j p before = rw suc-add (then_each (entry k s p) _ _ _ (λ e q. entries_split k s i j q (before ++ e ∷ [])))

pub entries_none : {A : Type 0} (kind : Form → Kind A) (a : Cursor)
    → Next a (0 * (1 + (kind a.form).width)) (λ s p. entries (kind a.form) s 0 p []) [] a
unfolding entries
entries_none kind a = record { bytes_kept = refl; form_kept = refl; near = omega arith; gives = refl }

-- after i entries, one more is read or has a fault
module _ {A : Type 0} (kind : Form → Kind A) {a b : Cursor} (i : ℕ) (read : List A)
    (front : Next a (i * (1 + (kind a.form).width)) (λ s p. entries (kind a.form) s i p []) read b) where
  pub entries_more : {d : Cursor} (e : A) → Next b (1 + (kind b.form).width) (entry (kind b.form)) e d
      → Next a ((i + 1) * (1 + (kind a.form).width)) (λ s p. entries (kind a.form) s (i + 1) p []) (read ++ e ∷ []) d
  unfolding entries
  entries_more {d} e r =
      let k = kind a.form in
      let one = subst (λ (f : Form). Next b (1 + (kind f).width) (entry (kind f)) e d) front.form_kept r in
      no_further (omega (arith, add-mul i 1 (1 + k.width))) (
      next_on (λ s p. entries k s (i + 1) p []) (read ++ e ∷ []) front one (λ s p x y. entries_split k s i 1 p [] ∙ simp (x, y)))

  pub entries_stop : (n : ℕ) → i < n → (f : Fault) → entry (kind b.form) b.bytes.now b.at ≡ refused f
      → entries (kind a.form) a.bytes.now n a.at [] ≡ refused f
  unfolding entries
  entries_stop n h f r =
      let k = kind a.form in
      let m : i + suc (n - (i + 1)) ≡ n = omega arith in
      stop_on (entry k) (λ s p. entries k s n p []) front (rw front.form_kept at r) (λ s p x y.
      rw (← m) (entries_split k s i (suc (n - (i + 1))) p [] ∙ simp (x, y)))

-- ---- a row
regular_is : (es : List (Entry Seconds)) → regular (map time_of es) ≡ list_any is_some es
unfolding regular any_of
regular_is [] = refl
regular_is (e ∷ es) = rw has_time (ap (λ (b : Bool). is_some e || b) (regular_is es))

-- its entries were read, and one is there
pub row_read : (n : ℕ) {m : ℕ} {a b : Cursor} (es : List (Entry Seconds)) → true ≡ list_any is_some es
    → Next a m (λ s p. entries time_kind s n p []) es b → Next a m (row_of n) es b
unfolding row_of
row_read n es e r = record {
  bytes_kept = r.bytes_kept;
  form_kept = r.form_kept;
  near = r.near;
  gives = simp (r.gives, regular_is es, sym e);
}

-- or none is
pub row_empty : (n : ℕ) {m : ℕ} {a b : Cursor} (es : List (Entry Seconds)) → false ≡ list_any is_some es
    → Next a m (λ s p. entries time_kind s n p []) es b → row_of n a.bytes.now a.at ≡ refused (fault.EmptyRow a.at)
unfolding row_of
row_empty n es e r = simp (r.gives, regular_is es, sym e)

-- ---- rows
-- the first i of i + j rows, then the others
rows_split : (s : List ℕ) (n i j p : ℕ) (before : List (Entry Seconds))
    → rows s n (i + j) p before ≡ and_then (rows s n i p before) (λ es q. rows s n j q es)
unfolding rows
rows_split s n zero j p before = rw zero-add
rows_split s n (suc i) j p before =
    rw suc-add (
    then_each (entries time_kind s n p []) _ _ _ (λ row q.
    go (regular (map time_of row)) _ _ (rows_split s n i j q (before ++ row))))
  where
    go : (t : Bool) (x y : Reading (List (Entry Seconds))) → x ≡ and_then y (λ es q. rows s n j q es)
        → cond t x (refused (fault.EmptyRow p)) ≡ and_then (cond t y (refused (fault.EmptyRow p))) (λ es q. rows s n j q es)
    go true x y e = e
    go false x y e = refl

-- a row more
rows_one : (s : List ℕ) (n j p : ℕ) (before : List (Entry Seconds))
    → rows s n (suc j) p before ≡ and_then (row_of n s p) (λ row q. rows s n j q (before ++ row))
unfolding rows row_of
rows_one s n j p before = then_each (entries time_kind s n p []) _ _ _ (λ row q. go (regular (map time_of row)) row q)
  where
    go : (t : Bool) (row : List (Entry Seconds)) (q : ℕ)
        → cond t (rows s n j q (before ++ row)) (refused (fault.EmptyRow p))
        ≡ and_then (cond t (got row q) (refused (fault.EmptyRow p))) (λ row q. rows s n j q (before ++ row))
    go true row q = refl
    go false row q = refl

-- the part of an array from place p up to q
abbrev pub part_size : {A : Type 0} → ℕ → ℕ → List A → ℕ
part_size p q xs = length (take (q - p) (drop p xs))

part_long : {A : Type 0} (n p q : ℕ) (xs : List A) → p + n ≡ q → q ≤ length xs → part_size p q xs ≡ n
part_long n p q xs e h = omega (arith, length-take (q - p) (drop p xs), length-drop p xs)

pub rows_none : (n : ℕ) (a : Cursor) (es : List (Entry Seconds)) → Next a (0 * n * (1 + time_width)) (λ s p. rows s n 0 p []) (take (0 * n) es) a
unfolding rows
rows_none n a es = rw zero-mul (record { bytes_kept = refl; form_kept = refl; near = omega arith; gives = refl })

-- after i of n rows, one more is read into the part from place p up to q, or has a fault
module _ (n i : ℕ) {a b : Cursor} (times : List (Entry Seconds)) (h : i < n) (size : length times ≡ n * n)
    (front : Next a (i * n * (1 + time_width)) (λ s p. rows s n i p []) (take (i * n) times) b) (p q : ℕ) where
  pub rows_more : {d : Cursor} → p ≡ i * n → q ≡ (i + 1) * n → (row : List (Entry Seconds)) → length row ≡ part_size p q times
      → Next b (part_size p q times * (1 + time_width)) (row_of (part_size p q times)) row d
      → (length (put_mid p (q - p) times row) ≡ n * n)
      × Next a ((i + 1) * n * (1 + time_width)) (λ s p. rows s n (i + 1) p []) (take ((i + 1) * n) (put_mid p (q - p) times row)) d
  unfolding rows
  rows_more {d} is ends row l r =
      let m = add-mul i 1 n in
      let within = room_more i n n h in
      let as_long = part_long n p q times (omega arith) (omega arith) in
      let one = subst (λ (k : ℕ). Next b (k * (1 + time_width)) (row_of k) row d) as_long r in
      let e : take ((i + 1) * n) (put_mid p (q - p) times row) ≡ take (i * n) times ++ row =
      rw (← is) (take-put_mid p (q - p) times row ((i + 1) * n) (omega arith) (omega arith)) in (
        same_len_mid p (q - p) times row l ∙ size,
        rw e (
            no_further (omega arith) (
            next_on (λ s p. rows s n (i + 1) p []) (take (i * n) times ++ row) front one (λ s p x y.
            rows_split s n i 1 p [] ∙ simp (x, rows_one s n 0, y)))),
      )

  pub rows_stop : p + n ≡ q → q ≤ n * n → (f : Fault) → row_of (part_size p q times) b.bytes.now b.at ≡ refused f
      → rows a.bytes.now n n a.at [] ≡ refused f
  rows_stop e l f r =
      let left : i + suc (n - (i + 1)) ≡ n = omega arith in
      let one = subst (λ (k : ℕ). row_of k b.bytes.now b.at ≡ refused f) (part_long n p q times e (omega arith)) r in
      stop_on (row_of n) (λ s p. rows s n n p []) front one (λ s p x y.
      ap (λ (k : ℕ). rows s n k p []) (sym left) ∙ rows_split s n i (suc (n - (i + 1))) p [] ∙ simp (x, rows_one s n (n - (i + 1)), y))

-- ---- the filling: zero bits from p up to end
zeros_turn : (s : List ℕ) (end p : ℕ) → p < end
    → zeros s (end - p) p ≡ cond (eqb (bit_at s p) 0) (zeros s (end - (p + 1)) (p + 1)) (refused (fault.FillBit p))
unfolding zeros
zeros_turn s end p h = let left : end - p ≡ suc (end - (p + 1)) = omega arith in rw left

-- those before q are 0
zeros_up : (s : List ℕ) (end q d p : ℕ) → d + p ≡ q → q ≤ end → ((k : ℕ) → p ≤ k → k < q → bit_at s k ≡ 0) → zeros s (end - p) p ≡ zeros s (end - q) q
zeros_up s end q zero p is h clean = let e : p ≡ q = omega arith in rw e refl
zeros_up s end q (suc d) p is h clean =
    zeros_turn s end p (omega arith)
    ∙ simp (eq-eqb _ 0 (clean p (omega arith) (omega arith))) (zeros_up s end q d (p + 1) (omega arith) h (λ k a b. clean k (omega arith) b))

module _ (s : List ℕ) (p end q : ℕ) (e : end ≡ next_multiple_of p 8) (from : p ≤ q) (near : q ≤ end)
    (clean : (k : ℕ) → p ≤ k → k < q → bit_at s k ≡ 0) where
  read : zeros s ((8 - p % 8) % 8) p ≡ zeros s (end - q) q
  read = let k : (8 - p % 8) % 8 ≡ end - p = omega arith in rw k (zeros_up s end q (q - p) p (omega arith) near clean)

  -- a bit is not 0
  pub filling_stops : q < end → (bit_at s q ≡ 0 → ⊥) → fill s p ≡ refused (fault.FillBit q)
  unfolding fill
  filling_stops h ne = simp (read ∙ zeros_turn s end q h, ne_eqb _ 0 ne)

  -- all are 0
  pub filling_ends : end ≡ q → fill s p ≡ cond (eqb end (8 * length s)) (got 0 end) (refused (fault.ExtraByte end))
  unfolding fill zeros
  filling_ends h = let none_left : end - q ≡ 0 = omega arith in rw (read, none_left, h)

-- ---- the case
-- entries in the front of an array of blanks
pub padded_is : {A : Type 0} (z : A) (es : List A) (m : ℕ) → length es ≡ m → es ++ drop m (replicate most_bounds z) ≡ padded z most_bounds es
padded_is z es m e = rw (drop-replicate m most_bounds z, e) refl

-- the places that they are read into
pub front_long : {A : Type 0} (z : A) (m : ℕ) → m ≤ most_bounds → length (take m (replicate most_bounds z)) ≡ m
front_long z m h = omega (arith, length-take m (replicate most_bounds z), length-replicate most_bounds z)

filled_up : {A : Type 0} (x : Reading ℕ) (a : A) → Ok 0 ≡ outcome_of x → outcome_of (and_then x (λ z q. got a q)) ≡ Ok a
filled_up (got z q) a e = refl
filled_up (refused f) a e = impossible cc

-- the table, the two patterns and the filling were read
pub body_read : (n h : ℕ) {m m' m'' k k' : ℕ} {a b d e : Cursor} {times : List (Entry Seconds)} {start target : List (Entry Limit)}
    → Next a m (λ s p. rows s n n p []) times b
    → k ≡ n * (n + 1) → Next b m' (λ s p. entries (bound_kind b.form) s k p []) start d
    → k' ≡ n * (n + 1) → Next d m'' (λ s p. entries (bound_kind d.form) s k' p []) target e
    → Ok 0 ≡ outcome_of (fill e.bytes.now e.at) → outcome_of (body a.form a.bytes.now n h a.at) ≡ Ok (case_of n h times start target)
unfolding body
body_read n h {a} {e} {times} {start} {target} r l' r' l'' r'' f =
    let second = rw (l', add-one, r.form_kept, r.bytes_kept) at r'.gives in
    let third = rw (l'', add-one, r'.form_kept, r.form_kept, r'.bytes_kept, r.bytes_kept) at r''.gives in
    let last = rw (r''.bytes_kept, r'.bytes_kept, r.bytes_kept) at f in
    simp (r.gives, second, third) (filled_up (fill a.bytes.now e.at) (case_of n h times start target) last)
