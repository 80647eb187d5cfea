-- The packed case: what reading a list of bytes gives. Bits are numbered from 0, the most significant of the first byte first.
-- An entry's kind serves the writer too.
use Rattle.std.specs.Prelude.{ℕ, zero, suc, ◌+◌, ◌-◌, ◌*◌, ◌/◌, ◌%◌, ◌^◌, List, [], ◌∷◌, ◌++◌, map, length, get_or, ltb, leb, eqb, ℤ, pos, negsuc, ◌-ℤ◌}
use Rattle.std.specs.Prelude.{Some, None, is_some, Bool, cond}
use Rattle.std.proofs.Math.Option.{Option, none, some}
use Rattle.ints.specs.declared.Seconds.{Seconds}
use Rattle.model.specs.declared.Limit.{Limit}
use Rattle.model.specs.declared.Case.{Case}
use Rattle.model.specs.declared.Form.{Form}
use Rattle.model.specs.declared.Fault.{Fault}
use Rattle.model.specs.declared.Fault.TheVariants as fault
use Rattle.model.specs.Sizes.{most_bounds, time_limit, pattern_size, wide_lead, horizon_width, time_width, bound_width}
use Rattle.model.specs.Forms.{old, wide}
use Rattle.model.specs.Lists.{padded}
use Rattle.model.specs.Network.{regular}
use Rattle.model.specs.Faults.{Entry, time_of, present, over, bound_fault_in}

-- a value and the place after it, or the first fault
pub data Reading (A : Type 0) : Type 0 where
  got : A → ℕ → Reading A
  refused : Fault → Reading A

-- what follows a reading starts at the place after it; a fault ends all
abbrev pub and_then : {A B : Type 0} → Reading A → (A → ℕ → Reading B) → Reading B
and_then (got a q) f = f a q
and_then (refused e) f = refused e

unfoldable pub bit_at : List ℕ → ℕ → ℕ
bit_at s p = get_or s (p / 8) 0 / 2 ^ (7 - p % 8) % 2

-- the number that the w bits f p, f (p + 1), .. spell
unfoldable pub num_of : (ℕ → ℕ) → ℕ → ℕ → ℕ
num_of f p zero = 0
num_of f p (suc w) = num_of f p w * 2 + f (p + w)

abbrev pub num_at : List ℕ → ℕ → ℕ → ℕ
num_at s p w = num_of (bit_at s) p w

-- w bits at place p, of a field that starts at place first
unfoldable pub bits : List ℕ → ℕ → ℕ → ℕ → Reading ℕ
bits s w first p = cond (leb (p + w) (8 * length s)) (got (num_at s p w) (p + w)) (refused (fault.CaseEnds first))

-- two's complement, half being the weight of the sign bit, and back
unfoldable pub signed : ℕ → ℕ → ℤ
signed half raw = cond (ltb raw half) (pos raw) (pos raw -ℤ pos (half * 2))

unfoldable pub raw_of : ℕ → ℤ → ℕ
raw_of half (pos v) = v
raw_of half (negsuc v) = half * 2 - suc v

-- ---- entries
-- a kind of entry: how many bits follow its presence bit, what an absent one is, whether one is present,
-- what the number that these bits spell stands for, the number of an entry, and the fault of an entry at a place
pub record Kind (A : Type 0) : Type 0 where
  pub width : ℕ
  pub absent : A
  pub has : A → Bool
  pub value : ℕ → A
  pub raw : A → ℕ
  pub judge : ℕ → A → Option Fault

abbrev pub time_raw : Entry Seconds → ℕ
time_raw None = 0
time_raw (Some x) = raw_of (2 ^ (time_width - 1)) x.0

abbrev pub time_kind : Kind (Entry Seconds)
time_kind = record {
  width = time_width;
  absent = None;
  has = is_some;
  value = λ raw. present (signed (2 ^ (time_width - 1)) raw);
  raw = time_raw;
  judge = over time_limit fault.Time;
}

-- a bound: its mark, where the form has a place for it, then its value; 1 is strict
abbrev pub limit_of : ℕ → Limit
limit_of raw = record { strict = leb (2 ^ bound_width) raw; value = record { 0 = signed (2 ^ (bound_width - 1)) (raw % 2 ^ bound_width) } }

abbrev pub bound_raw : Entry Limit → ℕ
bound_raw None = 0
bound_raw (Some e) = cond e.strict (2 ^ bound_width) 0 + raw_of (2 ^ (bound_width - 1)) e.value.0

abbrev pub bound_kind : Form → Kind (Entry Limit)
bound_kind f = record {
  width = f.mark + bound_width;
  absent = None;
  has = is_some;
  value = λ raw. Some (limit_of raw);
  raw = bound_raw;
  judge = bound_fault_in f;
}

-- an entry that was read, unless it has a fault
abbrev pub unless_faulty : {A : Type 0} → Option Fault → A → ℕ → Reading A
unless_faulty (some f) e q = refused f
unless_faulty none e q = got e q

-- an entry: a presence bit, then its number if that is 1
unfoldable pub entry : {A : Type 0} → Kind A → List ℕ → ℕ → Reading A
entry k s p =
    and_then (bits s 1 p p) (λ bit q.
    cond (eqb bit 0) (got k.absent q)
    (and_then (bits s k.width p q) (λ raw r. unless_faulty (k.judge p (k.value raw)) (k.value raw) r)))

-- count entries, after those of before
unfoldable pub entries : {A : Type 0} → Kind A → List ℕ → ℕ → ℕ → List A → Reading (List A)
entries k s zero p before = got before p
entries k s (suc count) p before = and_then (entry k s p) (λ e q. entries k s count q (before ++ e ∷ []))

-- count rows of n times, after those of before
unfoldable pub rows : List ℕ → ℕ → ℕ → ℕ → List (Entry Seconds) → Reading (List (Entry Seconds))
rows s n zero p before = got before p
rows s n (suc count) p before =
    and_then (entries time_kind s n p []) (λ row q.
    cond (regular (map time_of row)) (rows s n count q (before ++ row)) (refused (fault.EmptyRow p)))

-- ---- the case
-- k bits that are 0
unfoldable pub zeros : List ℕ → ℕ → ℕ → Reading ℕ
zeros s zero p = got 0 p
zeros s (suc k) p = cond (eqb (bit_at s p) 0) (zeros s k (p + 1)) (refused (fault.FillBit p))

-- zero bits up to a whole byte, and no byte more
unfoldable pub fill : List ℕ → ℕ → Reading ℕ
fill s p =
    and_then (zeros s ((8 - p % 8) % 8) p) (λ z q.
    cond (eqb q (8 * length s)) (got 0 q) (refused (fault.ExtraByte q)))

-- the unpacked case of n departures and h cycles with these entries
abbrev pub case_of : ℕ → ℕ → List (Entry Seconds) → List (Entry Limit) → List (Entry Limit) → Case
case_of n h times start target = record {
  n = n;
  horizon = record { 0 = h };
  times = padded None most_bounds times;
  start = padded None most_bounds start;
  target = padded None most_bounds target;
}

-- what follows the two numbers
unfoldable pub body : Form → List ℕ → ℕ → ℕ → ℕ → Reading Case
body f s n h p =
    and_then (rows s n n p []) (λ times a.
    and_then (entries (bound_kind f) s (pattern_size n) a []) (λ start b.
    and_then (entries (bound_kind f) s (pattern_size n) b []) (λ target c.
    and_then (fill s c) (λ z d.
    got (case_of n h times start target) d))))

-- a case in one form: where the bits in front are not 0 it is in the other
unfoldable pub parse_as : Form → List ℕ → Reading Case
parse_as f s =
    and_then (bits s f.lead 0 0) (λ z a.
    cond (ltb 0 z) (refused fault.Departures)
    (and_then (bits s f.digits a a) (λ n b.
    cond (eqb n 0) (refused fault.Departures)
    (and_then (bits s horizon_width b b) (λ m c.
    body f s n (m + 1) c)))))

-- in either form: the zero bits in front tell the wide one
unfoldable pub parse : List ℕ → Reading Case
parse s = and_then (bits s wide_lead 0 0) (λ z a. parse_as (cond (eqb z 0) wide old) s)
