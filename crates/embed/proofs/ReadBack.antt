-- What tramcheck_write and tramcheck_write_wide put into an output, tramcheck_read hands back: from their promises alone.
use Prim.Native.Nat.{ℕ, suc, ◌-◌, ◌≤◌}
use native.Mathlib.Nat.{mul-le-mul}
use native.Mathlib.Omega.{arith}
use mathlib.Core.Path.{◌≡◌, refl, sym, ap}
use mathlib.Core.List.{List}
use mathlib.Core.Option.{Option, none, some}
use lib.IntN.{ℤ}
use lib.ListN.{length, take, replicate, length-append, length-replicate}
use Rattle.model.specs.Sizes.{most_departures, most_times, most_bounds}
use Rattle.model.specs.declared.Case.{Case}
use Rattle.model.specs.declared.Form.{Form}
use Rattle.model.specs.declared.Fault.{Fault}
use Rattle.std.specs.Prelude.{Ok, None}
use Rattle.model.specs.Lists.{tabulate, padded}
use Rattle.model.specs.Faults.{outside, table_fault, case_fault}
use Rattle.model.specs.Packed.{parse}
use Rattle.model.specs.Answers.{outcome_of}
use Rattle.model.specs.Writing.{packed_as, tidied, write_fault, told, output_after, Whole}
use Rattle.model.proofs.Limits.{no_fault}
use Rattle.model.proofs.Parsed.{Agreed}
use Rattle.model.proofs.Writer.{read_back}
use Rattle.embed.specs.Numbers.{start_place, target_place, slot_at, limit_at, case_in, WrittenHanded}

-- an array is as long as its size
long : {X : Type 0} (z : X) (es : List X) → most_bounds ≤ length (padded z most_bounds es)
long z es =
    let left = most_bounds - length es in
    omega (arith, length-append es (replicate left z), length-replicate left z)

module _ (n h : ℕ) (present strict : List ℕ) (values : List ℤ) where
  abbrev it : Case
  it = case_in n h present strict values

  -- its arrays are long enough
  whole : n ≤ most_departures → Whole it
  unfolding case_in
  whole few =
      let bound = limit_at present strict values in
      let more : suc n ≤ suc most_departures = omega arith in
      record {
        times = omega (arith, mul-le-mul few few, long None (tabulate most_times 0 (slot_at present values)));
        start = omega (arith, mul-le-mul few more, long None (tabulate most_bounds start_place bound));
        target = omega (arith, mul-le-mul few more, long None (tabulate most_bounds target_place bound));
      }

  few : case_fault it ≡ none → n ≤ most_departures
  unfolding case_in case_fault table_fault outside
  few e = let facts = simp no_fault at e in omega arith

  module _ {f : Form} (agreed : Agreed f) where
    abbrev found : List ℕ → Option Fault
    found out = write_fault f it (length out)

    -- where the writer of either form returns done, the reader accepts the bytes that it counts and hands back the case without what is ignored
    pub handed_back : (out after : List ℕ) (returned first second : ℕ) → WrittenHanded f it out returned first second after → returned ≡ 4
        → outcome_of (parse (take second after)) ≡ Ok (tidied it)
    unfolding write_fault told
    handed_back out after returned first second w e = rw w.output (go (found out) refl)
      where
        go : (o : Option Fault) → found out ≡ o
            → outcome_of (parse (take second (output_after (found out) (packed_as f it) out))) ≡ Ok (tidied it)
        go (some g) q = let refused = rw q at w.numbers.kind in absurd (omega arith)
        go none q =
            let count : second ≡ length (packed_as f it) = rw q at w.numbers.value in
            read_back agreed it (λ sound. whole (few sound)) out second (rw q (ap Ok (sym count)))
