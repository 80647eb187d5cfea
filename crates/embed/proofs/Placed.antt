-- Which entry of a case stands in a place, and entries handed back one by one.
use Prim.Native.Nat.{ℕ, ◌+◌, ◌-◌, ◌≤◌, ◌<◌}
use native.Mathlib.Omega.{arith}
use mathlib.Core.Path.{◌≡◌, refl, sym, ap, ◌∙◌}
use mathlib.Core.List.{List, ◌++◌, map}
use lib.IntN.{ℤ}
use lib.ListN.{length, take, get_or, set, length-append, length-map, length-set, get_or-append}
use lib.Seq.{length-take-le, get_or-take, get_or-append-add, take_all}
use Rattle.std.specs.Prelude.{None, is_some}
use Rattle.std.proofs.lemmas.List.{get_or-map, take_more_set, map_more}
use Rattle.ints.specs.declared.Seconds.{Seconds}
use Rattle.model.specs.declared.Limit.{Limit}
use Rattle.model.specs.Sizes.{most_times, most_bounds}
use Rattle.model.specs.Faults.{Entry, marked, unmarked}
use Rattle.embed.specs.Numbers.{start_place, target_place, case_entries, flag, entry_number, entries_of, EntriesHanded}

-- of two lists, one after the other, the second
behind : {X : Type 0} (xs ys : List X) (d : X) (k : ℕ) → length xs ≤ k → get_or ys (k - length xs) d ≡ get_or (xs ++ ys) k d
behind xs ys d k l = let e : length xs + (k - length xs) ≡ k = omega arith in sym (rw e at (get_or-append-add xs ys (k - length xs) d))

module _ (times : List (Entry Seconds)) (start target : List (Entry Limit)) (times_long : length times ≡ most_bounds) (start_long : length start ≡ most_bounds) where
  abbrev table : List (Entry Limit)
  table = map unmarked (take most_times times)

  table_length : length table ≡ start_place
  table_length = length-map (take most_times times) unmarked ∙ length-take-le most_times times (omega arith)

  fronts_length : length (table ++ start) ≡ target_place
  fronts_length = omega (arith, length-append table start, table_length)

  pub all_entries : length target ≡ most_bounds → length (entries_of times start target) ≡ case_entries
  all_entries l = omega (arith, length-append (table ++ start) target, fronts_length)

  module _ (k : ℕ) where
    in_fronts : k < target_place → get_or (table ++ start) k None ≡ get_or (entries_of times start target) k None
    in_fronts l = sym (get_or-append (table ++ start) target None k (omega (arith, fronts_length)))

    pub time_placed : k < start_place → unmarked (get_or times k None) ≡ get_or (entries_of times start target) k None
    time_placed l =
        let here : get_or table k None ≡ unmarked (get_or times k None)
        = get_or-map unmarked (take most_times times) k None None (omega (arith, length-take-le most_times times (omega arith)))
        ∙ ap unmarked (get_or-take most_times times k None l) in
        sym here ∙ sym (get_or-append table start None k (omega (arith, table_length))) ∙ in_fronts (omega arith)

    pub start_placed : start_place ≤ k → k < target_place → get_or start (k - start_place) None ≡ get_or (entries_of times start target) k None
    start_placed l m = rw table_length at (behind table start None k (omega (arith, table_length))) ∙ in_fronts m

    pub target_placed : target_place ≤ k → get_or target (k - target_place) None ≡ get_or (entries_of times start target) k None
    target_placed l = rw fronts_length at (behind (table ++ start) target None k (omega (arith, fronts_length)))

-- the first k entries are handed back in three arrays
pub record Handing (es : List (Entry Limit)) (present strict : List ℕ) (values : List ℤ) (k : ℕ) : Type 0 where
  pub present_long : length present ≡ case_entries
  pub strict_long : length strict ≡ case_entries
  pub values_long : length values ≡ case_entries
  pub handed : EntriesHanded (take k es) (take k present) (take k strict) (take k values)

module _ {es : List (Entry Limit)} {present strict : List ℕ} {values : List ℤ} {k : ℕ} (all : length es ≡ case_entries) (c : Handing es present strict values k) where
  -- one more
  pub handing_more : {e : Entry Limit} → k < case_entries → e ≡ get_or es k None
      → Handing es (set present k (flag (is_some e))) (set strict k (flag (marked e))) (set values k (entry_number e)) (k + 1)
  handing_more l is =
      let h = c.handed in
      let more : k < length es = omega (arith, all) in
      rw is (record {
        present_long = length-set present k _ ∙ c.present_long;
        strict_long = length-set strict k _ ∙ c.strict_long;
        values_long = length-set values k _ ∙ c.values_long;
        handed = record {
          presence = take_more_set present k _ (omega (arith, c.present_long)) ∙ rw (h.presence, map_more (λ e. flag (is_some e)) es k None more) refl;
          marks = take_more_set strict k _ (omega (arith, c.strict_long)) ∙ rw (h.marks, map_more (λ e. flag (marked e)) es k None more) refl;
          numbers = take_more_set values k _ (omega (arith, c.values_long)) ∙ rw (h.numbers, map_more entry_number es k None more) refl;
        };
      })

  pub handing_all : case_entries ≤ k → EntriesHanded es present strict values
  handing_all l =
      rw (
        take_all k es (omega (arith, all)),
        take_all k present (omega (arith, c.present_long)),
        take_all k strict (omega (arith, c.strict_long)),
        take_all k values (omega (arith, c.values_long)),
      ) at c.handed
