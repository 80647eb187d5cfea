-- The packed forms: document 01's and the wide one of request [7]. Reader, writer and faults are defined once, over the form.
use Rattle.std.specs.Prelude.{ℕ, ◌-◌, ◌^◌, Bool, eqb}
use Rattle.model.specs.declared.Form.{Form}
use Rattle.model.specs.Sizes.{old_digits, wide_lead, wide_digits, wide_mark}

abbrev pub old : Form
old = record { lead = 0; digits = old_digits; mark = 0 }

abbrev pub wide : Form
wide = record { lead = wide_lead; digits = wide_digits; mark = wide_mark }

-- the most departures that it has a place for
abbrev pub most_in : Form → ℕ
most_in f = 2 ^ f.digits - 1

-- it has no place for the mark of a bound
abbrev pub markless : Form → Bool
markless f = eqb f.mark 0
