-- Document 01's numbers by name: each stands here alone. The source's constants are the same.
use Rattle.std.specs.Prelude.{ℕ, suc, ◌+◌, ◌*◌, ◌/◌}

-- the most departures of a network, cycles of a horizon, zones of a capacity
abbrev pub most_departures : ℕ
most_departures = 15

-- networks of so few departures get more zones from the program, as request [7] says, and smaller tables beside the workspace
abbrev pub few_departures : ℕ
few_departures = 7

abbrev pub most_cycles : ℕ
most_cycles = 64

abbrev pub most_zones : ℕ
most_zones = 4096

-- the most that these are in size: a time of the table, a bound of a pattern, a run's start time
abbrev pub time_limit : ℕ
time_limit = 86400

abbrev pub bound_limit : ℕ
bound_limit = 1000000

abbrev pub start_limit : ℕ
start_limit = 1000000000000

-- request [9]'s: a finite bound of list k, with n departures
abbrev pub list_limit : ℕ → ℕ → ℕ
list_limit n k = n * suc k * 1000000

-- the most that two times of the table are apart
abbrev pub times_apart : ℕ
times_apart = 2 * time_limit

-- the entries of the table, of a pattern and of a zone of n departures
abbrev pub table_size : ℕ → ℕ
table_size n = n * n

abbrev pub pattern_size : ℕ → ℕ
pattern_size n = n * suc n

abbrev pub zone_size : ℕ → ℕ
zone_size n = suc n * suc n

-- the numbers that a workspace holds: two halves, each for as many zones as the capacity
abbrev pub workspace_size : ℕ → ℕ → ℕ
workspace_size capacity n = 2 * (capacity * zone_size n)

-- the most entries of a table, of a pattern and of a zone; a case has room for `most_bounds` entries in each of its three parts
abbrev pub most_times : ℕ
most_times = table_size most_departures

abbrev pub most_bounds : ℕ
most_bounds = pattern_size most_departures

abbrev pub most_numbers : ℕ
most_numbers = zone_size most_departures

-- the most times that are tightened at once, beside the clock: two for each departure
abbrev pub most_times_at_once : ℕ
most_times_at_once = 2 * most_departures

-- the bits of a packed case's fields. In document 01's form: n. In the wide form: the zero bits in front, n, the mark of a bound
abbrev pub old_digits : ℕ
old_digits = 3

abbrev pub wide_lead : ℕ
wide_lead = 3

abbrev pub wide_digits : ℕ
wide_digits = 4

abbrev pub wide_mark : ℕ
wide_mark = 1

-- in both forms: N - 1, the value of a time, the value of a bound
abbrev pub horizon_width : ℕ
horizon_width = 6

abbrev pub time_width : ℕ
time_width = 18

abbrev pub bound_width : ℕ
bound_width = 21

-- the bits of the longest number, which is a bound's with its mark
abbrev pub most_width : ℕ
most_width = wide_mark + bound_width

-- the bits and the bytes of the longest packed case
abbrev pub most_bits : ℕ
most_bits = wide_lead + wide_digits + horizon_width + most_times * suc time_width + 2 * (most_bounds * suc most_width)

abbrev pub most_bytes : ℕ
most_bytes = (most_bits + 7) / 8
