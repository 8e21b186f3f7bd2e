-- A year's days.
use Rattle.std.specs.Prelude.{Bool, cond, ℕ}
use Rattle.dates.specs.Dates.{year_days, long_year_days}

abbrev pub year_length : Bool → ℕ
year_length leap = cond leap long_year_days year_days
