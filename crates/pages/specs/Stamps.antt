-- "Convert old white-pages dates too: YYMMDD by Q-8's rules becomes the seconds of that midnight GMT less one day, as a signed number that may fall
-- before 1970." "The way back cuts off the time of day and adds nothing". "Back is refused before 0 and from the year 2070 on."
use Rattle.std.specs.Prelude.{◌≡◌, refl, cond, ℕ, ◌-◌, ◌*◌, ◌/◌, ltb, ℤ, pos, negsuc, ◌-ℤ◌}
use Rattle.std.proofs.Math.Option.{Option, none, some}
use Rattle.grammar.specs.Bytes.{Bytes}
use Rattle.dates.specs.Dates.{Date, is_leap, days_in, day_number, date_of, all_days, last_month}
use Rattle.dates.specs.Digits.{read_date}

-- "Refusals of this reader are its own: 1 bad date, 2 out of range."
abbrev pub bad_date : ℕ
bad_date = 1

abbrev pub out_of_range : ℕ
out_of_range = 2

abbrev pub day_seconds : ℕ
day_seconds = 86400

-- The year 2070 begins at this second.
abbrev pub end_seconds : ℕ
end_seconds = 3155760000

example_end : all_days * day_seconds ≡ end_seconds
example_end = refl

-- The seconds of a day's midnight less one day.
unfoldable pub seconds_of : ℕ → ℤ
seconds_of n = pos (n * day_seconds) -ℤ pos day_seconds

abbrev pub seconds_by : Option Date → Option ℤ
seconds_by none = none
seconds_by (some d) = some (seconds_of (day_number d))

-- There: none is a bad date.
unfoldable pub to_seconds : Bytes → Option ℤ
to_seconds w = seconds_by (read_date w)

-- The day of a second, the time of day cut off.
unfoldable pub day_of : ℤ → Option ℕ
day_of (pos n) = cond (ltb n end_seconds) (some (n / day_seconds)) none
day_of (negsuc n) = none

abbrev pub date_by : Option ℕ → Option Date
date_by none = none
date_by (some n) = some (date_of n)

-- Back: none is out of range.
unfoldable pub to_date : ℤ → Option Date
to_date t = date_by (day_of t)

-- The days of the last month.
abbrev pub december_days : ℕ
december_days = 31

-- The day before a date.
unfoldable pub day_before : Date → Date
day_before d =
    cond (ltb 1 d.day) (record { year = d.year; month = d.month; day = d.day - 1 })
    (cond (ltb 1 d.month) (record { year = d.year; month = d.month - 1; day = days_in (is_leap d.year) (d.month - 1) })
    (record { year = d.year - 1; month = last_month; day = december_days }))
