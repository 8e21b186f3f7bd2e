-- "Month 1 to 12, day fitting the month, hour to 23, minute to 59; years 70 to 99 are 19xx, the rest 20xx." So a year is one of 1970 to 2069.
use Rattle.std.specs.Prelude.{◌≡◌, refl, Bool, true, false, cond, ◌&&◌, List, [], ◌∷◌, map, ℕ, suc, ◌+◌, ◌-◌, ◌*◌, ◌/◌, ◌%◌, eqb, ltb, leb, get_or}

pub record Date : Type 0 where
  pub year : ℕ
  pub month : ℕ
  pub day : ℕ

pub record Time : Type 0 where
  pub hour : ℕ
  pub minute : ℕ

abbrev pub first_year : ℕ
first_year = 1970

abbrev pub last_year : ℕ
last_year = 2069

abbrev pub all_years : ℕ
all_years = last_year - first_year + 1

-- Four years make a cycle, in which one is a long one.
abbrev pub cycle_years : ℕ
cycle_years = 4

abbrev pub year_days : ℕ
year_days = 365

abbrev pub long_year_days : ℕ
long_year_days = year_days + 1

abbrev pub february : ℕ
february = 2

-- February's days in a short year and in a long one; no month has more days than the longest
abbrev pub february_days : ℕ
february_days = 28

abbrev pub long_february_days : ℕ
long_february_days = february_days + 1

abbrev pub most_days : ℕ
most_days = 31

-- "Month 1 to 12", "hour to 23, minute to 59"
abbrev pub last_month : ℕ
last_month = 12

abbrev pub last_hour : ℕ
last_hour = 23

abbrev pub last_minute : ℕ
last_minute = 59

-- Every fourth year is a long one: 2000 is, and 2100 lies past the end. `leap_rule` holds this against the calendar's own rule.
abbrev pub is_leap : ℕ → Bool
is_leap y = eqb (y % cycle_years) 0

-- How many days of the year come before each month, and, last, all days of the year: the one table of months.
abbrev pub month_starts : Bool → List ℕ
month_starts false = 0 ∷ 31 ∷ 59 ∷ 90 ∷ 120 ∷ 151 ∷ 181 ∷ 212 ∷ 243 ∷ 273 ∷ 304 ∷ 334 ∷ year_days ∷ []
month_starts true = 0 ∷ 31 ∷ 60 ∷ 91 ∷ 121 ∷ 152 ∷ 182 ∷ 213 ∷ 244 ∷ 274 ∷ 305 ∷ 335 ∷ long_year_days ∷ []

abbrev pub month_start : Bool → ℕ → ℕ
month_start leap m = get_or (month_starts leap) (m - 1) 0

abbrev pub days_in : Bool → ℕ → ℕ
days_in leap m = get_or (month_starts leap) m 0 - month_start leap m

-- The table has the months' lengths that everybody knows.
abbrev months : List ℕ
months = 1 ∷ 2 ∷ 3 ∷ 4 ∷ 5 ∷ 6 ∷ 7 ∷ 8 ∷ 9 ∷ 10 ∷ 11 ∷ 12 ∷ []

example_short : map (days_in false) months ≡ 31 ∷ february_days ∷ 31 ∷ 30 ∷ 31 ∷ 30 ∷ 31 ∷ 31 ∷ 30 ∷ 31 ∷ 30 ∷ 31 ∷ []
example_short = refl

example_long : map (days_in true) months ≡ 31 ∷ long_february_days ∷ 31 ∷ 30 ∷ 31 ∷ 30 ∷ 31 ∷ 31 ∷ 30 ∷ 31 ∷ 30 ∷ 31 ∷ []
example_long = refl

-- "Month 1 to 12, day fitting the month"
unfoldable pub is_date : Date → Bool
is_date d =
    (leb first_year d.year && leb d.year last_year)
    && ((leb 1 d.month && leb d.month last_month) && (leb 1 d.day && leb d.day (days_in (is_leap d.year) d.month)))

-- "hour to 23, minute to 59"
unfoldable pub is_time : Time → Bool
is_time t = leb t.hour last_hour && leb t.minute last_minute

-- ---------------------------------------------------------------- days from 1970-01-01

-- 1972 is the first long year, so (year - 1969) / 4 long years lie before a year.
unfoldable pub day_number : Date → ℕ
day_number d = year_days * (d.year - first_year) + (d.year - (first_year - 1)) / cycle_years + (month_start (is_leap d.year) d.month + (d.day - 1))

-- The last month that starts by day t of the year; ms: the starts of the months after m.
abbrev pub month_from : ℕ → List ℕ → ℕ → ℕ
month_from m [] t = m
month_from m (s ∷ ms) t = cond (ltb t s) m (month_from (suc m) ms t)

abbrev pub later : List ℕ → List ℕ
later [] = []
later (x ∷ xs) = xs

abbrev pub month_of : Bool → ℕ → ℕ
month_of leap t = month_from 1 (later (month_starts leap)) t

-- Four years have so many days; the third of them, counted from 1970, is the long one.
abbrev pub cycle_days : ℕ
cycle_days = cycle_years * year_days + 1

abbrev pub long_year : ℕ
long_year = 2

-- The days of a cycle before its third year, and before its fourth.
abbrev pub third_year : ℕ
third_year = long_year * year_days

abbrev pub fourth_year : ℕ
fourth_year = third_year + long_year_days

abbrev pub year_in : ℕ → ℕ
year_in r = cond (ltb r year_days) 0 (cond (ltb r third_year) 1 (cond (ltb r fourth_year) long_year (cycle_years - 1)))

abbrev pub year_start : ℕ → ℕ
year_start i = get_or (0 ∷ year_days ∷ third_year ∷ fourth_year ∷ []) i 0

-- Day t, from 0, of a year.
abbrev pub date_in : ℕ → Bool → ℕ → Date
date_in y leap t = record { year = y; month = month_of leap t; day = t - month_start leap (month_of leap t) + 1 }

-- So many days have the hundred years, which are 25 cycles.
abbrev pub all_days : ℕ
all_days = all_years / cycle_years * cycle_days

-- The date of a day number below `all_days`.
unfoldable pub date_of : ℕ → Date
date_of n =
    let r = n % cycle_days in
    date_in (first_year + cycle_years * (n / cycle_days) + year_in r) (eqb (year_in r) long_year) (r - year_start (year_in r))
