-- A date as six digits, YYMMDD, and a time as four, HHMM: 003's YEAR MONTH DAY and HOUR MINUTE, two digits each.
use Rattle.std.specs.Prelude.{◌≡◌, refl, Bool, cond, ◌&&◌, [], ◌∷◌, ◌++◌, ℕ, ◌+◌, ◌-◌, ◌*◌, ◌/◌, ◌%◌, eqb, ltb, length, get_or}
use Rattle.std.proofs.Math.Option.{Option, none, some}
use Rattle.grammar.specs.Bytes.{Bytes, every}
use Rattle.grammar.specs.Fields.{digit, decimal_base}
use Rattle.grammar.specs.Ascii.{text, char}
use Rattle.dates.specs.Dates.{Date, Time, is_date, is_time}

-- "years 70 to 99 are 19xx, the rest 20xx"
abbrev pub turn_year : ℕ
turn_year = 70

abbrev pub last_century : ℕ
last_century = 1900

abbrev pub this_century : ℕ
this_century = 2000

-- Two digits are a number below this.
abbrev pub pair_values : ℕ
pair_values = decimal_base * decimal_base

-- "YYMMDD", "HHMM": how long each is, and where its parts stand.
abbrev pub date_length : ℕ
date_length = 6

abbrev pub month_place : ℕ
month_place = 2

abbrev pub day_place : ℕ
day_place = 4

abbrev pub time_length : ℕ
time_length = 4

abbrev pub minute_place : ℕ
minute_place = 2

abbrev pub full_year : ℕ → ℕ
full_year yy = cond (ltb yy turn_year) (this_century + yy) (last_century + yy)

-- The number of the two digits at place i.
abbrev pub pair_at : Bytes → ℕ → ℕ
pair_at w i = (get_or w i 0 - char "0") * decimal_base + (get_or w (i + 1) 0 - char "0")

-- Exactly n bytes, each a digit.
abbrev pub digits : ℕ → Bytes → Bool
digits n w = every digit w && eqb (length w) n

abbrev pub date_said : Bytes → Date
date_said w = record { year = full_year (pair_at w 0); month = pair_at w month_place; day = pair_at w day_place }

abbrev pub time_said : Bytes → Time
time_said w = record { hour = pair_at w 0; minute = pair_at w minute_place }

-- The date that bytes say, where they are six digits that say one.
unfoldable pub read_date : Bytes → Option Date
read_date w = cond (digits date_length w && is_date (date_said w)) (some (date_said w)) none

-- The time that bytes say, where they are four digits that say one.
unfoldable pub read_time : Bytes → Option Time
read_time w = cond (digits time_length w && is_time (time_said w)) (some (time_said w)) none

-- ---------------------------------------------------------------- written

-- A number below 100 as two digits.
abbrev pub two_digits : ℕ → Bytes
two_digits n = (char "0" + n / decimal_base) ∷ (char "0" + n % decimal_base) ∷ []

unfoldable pub date_text : Date → Bytes
date_text d = two_digits (d.year % pair_values) ++ (two_digits d.month ++ two_digits d.day)

unfoldable pub time_text : Time → Bytes
time_text t = two_digits t.hour ++ two_digits t.minute

-- ---------------------------------------------------------------- computed: every limit on both sides

abbrev date : ℕ → ℕ → ℕ → Option Date
date y m d = some (record { year = y; month = m; day = d })

example_1993 : read_date (text "930108") ≡ date 1993 1 8
unfolding read_date is_date
example_1993 = refl

example_70 : read_date (text "700101") ≡ date 1970 1 1
unfolding read_date is_date
example_70 = refl

example_69 : read_date (text "691231") ≡ date 2069 12 31
unfolding read_date is_date
example_69 = refl

example_99 : read_date (text "991231") ≡ date 1999 12 31
unfolding read_date is_date
example_99 = refl

example_00 : read_date (text "000229") ≡ date 2000 2 29
unfolding read_date is_date
example_00 = refl

example_01 : read_date (text "010229") ≡ none
unfolding read_date is_date
example_01 = refl

example_month_0 : read_date (text "930008") ≡ none
unfolding read_date is_date
example_month_0 = refl

example_month_13 : read_date (text "931308") ≡ none
unfolding read_date is_date
example_month_13 = refl

example_day_0 : read_date (text "930100") ≡ none
unfolding read_date is_date
example_day_0 = refl

example_day_31 : read_date (text "930431") ≡ none
unfolding read_date is_date
example_day_31 = refl

example_five : read_date (text "93010") ≡ none
unfolding read_date
example_five = refl

example_letter : read_date (text "93010A") ≡ none
unfolding read_date
example_letter = refl

example_last_minute : read_time (text "2359") ≡ some (record { hour = 23; minute = 59 })
unfolding read_time is_time
example_last_minute = refl

example_24 : read_time (text "2400") ≡ none
unfolding read_time is_time
example_24 = refl

example_60 : read_time (text "0060") ≡ none
unfolding read_time is_time
example_60 = refl

example_written : date_text (record { year = 2005; month = 2; day = 9 }) ≡ text "050209"
unfolding date_text
example_written = refl
