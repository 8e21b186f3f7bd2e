-- The date or time that an answer gives.
use Rattle.std.specs.Prelude as std
use Rattle.std.proofs.Math.Option.{Option, none, some}
use Rattle.dates.specs.Dates as dates
use Rattle.calendar.specs.Meaning.{date_is, time_is}
use Rattle.calendar.specs.declared.Date.{Date}
use Rattle.calendar.specs.declared.Time.{Time}

abbrev pub read_date_is : std.Option Date → Option dates.Date
read_date_is (std.Some d) = some (date_is d)
read_date_is std.None = none

abbrev pub read_time_is : std.Option Time → Option dates.Time
read_time_is (std.Some t) = some (time_is t)
read_time_is std.None = none
