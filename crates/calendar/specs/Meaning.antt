-- The date and the time that the code's structs stand for.
use Rattle.dates.specs.Dates as dates
use Rattle.calendar.specs.declared.Date.{Date}
use Rattle.calendar.specs.declared.Time.{Time}

abbrev pub date_is : Date → dates.Date
date_is d = record { year = d.year; month = d.month; day = d.day }

abbrev pub time_is : Time → dates.Time
time_is t = record { hour = t.hour; minute = t.minute }
