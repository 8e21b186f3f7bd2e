-- What an answer says of its line.
use Rattle.std.specs.Prelude as std
use Rattle.std.proofs.Math.Option.{Option, none, some}
use Rattle.grammar.specs.Bytes.{Bytes}
use Rattle.span.specs.Places.{part}
use Rattle.calendar.specs.Meaning.{date_is, time_is}
use Rattle.route.specs.Routes as routes
use Rattle.route_read.specs.declared.Header.{Header}
use Rattle.route_read.specs.declared.Station.{Station}

abbrev pub station_said : Bytes → std.Option Station → Option routes.HeaderStation
station_said l (std.Some s) = some (record { number = s.number; mailbox = part l s.mailbox })
station_said l std.None = none

-- The header of an answer, its mailbox by the bytes where it lies.
abbrev pub header_in : Bytes → Header → routes.Header
header_in l h = record { date = date_is h.date; time = time_is h.time; gmt = h.gmt; number = h.number; mailbox = part l h.mailbox }

abbrev pub route_said : Bytes → std.Option Header → Option routes.Header
route_said l (std.Some h) = some (header_in l h)
route_said l std.None = none
