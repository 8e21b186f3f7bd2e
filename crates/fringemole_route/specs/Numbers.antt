-- The numbers of the C interface, as headers, an origin and the writer's answer.
use Rattle.std.specs.Prelude.{◌≡◌, Bool, true, false, cond, List, [], ◌∷◌, ℕ, ◌<◌, ◌≤◌, eqb, length, drop}
use Rattle.std.proofs.Math.Option.{Option, none, some}
use Rattle.grammar.specs.Bytes.{Bytes}
use Rattle.span.specs.Places.{bytes_between}
use Rattle.route.specs.Routes.{Header, route_of}
use Rattle.route.specs.Written as written
use Rattle.routes.specs.declared.Hop.{Hop}
use Rattle.fringemole_route.specs.declared.RouteHop.{RouteHop}
use Rattle.fringemole_route.specs.declared.RouteOrigin.{RouteOrigin}
use Rattle.fringemole_route.specs.declared.RouteAdded.{RouteAdded}

-- ---------------------------------------------------------------- a header

abbrev pub told_hop : Hop → RouteHop
told_hop h =
    record {
      next = h.next;
      start = h.header.mailbox.start;
      end = h.header.mailbox.end;
      number = h.header.number;
      year = h.header.date.year;
      month = h.header.date.month;
      day = h.header.date.day;
      hour = h.header.time.hour;
      minute = h.header.time.minute;
      gmt = cond h.header.gmt 1 0;
      found = 1;
    }

abbrev pub no_hop : RouteHop
no_hop = record { next = 0; start = 0; end = 0; number = 0; year = 0; month = 0; day = 0; hour = 0; minute = 0; gmt = 0; found = 0 }

abbrev pub header_said : Bytes → RouteHop → Header
header_said body r =
    record {
      date = record { year = r.year; month = r.month; day = r.day };
      time = record { hour = r.hour; minute = r.minute };
      gmt = eqb r.gmt 1;
      number = r.number;
      mailbox = bytes_between body r.start r.end;
    }

-- The headers from a place on, by the answer: the one that it shows and those from its next place on, or none.
abbrev pub headers_said : Bytes → RouteHop → List Header
headers_said body r = cond (eqb r.found 1) (header_said body r ∷ route_of (drop r.next body)) []

-- What is shown lies in the body, and the next place is a later one; where nothing is shown all numbers are 0.
abbrev pub HopLies : Bool → Bytes → ℕ → RouteHop → Type 0
HopLies true body at r = (r.start ≤ r.end) × (r.end ≤ length body) × (at < r.next) × (r.next ≤ length body)
HopLies false body at r = r ≡ no_hop

-- ---------------------------------------------------------------- the origin

abbrev pub origin_said : Bytes → RouteOrigin → Option Bytes
origin_said body r = cond (eqb r.found 1) (some (bytes_between body r.start r.end)) none

abbrev pub OriginLies : Bool → Bytes → RouteOrigin → Type 0
OriginLies true body r = (r.start ≤ r.end) × (r.end ≤ length body)
OriginLies false body r = r ≡ record { start = 0; end = 0; found = 0 }

-- ---------------------------------------------------------------- the writer

abbrev pub our_header_of : ℕ → ℕ → ℕ → ℕ → ℕ → ℕ → Bytes → written.OurHeader
our_header_of y m d h i n w = record { date = record { year = y; month = m; day = d }; time = record { hour = h; minute = i }; number = n; mailbox = w }

abbrev pub added_said : RouteAdded → Bytes → written.Added
added_said r b = record { answer = r.answer; count = r.count; buffer = b }
