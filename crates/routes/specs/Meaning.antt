-- What an answer says of its body.
use Rattle.std.specs.Prelude as std
use Rattle.std.specs.Prelude.{List, [], ◌∷◌, drop}
use Rattle.std.proofs.Math.Option.{Option, none, some}
use Rattle.grammar.specs.Bytes.{Bytes}
use Rattle.span.specs.Places.{part}
use Rattle.span.specs.declared.Span.{Span}
use Rattle.route.specs.Routes.{Header, route_of}
use Rattle.route_read.specs.Meaning.{header_in}
use Rattle.routes.specs.declared.Hop.{Hop}

-- The headers from a place on by the first of them: it, and those from its next place on.
abbrev pub headers_by : Bytes → std.Option Hop → List Header
headers_by body std.None = []
headers_by body (std.Some h) = header_in body h.header ∷ route_of (drop h.next body)

abbrev pub origin_said : Bytes → std.Option Span → Option Bytes
origin_said body std.None = none
origin_said body (std.Some s) = some (part body s)
