-- "Also write our own line in the first form, with `z`, an unpadded number, no remarks and a CR, in front of a body, into a second buffer; every
-- byte below it is the original."
use Rattle.std.specs.Prelude.{Bool, true, cond, ◌&&◌, [], ◌∷◌, ◌++◌, ℕ, ◌^◌, ltb, leb, length, drop}
use Rattle.grammar.specs.Bytes.{Bytes, CR, SP}
use Rattle.grammar.specs.Fields.{is_at, write_num, body_max}
use Rattle.grammar.specs.Ascii.{char}
use Rattle.dates.specs.Dates.{Date, Time, is_date, is_time}
use Rattle.dates.specs.Digits.{date_text, time_text}
use Rattle.route.specs.Routes.{Header}

-- "a number has 1 to 9 digits"
abbrev pub number_digits : ℕ
number_digits = 9

abbrev pub number_limit : ℕ
number_limit = 10 ^ number_digits

-- What the writer is given.
pub record OurHeader : Type 0 where
  pub date : Date
  pub time : Time
  pub number : ℕ
  pub mailbox : Bytes

-- The header that it becomes: with `z`, so in GMT.
abbrev pub header_of_ours : OurHeader → Header
header_of_ours o = record { date = o.date; time = o.time; gmt = true; number = o.number; mailbox = o.mailbox }

-- "1 a field or time outside these rules"
unfoldable pub may_write : OurHeader → Bool
may_write o = (is_date o.date && is_time o.time) && (ltb o.number number_limit && is_at o.mailbox)

-- `R:`, date, `/`, time, `z` and a space
unfoldable pub stamp_text : Date → Time → Bytes
stamp_text d t = char "R" ∷ char ":" ∷ (date_text d ++ (char "/" ∷ (time_text t ++ (char "z" ∷ SP ∷ []))))

unfoldable pub route_line : OurHeader → Bytes
route_line o = stamp_text o.date o.time ++ (write_num number_digits o.number ++ (char "@" ∷ o.mailbox))

-- The body with our line in front.
unfoldable pub with_route : OurHeader → Bytes → Bytes
with_route o body = route_line o ++ (CR ∷ body)

-- The writer's own numbers.
abbrev pub route_written : ℕ
route_written = 0

abbrev pub bad_field : ℕ
bad_field = 1

abbrev pub no_room : ℕ
no_room = 2

pub record Added : Type 0 where
  pub answer : ℕ
  pub count : ℕ
  pub buffer : Bytes

-- "Refusals of the writer are its own, and both write nothing: 1 a field or time outside these rules, then 2 buffer too short, or over 65,535
-- bytes in all." What is written stands at the buffer's start; no byte behind it changes.
unfoldable pub add_route : Bytes → OurHeader → Bytes → Added
add_route buffer o body =
    let text = with_route o body in
    cond (may_write o)
    (cond (leb (length text) body_max && leb (length text) (length buffer))
    (record { answer = route_written; count = length text; buffer = text ++ drop (length text) buffer })
    (record { answer = no_room; count = 0; buffer = buffer }))
    (record { answer = bad_field; count = 0; buffer = buffer })
