-- What the writer is given, and what its answer says.
use Rattle.std.specs.Prelude.{ℕ, ◌+◌, length, Result, Ok, Err}
use Rattle.grammar.specs.Bytes.{Bytes}
use Rattle.grammar.specs.Fields.{write_num}
use Rattle.grammar.specs.Ascii.{text}
use Rattle.calendar.specs.Meaning.{date_is, time_is}
use Rattle.route.specs.Written as route
use Rattle.route_write.specs.declared.OurHeader.{OurHeader}
use Rattle.route_write.specs.declared.Refused.{Refused}
use Rattle.route.specs.Routes.{stamp_length}

-- What our line has beside its number and mailbox: the stamp with `z` and a space, `@`, CR.
abbrev pub line_fixed_length : ℕ
line_fixed_length = stamp_length + length (text "z ") + length (text "@\r")

-- The bytes of our line, its CR included.
abbrev pub line_length : ℕ → Bytes → ℕ
line_length n w = line_fixed_length + length (write_num route.number_digits n) + length w

-- What the code's header stands for.
abbrev pub ours_is : OurHeader → route.OurHeader
ours_is h = record { date = date_is h.date; time = time_is h.time; number = h.number; mailbox = h.mailbox.now }

-- The writer's own numbers: 0 written, 1 a field or time outside the rules, 2 no room.
abbrev pub added_number : Result ℕ Refused → ℕ
added_number (Ok n) = route.route_written
added_number (Err Refused.BadField) = route.bad_field
added_number (Err Refused.NoRoom) = route.no_room

abbrev pub added_count : Result ℕ Refused → ℕ
added_count (Ok n) = n
added_count (Err e) = 0

-- The answer, and the buffer that it leaves.
abbrev pub added_is : Result ℕ Refused → Bytes → route.Added
added_is r b = record { answer = added_number r; count = added_count r; buffer = b }
