-- Routing headers as they are read: "Read both header forms of 003: time stamp, number `@` mailbox, remarks; time stamp, `@:` mailbox, remarks,
-- the first `#:` with the number, remarks."
use Rattle.std.specs.Prelude.{Bool, true, false, cond, ◌&&◌, ◌||◌, List, [], ◌∷◌, ℕ, suc, ◌+◌, eqb, ltb, leb, length, get_or, take, drop}
use Rattle.std.proofs.Math.Option.{Option, none, some}
use Rattle.grammar.specs.Bytes.{Bytes, SP}
use Rattle.grammar.specs.Fields.{is_at, read_size, small_end}
use Rattle.grammar.specs.Sid.{capitals_end}
use Rattle.grammar.specs.Ascii.{char}
use Rattle.span.specs.Places.{upto}
use Rattle.text_line.specs.TextLines.{body_lines}
use Rattle.dates.specs.Dates.{Date, Time}
use Rattle.dates.specs.Digits.{read_date, read_time, date_length, time_length}

-- What a header says; the mailbox as it is spelled. gmt: the zone is known, and is GMT.
pub record Header : Type 0 where
  pub date : Date
  pub time : Time
  pub gmt : Bool
  pub number : ℕ
  pub mailbox : Bytes

pub record HeaderStation : Type 0 where
  pub number : ℕ
  pub mailbox : Bytes

-- ---------------------------------------------------------------- bytes

abbrev pub TAB : ℕ
TAB = 9

-- 003: "SPACE SP | TAB", "WHITE SPACE | WHITE SPACE"
abbrev pub is_white : ℕ → Bool
is_white b = eqb b TAB || eqb b SP

-- How much white space a text begins with.
unfoldable pub whites : Bytes → ℕ
whites [] = 0
whites (x ∷ xs) = cond (is_white x) (suc (whites xs)) 0

abbrev pub is_letter : ℕ → Bool
is_letter b = cond (ltb b (char "A")) false (cond (ltb b capitals_end) true (cond (ltb b (char "a")) false (ltb b small_end)))

-- "A `z` or `Z` after the time is GMT"
abbrev pub is_gmt : ℕ → Bool
is_gmt b = eqb b (char "Z") || eqb b (char "z")

-- A text begins with these two bytes.
abbrev pub begins_with_two : ℕ → ℕ → Bytes → Bool
begins_with_two a b [] = false
begins_with_two a b (x ∷ []) = false
begins_with_two a b (x ∷ y ∷ l) = eqb x a && eqb y b

-- ---------------------------------------------------------------- number and mailbox

-- `R:`, `@:` and `#:` have so many bytes.
abbrev pub mark_length : ℕ
mark_length = 2

-- "a mailbox, or the number after `#:`, ends at a space or the line's end"
abbrev pub until_space : Bytes → Bytes
until_space w = take (upto SP w) w

-- "Mailboxes follow 01's at rule; a number has 1 to 9 digits"
abbrev pub header_station : Option ℕ → Bytes → Option HeaderStation
header_station none w = none
header_station (some n) w = cond (is_at w) (some (record { number = n; mailbox = w })) none

-- "number `@` mailbox, remarks"
unfoldable pub first_form : Bytes → Option HeaderStation
first_form r = header_station (read_size (take (upto (char "@") r) r)) (until_space (drop (suc (upto (char "@") r)) r))

-- How many bytes the first `#:` and what stands before it have; all where there is none.
unfoldable pub mark_end : Bytes → ℕ
mark_end [] = 0
mark_end (x ∷ xs) = cond (begins_with_two (char "#") (char ":") (x ∷ xs)) mark_length (suc (mark_end xs))

-- "mailbox, remarks, the first `#:` with the number, remarks", after `@:`; the remarks begin where the mailbox ends
unfoldable pub second_form : Bytes → Option HeaderStation
second_form r =
    let rest = drop (upto SP r) r in
    header_station (read_size (until_space (drop (mark_end rest) rest))) (until_space r)

-- Either form: the second is the one that begins with `@:`.
unfoldable pub station_of : Bytes → Option HeaderStation
station_of r = cond (begins_with_two (char "@") (char ":") r) (second_form (drop mark_length r)) (first_form r)

-- ---------------------------------------------------------------- a line

-- 003: STAMP is "R:" YEAR MONTH DAY "/" HOUR MINUTE, 13 bytes; a zone letter may follow.
abbrev pub date_place : ℕ
date_place = mark_length

abbrev pub slash_place : ℕ
slash_place = date_place + date_length

abbrev pub time_place : ℕ
time_place = slash_place + 1

abbrev pub stamp_length : ℕ
stamp_length = time_place + time_length

abbrev pub is_stamp : Bytes → Bool
is_stamp l = leb stamp_length (length l) && (begins_with_two (char "R") (char ":") l && eqb (get_or l slash_place 0) (char "/"))

-- "another letter, or none, is shown as unknown": one letter at most belongs to the stamp
abbrev pub zone_byte : Bytes → ℕ
zone_byte l = get_or l stamp_length 0

abbrev pub past_zone : ℕ → ℕ
past_zone b = cond (is_letter b) (stamp_length + 1) stamp_length

abbrev pub header_of : Date → Time → Bool → Option HeaderStation → Option Header
header_of d t gmt none = none
header_of d t gmt (some s) = some (record { date = d; time = t; gmt = gmt; number = s.number; mailbox = s.mailbox })

-- 003: "STAMP WHITE MSG_NUM", "STAMP WHITE "@:""
unfoldable pub behind_time : Bytes → Date → Time → Option Header
behind_time l d t =
    let rest = drop (past_zone (zone_byte l)) l in
    cond (ltb 0 (whites rest)) (header_of d t (is_gmt (zone_byte l)) (station_of (drop (whites rest) rest))) none

abbrev pub header_stamped : Bytes → Option Date → Option Time → Option Header
header_stamped l none t = none
header_stamped l (some d) none = none
header_stamped l (some d) (some t) = behind_time l d t

-- The header that a line is, if it is one.
unfoldable pub read_header : Bytes → Option Header
read_header l = cond (is_stamp l) (header_stamped l (read_date (take date_length (drop date_place l))) (read_time (take time_length (drop time_place l)))) none

-- ---------------------------------------------------------------- a body

abbrev pub header_then : Option Header → List Header → List Header
header_then none hs = []
header_then (some h) hs = h ∷ hs

-- "The headers end at the first line that isn't one"
abbrev pub headers_of : List Bytes → List Header
headers_of [] = []
headers_of (l ∷ ls) = header_then (read_header l) (headers_of ls)

unfoldable pub route_of : Bytes → List Header
route_of body = headers_of (body_lines body)

abbrev pub last_header : Header → List Header → Header
last_header h [] = h
last_header h (g ∷ hs) = last_header g hs

-- "the lowest names the origin"; "A body without a header line has no origin."
unfoldable pub origin_of : List Header → Option Bytes
origin_of [] = none
origin_of (h ∷ hs) = some (last_header h hs).mailbox
