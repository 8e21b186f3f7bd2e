-- 003's own lines and the edges of each rule, computed.
use Rattle.std.specs.Prelude.{◌≡◌, refl, Bool, true, false, ◌++◌, ℕ}
use Rattle.std.proofs.Math.Option.{Option, none, some}
use Rattle.grammar.specs.Bytes.{Bytes, CR, LF, nil, cons}
use Rattle.grammar.specs.Fields.{is_at, is_call, is_size, read_from, write_num}
use Rattle.grammar.specs.Ascii.{text}
use Rattle.span.specs.Places.{upto}
use Rattle.text_line.specs.TextLines.{body_lines, text_lines}
use Rattle.dates.specs.Dates.{is_date, is_time}
use Rattle.dates.specs.Digits.{read_date, read_time, date_text, time_text}
use Rattle.route.specs.Routes.{Header, read_header, behind_time, station_of, first_form, second_form, mark_end, whites, route_of, origin_of}
use Rattle.route.specs.Written.{route_line, stamp_text}

-- To unfold it is to unfold all that reads a header: what an example computes with is named here alone.
unfoldable pub headers_computed : Bool
unfolding read_header behind_time station_of first_form second_form mark_end whites read_date read_time is_date is_time is_at is_call is_size read_from upto
headers_computed = true

-- year, month and day, hour and minute, whether in GMT, number, mailbox
abbrev header : ℕ → ℕ → ℕ → ℕ → ℕ → Bool → ℕ → Bytes → Option Header
header y m d h i gmt n w =
    some (record { date = record { year = y; month = m; day = d }; time = record { hour = h; minute = i }; gmt = gmt; number = n; mailbox = w })

-- the four headers of 003's example message
fremont : read_header (text "R:930108/1729 @:N6QMY.#NOCAL.CA.USA.NA Fremont #:1114 Z:94536") ≡ header 1993 1 8 17 29 false 1114 (text "N6QMY.#NOCAL.CA.USA.NA")
unfolding headers_computed
fremont = refl

first_form_lem : read_header (text "R:930108/1259 1530@KA6FUB.#NOCAL.CA.USA.NA") ≡ header 1993 1 8 12 59 false 1530 (text "KA6FUB.#NOCAL.CA.USA.NA")
unfolding headers_computed
first_form_lem = refl

oskbox : read_header (text "R:930107/1638z @:WD6CMU.#NOCAL.CA.USA.NA \"OSKbox\" #:10576 Z:94805") ≡ header 1993 1 7 16 38 true 10576 (text "WD6CMU.#NOCAL.CA.USA.NA")
unfolding headers_computed
oskbox = refl

lowest : read_header (text "R:930107/1045 50724@WX3K.#NOCAL.CA.USA.NA") ≡ header 1993 1 7 10 45 false 50724 (text "WX3K.#NOCAL.CA.USA.NA")
unfolding headers_computed
lowest = refl

-- 003: "two examples of the same header, in the two different formats"
same_first : read_header (text "R:930101/0000 1530@KA6FUB.#NOCAL.CA.USA.NOAM") ≡ header 1993 1 1 0 0 false 1530 (text "KA6FUB.#NOCAL.CA.USA.NOAM")
unfolding headers_computed
same_first = refl

same_second : read_header (text "R:930101/0000 @:KA6FUB.#NOCAL.CA.USA.NOAM #:1530") ≡ header 1993 1 1 0 0 false 1530 (text "KA6FUB.#NOCAL.CA.USA.NOAM")
unfolding headers_computed
same_second = refl

-- the zone: either case of z; another letter, or none, is unknown; two letters are no header
capital_zone : read_header (text "R:700101/0000Z 0@A") ≡ header 1970 1 1 0 0 true 0 (text "A")
unfolding headers_computed
capital_zone = refl

other_zone : read_header (text "R:700101/0000e 0@A") ≡ header 1970 1 1 0 0 false 0 (text "A")
unfolding headers_computed
other_zone = refl

two_letters : read_header (text "R:700101/0000zz 0@A") ≡ none
unfolding headers_computed
two_letters = refl

-- `R:` stands in capitals, at the line's start, with white space after the stamp
small_r : read_header (text "r:700101/0000 0@A") ≡ none
unfolding headers_computed
small_r = refl

late : read_header (text "  R:700101/0000 0@A") ≡ none
unfolding headers_computed
late = refl

no_white : read_header (text "R:700101/00000@A") ≡ none
unfolding headers_computed
no_white = refl

-- a number has 1 to 9 digits; a mailbox ends at a space
nine_digits : read_header (text "R:691231/2359 999999999@A b") ≡ header 2069 12 31 23 59 false 999999999 (text "A")
unfolding headers_computed
nine_digits = refl

ten_digits : read_header (text "R:691231/2359 0000000001@A") ≡ none
unfolding headers_computed
ten_digits = refl

no_digits : read_header (text "R:691231/2359 @A") ≡ none
unfolding headers_computed
no_digits = refl

-- a date or time outside the rules: no header
bad_day : read_header (text "R:010229/0000 1@A") ≡ none
unfolding headers_computed
bad_day = refl

bad_hour : read_header (text "R:010228/2400 1@A") ≡ none
unfolding headers_computed
bad_hour = refl

bad_mailbox : read_header (text "R:010228/2359 1@A..B") ≡ none
unfolding headers_computed
bad_mailbox = refl

-- the first `#:` has the number, and needs no space before it; without a number there, the line is no header
first_mark : read_header (text "R:010228/2359 @:A x#:7 #:8") ≡ header 2001 2 28 23 59 false 7 (text "A")
unfolding headers_computed
first_mark = refl

mark_bad : read_header (text "R:010228/2359 @:A #:x #:8") ≡ none
unfolding headers_computed
mark_bad = refl

-- a mailbox runs to the space, so this one is `A#:7`, and no mark follows
mark_inside : read_header (text "R:010228/2359 @:A#:7") ≡ none
unfolding headers_computed
mark_inside = refl

no_mark : read_header (text "R:010228/2359 @:A 7") ≡ none
unfolding headers_computed
no_mark = refl

-- ---------------------------------------------------------------- a body

abbrev line : Bytes → Bytes → Bytes
line w r = w ++ cons CR r

-- Two headers and a body: the lower one names the origin. CR LF changes nothing, nor does a header below the first other line.
abbrev way : Bytes
way = line (text "R:930108/1259 1@B") (cons LF (line (text "R:930107/1045 2@A") (line nil (text "R:930106/1045 3@C"))))

way_origin : origin_of (route_of way) ≡ some (text "A")
unfolding headers_computed origin_of route_of body_lines text_lines
way_origin = refl

no_origin : origin_of (route_of (line nil way)) ≡ none
unfolding headers_computed origin_of route_of body_lines text_lines
no_origin = refl

-- ---------------------------------------------------------------- our line

our_line_lem : route_line (record { date = record { year = 2026; month = 3; day = 7 }; time = record { hour = 5; minute = 9 }; number = 42; mailbox = text "N0DE.FRA.EU" }) ≡ text "R:260307/0509z 42@N0DE.FRA.EU"
unfolding route_line stamp_text date_text time_text write_num
our_line_lem = refl
