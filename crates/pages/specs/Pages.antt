-- "Read the WPROT records of source document 004: one line a record, two hexadecimal digits in either case, a flag of 1 to 10 bytes, data.
-- Handle V and M; skip other flags."
use Rattle.std.specs.Prelude.{Bool, true, false, cond, ◌&&◌, ◌||◌, List, [], ◌∷◌, map, ℕ, ◌+◌, eqb, ltb, leb, length, get_or, drop}
use Rattle.std.proofs.Math.Option.{Option, none, some}
use Rattle.grammar.specs.Bytes.{Bytes, SP, is_some}
use Rattle.grammar.specs.Ascii.{char}
use Rattle.grammar.specs.Fields.{hex_digit, read_size}
use Rattle.span.specs.Places.{upto}
use Rattle.text_line.specs.TextLines.{body_lines}
use Rattle.pages.specs.Fields.{Read, says, breaks, Member, member_of, not_a_record, bad_version}

-- ---------------------------------------------------------------- a line

pub data Page : Type 0 where
  version : ℕ → Page
  member : Member → Page
  skipped : Page
  dropped : ℕ → Page

-- "two hexadecimal digits in either case"
abbrev pub lead_digits : ℕ
lead_digits = 2

-- "two hexadecimal digits in either case", and the space behind them; "The two leading digits are shown and not judged."
abbrev pub is_hex : ℕ → Bool
is_hex b = is_some (hex_digit b)

abbrev pub leads : Bytes → Bool
leads l = is_hex (get_or l 0 0) && (is_hex (get_or l 1 0) && eqb (get_or l lead_digits 0) SP)

-- The flag's place, behind the digits and the space, and the most bytes that a flag has.
abbrev pub flag_place : ℕ
flag_place = lead_digits + 1

abbrev pub flag_limit : ℕ
flag_limit = 10

abbrev pub flag_length : Bytes → ℕ
flag_length l = upto SP (drop flag_place l)

-- "a flag of 1 to 10 bytes", and a space behind it
abbrev pub has_flag : Bytes → Bool
has_flag l = leb 1 (flag_length l) && (leb (flag_length l) flag_limit && ltb (flag_place + flag_length l) (length l))

abbrev pub version_by : Option ℕ → Page
version_by none = dropped bad_version
version_by (some n) = version n

-- "V gives two decimal digits"
abbrev pub version_digits : ℕ
version_digits = 2

unfoldable pub version_of : Bytes → Page
version_of d = cond (eqb (length d) version_digits) (version_by (read_size d)) (dropped bad_version)

abbrev pub member_by : Read Member → Page
member_by (says m) = member m
member_by (breaks n) = dropped n

-- The flags of one letter that are handled, as they stand: V, M.
abbrev pub flag_v : ℕ
flag_v = char "V"

abbrev pub flag_m : ℕ
flag_m = char "M"

-- A record by its flag. Its data begin behind a flag of one byte and a space.
abbrev pub data_after_flag : ℕ
data_after_flag = flag_place + 1 + 1

unfoldable pub by_letter : ℕ → Bytes → Page
by_letter b d = cond (eqb b flag_v) (version_of d) (cond (eqb b flag_m) (member_by (member_of d)) skipped)

unfoldable pub read_page : Bytes → Page
read_page l =
    cond (leads l && has_flag l)
    (cond (eqb (flag_length l) 1) (by_letter (get_or l flag_place 0) (drop data_after_flag l)) skipped)
    (dropped not_a_record)

-- ---------------------------------------------------------------- a mail

-- A line with what it is.
pub record ReadLine : Type 0 where
  pub bytes : Bytes
  pub page : Page

abbrev pub line_of : Bytes → ReadLine
line_of l = record { bytes = l; page = read_page l }

unfoldable pub pages_of : Bytes → List ReadLine
pages_of x = map line_of (body_lines x)

-- "`10` is version 1.0; above 10 in any V record"
abbrev pub our_version : ℕ
our_version = 10

abbrev pub is_newer : Page → Bool
is_newer (version n) = ltb our_version n
is_newer (member m) = false
is_newer skipped = false
is_newer (dropped n) = false

abbrev pub any_newer : List ReadLine → Bool
any_newer [] = false
any_newer (l ∷ ls) = is_newer l.page || any_newer ls

abbrev pub is_record : Page → Bool
is_record (version n) = true
is_record (member m) = true
is_record skipped = false
is_record (dropped n) = false

abbrev pub is_dropped_line : Page → Bool
is_dropped_line (version n) = false
is_dropped_line (member m) = false
is_dropped_line skipped = false
is_dropped_line (dropped n) = true

abbrev pub lines_that : (Page → Bool) → List ReadLine → List ReadLine
lines_that p [] = []
lines_that p (l ∷ ls) = cond (p l.page) (l ∷ lines_that p ls) (lines_that p ls)

pub record Mail : Type 0 where
  pub unread : Bool
  pub records : List ReadLine
  pub dropped : ℕ

-- "a line of another form is dropped and counted"; "the whole mail is left unread, with no record given and none counted as dropped"
abbrev pub mail_by : List ReadLine → Mail
mail_by ls = cond (any_newer ls) (record { unread = true; records = []; dropped = 0 }) (record { unread = false; records = lines_that is_record ls; dropped = length (lines_that is_dropped_line ls) })

unfoldable pub mail_of : Bytes → Mail
mail_of x = mail_by (pages_of x)

-- ---------------------------------------------------------------- what is counted, line by line

pub record MailTally : Type 0 where
  pub records : ℕ
  pub dropped : ℕ
  pub version : ℕ

abbrev pub higher : ℕ → ℕ → ℕ
higher a b = cond (ltb a b) b a

abbrev pub tallied : MailTally → Page → MailTally
tallied t (version n) = record { records = t.records + 1; dropped = t.dropped; version = higher t.version n }
tallied t (member m) = record { records = t.records + 1; dropped = t.dropped; version = t.version }
tallied t skipped = t
tallied t (dropped n) = record { records = t.records; dropped = t.dropped + 1; version = t.version }

abbrev pub tally : MailTally → List ReadLine → MailTally
tally t [] = t
tally t (l ∷ ls) = tally (tallied t l.page) ls

abbrev pub no_tally : MailTally
no_tally = record { records = 0; dropped = 0; version = 0 }

-- The highest version that a V record says; 0 where there is none.
abbrev pub version_in : Page → ℕ
version_in (version n) = n
version_in (member m) = 0
version_in skipped = 0
version_in (dropped n) = 0

abbrev pub newest : List ReadLine → ℕ
newest [] = 0
newest (l ∷ ls) = higher (version_in l.page) (newest ls)

-- What a survey of a mail tells.
pub record Survey : Type 0 where
  pub unread : Bool
  pub records : ℕ
  pub dropped : ℕ
  pub version : ℕ

abbrev pub survey_by : Mail → ℕ → Survey
survey_by m v = record { unread = m.unread; records = length m.records; dropped = m.dropped; version = v }

unfoldable pub survey_of : Bytes → Survey
survey_of x = survey_by (mail_of x) (newest (pages_of x))

-- The lines that are handed out from a place on, where the mail is known to be left unread or not.
abbrev pub handed : Bool → Bytes → List ReadLine
handed unread x = cond unread [] (pages_of x)
