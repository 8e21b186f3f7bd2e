-- 01, "SID and opening": the line in brackets by which a mailbox says what it can do.
use Rattle.std.specs.Prelude.{Bool, false, cond, not, ◌&&◌, ◌||◌, List, [], ◌∷◌, ℕ, ◌+◌, ◌-◌, eqb, ltb, get_or, set, replicate}
use Rattle.std.proofs.Math.Option.{Option, none, some}
use Rattle.grammar.specs.Bytes.{Bytes, SP, null, every, same, split_at}
use Rattle.grammar.specs.Ascii.{text, char}
use Rattle.grammar.specs.Refusals.{not_sid, no_forwarding}
use Rattle.grammar.specs.Fields.{upper, after_capitals, digit, decimal_base}

-- ---------------------------------------------------------------- the feature set

-- the byte after `Z`
abbrev pub capitals_end : ℕ
capitals_end = char "Z" + 1

-- "Letters have fixed places A = 0 to Z = 25", in either case
abbrev pub is_letter : ℕ → Bool
is_letter b = cond (ltb (upper b) (char "A")) false (ltb (upper b) capitals_end)

abbrev pub letter_place : ℕ → ℕ
letter_place b = upper b - char "A"

-- "`$` = 26"
abbrev pub dollar_place : ℕ
dollar_place = 26

-- the letters' places and that of `$`
abbrev pub feature_places : ℕ
feature_places = dollar_place + 1

-- at each place: 0 where the feature is not there, else its level and 1 more
abbrev pub no_features : List ℕ
no_features = replicate feature_places 0

-- Two letters that a session looks for, by their places: F, that the partner forwards, and B, framed transfers.
abbrev pub letter_b : ℕ
letter_b = letter_place (char "B")

abbrev pub letter_f : ℕ
letter_f = letter_place (char "F")

abbrev pub has_feature : ℕ → List ℕ → Bool
has_feature i fs = ltb 0 (get_or fs i 0)

-- A level is a digit, so it is below this.
abbrev pub level_values : ℕ
level_values = decimal_base

-- What is no level adds nothing, and so does a place that is none of these.
abbrev pub with_feature : ℕ → ℕ → List ℕ → List ℕ
with_feature i level fs = cond (ltb level level_values) (set fs i (level + 1)) fs

-- ---------------------------------------------------------------- the line

-- the byte after 0x7F, the last of ASCII
abbrev pub ascii_values : ℕ
ascii_values = 128

-- "at least one byte in 0x20-0x7F without `[`, `]`, `-`"
abbrev pub author_byte : ℕ → Bool
author_byte b = cond (eqb b (char "-") || (eqb b (char "[") || eqb b (char "]"))) false (cond (ltb b SP) false (ltb b ascii_values))

-- "at least one such byte or hyphen"
abbrev pub data_byte : ℕ → Bool
data_byte b = author_byte b || eqb b (char "-")

-- "features `$`? `]`": the end of the SID; "`$` = 26"
abbrev pub sid_end : List ℕ → Bytes → Option (List ℕ)
sid_end fs r = cond (same r (text "]")) (some fs) (cond (same r (text "$]")) (some (with_feature dollar_place 0 fs)) none)

-- "letters, each with at most one digit; no digit is level 0"; "House rule: a letter given twice is refused (3)."
abbrev pub read_levels : List ℕ → Bytes → Option (List ℕ)
read_levels fs [] = none
read_levels fs (x ∷ []) = sid_end fs (x ∷ [])
read_levels fs (x ∷ d ∷ r) =
    cond (is_letter x)
    (cond (has_feature (letter_place x) fs) none
    (cond (digit d) (read_levels (with_feature (letter_place x) (d - char "0") fs) r) (read_levels (with_feature (letter_place x) 0 fs) (d ∷ r))))
    (sid_end fs (x ∷ d ∷ r))

-- "Features are one or more letters"
abbrev pub read_features : Bytes → Option (List ℕ)
read_features [] = none
read_features (x ∷ xs) = cond (is_letter x) (read_levels no_features (x ∷ xs)) none

abbrev pub or_last : ℕ → Option (Bytes × Bytes) → Bytes → Option (Bytes × Bytes)
or_last x (some p) xs = some (x ∷ p.0, p.1)
or_last x none xs = cond (eqb x (char "-")) (some ([], xs)) none

-- What stands before the last hyphen, and what after it.
abbrev pub split_last : Bytes → Option (Bytes × Bytes)
split_last [] = none
split_last (x ∷ xs) = or_last x (split_last xs) xs

-- "(data `-`)? features"
abbrev pub data_read : Bytes → Option (Bytes × Bytes) → Option (List ℕ)
data_read r none = read_features r
data_read r (some p) = cond (every data_byte p.0 && not (null p.0)) (read_features p.1) none

-- "The author runs to the first hyphen, the features start after the last."
abbrev pub author_read : Option (Bytes × Bytes) → Option (List ℕ)
author_read none = none
author_read (some p) = cond (every author_byte p.0 && not (null p.0)) (data_read p.1 (split_last p.1)) none

abbrev pub sid_read : Option Bytes → Option (List ℕ)
sid_read none = none
sid_read (some r) = author_read (split_at (char "-") r)

-- "SID = `[` author `-` (data `-`)? features `$`? `]`.": the features of a valid one
unfoldable pub read_sid : Bytes → Option (List ℕ)
read_sid ln = sid_read (after_capitals (text "[") ln)

-- "first line isn't a valid SID": 3; "partner's SID has no F": 4
abbrev pub sid_number : Option (List ℕ) → ℕ
sid_number none = not_sid
sid_number (some fs) = cond (has_feature letter_f fs) 0 no_forwarding

-- "Partner has B: framed mode, at any level. Otherwise plain mode."
abbrev pub framed : List ℕ → Bool
framed fs = has_feature letter_b fs

-- ---------------------------------------------------------------- the level in force

-- The level of the letter at a place; 0 where the feature is not there.
abbrev pub level_of : ℕ → List ℕ → ℕ
level_of i fs = get_or fs i 0 - 1

-- "Our SID becomes `[NOD-1-B1FH$]`" (02, Q-6): the level of our B, as proofs/Levels shows
abbrev pub our_level : ℕ
our_level = 1

abbrev pub lower : ℕ → ℕ → ℕ
lower a b = cond (ltb a b) a b

-- "the level in force is the lower of the two, 0 without B"
unfoldable pub level_of_sid : List ℕ → ℕ
level_of_sid fs = lower our_level (level_of letter_b fs)
