-- 01, "Lines": where a line ends, which LF is dropped, what is removed and what ignored; and the prompt.
use Rattle.std.specs.Prelude.{Bool, false, cond, ◌&&◌, [], ◌∷◌, ◌++◌, ℕ, eqb, ltb, leb, length}
use Rattle.std.proofs.Math.Option.{Option, none, some}
use Rattle.grammar.specs.Bytes.{Bytes, CR, LF, SP, null, split_at}
use Rattle.grammar.specs.Ascii.{char}
use Rattle.grammar.specs.Refusals.{line_too_long}

-- "a command line at most 256" (00), "a 257th byte of a line comes before CR" (01)
abbrev pub line_limit : ℕ
line_limit = 256

-- "One LF directly after the CR that ended a line, or after the CR that closes a plain transfer, is dropped":
-- the flag says that the byte before was such a CR
abbrev pub drop_lf : Bool → Bytes → Bytes
drop_lf after_cr [] = []
drop_lf after_cr (b ∷ bs) = cond (after_cr && eqb b LF) bs (b ∷ bs)

abbrev pub within_limit : Option (Bytes × Bytes) → Option (Bytes × Bytes)
within_limit none = none
within_limit (some p) = cond (leb (length p.0) line_limit) (some p) none

-- "A line ends with CR.": the first whole line of what is received, and what follows its CR
abbrev pub whole_line : Bool → Bytes → Option (Bytes × Bytes)
whole_line after_cr bs = within_limit (split_at CR (drop_lf after_cr bs))

-- ---------------------------------------------------------------- one byte where a line is awaited

pub data LineByte : Type 0 where
  dropped ends grows overruns : LineByte

-- after_cr as above; n bytes of the line are there
abbrev pub line_byte : Bool → ℕ → ℕ → LineByte
line_byte after_cr n b = cond (after_cr && eqb b LF) dropped (cond (eqb b CR) ends (cond (ltb n line_limit) grows overruns))

-- 01's number for each case
abbrev pub line_byte_number : LineByte → ℕ
line_byte_number dropped = 0
line_byte_number ends = 0
line_byte_number grows = 0
line_byte_number overruns = line_too_long

-- A line read byte by byte: not there yet, whole with what follows it, or refused with 2.
pub data LineRead : Type 0 where
  unfinished : Bytes → LineRead
  line : Bytes → Bytes → LineRead
  refused : LineRead

-- the line with one byte more, where the byte belongs to it
abbrev pub line_with : LineByte → Bytes → ℕ → Bytes
line_with dropped w b = w
line_with ends w b = w
line_with grows w b = w ++ (b ∷ [])
line_with overruns w b = w

-- bs: what follows the byte; on: what reading goes on to
abbrev pub line_on : LineByte → Bytes → Bytes → LineRead → LineRead
line_on dropped w bs on = on
line_on ends w bs on = line w bs
line_on grows w bs on = on
line_on overruns w bs on = refused

-- w: the bytes of the line so far
abbrev pub line_steps : Bool → Bytes → Bytes → LineRead
line_steps after_cr w [] = unfinished w
line_steps after_cr w (b ∷ bs) =
    line_on (line_byte after_cr (length w) b) w bs (line_steps false (line_with (line_byte after_cr (length w) b) w b) bs)

-- ---------------------------------------------------------------- what is judged

abbrev pub join_sp : ℕ → Bytes → Bytes
join_sp x [] = cond (eqb x SP) [] (x ∷ [])
join_sp x (y ∷ ys) = x ∷ y ∷ ys

-- "Spaces at the end are removed before a line is judged."
unfoldable pub trim : Bytes → Bytes
trim [] = []
trim (x ∷ xs) = join_sp x (trim xs)

-- "A line that begins with `;` is ignored wherever a line is awaited"
unfoldable pub is_comment : Bytes → Bool
is_comment [] = false
is_comment (x ∷ xs) = eqb x (char ";")

-- "A prompt is a line whose last byte is its only `>`."
unfoldable pub is_prompt : Bytes → Bool
is_prompt [] = false
is_prompt (x ∷ xs) = cond (eqb x (char ">")) (null xs) (is_prompt xs)
