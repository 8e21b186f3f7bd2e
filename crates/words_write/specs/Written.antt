-- A text handed out to callers from C and Rust: into a lent buffer from a place on, what of it isn't passed over and fits.
use Rattle.std.specs.Prelude.{◌≡◌, cond, [], ℕ, ◌-◌, eqb, ltb, length}
use Rattle.grammar.specs.Bytes.{Bytes}
use Rattle.grammar.specs.Turns.{FixedLine, our_sid, our_prompt, our_ff, our_fq, our_end, fixed_text, with_cr}
use Rattle.buffer.specs.Put.{put_bytes, cut, cursor}

-- The contract of every writer: of the text p, put into the buffer d from place on with skip bytes passed over, n bytes fit and leave e.
abbrev pub Writes : Bytes → ℕ → ℕ → Bytes → ℕ → Bytes → Type 0
Writes d place skip p n e = (n ≡ length (cut (length d - place) skip p)) × (e ≡ put_bytes d (cursor place skip) p)

-- The lines that never differ by their numbers: our SID, the prompt, FF, FQ, F>, and any other number as F>.
abbrev pub sid_line_number : ℕ
sid_line_number = 0

abbrev pub prompt_line_number : ℕ
prompt_line_number = 1

abbrev pub ff_line_number : ℕ
ff_line_number = 2

abbrev pub fq_line_number : ℕ
fq_line_number = 3

abbrev pub end_line_number : ℕ
end_line_number = 4

unfoldable pub fixed_by : ℕ → FixedLine
fixed_by k = cond (eqb k sid_line_number) our_sid (cond (eqb k prompt_line_number) our_prompt (cond (eqb k ff_line_number) our_ff (cond (eqb k fq_line_number) our_fq our_end)))

-- The text of such a line with its CR; nothing for a number past that of F>.
unfoldable pub fixed_bytes : ℕ → Bytes
fixed_bytes k = cond (ltb end_line_number k) [] (with_cr (fixed_text (fixed_by k)))
