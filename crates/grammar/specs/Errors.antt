-- 02, Q-1, "Say why before hanging up": the line that give still hands over after a refusal.
use Rattle.std.specs.Prelude.{Bool, cond, ◌||◌, [], ℕ, eqb, ltb}
use Rattle.grammar.specs.Bytes.{Bytes}
use Rattle.grammar.specs.Refusals.{line_too_long, bad_checksum, bytes_wait, session_ended}
use Rattle.grammar.specs.Turns.{FixedLine, fixed_text, with_cr, protocol_error, checksum_error}

-- The numbers after which nothing is said: 0 and 1, which refuse no byte of the partner's, and 11 and 12. "01's silence after an end holds after an
-- end with 0 or 11". Every other number has a line, those that come later too: "later refusals of a partner's line count as protocol errors".
abbrev pub is_silent : ℕ → Bool
is_silent n = ltb n line_too_long || (eqb n bytes_wait || eqb n session_ended)

-- "`*** Checksum error` for 9, `*** Protocol error` for the others"
abbrev pub error_line : ℕ → FixedLine
error_line n = cond (eqb n bad_checksum) checksum_error protocol_error

-- "one line and CR"
unfoldable pub error_text : ℕ → Bytes
error_text n = cond (is_silent n) [] (with_cr (fixed_text (error_line n)))
