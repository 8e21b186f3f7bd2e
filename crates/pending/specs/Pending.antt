-- Whether bytes wait for give, whether the session has ended, and what a refusal leaves to give, as session memory says it.
use Rattle.std.specs.Prelude.{Bool, true, false, cond, not, ℕ, eqb, ltb}
use Rattle.grammar.specs.Refusals.{bad_checksum}
use Rattle.grammar.specs.Errors.{is_silent}
use Rattle.phase.specs.Phase.{phase_leaving, is_closed, piece_none, piece_protocol_error, piece_checksum_error}
use Rattle.session_memory.specs.Setters.{with_first, with_then, with_pos, with_say}
use Rattle.session_memory.specs.declared.Say.{Say}
use Rattle.session_memory.specs.Session.{Session}

-- Something waits.
unfoldable pub waits : Say → Bool
waits y = cond (eqb y.first piece_none) (not (eqb y.then piece_none)) true

-- "Our FQ ends it when give has handed out its CR."; a session that is closed has ended, also while its last line waits
unfoldable pub over_of : Session → Bool
over_of s = cond (ltb s.now.phase phase_leaving) false (cond (is_closed s.now.phase) true (not (waits s.say)))

-- Nothing waits any more.
unfoldable pub silent_of : Session → Session
silent_of s = with_say (with_first piece_none (with_then piece_none (with_pos 0 s.say))) s

-- "After refusals .. give must still hand over one line and CR" (02, Q-1): which, after a refusal with this number
unfoldable pub error_piece : ℕ → ℕ
error_piece n = cond (is_silent n) piece_none (cond (eqb n bad_checksum) piece_checksum_error piece_protocol_error)
