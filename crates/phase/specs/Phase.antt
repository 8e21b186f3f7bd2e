-- What a session awaits and what waits for give, by number, as session memory holds them (docs/MEMORY.md).
use Rattle.std.specs.Prelude.{Bool, ℕ, ltb}
use Rattle.grammar.specs.Turns as turns

-- ---------------------------------------------------------------- what is awaited; from `phase_over` on the session has ended

abbrev pub phase_called_sid : ℕ
phase_called_sid = 0

abbrev pub phase_caller_sid : ℕ
phase_caller_sid = 1

abbrev pub phase_prompt : ℕ
phase_prompt = 2

abbrev pub phase_turn : ℕ
phase_turn = 3

abbrev pub phase_fs : ℕ
phase_fs = 4

abbrev pub phase_transfer : ℕ
phase_transfer = 5

abbrev pub phase_leaving : ℕ
phase_leaving = 6

abbrev pub phase_over : ℕ
phase_over = 7

-- The session is closed, whatever waits: `phase_over` and every number without a name of its own.
abbrev pub is_closed : ℕ → Bool
is_closed p = ltb phase_leaving p

-- ---------------------------------------------------------------- what is said first

abbrev pub piece_none : ℕ
piece_none = 0

abbrev pub piece_sid_and_prompt : ℕ
piece_sid_and_prompt = 1

abbrev pub piece_sid : ℕ
piece_sid = 2

abbrev pub piece_signs : ℕ
piece_signs = 3

-- "`*** Protocol error`", "`*** Checksum error`" (02, Q-1)
abbrev pub piece_protocol_error : ℕ
piece_protocol_error = 4

abbrev pub piece_checksum_error : ℕ
piece_checksum_error = 5

-- ---------------------------------------------------------------- what is said after it; `piece_none` here too

abbrev pub piece_ff : ℕ
piece_ff = 1

abbrev pub piece_fq : ℕ
piece_fq = 2

abbrev pub piece_block : ℕ
piece_block = 3

abbrev pub piece_transfers : ℕ
piece_transfers = 4

-- ---------------------------------------------------------------- after a judged line

abbrev pub not_our_turn : ℕ
not_our_turn = 0

abbrev pub our_turn_now : ℕ
our_turn_now = 1

-- the partner's turn just now was FF
abbrev pub our_turn_after_ff : ℕ
our_turn_after_ff = 2

-- ---------------------------------------------------------------- a record's state, 01, "Lent memory"

abbrev pub state_waiting : ℕ
state_waiting = 0

abbrev pub state_forwarded : ℕ
state_forwarded = 1

abbrev pub state_declined : ℕ
state_declined = 2

-- ---------------------------------------------------------------- a record's flag in session memory: not deferred in this session, or deferred by the partner's FS line

abbrev pub not_deferred : ℕ
not_deferred = 0

abbrev pub was_deferred : ℕ
was_deferred = 1

-- ---------------------------------------------------------------- a block

-- "up to five messages before the direction turns": the grammar's number, by this name for what session memory holds
abbrev pub block_limit : ℕ
block_limit = turns.block_limit

-- No proposal of a block: the place after its last.
abbrev pub no_proposal : ℕ
no_proposal = block_limit
