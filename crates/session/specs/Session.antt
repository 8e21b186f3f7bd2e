-- THE SESSION: one end of one session with one partner (01, "SID and opening", "Turns", "Transfers"), a byte at a time.
-- What a whole line or a whole transfer makes us say is fixed at its last byte and put into `out` at once; the phase is then already the
-- one after it, so no phase stands for our own giving. A byte that comes while `out` is not empty is refused.
use Rattle.std.specs.Prelude.{Bool, true, false, cond, ◌&&◌, List, [], ◌∷◌, ◌++◌, map, ℕ, ◌-◌, min, eqb, ltb, length, set, replicate}
use Rattle.std.proofs.Math.Option.{Option, none, some}
use Rattle.grammar.specs.Bytes.{Bytes, LF, null}
use Rattle.grammar.specs.Refusals.{not_sid, no_forwarding, line_not_allowed, proposal_count, bytes_wait, session_ended, wrong_block_sum}
use Rattle.grammar.specs.Fields.{body_max}
use Rattle.grammar.specs.Lines.{LineByte, dropped, ends, grows, overruns, line_byte, line_byte_number, trim, is_comment, is_prompt}
use Rattle.grammar.specs.Sid as sid
use Rattle.grammar.specs.Sid.{read_sid, has_feature, letter_f}
use Rattle.grammar.specs.Turns.{Proposal, TurnLine, says_ff, says_fq, ends_block, not_allowed, proposes, ends_summed, read_turn_line, turn_line_number, fixed_text, our_sid, our_prompt, our_ff, our_fq, with_cr, block_limit}
use Rattle.grammar.specs.Errors.{error_text}
use Rattle.grammar.specs.Answers.{Sign, accept, decline, defer, read_fs, fs_number, fs_line, Level, level0}
use Rattle.grammar.specs.Scan.{Scan, Scanned, goes, got, malformed, wrong_sum, no_room, scan_from, scan_byte, scanned_number}
use Rattle.grammar.specs.Transfers.{TransferKind, plain_kind, framed_kind, kind_of, sum_right}
use Rattle.phase.specs.Phase.{not_deferred, was_deferred}
use Rattle.mail.specs.Mail.{Message, message_of, proposal_of, record_at, turn_text, transfers_text, accepted, marked, declined, record_limit}
use Rattle.mail.specs.Tally.{Counts, no_counts, more_proposed, more_forwarded, more_declined, more_deferred, declined_ones, deferred_ones}
use Rattle.session.specs.Choices.{Shelf, chosen, answers_to, body_bytes}

-- ---------------------------------------------------------------- the state

-- Which line is awaited of the partner.
-- awaits_sid: its SID (true: we are the caller). awaits_prompt: text lines up to the prompt. awaits_turn: the next line of its turn; whether
-- our turn just now was FF, its proposals so far, and their lines as received, each with its CR. awaits_answer: the FS line on our records
-- at these places.
pub data Awaited : Type 0 where
  awaits_sid : Bool → Awaited
  awaits_prompt : Awaited
  awaits_turn : Bool → List Proposal → Bytes → Awaited
  awaits_answer : List ℕ → Awaited

-- a_line: a line is awaited. awaits_transfer: the transfer of this proposal, then those of these, and where its reading stands. leaving: nothing
-- more, our FQ is said. over: ended.
pub data Phase : Type 0 where
  a_line : Awaited → Phase
  awaits_transfer : Proposal → List Proposal → Scan → Phase
  leaving over : Phase

-- The partner's turn begins; true: our turn just now was FF
abbrev pub new_turn : Bool → Phase
new_turn ff = a_line (awaits_turn ff [] [])

-- What is settled with this partner beside the mode: the level at which its FS line is read.
pub record Terms : Type 0 where
  pub level : Level

-- The mode; what else is settled; each record's state; the places of the records that the partner accepted and whose state is not set yet; the messages kept;
-- a flag for each record that a table may have, `was_deferred` where it was deferred in this session; the tally sheet.
pub record Memory : Type 0 where
  pub framed : Bool
  pub terms : Terms
  pub states : List ℕ
  pub sending : List ℕ
  pub inbox : List Message
  pub deferred : List ℕ
  pub counts : Counts

-- part: the line under way; after_cr: an LF now is dropped; out: the bytes that wait for give
pub record Session : Type 0 where
  pub phase : Phase
  pub part : Bytes
  pub after_cr : Bool
  pub out : Bytes
  pub memory : Memory

-- All else is as it was.
abbrev pub with_level : Level → Terms → Terms
with_level x t = record { level = x }

abbrev pub with_framed : Bool → Memory → Memory
with_framed x m = record { framed = x; terms = m.terms; states = m.states; sending = m.sending; inbox = m.inbox; deferred = m.deferred; counts = m.counts }

abbrev pub with_terms : Terms → Memory → Memory
with_terms x m = record { framed = m.framed; terms = x; states = m.states; sending = m.sending; inbox = m.inbox; deferred = m.deferred; counts = m.counts }

abbrev pub with_states : List ℕ → Memory → Memory
with_states x m = record { framed = m.framed; terms = m.terms; states = x; sending = m.sending; inbox = m.inbox; deferred = m.deferred; counts = m.counts }

abbrev pub with_sending : List ℕ → Memory → Memory
with_sending x m = record { framed = m.framed; terms = m.terms; states = m.states; sending = x; inbox = m.inbox; deferred = m.deferred; counts = m.counts }

abbrev pub with_inbox : List Message → Memory → Memory
with_inbox x m = record { framed = m.framed; terms = m.terms; states = m.states; sending = m.sending; inbox = x; deferred = m.deferred; counts = m.counts }

abbrev pub with_deferred : List ℕ → Memory → Memory
with_deferred x m = record { framed = m.framed; terms = m.terms; states = m.states; sending = m.sending; inbox = m.inbox; deferred = x; counts = m.counts }

abbrev pub with_counts : Counts → Memory → Memory
with_counts x m = record { framed = m.framed; terms = m.terms; states = m.states; sending = m.sending; inbox = m.inbox; deferred = m.deferred; counts = x }

abbrev pub with_phase : Phase → Session → Session
with_phase x s = record { phase = x; part = s.part; after_cr = s.after_cr; out = s.out; memory = s.memory }

abbrev pub with_part : Bytes → Session → Session
with_part x s = record { phase = s.phase; part = x; after_cr = s.after_cr; out = s.out; memory = s.memory }

abbrev pub with_after_cr : Bool → Session → Session
with_after_cr x s = record { phase = s.phase; part = s.part; after_cr = x; out = s.out; memory = s.memory }

abbrev pub with_out : Bytes → Session → Session
with_out x s = record { phase = s.phase; part = s.part; after_cr = s.after_cr; out = x; memory = s.memory }

abbrev pub with_memory : Memory → Session → Session
with_memory x s = record { phase = s.phase; part = s.part; after_cr = s.after_cr; out = s.out; memory = x }

-- No line is begun.
abbrev pub between : Phase → Bool → Bytes → Memory → Session
between p after_cr out m = record { phase = p; part = []; after_cr = after_cr; out = out; memory = m }

-- What a whole line or transfer comes to: a refusal by its number, or the next phase with the memory and what we say now.
pub data Outcome : Type 0 where
  refuses : ℕ → Outcome
  goes_on : Phase → Memory → Bytes → Outcome

-- ---------------------------------------------------------------- our turn

-- "Proposed counts at the received byte that our turn answers" (02, Q-3): the records at these places
abbrev pub proposing : List ℕ → Memory → Memory
proposing is m = with_counts (more_proposed (length is) m.counts) m

-- "If none remains: FF, or FQ if the partner's turn just now was FF."; o is said before it
abbrev pub speaking : Shelf → Bytes → Bool → List ℕ → Memory → Outcome
speaking E o true [] m = goes_on leaving m (o ++ with_cr (fixed_text our_fq))
speaking E o false [] m = goes_on (new_turn true) m (o ++ with_cr (fixed_text our_ff))
speaking E o ff (i ∷ is) m =
    goes_on (a_line (awaits_answer (i ∷ is))) (proposing (i ∷ is) m) (o ++ turn_text (map (λ (k : ℕ). proposal_of (record_at E.table k)) (i ∷ is)))

abbrev pub our_turn : Shelf → Bytes → Bool → Memory → Outcome
our_turn E o ff m = speaking E o ff (chosen E.table m.framed m.states m.deferred) m

-- ---------------------------------------------------------------- the partner's turn

-- "State 1 is set at the CR that ends the partner's next whole valid turn.", and that is where they count as forwarded
abbrev pub turn_marks : Memory → Memory
turn_marks m = with_sending [] (with_states (marked m.sending m.states) (with_counts (more_forwarded (length m.sending) m.counts) m))

-- How the transfer of this proposal, which is due now, is read.
abbrev pub kind_due : Memory → Proposal → TransferKind
kind_due m p = kind_of p.form

-- "The right to propose passes to whoever sent the FS.": after the transfers that our FS line accepts, if there are any
abbrev pub answering : Shelf → List Sign → List Proposal → Memory → Outcome
answering E ss [] m = our_turn E (with_cr (fs_line ss)) false m
answering E ss (p ∷ ps) m = goes_on (awaits_transfer p ps (scan_from (kind_due m p))) m (with_cr (fs_line ss))

abbrev pub answered : Shelf → List Proposal → Memory → Outcome
answered E ps m = answering E (answers_to E m.inbox ps) (accepted (answers_to E m.inbox ps) ps) m

-- "FQ is allowed only in answer to our FF. FF in answer to our FF gets 5."; "sixth proposal, or F> with none" gets 6. "The sum of all bytes of
-- the block's proposal lines as received, their CR included, .. plus HH must be 0 modulo 256." (02, Q-5): 13, "tested after 5 and 6 and before
-- any answer is formed". raw: those lines; ln: this line as it came
abbrev pub turn_judged : Shelf → TurnLine → Bool → List Proposal → Bytes → Bytes → Memory → Outcome
turn_judged E says_ff ff [] raw ln m = cond ff (refuses line_not_allowed) (our_turn E [] true (turn_marks m))
turn_judged E says_ff ff (p ∷ ps) raw ln m = refuses line_not_allowed
turn_judged E says_fq ff [] raw ln m = cond ff (goes_on over m []) (refuses line_not_allowed)
turn_judged E says_fq ff (p ∷ ps) raw ln m = refuses line_not_allowed
turn_judged E ends_block ff [] raw ln m = refuses proposal_count
turn_judged E ends_block ff (p ∷ ps) raw ln m = answered E (p ∷ ps) (turn_marks m)
turn_judged E (ends_summed h) ff [] raw ln m = refuses proposal_count
turn_judged E (ends_summed h) ff (p ∷ ps) raw ln m = cond (sum_right raw h) (answered E (p ∷ ps) (turn_marks m)) (refuses wrong_block_sum)
turn_judged E not_allowed ff ps raw ln m = refuses (turn_line_number not_allowed)
turn_judged E (proposes q) ff ps raw ln m =
    cond (ltb (length ps) block_limit) (goes_on (a_line (awaits_turn ff (ps ++ (q ∷ [])) (raw ++ with_cr ln))) m []) (refuses proposal_count)

-- ---------------------------------------------------------------- the partner's FS line

abbrev pub deferring : List ℕ → List Sign → List ℕ → List ℕ
deferring [] ss fl = fl
deferring (i ∷ is) [] fl = fl
deferring (i ∷ is) (accept ∷ ss) fl = deferring is ss fl
deferring (i ∷ is) (decline ∷ ss) fl = deferring is ss fl
deferring (i ∷ is) (defer ∷ ss) fl = deferring is ss (set fl i was_deferred)

-- "deferred at the FS line" (02, Q-3), and declined too: the records at these places, by the answers to them
abbrev pub answer_counts : List ℕ → List Sign → Counts → Counts
answer_counts is ss c = more_deferred (length (deferred_ones ss is)) (more_declined (length (declined_ones ss is)) c)

-- "`-` sets state 2 at the CR of a valid line. A deferred record stays 0. Accepted records are sent in order."
abbrev pub answer_marks : List ℕ → List Sign → Memory → Memory
answer_marks is ss m =
    with_states (declined is ss m.states)
    (with_sending (m.sending ++ accepted ss is) (with_deferred (deferring is ss m.deferred) (with_counts (answer_counts is ss m.counts) m)))

-- The level at which the partner's FS line is read.
abbrev pub level_in_force : Memory → Level
level_in_force m = m.terms.level

abbrev pub answer_judged : Shelf → List ℕ → Memory → ℕ → Option (List Sign) → Outcome
answer_judged E is m n none = refuses n
answer_judged E is m n (some ss) = goes_on (new_turn false) (answer_marks is ss m) (transfers_text E.table (accepted ss is))

-- ---------------------------------------------------------------- the opening

abbrev pub after_sid : Bool → Phase
after_sid true = a_line awaits_prompt
after_sid false = new_turn false

-- "Partner has B: framed mode, at any level. Otherwise plain mode."; "the level in force is the lower of the two, 0 without B" (02, Q-6)
abbrev pub with_sid : List ℕ → Memory → Memory
with_sid fs m = with_terms (with_level (sid.level_of_sid fs) m.terms) (with_framed (sid.framed fs) m)

abbrev pub sid_judged : Bool → Memory → Option (List ℕ) → Outcome
sid_judged caller m none = refuses not_sid
sid_judged caller m (some fs) = cond (has_feature letter_f fs) (goes_on (after_sid caller) (with_sid fs m) []) (refuses no_forwarding)

-- What the caller says at the prompt, before its first turn
abbrev pub our_sign_on : Memory → Bytes
our_sign_on m = with_cr (fixed_text our_sid)

-- "skip text lines until the prompt, then send SID and first turn"
abbrev pub text_judged : Shelf → Bool → Memory → Outcome
text_judged E true m = our_turn E (our_sign_on m) false m
text_judged E false m = goes_on (a_line awaits_prompt) m []

-- ---------------------------------------------------------------- a whole line

-- The line as it came, without its CR: "Spaces at the end are removed before a line is judged."
abbrev pub awaited_judged : Shelf → Awaited → Memory → Bytes → Outcome
awaited_judged E (awaits_sid c) m ln = sid_judged c m (read_sid (trim ln))
awaited_judged E awaits_prompt m ln = text_judged E (is_prompt (trim ln)) m
awaited_judged E (awaits_turn ff ps raw) m ln = turn_judged E (read_turn_line m.framed (trim ln)) ff ps raw ln m
awaited_judged E (awaits_answer is) m ln = answer_judged E is m (fs_number (level_in_force m) (length is) (trim ln)) (read_fs (level_in_force m) (length is) (trim ln))

-- "A line that begins with `;` is ignored wherever a line is awaited": what such a line comes to
abbrev pub comment_judged : Shelf → Awaited → Memory → Bytes → Outcome
comment_judged E a m ln = goes_on (a_line a) m []

abbrev pub line_judged : Shelf → Awaited → Memory → Bytes → Outcome
line_judged E a m ln = cond (is_comment (trim ln)) (comment_judged E a m ln) (awaited_judged E a m ln)

-- ---------------------------------------------------------------- a byte

pub record Stepped : Type 0 where
  pub answer : ℕ
  pub session : Session

-- "Besides ending the session": "give must still hand over one line and CR" (02, Q-1), and marks and kept messages stand as just before the refused
-- byte
abbrev pub refused : Session → ℕ → Stepped
refused s n = record { answer = n; session = between over false (error_text n) s.memory }

abbrev pub moved : Session → Stepped
moved s = record { answer = 0; session = s }

-- What the outcome of a whole line or transfer makes of the session; after_cr: it ended with a CR after which an LF is dropped.
abbrev pub settled : Session → Bool → Outcome → Stepped
settled s after_cr (refuses n) = refused s n
settled s after_cr (goes_on p m o) = moved (between p after_cr o m)

-- "A line ends with CR."; "a 257th byte of a line comes before CR"
abbrev pub line_moved : Shelf → Awaited → Session → ℕ → LineByte → Stepped
line_moved E a s b dropped = moved s
line_moved E a s b ends = settled s true (line_judged E a s.memory s.part)
line_moved E a s b grows = moved (with_part (s.part ++ (b ∷ [])) (with_after_cr false s))
line_moved E a s b overruns = refused s (line_byte_number overruns)

abbrev pub is_plain : TransferKind → Bool
is_plain plain_kind = true
is_plain framed_kind = false

abbrev pub kept_in : Memory → Message → Memory
kept_in m x = with_inbox (m.inbox ++ (x ∷ [])) m

-- "A message is kept at its last byte."; then the next transfer is awaited, or it is our turn
abbrev pub next_transfer : Shelf → List Proposal → Memory → Outcome
next_transfer E [] m = our_turn E [] false m
next_transfer E (p ∷ ps) m = goes_on (awaits_transfer p ps (scan_from (kind_due m p))) m []

-- "One LF directly after .. the CR that closes a plain transfer, is dropped"
abbrev pub transfer_moved : Shelf → Proposal → List Proposal → Session → Scanned → Stepped
transfer_moved E p ps s (goes sc) = moved (with_phase (awaits_transfer p ps sc) (with_after_cr false s))
transfer_moved E p ps s (got h x) =
    settled s (is_plain (kind_due s.memory p)) (next_transfer E ps (kept_in s.memory (message_of p (record { heading = h; body = x }))))
transfer_moved E p ps s malformed = refused s (scanned_number malformed)
transfer_moved E p ps s wrong_sum = refused s (scanned_number wrong_sum)
transfer_moved E p ps s no_room = refused s (scanned_number no_room)

-- "body byte without room, the 65,536th included": what the store has left for the message under way
abbrev pub room_for : Shelf → Memory → ℕ
room_for E m = min body_max (E.bytes - body_bytes m.inbox)

abbrev pub line_step : Shelf → Awaited → Session → ℕ → Stepped
line_step E a s b = line_moved E a s b (line_byte false (length s.part) b)

abbrev pub phase_step : Shelf → Phase → Session → ℕ → Stepped
phase_step E (a_line a) s b = line_step E a s b
phase_step E (awaits_transfer p ps sc) s b = transfer_moved E p ps s (scan_byte (room_for E s.memory) sc b)
phase_step E leaving s b = refused s session_ended
phase_step E over s b = refused s session_ended

-- "a byte arrives while bytes wait for give"
abbrev pub free_step : Shelf → Bytes → Session → ℕ → Stepped
free_step E (x ∷ xs) s b = refused s bytes_wait
free_step E [] s b = phase_step E s.phase s b

-- "One LF .. is dropped, also while bytes wait for give."; "then 12, 11, 2, then the rule of the line or transfer"
abbrev pub step : Shelf → Session → ℕ → Stepped
step E s b = cond (s.after_cr && eqb b LF) (moved (with_after_cr false s)) (free_step E s.out s b)

-- "FQ received ends the session at its CR"; "Our FQ ends it when give has handed out its CR."
abbrev pub ended_in : Phase → Bytes → Bool
ended_in (a_line a) o = false
ended_in (awaits_transfer p ps sc) o = false
ended_in leaving o = null o
ended_in over o = true

abbrev pub ended : Session → Bool
ended s = ended_in s.phase s.out

-- ---------------------------------------------------------------- at open

-- "Called: we send it, CR, `>`, CR, and await the caller's SID"; "Caller: we await the SID"
abbrev pub greeting : Bool → Bytes
greeting true = []
greeting false = with_cr (fixed_text our_sid) ++ with_cr (fixed_text our_prompt)

-- The session right after an accepted open: the role (true: caller) and the states that open found.
abbrev pub opened : Bool → List ℕ → Session
opened caller states =
    between (a_line (awaits_sid caller)) false (greeting caller)
    (record { framed = false; terms = record { level = level0 }; states = states; sending = []; inbox = []; deferred = replicate record_limit not_deferred; counts = no_counts })
