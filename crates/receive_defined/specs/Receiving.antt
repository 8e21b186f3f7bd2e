-- 01, "receive (bytes from the link)": a byte at a time on the state as session memory holds it and on the lent bytes, then the call, for
-- any memory. That this is what crates/session says, on lists, is proved in crates/represents.
use Rattle.std.specs.Prelude.{Bool, true, false, cond, not, ◌&&◌, ◌||◌, [], ◌∷◌, ◌++◌, ℕ, suc, ◌+◌, ◌*◌, eqb, length, set, take, drop}
use Rattle.grammar.specs.Bytes.{Bytes, LF}
use Rattle.grammar.specs.Refusals.{bad_memory, bytes_wait, session_ended, no_place}
use Rattle.grammar.specs.Lines.{LineByte, dropped, ends, grows, overruns, line_byte, line_byte_number}
use Rattle.grammar.specs.Fields.{plain, form_number}
use Rattle.buffer.specs.Put.{put_bytes}
use Rattle.layout.specs.Layout.{byte_at, entry_at, entry_out}
use Rattle.phase.specs.Phase.{phase_transfer, phase_over, piece_none, not_our_turn, our_turn_now, no_proposal}
use Rattle.places.specs.Places.{form_at, entry_len, proposal_len}
use Rattle.transfer_step.specs.declared.Reader.{Reader}
use Rattle.transfer_step.specs.Outcome.{ReadOutcome, More, Whole, Malformed, WrongSum, NoRoom, ReadStep}
use Rattle.transfer_step.specs.Step.{outcome_number, step_of}
use Rattle.transfer_read.specs.Feed.{heading_put, store_put, room_of}
use Rattle.session_memory.specs.State.{cursor_at, held, load_of, save_of}
use Rattle.session_memory.specs.Setters.{with_first, with_then, with_pos, with_kept, with_reader, with_bytes, with_after_cr, with_now, with_say, with_keep, with_reading, with_line, with_tally}
use Rattle.session_memory.specs.declared.Say.{Say}
use Rattle.session_memory.specs.Session.{Keep}
use Rattle.session_memory.specs.Session.{Session}
use Rattle.marking.specs.States.{mark_all}
use Rattle.receive_defined.specs.Tallied.{tallied_of}
use Rattle.line_effect.specs.Judge.{no_marks, judged, in_phase, to_transfer, next_accepted, reader_for, judge_of}
use Rattle.our_turn.specs.Turn.{speak_of}
use Rattle.line_effect.specs.Judged.{Judged}
use Rattle.pending.specs.Pending.{waits, over_of, error_piece}
use Rattle.form_test.specs.Form.{form_of}
use Rattle.give.specs.Giving.{reply}
use Rattle.give.specs.declared.Reply.{Reply}

-- The state with the lent bytes that a receive may change.
pub record Cs : Type 0 where
  pub session : Session
  pub table : Bytes
  pub inbox : Bytes
  pub store : Bytes

pub record Moved : Type 0 where
  pub answer : ℕ
  pub cs : Cs

abbrev pub cs : Session → Bytes → Bytes → Bytes → Cs
cs s table inbox store = record { session = s; table = table; inbox = inbox; store = store }

abbrev pub moved : ℕ → Cs → Moved
moved n c = record { answer = n; cs = c }

-- ---------------------------------------------------------------- what a whole line or transfer leaves

-- After a refusal with this number: the session is over, the line that says why waits (02, Q-1), and what is kept stands
unfoldable pub refused_of : ℕ → Session → Session
refused_of n s =
    with_now (in_phase phase_over s.now) (with_say (with_first (error_piece n) (with_then piece_none (with_pos 0 s.say))) (with_line (with_after_cr false (with_bytes 0 s.line.bytes s.line)) s))

-- What is said is not given yet.
abbrev pub unsaid : Say → Say
unsaid y = with_pos 0 y

-- A new line begins.
abbrev pub after_line : Bool → Session → Session
after_line after_cr s = with_say (unsaid s.say) (with_line (with_after_cr after_cr (with_bytes 0 s.line.bytes s.line)) s)

-- our turn, if it is
abbrev pub spoken_of : Judged → Bool → Bytes → Session
spoken_of j after_cr table = after_line after_cr (speak_of j.speaks j.next table)

pub record LineDone : Type 0 where
  pub answer : ℕ
  pub session : Session
  pub table : Bytes

abbrev pub line_done : ℕ → Session → Bytes → LineDone
line_done n s table = record { answer = n; session = s; table = table }

-- The table with what was judged marked in the partner's column.
abbrev pub marked_by : Judged → Bytes → Bytes
marked_by j table = mark_all j.next.keep.terms.partner (held j.marks.places) j.marks.state table

-- s after our turn, if it is, with what that and the marks count.
abbrev pub counted_of : Judged → Bytes → Session → Session
counted_of j table s = with_tally (tallied_of j s.now table) s

-- Marks first, then our turn; both are counted.
unfoldable pub settle_of : Judged → Bool → Bytes → LineDone
settle_of j after_cr table =
    cond (eqb j.answer 0)
    (line_done 0 (counted_of j (marked_by j table) (spoken_of j after_cr (marked_by j table))) (marked_by j table))
    (line_done j.answer (refused_of j.answer j.next) table)

-- ---------------------------------------------------------------- a byte of a line

abbrev pub longer : Session → ℕ → Session
longer s b = with_line (with_after_cr false (with_bytes (s.line.len + 1) (set s.line.bytes s.line.len b) s.line)) s

abbrev pub line_moved : LineByte → Session → ℕ → Bytes → Bytes → Bytes → ℕ → LineDone
line_moved dropped s b table known inbox store = line_done 0 s table
line_moved ends s b table known inbox store =
    settle_of (judge_of (take s.line.len s.line.bytes) s table known inbox store) true table
line_moved grows s b table known inbox store = line_done 0 (longer s b) table
line_moved overruns s b table known inbox store = line_done (line_byte_number overruns) (refused_of (line_byte_number overruns) s) table

unfoldable pub line_step_of : Session → ℕ → Bytes → Bytes → Bytes → ℕ → LineDone
line_step_of s b table known inbox store = line_moved (line_byte false s.line.len b) s b table known inbox store

-- ---------------------------------------------------------------- a whole transfer

abbrev pub kept_keep : Session → Keep
kept_keep s = with_kept (s.keep.kept + 1) (s.keep.used + s.reading.reader.body) s.keep

-- the next accepted proposal's transfer, or our turn
abbrev pub next_judged : Session → ℕ → Judged
next_judged s i =
    cond (eqb i no_proposal)
    (judged 0 our_turn_now no_marks (with_keep (kept_keep s) s))
    (judged 0 not_our_turn no_marks (with_now (to_transfer i s.now) (with_keep (kept_keep s) (with_reading (with_reader (reader_for s.now i) s.reading) s))))

-- "A message is kept at its last byte.": its entry in the inbox
unfoldable pub kept_inbox : Session → Bytes → Bytes
kept_inbox s inbox =
    put_bytes inbox (cursor_at (s.keep.kept * entry_len))
    (entry_out (entry_at proposal_len s.now.block s.now.current) (take s.reading.reader.head s.reading.heading) s.keep.used s.reading.reader.body)

abbrev pub is_plain_at : Session → Bool
is_plain_at s = eqb (byte_at (entry_at proposal_len s.now.block s.now.current) form_at) (form_number plain)

unfoldable pub keep_of : Session → Bytes → LineDone
keep_of s table = settle_of (next_judged s (next_accepted s.say.signs (s.now.current + 1))) (is_plain_at s) table

-- ---------------------------------------------------------------- a byte of a transfer

-- the reading goes on
abbrev pub reading : Session → Reader → Bytes → Session
reading s r heading = with_reading (record { reader = r; heading = heading }) (with_line (with_after_cr false s.line) s)

-- s: the session with the reading after the byte
abbrev pub transfer_moved : ReadOutcome → Session → Bytes → Bytes → Bytes → Moved
transfer_moved More s table inbox store = moved 0 (cs s table inbox store)
transfer_moved Whole s table inbox store = moved (keep_of s table).answer (cs (keep_of s table).session (keep_of s table).table (kept_inbox s inbox) store)
transfer_moved Malformed s table inbox store = moved (outcome_number Malformed) (cs (refused_of (outcome_number Malformed) s) table inbox store)
transfer_moved WrongSum s table inbox store = moved (outcome_number WrongSum) (cs (refused_of (outcome_number WrongSum) s) table inbox store)
transfer_moved NoRoom s table inbox store = moved (outcome_number NoRoom) (cs (refused_of (outcome_number NoRoom) s) table inbox store)

-- The message under way lies in the store after the bytes that kept messages use.
abbrev pub transfer_step : Cs → ℕ → ReadStep → Moved
transfer_step c b t =
    transfer_moved t.outcome
    (reading c.session t.reader (heading_put t.put c.session.reading.reader b c.session.reading.heading))
    c.table c.inbox
    (take c.session.keep.used c.store ++ store_put t.put c.session.reading.reader b (drop c.session.keep.used c.store))

unfoldable pub transfer_step_of : Cs → ℕ → Moved
transfer_step_of c b = transfer_step c b (step_of (room_of (drop c.session.keep.used c.store)) c.session.reading.reader b)

-- ---------------------------------------------------------------- a byte

abbrev pub lf_dropped : Session → Session
lf_dropped s = with_line (with_after_cr false s.line) s

abbrev pub line_byte_of : Bytes → Cs → ℕ → Moved
line_byte_of known c b =
    let t = line_step_of c.session b c.table known c.inbox (length c.store) in
    moved t.answer (cs t.session t.table c.inbox c.store)

-- "One LF .. is dropped, also while bytes wait for give."; "then 12, 11, 2, then the rule of the line or transfer"
unfoldable pub byte_of : Bytes → Cs → ℕ → Moved
byte_of known c b =
    cond (c.session.line.after_cr && eqb b LF) (moved 0 (cs (lf_dropped c.session) c.table c.inbox c.store))
    (cond (waits c.session.say) (moved bytes_wait (cs (refused_of bytes_wait c.session) c.table c.inbox c.store))
    (cond (eqb c.session.now.phase phase_transfer) (transfer_step_of c b) (line_byte_of known c b)))

-- ---------------------------------------------------------------- the call

pub record Run : Type 0 where
  pub answer : ℕ
  pub count : ℕ
  pub cs : Cs

abbrev pub run_with : ℕ → ℕ → Cs → Run
run_with answer count c = record { answer = answer; count = count; cs = c }

abbrev pub stops : Moved → Bool
stops m = not (eqb m.answer 0) || over_of m.cs.session

-- n bytes are consumed; "the refused byte is the last one counted"
unfoldable pub receive_from : Bytes → Cs → ℕ → Bytes → Run
receive_from known c n [] = run_with 0 n c
receive_from known c n (b ∷ bs) =
    let m = byte_of known c b in
    let r = receive_from known m.cs (suc n) bs in
    cond (stops m) (run_with m.answer (suc n) m.cs) r

-- The reply and the lent memory after a receive.
pub record Received : Type 0 where
  pub reply : Reply
  pub sm : Bytes
  pub table : Bytes
  pub inbox : Bytes
  pub store : Bytes

abbrev pub unchanged : Reply → Bytes → Bytes → Bytes → Bytes → Received
unchanged r sm table inbox store = record { reply = r; sm = sm; table = table; inbox = inbox; store = store }

abbrev pub saved : Bytes → Run → Received
saved sm r =
    record { reply = reply r.answer 0 r.count; sm = save_of sm r.cs.session; table = r.cs.table; inbox = r.cs.inbox; store = r.cs.store }

-- "Receiving no bytes on a live session answers 0 and changes nothing."
unfoldable pub receive_of : Bytes → Bytes → Bytes → Bytes → Bytes → Bytes → Bytes → Bytes → Bytes → Received
receive_of sm table titles names bodies known inbox store bs =
    cond (form_of sm table titles names bodies known inbox store)
    (cond (over_of (load_of sm)) (unchanged (reply session_ended 0 0) sm table inbox store)
    (cond (eqb (length bs) 0) (unchanged (reply 0 0 0) sm table inbox store)
    (saved sm (receive_from known (cs (load_of sm) table inbox store) 0 bs))))
    (unchanged (reply bad_memory no_place 0) sm table inbox store)
