-- A whole line judged by what is awaited, on the state as session memory holds it. That this is what crates/session says, on lists, is
-- proved in crates/represents.
use Rattle.std.specs.Prelude.{Bool, false, cond, List, [], ◌∷◌, ℕ, suc, ◌+◌, ◌*◌, ◌%◌, eqb, ltb, length, set, drop}
use Rattle.std.proofs.Math.Option.{Option, none, some}
use Rattle.grammar.specs.Bytes.{Bytes, byte_values}
use Rattle.grammar.specs.Refusals.{not_sid, no_forwarding, line_not_allowed, proposal_count, wrong_block_sum}
use Rattle.grammar.specs.Fields.{form_number}
use Rattle.grammar.specs.Lines.{trim, is_comment, is_prompt}
use Rattle.grammar.specs.Sid.{read_sid, has_feature, framed, level_of_sid, letter_f}
use Rattle.grammar.specs.Turns.{Proposal, TurnLine, says_ff, says_fq, ends_block, not_allowed, proposes, ends_summed, read_turn_line, turn_line_number, with_cr}
use Rattle.grammar.specs.Transfers.{byte_sum}
use Rattle.grammar.specs.Answers.{accept, decline, defer, write_sign}
use Rattle.fs_line.specs.Answers.{answer_number, answer_signs}
use Rattle.buffer.specs.Put.{put_bytes}
use Rattle.layout.specs.Layout.{byte_at, entry_at, proposal_out}
use Rattle.transfer_step.specs.declared.Reader.{Reader}
use Rattle.transfer_step.specs.Step.{start_of}
use Rattle.session_memory.specs.State.{cursor_at, held, five_of, no_five}
use Rattle.session_memory.specs.Setters.{with_phase, with_ff, with_current, with_proposals, with_ours, with_sum, with_first, with_then, with_signs, with_framed, with_level, with_sending, with_reader, with_now, with_say, with_keep, with_reading}
use Rattle.session_memory.specs.declared.Five.{Five}
use Rattle.session_memory.specs.Session.{Await}
use Rattle.session_memory.specs.declared.Say.{Say}
use Rattle.session_memory.specs.Session.{Keep}
use Rattle.session_memory.specs.Session.{Session}
use Rattle.phase.specs.Phase.{phase_called_sid, phase_caller_sid, phase_prompt, phase_turn, phase_fs, phase_transfer, phase_over, piece_sid, piece_signs, piece_transfers, not_our_turn, our_turn_now, our_turn_after_ff, state_waiting, state_forwarded, state_declined, block_limit, no_proposal, was_deferred}
use Rattle.places.specs.Places.{form_at, proposal_len}
use Rattle.our_answer.specs.Answers.{answers_of}
use Rattle.line_effect.specs.declared.Marks.{Marks}
use Rattle.line_effect.specs.Judged.{Judged}

-- ---------------------------------------------------------------- changes of the state

abbrev pub no_marks : Marks
no_marks = record { state = state_waiting; places = no_five; deferred = 0 }

abbrev pub judged : ℕ → ℕ → Marks → Session → Judged
judged answer speaks m s = record { answer = answer; speaks = speaks; marks = m; next = s }

abbrev pub refusal : ℕ → Session → Judged
refusal n s = judged n not_our_turn no_marks s

abbrev pub went_on : Session → Judged
went_on s = judged 0 not_our_turn no_marks s

abbrev pub in_phase : ℕ → Await → Await
in_phase p w = with_phase p w

-- The partner's turn is awaited, with no line of it yet; ff: our turn just now was FF.
abbrev pub to_turn : Bool → Await → Await
to_turn ff w = with_phase phase_turn (with_ff ff (with_sum 0 (with_proposals 0 w.block w)))

-- The FS line on our records at these places is awaited.
abbrev pub to_answer : Five → Await → Await
to_answer places w = with_phase phase_fs (with_ours places w)

-- The transfer of the proposal at this place of the block is awaited.
abbrev pub to_transfer : ℕ → Await → Await
to_transfer i w = with_phase phase_transfer (with_current i w)

abbrev pub says_first : ℕ → Say → Say
says_first n y = with_first n y

abbrev pub says_then : ℕ → Say → Say
says_then n y = with_then n y

abbrev pub says_signs : Five → Say → Say
says_signs f y = with_first piece_signs (with_signs f y)

-- The mode and the level in force, which the partner's SID settles.
abbrev pub with_mode : Bool → ℕ → Keep → Keep
with_mode md v k = with_level v (with_framed md k)

abbrev pub sends : Five → Bytes → Keep → Keep
sends f flags k = with_sending f flags k

-- ---------------------------------------------------------------- SID and text lines

abbrev pub after_sid : Await → Await
after_sid w = cond (eqb w.phase phase_caller_sid) (in_phase phase_prompt w) (to_turn false w)

abbrev pub sid_taken : Option (List ℕ) → Session → Judged
sid_taken none s = refusal not_sid s
sid_taken (some fs) s =
    cond (has_feature letter_f fs) (went_on (with_now (after_sid s.now) (with_keep (with_mode (framed fs) (level_of_sid fs) s.keep) s))) (refusal no_forwarding s)

unfoldable pub sid_line : Bytes → Session → Judged
sid_line ln s = sid_taken (read_sid ln) s

-- What the caller says at the prompt, before its first turn
abbrev pub sign_on_piece : Session → ℕ
sign_on_piece s = piece_sid

unfoldable pub text_line : Bytes → Session → Judged
text_line ln s = cond (is_prompt ln) (judged 0 our_turn_now no_marks (with_say (says_first (sign_on_piece s) s.say) s)) (went_on s)

-- ---------------------------------------------------------------- lines of a turn

-- At the end of a turn what was being sent is forwarded.
abbrev pub turn_marks : Keep → Marks
turn_marks k = record { state = state_forwarded; places = k.sending; deferred = 0 }

abbrev pub settled_keep : Keep → Keep
settled_keep k = sends no_five k.deferred k

-- The first `+` from place i on, where the list begins.
abbrev pub plus_from : ℕ → List ℕ → ℕ
plus_from i [] = no_proposal
plus_from i (x ∷ xs) = cond (eqb x (write_sign accept)) i (plus_from (suc i) xs)

unfoldable pub next_accepted : Five → ℕ → ℕ
next_accepted signs i = plus_from i (drop i (held signs))

unfoldable pub reader_for : Await → ℕ → Reader
reader_for w i = start_of (byte_at (entry_at proposal_len w.block i) form_at)

-- The partner's turn is whole, and we speak next or not.
abbrev pub whole_turn : ℕ → Session → Judged
whole_turn speaks s = judged 0 speaks (turn_marks s.keep) (with_keep (settled_keep s.keep) s)

-- The block is answered by these signs: the transfer of the proposal at place i is awaited, or it is our turn.
abbrev pub answered : Five → ℕ → Session → Judged
answered signs i s =
    cond (eqb i no_proposal) (whole_turn our_turn_now (with_say (says_signs signs s.say) s))
    (whole_turn not_our_turn (with_now (to_transfer i s.now) (with_say (says_signs signs s.say) (with_reading (with_reader (reader_for s.now i) s.reading) s))))

unfoldable pub end_line : Session → Bytes → Bytes → Bytes → ℕ → Judged
end_line s table known inbox store =
    cond (eqb s.now.proposals 0) (refusal proposal_count s)
    (answered (answers_of s.now s.keep table known inbox store) (next_accepted (answers_of s.now s.keep table known inbox store) 0) s)

-- "plus HH must be 0 modulo 256" (02, Q-5): 13, "tested after 5 and 6 and before any answer is formed"; h: HH
unfoldable pub summed_line : ℕ → Session → Bytes → Bytes → Bytes → ℕ → Judged
summed_line h s table known inbox store =
    cond (eqb s.now.proposals 0) (refusal proposal_count s)
    (cond (eqb ((s.now.sum + h) % byte_values) 0) (end_line s table known inbox store) (refusal wrong_block_sum s))

-- "The sum of all bytes .. as received, their CR included" (02, Q-5), of one line, modulo 256
unfoldable pub line_sum : Bytes → ℕ
line_sum ln = byte_sum (with_cr ln) % byte_values

-- n: the sum of the proposal's line
abbrev pub with_proposal : Proposal → ℕ → Await → Await
with_proposal q n w =
    with_sum ((w.sum + n) % byte_values)
    (with_proposals (w.proposals + 1)
    (put_bytes w.block (cursor_at (w.proposals * proposal_len)) (proposal_out (form_number q.form) q.type q.from q.at q.to q.bid q.size)) w)

unfoldable pub proposal_taken : Proposal → ℕ → Session → Judged
proposal_taken q n s = cond (ltb s.now.proposals block_limit) (went_on (with_now (with_proposal q n s.now) s)) (refusal proposal_count s)

unfoldable pub ff_line : Session → Judged
ff_line s =
    cond (eqb s.now.proposals 0) (cond s.now.ff (refusal line_not_allowed s) (whole_turn our_turn_after_ff s)) (refusal line_not_allowed s)

unfoldable pub fq_line : Session → Judged
fq_line s =
    cond (eqb s.now.proposals 0) (cond s.now.ff (went_on (with_now (in_phase phase_over s.now) s)) (refusal line_not_allowed s)) (refusal line_not_allowed s)

abbrev pub turn_read : TurnLine → ℕ → Session → Bytes → Bytes → Bytes → ℕ → Judged
turn_read says_ff n s table known inbox store = ff_line s
turn_read says_fq n s table known inbox store = fq_line s
turn_read ends_block n s table known inbox store = end_line s table known inbox store
turn_read not_allowed n s table known inbox store = refusal (turn_line_number not_allowed) s
turn_read (proposes q) n s table known inbox store = proposal_taken q n s
turn_read (ends_summed h) n s table known inbox store = summed_line h s table known inbox store

-- The line as it came: its sum is of all its bytes.
unfoldable pub turn_line : Bytes → Session → Bytes → Bytes → Bytes → ℕ → Judged
turn_line ln s table known inbox store = turn_read (read_turn_line s.keep.framed (trim ln)) (line_sum ln) s table known inbox store

-- ---------------------------------------------------------------- the FS line

-- Those of the places whose sign byte is c, in order.
abbrev pub picked : ℕ → List ℕ → List ℕ → List ℕ
picked c [] ss = []
picked c (x ∷ xs) [] = []
picked c (x ∷ xs) (s ∷ ss) = cond (eqb s c) (x ∷ picked c xs ss) (picked c xs ss)

-- The flags once the records at these places are deferred.
abbrev pub flagged : List ℕ → Bytes → Bytes
flagged [] flags = flags
flagged (i ∷ is) flags = flagged is (set flags i was_deferred)

abbrev pub transfers_after : Five → Say → Say
transfers_after f y = cond (ltb 0 f.count) (says_then piece_transfers y) y

abbrev pub answer_taken : Bytes → Session → Judged
answer_taken ss s =
    judged 0 not_our_turn
    (record { state = state_declined; places = five_of (picked (write_sign decline) (held s.now.ours) ss); deferred = length (picked (write_sign defer) (held s.now.ours) ss) })
    (with_now (to_turn false s.now)
    (with_say (transfers_after (five_of (picked (write_sign accept) (held s.now.ours) ss)) s.say)
    (with_keep (sends (five_of (picked (write_sign accept) (held s.now.ours) ss)) (flagged (picked (write_sign defer) (held s.now.ours) ss) s.keep.deferred) s.keep) s)))

unfoldable pub answer_line : Bytes → Session → Judged
answer_line ln s =
    cond (eqb (answer_number s.keep.terms.level s.now.ours.count ln) 0)
    (answer_taken (answer_signs s.keep.terms.level s.now.ours.count ln) s)
    (refusal (answer_number s.keep.terms.level s.now.ours.count ln) s)

-- ---------------------------------------------------------------- any line

-- "Spaces at the end are removed before a line is judged."
abbrev pub line_by : ℕ → Bytes → Session → Bytes → Bytes → Bytes → ℕ → Judged
line_by p ln s table known inbox store =
    cond (eqb p phase_called_sid) (sid_line (trim ln) s)
    (cond (eqb p phase_caller_sid) (sid_line (trim ln) s)
    (cond (eqb p phase_prompt) (text_line (trim ln) s)
    (cond (eqb p phase_turn) (turn_line ln s table known inbox store)
    (cond (eqb p phase_fs) (answer_line (trim ln) s)
    (refusal line_not_allowed s)))))

-- "A line that begins with `;` is ignored wherever a line is awaited"
unfoldable pub comment_line : Bytes → Session → Judged
comment_line ln s = went_on s

-- A line as it came, without its CR; the slices are the table, the known BIDs and the inbox, store is the inbox store's size.
unfoldable pub judge_of : Bytes → Session → Bytes → Bytes → Bytes → ℕ → Judged
judge_of ln s table known inbox store =
    cond (is_comment (trim ln)) (comment_line (trim ln) s) (line_by s.now.phase ln s table known inbox store)
