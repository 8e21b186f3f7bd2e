-- DEMAND 2, WHAT A BYTE DOES where it is not refused: every case, with what is awaited, what is kept and what waits for give after it, in
-- 01's order. `happens` of proofs/Events shows that each leaves the session that it names, `complete` of proofs/Refusals that a byte that is answered 0
-- does one of these things and no other (`complete_reached` of proofs/Reached: in every session that is reached).
use Rattle.std.specs.Prelude.{◌≡◌, Bool, true, false, List, [], ◌∷◌, ◌++◌, ℕ, ◌+◌, ◌%◌, ◌<◌, eqb, length}
use Rattle.std.proofs.Math.Option.{some}
use Rattle.grammar.specs.Bytes.{Bytes, byte_values, CR}
use Rattle.grammar.specs.Ascii.{text}
use Rattle.grammar.specs.Lines.{trim, is_comment, is_prompt}
use Rattle.grammar.specs.Sid.{read_sid, has_feature, framed}
use Rattle.grammar.specs.Turns.{Proposal, TurnLine, says_ff, says_fq, ends_block, proposes, ends_summed, read_turn_line, proposal_line, fixed_text, our_sid, our_ff, our_fq, with_cr}
use Rattle.grammar.specs.Answers.{Sign, accept, read_fs, fs_line}
use Rattle.grammar.specs.Transfers.{TransferKind, plain_kind, framed_kind, parse, byte_sum}
use Rattle.grammar.specs.Scan.{Scan, goes, scan, scan_from}
use Rattle.mail.specs.Mail.{Record, Message, proposal_of, transfer_of, record_at}
use Rattle.session.specs.Choices.{Shelf, chosen, answers_to}
use Rattle.session.specs.Session.{awaits_sid, awaits_prompt, awaits_turn, awaits_answer, Phase, a_line, new_turn, awaits_transfer, leaving, over, Memory, Session, with_level, with_framed, with_terms, with_inbox, with_counts, with_phase, with_part, with_after_cr, between}
use Rattle.demand2.specs.Limits.{kind_due, line_limit, block_limit, letter_f, level_between, level_in_force}
use Rattle.demand2.specs.Room.{Fits, room}
use Rattle.demand2.specs.Marks.{with_sign, AnswerLeaves, TurnLeaves}
use Rattle.demand2.specs.Refusals.{is_dropped, Heeded, awaits_line, WholeLine, TurnSaid, TransferByte}

-- "kept, with its proposal's form and fields as read, and its own heading and body"
abbrev pub message_from : Proposal → Bytes → Bytes → Message
message_from p heading body =
    record { form = p.form; type = p.type; from = p.from; at = p.at; to = p.to; bid = p.bid; heading = heading; body = body }

-- "A message is kept at its last byte.": after those that are kept, all else is as it was
abbrev pub with_message : Memory → Message → Memory
with_message m x = with_inbox (m.inbox ++ (x ∷ [])) m

-- "Partner has B: framed mode, at any level. Otherwise plain mode.", and the level in force; all else is as it was
abbrev pub met_by : List ℕ → Memory → Memory
met_by fs m = with_terms (with_level (level_between fs) m.terms) (with_framed (framed fs) m)

-- "One LF directly after .. the CR that closes a plain transfer, is dropped"; a framed one is closed by its checksum
abbrev pub ends_with_cr : TransferKind → Bool
ends_with_cr plain_kind = true
ends_with_cr framed_kind = false

-- ---------------------------------------------------------------- our turn

-- The places of the records that we propose now (specs/OurTurn says which these are).
abbrev pub proposed : Shelf → Memory → List ℕ
proposed E m = chosen E.table m.framed m.states m.deferred

-- "one to five proposals and `F>`", of the records at these places (specs/ReadBack says what each line reads as)
abbrev pub block_text : List Record → List ℕ → Bytes
block_text T [] = with_cr (text "F>")
block_text T (i ∷ is) = with_cr (proposal_line (proposal_of (record_at T i))) ++ block_text T is

-- "Accepted records are sent in order.": the transfers of the records at these places (specs/ReadBack says what each reads as)
abbrev pub transfers_said : List Record → List ℕ → Bytes
transfers_said T [] = []
transfers_said T (i ∷ is) = transfer_of (record_at T i) ++ transfers_said T is

-- "A turn is `FF`, or one to five proposals and `F>`. .. If none remains: FF, or FQ if the partner's turn just now was FF."
abbrev pub turn_said : Shelf → Bool → List ℕ → Bytes
turn_said E true [] = with_cr (fixed_text our_fq)
turn_said E false [] = with_cr (fixed_text our_ff)
turn_said E ff (i ∷ is) = block_text E.table (i ∷ is)

-- After FQ nothing more, after FF the partner's turn, after proposals its FS line is awaited.
abbrev pub turn_awaits : Bool → List ℕ → Phase
turn_awaits true [] = leaving
turn_awaits false [] = new_turn true
turn_awaits ff (i ∷ is) = a_line (awaits_answer (i ∷ is))

-- "Proposed counts at the received byte that our turn answers" (02, Q-3): the records at these places, none for FF and FQ; all else is as it was
abbrev pub counts_proposed : List ℕ → Memory → Memory
counts_proposed is m =
    with_counts
    (record {
      proposed = m.counts.proposed + length is;
      forwarded = m.counts.forwarded;
      declined = m.counts.declined;
      deferred = m.counts.deferred;
    })
    m

-- Our turn, said after o; ff: the partner's turn just now was FF
abbrev pub we_speak : Shelf → Bool → Bool → Bytes → Memory → Session
we_speak E after_cr ff o m = between (turn_awaits ff (proposed E m)) after_cr (o ++ turn_said E ff (proposed E m)) (counts_proposed (proposed E m) m)

-- "The right to propose passes to whoever sent the FS.": o waits; the transfers of these proposals are awaited, or else it is our turn
abbrev pub transfers_or : Shelf → Bool → Bytes → List Proposal → Memory → Session
transfers_or E after_cr o [] m = we_speak E after_cr false o m
transfers_or E after_cr o (p ∷ ps) m = between (awaits_transfer p ps (scan_from (kind_due m p))) after_cr o m

-- The end of a block of which raw are the proposal lines as received: "A bare `F>` is still taken."; "The sum of all bytes of the block's proposal
-- lines as received, their CR included, .. plus HH must be 0 modulo 256." (02, Q-5)
pub data EndsBlock (raw : Bytes) : TurnLine → Type 0 where
  bare : EndsBlock raw ends_block
  summed : (h : ℕ) → (byte_sum raw + h) % byte_values ≡ 0 → EndsBlock raw (ends_summed h)

-- "then send SID and first turn": what the caller says at the prompt, before its turn
abbrev pub sign_on_said : Memory → Bytes
sign_on_said m = with_cr (fixed_text our_sid)

-- ---------------------------------------------------------------- THE EVENTS

-- The byte b comes to the session s, and then the session is the one named; q: the bytes so far of the transfer under way
pub data Happens (E : Shelf) (q : Bytes) (s : Session) (b : ℕ) : Session → Type 0 where
  -- "One LF .. is dropped"
  lf_goes : is_dropped s b ≡ true → Happens E q s b (with_after_cr false s)
  -- a byte of a line
  line_grows : Heeded s b → awaits_line s.phase ≡ true → eqb b CR ≡ false → length s.part < line_limit
      → Happens E q s b (with_part (s.part ++ (b ∷ [])) (with_after_cr false s))
  -- "A line that begins with `;` is ignored"
  ignored : Heeded s b → awaits_line s.phase ≡ true → b ≡ CR → is_comment (trim s.part) ≡ true
      → Happens E q s b (between s.phase true [] s.memory)
  -- the SID: "Called: we .. await the caller's SID, then its first turn."
  sid_of_caller : (line : Bytes) → WholeLine s b line → s.phase ≡ a_line (awaits_sid false) → (fs : List ℕ) → read_sid line ≡ some fs → has_feature letter_f fs ≡ true
      → Happens E q s b (between (new_turn false) true [] (met_by fs s.memory))
  -- "Caller: we await the SID, skip text lines until the prompt"
  sid_of_called : (line : Bytes) → WholeLine s b line → s.phase ≡ a_line (awaits_sid true) → (fs : List ℕ) → read_sid line ≡ some fs → has_feature letter_f fs ≡ true
      → Happens E q s b (between (a_line awaits_prompt) true [] (met_by fs s.memory))
  text_line : (line : Bytes) → WholeLine s b line → s.phase ≡ a_line awaits_prompt → is_prompt line ≡ false
      → Happens E q s b (between (a_line awaits_prompt) true [] s.memory)
  -- "then send SID and first turn"
  prompt : (line : Bytes) → WholeLine s b line → s.phase ≡ a_line awaits_prompt → is_prompt line ≡ true
      → Happens E q s b (we_speak E true false (sign_on_said s.memory) s.memory)
  -- a proposal of the partner's; its line as received, and its CR, are among those that a checksum sums
  proposal : (line : Bytes) (ff : Bool) (ps : List Proposal) {raw : Bytes} → TurnSaid s b ff ps raw line → (p : Proposal)
      → read_turn_line s.memory.framed line ≡ proposes p → length ps < block_limit
      → Happens E q s b (between (a_line (awaits_turn ff (ps ++ (p ∷ [])) (raw ++ with_cr s.part))) true [] s.memory)
  -- its FF: "State 1 is set at the CR that ends the partner's next whole valid turn.", then our turn
  ff_turn : (line : Bytes) {raw : Bytes} → TurnSaid s b false [] raw line → read_turn_line s.memory.framed line ≡ says_ff → (after : Memory) → TurnLeaves s.memory after
      → Happens E q s b (we_speak E true true [] after)
  -- "FQ received ends the session at its CR"
  fq_turn : (line : Bytes) {raw : Bytes} → TurnSaid s b true [] raw line → read_turn_line s.memory.framed line ≡ says_fq
      → Happens E q s b (between over true [] s.memory)
  -- its F>: the same marks, and our FS line waits
  block_end : (line : Bytes) (ff : Bool) (p : Proposal) (ps : List Proposal) {raw : Bytes} → TurnSaid s b ff (p ∷ ps) raw line
      → EndsBlock raw (read_turn_line s.memory.framed line) → (after : Memory) → TurnLeaves s.memory after
      → Happens E q s b
      (transfers_or E true (with_cr (fs_line (answers_to E s.memory.inbox (p ∷ ps)))) (with_sign accept (p ∷ ps) (answers_to E s.memory.inbox (p ∷ ps))) after)
  -- its FS line: "`-` sets state 2 .. Accepted records are sent in order.", then its turn
  fs_line_comes : (line : Bytes) (is : List ℕ) → WholeLine s b line → s.phase ≡ a_line (awaits_answer is) → (ss : List Sign) → read_fs (level_in_force s.memory) (length is) line ≡ some ss
      → (after : Memory) → AnswerLeaves is ss s.memory after
      → Happens E q s b (between (new_turn false) true (transfers_said E.table (with_sign accept is ss)) after)
  -- a byte of a transfer
  transfer_grows : (p : Proposal) (reading onward : Scan) → (t : TransferByte s b p reading)
      → scan (room E s.memory.inbox) (kind_due s.memory p) (q ++ (b ∷ [])) ≡ goes onward
      → Happens E q s b (with_phase (awaits_transfer p t.others onward) (with_after_cr false s))
  -- its last byte: "A message is kept at its last byte."; an LF after it is dropped if it is plain
  transfer_whole : (p : Proposal) (reading : Scan) → (t : TransferByte s b p reading) → (heading body : Bytes)
      → parse (kind_due s.memory p) (q ++ (b ∷ [])) ≡ some (record { heading = heading; body = body; right = true }) → Fits E s.memory.inbox body
      → Happens E q s b (transfers_or E (ends_with_cr (kind_due s.memory p)) [] t.others (with_message s.memory (message_from p heading body)))
