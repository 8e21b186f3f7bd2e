-- DEMAND 2, REFUSALS: for each number of 01's table "The numbers given back", the situation in which it is given, as a fact about the session
-- just before the byte, and the byte. Lines and transfers are judged whole, by the readers of the grammar, not by the session's steps; only 10 goes by
-- the place where the reading of a transfer stands, see DECISIONS 20. Theorems: `exact` of proofs/Refusals, for every session that is reached
-- `exact-reached` of proofs/Reached; `twelve` of proofs/Ended.
--
-- No.  situation        No.  situation          No.  situation
--  1   crates/form_test,      5   LineNotAllowed      9   WrongChecksum
--      crates/open    6   WrongCount         10   NoRoom
--  2   LineTooLong       7   WrongAnswer        11   BytesWait
--  3   NotSid            8   WrongTransfer      12   Exact12, below
--  4   NoForwarding                             13   WrongBlockSum (02, Q-5)
use Rattle.std.specs.Prelude.{◌≡◌, Bool, true, false, not, ◌&&◌, List, [], ◌∷◌, ◌++◌, ℕ, ◌+◌, ◌%◌, ◌≤◌, eqb, ltb, length}
use Rattle.std.proofs.Math.Option.{none, some}
use Rattle.grammar.specs.Bytes.{Bytes, byte_values, CR, LF, null, is_some}
use Rattle.grammar.specs.Ascii.{text}
use Rattle.grammar.specs.Refusals as number
use Rattle.grammar.specs.Fields.{after_capitals}
use Rattle.grammar.specs.Lines.{trim, is_comment}
use Rattle.grammar.specs.Sid.{read_sid, has_feature}
use Rattle.grammar.specs.Turns.{Proposal, TurnLine, says_ff, says_fq, ends_block, not_allowed, proposes, ends_summed, read_turn_line}
use Rattle.grammar.specs.Answers.{read_fs}
use Rattle.grammar.specs.Transfers.{Parsed, parse, byte_sum}
use Rattle.grammar.specs.Scan.{Scan, goes, scan, body_of, is_body_byte}
use Rattle.session.specs.Choices.{Shelf}
use Rattle.session.specs.Session.{awaits_sid, awaits_turn, awaits_answer, Phase, a_line, awaits_transfer, leaving, over, Memory, Session, between, step, ended}
use Rattle.session.specs.Calls.{receive}
use Rattle.demand2.specs.Limits.{kind_due, line_limit, block_limit, letter_f, level_in_force}
use Rattle.demand2.specs.Room.{Full, room}

-- ---------------------------------------------------------------- the order: "then 12, 11, 2, then the rule of the line or transfer"

-- "One LF directly after the CR that ended a line, or after the CR that closes a plain transfer, is dropped, also while bytes wait for give."
abbrev pub is_dropped : Session → ℕ → Bool
is_dropped s b = s.after_cr && eqb b LF

-- The byte is not dropped and nothing waits for give: the rule of the line or transfer decides.
pub record Heeded (s : Session) (b : ℕ) : Type 0 where
  pub kept : is_dropped s b ≡ false
  pub silent : s.out ≡ []

-- "wherever a line is awaited"
abbrev pub awaits_line : Phase → Bool
awaits_line (a_line a) = true
awaits_line (awaits_transfer p ps sc) = false
awaits_line leaving = false
awaits_line over = false

-- With this byte, its CR, a line is whole: "Spaces at the end are removed before a line is judged. .. A line that begins with `;` is ignored"
pub record WholeLine (s : Session) (b : ℕ) (line : Bytes) : Type 0 where
  pub heeded : Heeded s b
  pub end : b ≡ CR
  pub bytes : trim s.part ≡ line
  pub judged : is_comment line ≡ false

-- ---------------------------------------------------------------- 2 to 4

-- 2: "a 257th byte of a line comes before CR"
pub record LineTooLong (s : Session) (b : ℕ) : Type 0 where
  pub heeded : Heeded s b
  pub awaited : awaits_line s.phase ≡ true
  pub more : eqb b CR ≡ false
  pub full : line_limit ≤ length s.part

-- 3: "first line isn't a valid SID"
pub record NotSid (s : Session) (b : ℕ) : Type 0 where
  pub line : Bytes
  pub whole : WholeLine s b line
  pub caller : Bool
  pub awaited : s.phase ≡ a_line (awaits_sid caller)
  pub invalid : read_sid line ≡ none

-- 4: "partner's SID has no F"; F is feature 5
pub record NoForwarding (s : Session) (b : ℕ) : Type 0 where
  pub line : Bytes
  pub whole : WholeLine s b line
  pub caller : Bool
  pub awaited : s.phase ≡ a_line (awaits_sid caller)
  pub features : List ℕ
  pub valid : read_sid line ≡ some features
  pub without : has_feature letter_f features ≡ false

-- ---------------------------------------------------------------- 5 to 7, and 13

-- What a line may say in the partner's turn. ff: our turn just now was FF; ps: its proposals so far. "A turn is `FF`, or one to five
-- proposals and `F>`."; "FQ is allowed only in answer to our FF. FF in answer to our FF gets 5."
abbrev pub is_allowed : Bool → List Proposal → TurnLine → Bool
is_allowed ff ps says_ff = not ff && null ps
is_allowed ff ps says_fq = ff && null ps
is_allowed ff ps ends_block = true
is_allowed ff ps not_allowed = false
is_allowed ff ps (proposes q) = true
is_allowed ff ps (ends_summed h) = true

-- "sixth proposal, or F> with none", with or without a checksum
abbrev pub is_miscounted : List Proposal → TurnLine → Bool
is_miscounted ps says_ff = false
is_miscounted ps says_fq = false
is_miscounted ps ends_block = null ps
is_miscounted ps not_allowed = false
is_miscounted ps (proposes q) = not (ltb (length ps) block_limit)
is_miscounted ps (ends_summed h) = null ps

-- A line of the partner's turn, of which these proposals are there, on the lines raw as received.
pub record TurnSaid (s : Session) (b : ℕ) (ff : Bool) (ps : List Proposal) (raw line : Bytes) : Type 0 where
  pub whole : WholeLine s b line
  pub awaited : s.phase ≡ a_line (awaits_turn ff ps raw)

-- A line where the FS line on our n proposals is awaited, and it is none.
pub record NoAnswer (s : Session) (b : ℕ) (line : Bytes) : Type 0 where
  pub whole : WholeLine s b line
  pub places : List ℕ
  pub awaited : s.phase ≡ a_line (awaits_answer places)
  pub wrong : read_fs (level_in_force s.memory) (length places) line ≡ none

-- "Where FS is awaited, a wrong line that begins with FS gets 7 and any other 5"
abbrev pub begins_fs : Bytes → Bool
begins_fs line = is_some (after_capitals (text "FS") line)

-- 5: "a turn line that isn't allowed here"
pub data LineNotAllowed (s : Session) (b : ℕ) : Type 0 where
  in_turn : (ff : Bool) (ps : List Proposal) {raw : Bytes} (line : Bytes) → TurnSaid s b ff ps raw line
      → is_allowed ff ps (read_turn_line s.memory.framed line) ≡ false → LineNotAllowed s b
  for_answer : (line : Bytes) → NoAnswer s b line → begins_fs line ≡ false → LineNotAllowed s b

-- 6: "sixth proposal, or F> with none"; "A malformed or forbidden line gets 5 before 6 is thought of."
pub record WrongCount (s : Session) (b : ℕ) : Type 0 where
  pub ff : Bool
  pub proposals : List Proposal
  pub raw : Bytes
  pub line : Bytes
  pub said : TurnSaid s b ff proposals raw line
  pub allowed : is_allowed ff proposals (read_turn_line s.memory.framed line) ≡ true
  pub miscounted : is_miscounted proposals (read_turn_line s.memory.framed line) ≡ true

-- 7: "FS line wrong in form or count"
pub record WrongAnswer (s : Session) (b : ℕ) : Type 0 where
  pub line : Bytes
  pub answer : NoAnswer s b line
  pub begun : begins_fs line ≡ true

-- 13: "wrong proposal checksum, tested after 5 and 6 and before any answer is formed" (02, Q-5). "The sum of all bytes of the block's proposal
-- lines as received, their CR included, `;` lines and dropped LFs excluded, plus HH must be 0 modulo 256." There is at least one proposal
pub record WrongBlockSum (s : Session) (b : ℕ) : Type 0 where
  pub ff : Bool
  pub first : Proposal
  pub others : List Proposal
  pub raw : Bytes
  pub line : Bytes
  pub said : TurnSaid s b ff (first ∷ others) raw line
  pub checksum : ℕ
  pub summed : read_turn_line s.memory.framed line ≡ ends_summed checksum
  pub wrong : (byte_sum raw + checksum) % byte_values ≡ 0 → ⊥

-- ---------------------------------------------------------------- 8 to 10

-- q: the bytes of the transfer under way that came so far; its reading has come from them.
abbrev pub SoFar : Shelf → Phase → Memory → Bytes → Type 0
SoFar E (a_line a) m q = Unit {0}
SoFar E (awaits_transfer p ps sc) m q = scan (room E m.inbox) (kind_due m p) q ≡ goes sc
SoFar E leaving m q = Unit {0}
SoFar E over m q = Unit {0}

-- A byte of the transfer of this proposal.
pub record TransferByte (s : Session) (b : ℕ) (p : Proposal) (reading : Scan) : Type 0 where
  pub heeded : Heeded s b
  pub others : List Proposal
  pub awaited : s.phase ≡ awaits_transfer p others reading

-- 8: "as soon as no valid transfer begins with the bytes so far, a wrong checksum (9) or lack of room (10) apart"
pub record WrongTransfer (q : Bytes) (s : Session) (b : ℕ) : Type 0 where
  pub proposal : Proposal
  pub reading : Scan
  pub within : TransferByte s b proposal reading
  pub hopeless : (r : Bytes) → parse (kind_due s.memory proposal) (q ++ b ∷ r) ≡ none

-- 9: "checksum wrong": the transfer is whole, but for that
pub record WrongChecksum (q : Bytes) (s : Session) (b : ℕ) : Type 0 where
  pub proposal : Proposal
  pub reading : Scan
  pub within : TransferByte s b proposal reading
  pub transfer : Parsed
  pub whole : parse (kind_due s.memory proposal) (q ++ (b ∷ [])) ≡ some transfer
  pub wrong : transfer.right ≡ false

-- 10: "body byte without room, the 65,536th included"
pub record NoRoom (E : Shelf) (s : Session) (b : ℕ) : Type 0 where
  pub proposal : Proposal
  pub reading : Scan
  pub within : TransferByte s b proposal reading
  pub body : is_body_byte reading b ≡ true
  pub full : Full E s.memory.inbox (body_of reading)

-- ---------------------------------------------------------------- 11

-- 11: "a byte arrives while bytes wait for give"
pub record BytesWait (s : Session) (b : ℕ) : Type 0 where
  pub kept : is_dropped s b ≡ false
  pub waiting : null s.out ≡ false

-- ---------------------------------------------------------------- THE TABLE

pub data Refusal : Type 0 where
  no2 no3 no4 no5 no6 no7 no8 no9 no10 no11 no13 : Refusal

abbrev pub number_of : Refusal → ℕ
number_of no2 = number.line_too_long
number_of no3 = number.not_sid
number_of no4 = number.no_forwarding
number_of no5 = number.line_not_allowed
number_of no6 = number.proposal_count
number_of no7 = number.bad_answer
number_of no8 = number.bad_transfer
number_of no9 = number.bad_checksum
number_of no10 = number.store_full
number_of no11 = number.bytes_wait
number_of no13 = number.wrong_block_sum

-- "Given when". E: what the session was opened with; q: the bytes so far of the transfer under way (the `SoFar` of `s`, for a session that is reached
-- those that came since it began); s: the session just before the byte; b: the byte
abbrev pub Situation : Shelf → Bytes → Session → ℕ → Refusal → Type 0
Situation E q s b no2 = LineTooLong s b
Situation E q s b no3 = NotSid s b
Situation E q s b no4 = NoForwarding s b
Situation E q s b no5 = LineNotAllowed s b
Situation E q s b no6 = WrongCount s b
Situation E q s b no7 = WrongAnswer s b
Situation E q s b no8 = WrongTransfer q s b
Situation E q s b no9 = WrongChecksum q s b
Situation E q s b no10 = NoRoom E s b
Situation E q s b no11 = BytesWait s b
Situation E q s b no13 = WrongBlockSum s b

-- "After refusals 2 to 10, give must still hand over one line and CR: `*** Checksum error` for 9, `*** Protocol error` for the others."; "later refusals of
-- a partner's line count as protocol errors"; nothing after 11 (02, Q-1)
abbrev pub reason_for : Refusal → Bytes
reason_for no2 = text "*** Protocol error\r"
reason_for no3 = text "*** Protocol error\r"
reason_for no4 = text "*** Protocol error\r"
reason_for no5 = text "*** Protocol error\r"
reason_for no6 = text "*** Protocol error\r"
reason_for no7 = text "*** Protocol error\r"
reason_for no8 = text "*** Protocol error\r"
reason_for no9 = text "*** Checksum error\r"
reason_for no10 = text "*** Protocol error\r"
reason_for no11 = []
reason_for no13 = text "*** Protocol error\r"

-- THE STATEMENT, for a byte that comes to a live session: each number exactly in its situation, 0 exactly where none of them holds; and
-- "Table marks and kept messages stand as they did just before the refused byte", nothing waits but the line that says why, the session is over.
pub record Exact (E : Shelf) (q : Bytes) (s : Session) (b : ℕ) : Type 0 where
  pub given : (n : Refusal) → Situation E q s b n → (step E s b).answer ≡ number_of n
  pub only : (n : Refusal) → (step E s b).answer ≡ number_of n → Situation E q s b n
  pub none : (step E s b).answer ≡ 0 → (n : Refusal) → Situation E q s b n → ⊥
  pub else : ((n : Refusal) → Situation E q s b n → ⊥) → (step E s b).answer ≡ 0
  pub leaves : (n : Refusal) → Situation E q s b n → (step E s b).session ≡ between over false (reason_for n) s.memory

-- ---------------------------------------------------------------- 12

-- The session is over: "FQ received ends the session at its CR", a refusal ends it ("Besides ending the session"), and "Our FQ ends it when give has
-- handed out its CR." (phase `leaving`: our FQ is said).
pub data Over (s : Session) : Type 0 where
  closed : s.phase ≡ over → Over s
  fq_given : s.phase ≡ leaving → s.out ≡ [] → Over s

-- A live session: 12 is never given in it, and on one that is over nothing else is (`twelve` of proofs/Ended).
abbrev pub Live : Session → Type 0
Live s = ended s ≡ false

-- Live is exactly what is not over.
pub record LiveExact (s : Session) : Type 0 where
  pub given : (Over s → ⊥) → Live s
  pub only : Live s → Over s → ⊥

-- 12: "receive on an ended session": "nothing consumed, nothing changed"
pub record Exact12 (E : Shelf) (s : Session) (bs : Bytes) : Type 0 where
  pub given : Over s → receive E s bs ≡ record { answer = number.session_ended; count = 0; session = s }
  pub only : (receive E s bs).answer ≡ number.session_ended → Over s
