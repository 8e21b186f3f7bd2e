-- 01, "The log": what the bytes consumed and given mean. It cuts the next whole unit, a line or a transfer, off the trace and applies
-- that unit's effect; a turn is its lines, and has its effect at the last. It cites the grammar and what the shelf holds, nothing of the
-- session.
-- The log reads what we gave; demand 2 says what we give. So some rules on our own turns and answers are left to demand 2: that a record
-- proposed was waiting, not deferred, of the mode's form, in table order and as the block's limits have it; that its fields are the record's
-- (the log asks for its BID); that FF and FQ come only when no record remains; and which sign each proposal gets, by BIDs known and room.
use Rattle.std.specs.Prelude.{Bool, true, false, cond, ◌&&◌, List, [], ◌∷◌, ◌++◌, ℕ, zero, suc, ◌+◌, eqb, ltb, leb, length}
use Rattle.std.proofs.Math.Option.{Option, none, some}
use Rattle.grammar.specs.Bytes.{Bytes, CR, LF, same, is_some}
use Rattle.grammar.specs.Lines.{trim, is_comment, is_prompt, line_limit}
use Rattle.grammar.specs.Sid.{read_sid, has_feature, framed, level_of, letter_b, letter_f}
use Rattle.grammar.specs.Turns.{Proposal, TurnLine, says_ff, says_fq, ends_block, not_allowed, proposes, ends_summed, read_turn_line, fixed_text, our_sid, our_prompt, with_cr, block_limit}
use Rattle.grammar.specs.Answers.{Sign, cons_o, read_fs, Level, level0}
use Rattle.grammar.specs.Transfers.{TransferKind, plain_kind, framed_kind, kind_of, Content, read_transfer, sum_right}
use Rattle.mail.specs.Mail.{Record, Message, record_at, transfer_of, place_of}
use Rattle.session_log.specs.Effects.{forwarded_sent, accepted_by, declined_by, Account, no_account, with_proposed, with_sent, with_answers, with_forwarded, kept_as}

-- ---------------------------------------------------------------- what the log is fed and what it keeps

-- "fed the bytes consumed and given, by the calls' counts, in order"
pub data Event : Type 0 where
  took gave : ℕ → Event

-- A line of ours under "SID and opening": our SID and our prompt as called, our SID as caller.
pub data Opening : Type 0 where
  our_greeting our_first_prompt our_sid_line : Opening

-- A line of ours, and one of the partner's. A turn has the lines of it so far, and whether the turn just before it was FF; the places or
-- proposals are "last proposals". The partner's turn also has its proposal lines as received, each with its CR.
pub data Ours : Type 0 where
  our_opening : Opening → Ours
  our_turn : Bool → List TurnLine → Ours
  our_answer : List Proposal → Ours

pub data Theirs : Type 0 where
  their_text : Theirs
  their_sid : Bool → Theirs
  their_turn : Bool → List TurnLine → Bytes → Theirs
  their_answer : List ℕ → Theirs

-- Which unit the rules allow next, and of which side: a line, or one of the "transfers owed", with the others. over: the log has ended.
pub data Next : Type 0 where
  over : Next
  we_say : Ours → Next
  they_say : Theirs → Next
  their_transfer : Proposal → List Proposal → Next
  our_transfer : ℕ → List ℕ → Next

-- Such a line is next.
abbrev pub we_open : Opening → Next
we_open o = we_say (our_opening o)

-- A turn begins; true: the turn just before it was FF
abbrev pub our_new_turn : Bool → Next
our_new_turn ff = we_say (our_turn ff [])

abbrev pub their_new_turn : Bool → Next
their_new_turn ff = they_say (their_turn ff [] [])

-- What units of either side change: which unit is next, and what has become of the records that we proposed.
pub record Course : Type 0 where
  pub next : Next
  pub account : Account

-- What only the partner's units change: the mode, the level, "each record's state", "messages kept".
pub record Book : Type 0 where
  pub framed : Bool
  pub level : Level
  pub states : List ℕ
  pub kept : List Message

-- after_cr: an LF of the partner's now is dropped
pub record Log : Type 0 where
  pub after_cr : Bool
  pub course : Course
  pub book : Book

-- By their parts.
abbrev pub course_with : Next → Account → Course
course_with n x = record { next = n; account = x }

abbrev pub log_with : Bool → Course → Book → Log
log_with a c k = record { after_cr = a; course = c; book = k }

-- All else is as it was.
abbrev pub with_next : Course → Next → Course
with_next c x = course_with x c.account

abbrev pub with_framed : Book → Bool → Book
with_framed k x = record { framed = x; level = k.level; states = k.states; kept = k.kept }

abbrev pub with_level : Book → Level → Book
with_level k x = record { framed = k.framed; level = x; states = k.states; kept = k.kept }

abbrev pub with_states : Book → List ℕ → Book
with_states k x = record { framed = k.framed; level = k.level; states = x; kept = k.kept }

abbrev pub with_kept : Book → List Message → Book
with_kept k x = record { framed = k.framed; level = k.level; states = k.states; kept = x }

abbrev pub with_after_cr : Log → Bool → Log
with_after_cr l x = log_with x l.course l.book

abbrev pub with_course : Log → Course → Log
with_course l x = log_with l.after_cr x l.book

-- The unit that is next is ours.
abbrev pub is_ours : Next → Bool
is_ours over = false
is_ours (we_say n) = true
is_ours (they_say n) = false
is_ours (their_transfer p ps) = false
is_ours (our_transfer i is) = true

-- ---------------------------------------------------------------- turns

-- What the lines of a turn come to: not whole yet, a whole turn with its proposals (none: FF), FQ, or something that the rules forbid.
pub data Said : Type 0 where
  unfinished farewell wrong : Said
  turn : List Proposal → Said

-- "A turn is `FF`, or one to five proposals and `F>`.": ps are the proposals so far. F> with a checksum stands for F> where the partner says it
-- and it is right (`checked`); "We go on writing the bare form." (02, Q-5), so in a turn of ours it is wrong
abbrev pub said_on : List Proposal → List TurnLine → Said
said_on ps [] = unfinished
said_on [] (says_ff ∷ []) = turn []
said_on [] (says_fq ∷ []) = farewell
said_on (p ∷ ps) (ends_block ∷ []) = turn (p ∷ ps)
said_on ps (proposes q ∷ ls) = cond (ltb (length ps) block_limit) (said_on (ps ++ (q ∷ [])) ls) wrong
said_on [] (says_ff ∷ l ∷ ls) = wrong
said_on [] (says_fq ∷ l ∷ ls) = wrong
said_on [] (ends_block ∷ ls) = wrong
said_on [] (not_allowed ∷ ls) = wrong
said_on [] (ends_summed h ∷ ls) = wrong
said_on (p ∷ ps) (says_ff ∷ ls) = wrong
said_on (p ∷ ps) (says_fq ∷ ls) = wrong
said_on (p ∷ ps) (ends_block ∷ l ∷ ls) = wrong
said_on (p ∷ ps) (not_allowed ∷ ls) = wrong
said_on (p ∷ ps) (ends_summed h ∷ ls) = wrong

-- "FQ is allowed only in answer to our FF. FF in answer to our FF gets 5.", and so for us; ff: the turn just before was FF
abbrev pub in_order : Bool → Said → Said
in_order ff unfinished = unfinished
in_order ff wrong = wrong
in_order ff farewell = cond ff farewell wrong
in_order ff (turn []) = cond ff wrong (turn [])
in_order ff (turn (p ∷ ps)) = turn (p ∷ ps)

-- What the lines ls of a turn come to, after a turn that was (ff) FF.
unfoldable pub said : Bool → List TurnLine → Said
said ff ls = in_order ff (said_on [] ls)

-- ---------------------------------------------------------------- the effect of a whole unit of ours

-- The place of the record with this BID; none where no record has it.
abbrev pub place_found : List Record → Bytes → Option ℕ
place_found T b = cond (ltb (place_of T b) (length T)) (some (place_of T b)) none

-- "ours are the records with those BIDs": the places of all of them, or none
abbrev pub places_of : List Record → List Proposal → Option (List ℕ)
places_of T [] = some []
places_of T (p ∷ ps) = cons_o (place_found T p.bid) (places_of T ps)

-- Our turn with these proposals. One whose BID no record has isn't ours to make: "What the rules forbid isn't valid".
abbrev pub our_proposed : Option (List ℕ) → Next
our_proposed none = over
our_proposed (some is) = they_say (their_answer is)

-- "transfers owed": ours, of the records at these places; after the last the right to propose is the partner's, "whoever sent the FS"
abbrev pub ours_owed : List ℕ → Next
ours_owed [] = their_new_turn false
ours_owed (i ∷ is) = our_transfer i is

-- and the partner's, of these proposals
abbrev pub theirs_owed : List Proposal → Next
theirs_owed [] = our_new_turn false
theirs_owed (p ∷ ps) = their_transfer p ps

-- "Turn, at its last CR", ours: FF is answered by a turn, proposals by an FS line; FQ ends the session
abbrev pub our_said : List Record → Bool → List TurnLine → Said → Next
our_said T ff ls unfinished = we_say (our_turn ff ls)
our_said T ff ls farewell = over
our_said T ff ls wrong = over
our_said T ff ls (turn []) = their_new_turn true
our_said T ff ls (turn (p ∷ ps)) = our_proposed (places_of T (p ∷ ps))

-- "FS line, at its CR: the other side owes the accepted transfers in order."
abbrev pub our_answered : List Proposal → Option (List Sign) → Next
our_answered ps none = over
our_answered ps (some ss) = theirs_owed (accepted_by ss ps)

-- "Called: we send it, CR, `>`, CR": what such a line must be, and what is next after it
abbrev pub opening_text : Opening → Bytes
opening_text our_greeting = fixed_text our_sid
opening_text our_first_prompt = fixed_text our_prompt
opening_text our_sid_line = fixed_text our_sid

abbrev pub after_opening : Opening → Next
after_opening our_greeting = we_open our_first_prompt
after_opening our_first_prompt = they_say (their_sid false)
after_opening our_sid_line = our_new_turn false

-- A line of ours; k: the book, which has the mode. "Lines under SID and opening only choose the mode.", and the level
abbrev pub our_line : List Record → Book → Ours → Bytes → Next
our_line T k (our_opening o) ln = cond (same ln (opening_text o)) (after_opening o) over
our_line T k (our_turn ff ls) ln = our_said T ff (ls ++ (read_turn_line k.framed ln ∷ [])) (said ff (ls ++ (read_turn_line k.framed ln ∷ [])))
our_line T k (our_answer ps) ln = our_answered ps (read_fs level0 (length ps) ln)

-- The places of our records that the partner's FS line is due on, as its line and as what is next.
abbrev pub asked_of : Theirs → List ℕ
asked_of (their_answer is) = is
asked_of their_text = []
asked_of (their_sid c) = []
asked_of (their_turn ff ls raw) = []

abbrev pub due_on : Next → List ℕ
due_on (they_say n) = asked_of n
due_on over = []
due_on (we_say n) = []
due_on (their_transfer p ps) = []
due_on (our_transfer i is) = []

-- "Proposed counts" with our turn (02, Q-3): a line of ours proposes what the partner's FS line is due on after it.
abbrev pub after_ours : Next → Account → Account
after_ours n account = with_proposed (length (due_on n)) account

-- "Our owed transfer, as we write it, given whole: its record is sent."
abbrev pub our_unit : List Record → Book → Next → Account → Bytes → Course
our_unit T k (we_say n) account u = course_with (our_line T k n u) (after_ours (our_line T k n u) account)
our_unit T k (our_transfer i is) account u = course_with (ours_owed is) (with_sent i account)
our_unit T k over account u = course_with over account
our_unit T k (they_say n) account u = course_with over account
our_unit T k (their_transfer p ps) account u = course_with over account

-- ---------------------------------------------------------------- the effect of a whole unit of the partner's

-- What a unit makes of the book and the course.
pub record Effect : Type 0 where
  pub book : Book
  pub course : Course

-- With this book, account and unit next.
abbrev pub effect : Book → Account → Next → Effect
effect k account n = record { book = k; course = course_with n account }

-- The level that a SID has at B, 0 where there is none.
abbrev pub level_said : Option (List ℕ) → Level
level_said none = level0
level_said (some fs) = level_of letter_b fs

abbrev pub lesser : Level → Level → Level
lesser v w = cond (leb v w) v w

-- "the level in force is the lower of the two, 0 without B" (02, Q-6): of what the partner's SID and our own say
abbrev pub level_between : List ℕ → Level
level_between fs = lesser (level_said (some fs)) (level_said (read_sid (fixed_text our_sid)))

-- The book with the mode and the level of this SID.
abbrev pub with_sid : Book → List ℕ → Book
with_sid k fs = with_level (with_framed k (framed fs)) (level_between fs)

-- The partner's FF is answered by our turn, its proposals by our FS line.
abbrev pub after_their_turn : List Proposal → Next
after_their_turn [] = our_new_turn true
after_their_turn (p ∷ ps) = we_say (our_answer (p ∷ ps))

-- "Turn, at its last CR: its proposals replace the last .. The partner's makes every sent record 1."
abbrev pub their_said : Bool → List TurnLine → Bytes → Book → Account → Said → Effect
their_said ff ls raw k account unfinished = effect k account (they_say (their_turn ff ls raw))
their_said ff ls raw k account farewell = effect k account over
their_said ff ls raw k account wrong = effect k account over
their_said ff ls raw k account (turn ps) = effect (with_states k (forwarded_sent account.sent k.states)) (with_forwarded account) (after_their_turn ps)

-- What F> with a checksum says that is right (true) or wrong.
abbrev pub summed_end : Bool → TurnLine
summed_end true = ends_block
summed_end false = not_allowed

-- "The sum of all bytes of the block's proposal lines as received, their CR included, .. plus HH must be 0 modulo 256. .. A turn with a wrong
-- checksum is no valid turn." (02, Q-5): what a line of the partner's says after the proposal lines raw
abbrev pub checked : Bytes → TurnLine → TurnLine
checked raw (ends_summed h) = summed_end (sum_right raw h)
checked raw says_ff = says_ff
checked raw says_fq = says_fq
checked raw ends_block = ends_block
checked raw not_allowed = not_allowed
checked raw (proposes p) = proposes p

-- The proposal lines with the line ln, as received and with its CR, if that is one.
abbrev pub raw_with : Bytes → Bytes → TurnLine → Bytes
raw_with raw ln (proposes p) = raw ++ with_cr ln
raw_with raw ln says_ff = raw
raw_with raw ln says_fq = raw
raw_with raw ln ends_block = raw
raw_with raw ln not_allowed = raw
raw_with raw ln (ends_summed h) = raw

-- A line ln of the partner's turn that says t.
abbrev pub their_turn_line : Bool → List TurnLine → Bytes → Book → Account → Bytes → TurnLine → Effect
their_turn_line ff ls raw k account ln t = their_said ff (ls ++ (t ∷ [])) (raw_with raw ln t) k account (said ff (ls ++ (t ∷ [])))

-- The level at which the partner's FS line is read; "We write only `+`, `-` and `=`", so ours is read at level 0.
abbrev pub level_in_force : Book → Level
level_in_force k = k.level

-- "The partner's makes declined records 2."
abbrev pub their_answered : List ℕ → Book → Account → Option (List Sign) → Effect
their_answered is k account none = effect k account over
their_answered is k account (some ss) = effect (with_states k (declined_by ss is k.states)) (with_answers ss is account) (ours_owed (accepted_by ss is))

-- "Caller: we await the SID, skip text lines until the prompt"; called, "then its first turn"
abbrev pub after_their_sid : Bool → Theirs
after_their_sid true = their_text
after_their_sid false = their_turn false [] []

-- "Partner has B: framed mode, at any level. Otherwise plain mode."; a SID without F (letter 5) is refused with 4
abbrev pub their_sid_read : Bool → Book → Account → Option (List ℕ) → Effect
their_sid_read c k account none = effect k account over
their_sid_read c k account (some fs) =
    cond (has_feature letter_f fs) (effect (with_sid k fs) account (they_say (after_their_sid c))) (effect k account over)

-- A line of the partner's that is no comment, as it came, without its CR: "Spaces at the end are removed before a line is judged."
abbrev pub their_read : Theirs → Book → Account → Bytes → Effect
their_read their_text k account ln = cond (is_prompt (trim ln)) (effect k account (we_open our_sid_line)) (effect k account (they_say their_text))
their_read (their_sid c) k account ln = their_sid_read c k account (read_sid (trim ln))
their_read (their_turn ff ls raw) k account ln = their_turn_line ff ls raw k account ln (checked raw (read_turn_line k.framed (trim ln)))
their_read (their_answer is) k account ln = their_answered is k account (read_fs (level_in_force k) (length is) (trim ln))

-- "A line that begins with `;` is ignored wherever a line is awaited"
abbrev pub their_line : Theirs → Book → Account → Bytes → Effect
their_line n k account ln = cond (is_comment (trim ln)) (effect k account (they_say n)) (their_read n k account ln)

-- a line of over 256 bytes is not valid
abbrev pub judged_line : Theirs → Book → Account → Bytes → Effect
judged_line n k account ln = cond (leb (length ln) line_limit) (their_line n k account ln) (effect k account over)

-- How the partner's owed transfer of this proposal is read.
abbrev pub kind_owed : Book → Proposal → TransferKind
kind_owed k p = kind_of p.form

-- "Partner's owed transfer, at its last byte: kept, with its proposal's form and fields as read, and its own heading and body."
abbrev pub their_transferred : Proposal → List Proposal → Book → Account → Option Content → Effect
their_transferred p ps k account none = effect k account over
their_transferred p ps k account (some c) = effect (with_kept k (k.kept ++ (kept_as p c ∷ []))) account (theirs_owed ps)

-- ---------------------------------------------------------------- units

-- The bytes u with b after them are a whole unit of what is next: "Bytes are a transfer while their side owes one, else lines". Once the
-- log has ended no unit is. k: the book, by which a transfer is read.
abbrev pub whole : List Record → Book → Next → Bytes → ℕ → Bool
whole T k (their_transfer p ps) u b = is_some (read_transfer (kind_owed k p) (u ++ (b ∷ [])))
whole T k (our_transfer i is) u b = same (u ++ (b ∷ [])) (transfer_of (record_at T i))
whole T k over u b = false
whole T k (we_say n) u b = eqb b CR
whole T k (they_say n) u b = eqb b CR

-- A transfer is a "plain transfer", which ends with a CR.
abbrev pub is_plain : TransferKind → Bool
is_plain plain_kind = true
is_plain framed_kind = false

-- The log after a unit of the partner's with this effect; a: it ended with a CR.
abbrev pub after_theirs : Bool → Effect → Log
after_theirs a e = log_with a e.course e.book

-- The partner's whole unit u b of what is next: a transfer, "else lines". "One LF directly after the CR that ended a line, or after the CR that closes a
-- plain transfer, is dropped": a line and a plain transfer end with a CR
abbrev pub their_unit : Next → Book → Account → Bytes → ℕ → Log
their_unit (their_transfer p ps) k account u b = after_theirs (is_plain (kind_owed k p)) (their_transferred p ps k account (read_transfer (kind_owed k p) (u ++ (b ∷ []))))
their_unit (they_say n) k account u b = after_theirs true (judged_line n k account u)
their_unit over k account u b = after_theirs true (effect k account over)
their_unit (we_say n) k account u b = after_theirs true (effect k account over)
their_unit (our_transfer i is) k account u b = after_theirs true (effect k account over)

-- The log after the whole unit u b of what is next; a line is u, without its CR b.
abbrev pub applied : List Record → Log → Bytes → ℕ → Log
applied T l u b =
    cond (is_ours l.course.next)
    (with_course l (our_unit T l.book l.course.next l.course.account u))
    (their_unit l.course.next l.book l.course.account u b)

-- "What the rules forbid isn't valid: it changes nothing and ends the log."
abbrev pub stopped : Log → Log
stopped l = with_course l (with_next l.course over)

-- ---------------------------------------------------------------- the log

-- What cutting off the next whole unit gives. unit: its bytes but the last, its last byte, the flag after_cr as it stands just before that
-- byte, and the trace after the unit; not_whole: no unit is whole yet; out_of_turn: a byte of the other side came first, which the rules forbid.
-- The flag is handed on since a unit of ours leaves it alone: the partner's LF may come after bytes of ours.
pub data Cut : Type 0 where
  not_whole out_of_turn : Cut
  unit : Bytes → ℕ → Bool → List Event → Cut

-- u: the unit's bytes so far; "an LF that Lines drops is neither"
abbrev pub cut_unit : List Record → Book → Next → Bool → Bytes → List Event → Cut
cut_unit T k n after_cr u [] = not_whole
cut_unit T k n after_cr u (took b ∷ es) =
    cond (after_cr && eqb b LF) (cut_unit T k n false u es)
    (cond (is_ours n) out_of_turn
    (cond (whole T k n u b) (unit u b after_cr es) (cut_unit T k n false (u ++ (b ∷ [])) es)))
cut_unit T k n after_cr u (gave b ∷ es) =
    cond (is_ours n)
    (cond (whole T k n u b) (unit u b after_cr es) (cut_unit T k n after_cr (u ++ (b ∷ [])) es))
    out_of_turn

-- on: the log of the rest
abbrev pub after_cut : List Record → Log → (Log → List Event → Log) → Cut → Log
after_cut T l on not_whole = l
after_cut T l on out_of_turn = stopped l
after_cut T l on (unit u b a rest) = on (applied T (with_after_cr l a) u b) rest

-- unit by unit; every unit has a byte, so a trace of n bytes has at most n units
abbrev pub log_units : ℕ → List Record → Log → List Event → Log
log_units zero T l es = l
log_units (suc n) T l es = after_cut T l (λ m rest. log_units n T m rest) (cut_unit T l.book l.course.next l.after_cr [] es)

-- "open's role and table": at open every record's state is as open found it, and all else is empty
abbrev pub log_opened : Bool → List ℕ → Log
log_opened caller states =
    log_with false (course_with (cond caller (they_say (their_sid true)) (we_open our_greeting)) no_account)
    (record { framed = false; level = level0; states = states; kept = [] })

-- THE LOG of a trace, from open on.
unfoldable pub log : List Record → Bool → List ℕ → List Event → Log
log T caller states es = log_units (length es) T (log_opened caller states) es

-- ---------------------------------------------------------------- the tally sheet (02, Q-3)

-- "transfers owed": the places of our records, of which we owe them
abbrev pub owes : Next → List ℕ
owes (our_transfer i is) = i ∷ is
owes over = []
owes (we_say n) = []
owes (they_say n) = []
owes (their_transfer p ps) = []

-- "those proposed whose FS hasn't come, or which were accepted" and are not sent yet
abbrev pub unsent : Next → ℕ
unsent n = length (due_on n) + length (owes n)

-- "not settled are those proposed whose FS hasn't come, or which were accepted and aren't forwarded yet": the sent ones too
abbrev pub unsettled : Course → ℕ
unsettled c = unsent c.next + length c.account.sent
