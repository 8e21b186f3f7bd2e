-- Demand 3 in the mission's words: what each whole unit of the trace does, and what becomes of a record. It follows from the log (Fates in
-- proofs/); nothing else is said here than that the log says it.
use Rattle.std.specs.Prelude.{◌≡◌, Bool, true, false, cond, ◌&&◌, ◌||◌, List, [], ◌∷◌, ◌++◌, ℕ, zero, suc, eqb, leb, length}
use Rattle.std.proofs.Math.Option.{Option, none, some}
use Rattle.grammar.specs.Bytes.{Bytes}
use Rattle.grammar.specs.Lines.{trim, is_comment, line_limit}
use Rattle.grammar.specs.Turns.{Proposal, read_turn_line}
use Rattle.grammar.specs.Answers.{Sign, accept, decline, defer, read_fs, level0}
use Rattle.grammar.specs.Transfers.{kind_of, Content, read_transfer}
use Rattle.mail.specs.Mail.{Record, Message}
use Rattle.session_log.specs.Effects.{kept_as}
use Rattle.session_log.specs.Log.{kind_owed, Event, Ours, our_opening, our_turn, our_answer, Theirs, their_text, their_sid, their_turn, their_answer, Next, over, we_say, they_say, their_transfer, our_transfer, Log, Said, unfinished, farewell, wrong, turn, said, checked, applied, Cut, not_whole, out_of_turn, unit, cut_unit, with_after_cr, log_opened, Book, level_in_force}
use Rattle.phase.specs.Phase.{state_waiting, state_forwarded, state_declined}

-- ---------------------------------------------------------------- what a whole unit does

-- answered: a valid FS line of the partner's, on our records at these places. sent: the link has taken the whole transfer of this record.
-- turned: a whole valid turn of the partner's, with its proposals. we_answered: our FS line. brought: a transfer received whole, its bytes and the
-- message it brings. nothing: any other unit.
pub data Deed : Type 0 where
  answered : List ℕ → List Sign → Deed
  sent : ℕ → Deed
  turned : List Proposal → Deed
  we_answered : List Sign → Deed
  brought : Bytes → Message → Deed
  nothing : Deed

-- "Turn, at its last CR"
abbrev pub turn_deed : Said → Deed
turn_deed unfinished = nothing
turn_deed farewell = nothing
turn_deed wrong = nothing
turn_deed (turn ps) = turned ps

-- "FS line, at its CR": the partner's, on our records at the places is
abbrev pub answer_deed : List ℕ → Option (List Sign) → Deed
answer_deed is none = nothing
answer_deed is (some ss) = answered is ss

-- and ours
abbrev pub our_answer_deed : Option (List Sign) → Deed
our_answer_deed none = nothing
our_answer_deed (some ss) = we_answered ss

-- "Partner's owed transfer, at its last byte": w
abbrev pub transfer_deed : Proposal → Bytes → Option Content → Deed
transfer_deed p w none = nothing
transfer_deed p w (some c) = brought w (kept_as p c)

-- d where u is neither a comment nor too long, else nothing
abbrev pub if_line : Bytes → Deed → Deed
if_line u d = cond (leb (length u) line_limit) (cond (is_comment (trim u)) nothing d) nothing

-- A line of the partner's, and one of ours; k: the book, which has the mode.
abbrev pub their_deed : Theirs → Book → Bytes → Deed
their_deed their_text k u = nothing
their_deed (their_sid c) k u = nothing
their_deed (their_turn ff ls raw) k u = turn_deed (said ff (ls ++ (checked raw (read_turn_line k.framed (trim u)) ∷ [])))
their_deed (their_answer is) k u = answer_deed is (read_fs (level_in_force k) (length is) (trim u))

abbrev pub our_deed : Ours → Bytes → Deed
our_deed (our_opening o) u = nothing
our_deed (our_turn ff ls) u = nothing
our_deed (our_answer ps) u = our_answer_deed (read_fs level0 (length ps) u)

-- The unit u b of what is next; a line is u, without its CR b.
abbrev pub deed_of : Next → Book → Bytes → ℕ → Deed
deed_of (they_say n) k u b = if_line u (their_deed n k u)
deed_of (we_say n) k u b = our_deed n u
deed_of (their_transfer p ps) k u b = transfer_deed p (u ++ (b ∷ [])) (read_transfer (kind_owed k p) (u ++ (b ∷ [])))
deed_of (our_transfer i is) k u b = sent i
deed_of over k u b = nothing

-- Of the next whole unit cut off the trace, and of the rest.
abbrev pub deeds_cut : List Record → Log → (Log → List Event → List Deed) → Cut → List Deed
deeds_cut T l on not_whole = []
deeds_cut T l on out_of_turn = []
deeds_cut T l on (unit u b a rest) = deed_of l.course.next l.book u b ∷ on (applied T (with_after_cr l a) u b) rest

-- Unit by unit, as the log does it.
abbrev pub deeds_from : ℕ → List Record → Log → List Event → List Deed
deeds_from zero T l es = []
deeds_from (suc n) T l es = deeds_cut T l (λ m rest. deeds_from n T m rest) (cut_unit T l.book l.course.next l.after_cr [] es)

-- What the bytes consumed and given did, unit by unit, as the log cuts them.
unfoldable pub deeds : List Record → Bool → List ℕ → List Event → List Deed
deeds T caller states es = deeds_from (length es) T (log_opened caller states) es

-- ---------------------------------------------------------------- what becomes of a record

-- the same of "`+` accept, `-` decline, `=` defer"
abbrev pub same_sign : Sign → Sign → Bool
same_sign accept accept = true
same_sign accept decline = false
same_sign accept defer = false
same_sign decline accept = false
same_sign decline decline = true
same_sign decline defer = false
same_sign defer accept = false
same_sign defer decline = false
same_sign defer defer = true

-- The FS line gives this sign to the record at place i.
abbrev pub gives_sign : Sign → ℕ → List ℕ → List Sign → Bool
gives_sign g i [] ss = false
gives_sign g i (j ∷ js) [] = false
gives_sign g i (j ∷ js) (s ∷ ss) = (eqb i j && same_sign g s) || gives_sign g i js ss

-- "a valid FS line declined it"
abbrev pub was_declined : ℕ → List Deed → Bool
was_declined i [] = false
was_declined i (answered is ss ∷ ds) = gives_sign decline i is ss || was_declined i ds
was_declined i (sent j ∷ ds) = was_declined i ds
was_declined i (turned ps ∷ ds) = was_declined i ds
was_declined i (we_answered ss ∷ ds) = was_declined i ds
was_declined i (nothing ∷ ds) = was_declined i ds
was_declined i (brought w x ∷ ds) = was_declined i ds

-- "and a whole valid turn of the partner came after that"
abbrev pub then_turned : List Deed → Bool
then_turned [] = false
then_turned (turned ps ∷ ds) = true
then_turned (we_answered ss ∷ ds) = then_turned ds
then_turned (answered is ss ∷ ds) = then_turned ds
then_turned (sent j ∷ ds) = then_turned ds
then_turned (nothing ∷ ds) = then_turned ds
then_turned (brought w x ∷ ds) = then_turned ds

-- "the link had taken its whole transfer"
abbrev pub sent_then_turned : ℕ → List Deed → Bool
sent_then_turned i [] = false
sent_then_turned i (sent j ∷ ds) = (eqb i j && then_turned ds) || sent_then_turned i ds
sent_then_turned i (answered is ss ∷ ds) = sent_then_turned i ds
sent_then_turned i (turned ps ∷ ds) = sent_then_turned i ds
sent_then_turned i (we_answered ss ∷ ds) = sent_then_turned i ds
sent_then_turned i (nothing ∷ ds) = sent_then_turned i ds
sent_then_turned i (brought w x ∷ ds) = sent_then_turned i ds

-- "a valid FS line accepted it"
abbrev pub was_forwarded : ℕ → List Deed → Bool
was_forwarded i [] = false
was_forwarded i (answered is ss ∷ ds) = (gives_sign accept i is ss && sent_then_turned i ds) || was_forwarded i ds
was_forwarded i (sent j ∷ ds) = was_forwarded i ds
was_forwarded i (turned ps ∷ ds) = was_forwarded i ds
was_forwarded i (we_answered ss ∷ ds) = was_forwarded i ds
was_forwarded i (nothing ∷ ds) = was_forwarded i ds
was_forwarded i (brought w x ∷ ds) = was_forwarded i ds

-- What becomes of record i by these deeds: its state before and after them.
pub record Fate (i : ℕ) (ds : List Deed) (before after : ℕ) : Type 0 where
  -- "a record that was waiting is forwarded exactly when a valid FS line accepted it, the link had taken its whole transfer, and a whole
  -- valid turn of the partner came after that"
  pub forwarded : before ≡ state_waiting → eqb after state_forwarded ≡ was_forwarded i ds
  -- "It is declined exactly when a valid FS line declined it."
  pub declined : before ≡ state_waiting → eqb after state_declined ≡ was_declined i ds
  -- else it still waits
  pub waiting : before ≡ state_waiting → was_forwarded i ds ≡ false → was_declined i ds ≡ false → after ≡ state_waiting
  -- one that was not waiting is as it was
  pub settled : (before ≡ state_waiting → ⊥) → after ≡ before

-- "The inbox holds exactly the accepted messages received whole, in order"
abbrev pub messages_brought : List Deed → List Message
messages_brought [] = []
messages_brought (brought w x ∷ ds) = x ∷ messages_brought ds
messages_brought (answered is ss ∷ ds) = messages_brought ds
messages_brought (sent j ∷ ds) = messages_brought ds
messages_brought (turned ps ∷ ds) = messages_brought ds
messages_brought (we_answered ss ∷ ds) = messages_brought ds
messages_brought (nothing ∷ ds) = messages_brought ds

-- and the bytes of each one's transfer
abbrev pub transfers_brought : List Deed → List Bytes
transfers_brought [] = []
transfers_brought (brought w x ∷ ds) = w ∷ transfers_brought ds
transfers_brought (answered is ss ∷ ds) = transfers_brought ds
transfers_brought (sent j ∷ ds) = transfers_brought ds
transfers_brought (turned ps ∷ ds) = transfers_brought ds
transfers_brought (we_answered ss ∷ ds) = transfers_brought ds
transfers_brought (nothing ∷ ds) = transfers_brought ds

-- ---------------------------------------------------------------- which messages they are

-- "`+` accept": those of the proposals that got it in our FS line, in order
abbrev pub got_plus : List Sign → List Proposal → List Proposal
got_plus [] ps = []
got_plus (s ∷ ss) [] = []
got_plus (s ∷ ss) (p ∷ ps) = cond (same_sign s accept) (p ∷ got_plus ss ps) (got_plus ss ps)

-- "accepted": the proposals that our FS lines accepted, in order; last: "last proposals", those of the partner's turn just now
abbrev pub accepted_from : List Proposal → List Deed → List Proposal
accepted_from last [] = []
accepted_from last (turned ps ∷ ds) = accepted_from ps ds
accepted_from last (we_answered ss ∷ ds) = got_plus ss last ++ accepted_from last ds
accepted_from last (answered is ss ∷ ds) = accepted_from last ds
accepted_from last (sent j ∷ ds) = accepted_from last ds
accepted_from last (brought w x ∷ ds) = accepted_from last ds
accepted_from last (nothing ∷ ds) = accepted_from last ds

-- at first there are no proposals
abbrev pub we_accepted : List Deed → List Proposal
we_accepted ds = accepted_from [] ds

-- "kept, with its proposal's form and fields as read, and its own heading and body"; w: the bytes of its transfer
pub record KeptFrom (p : Proposal) (w : Bytes) (x : Message) : Type 0 where
  pub form : x.form ≡ p.form
  pub type : x.type ≡ p.type
  pub from : x.from ≡ p.from
  pub at : x.at ≡ p.at
  pub to : x.to ≡ p.to
  pub bid : x.bid ≡ p.bid
  pub content : read_transfer (kind_of p.form) w ≡ some (record { heading = x.heading; body = x.body })

-- The messages are of these transfers and proposals, one by one from the first; the proposals after them have no message yet.
abbrev pub BroughtFor : List Bytes → List Message → List Proposal → Type 0
BroughtFor [] [] ps = Unit {0}
BroughtFor [] (x ∷ xs) ps = ⊥
BroughtFor (w ∷ ws) [] ps = ⊥
BroughtFor (w ∷ ws) (x ∷ xs) [] = ⊥
BroughtFor (w ∷ ws) (x ∷ xs) (p ∷ ps) = KeptFrom p w x × BroughtFor ws xs ps

-- "FS line, at its CR: the other side owes the accepted transfers in order.": while one is owed nothing comes but it, and none comes that is not
-- owed. last: "last proposals"; owed: those that our FS line accepted and that have not come yet.
abbrev pub AsAccepted : List Proposal → List Proposal → List Deed → Type 0
AsAccepted last owed [] = Unit {0}
AsAccepted last [] (brought w x ∷ ds) = ⊥
AsAccepted last (p ∷ owed) (brought w x ∷ ds) = KeptFrom p w x × AsAccepted last owed ds
AsAccepted last owed (turned ps ∷ ds) = (owed ≡ []) × AsAccepted ps [] ds
AsAccepted last owed (we_answered ss ∷ ds) = (owed ≡ []) × AsAccepted last (got_plus ss last) ds
AsAccepted last owed (answered is ss ∷ ds) = (owed ≡ []) × AsAccepted last [] ds
AsAccepted last owed (sent j ∷ ds) = (owed ≡ []) × AsAccepted last [] ds
AsAccepted last owed (nothing ∷ ds) = (owed ≡ []) × AsAccepted last [] ds
