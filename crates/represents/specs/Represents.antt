-- Lent memory and the state in it (Cs of crates/receive_defined) represent a session on lists (crates/session). The relation says what the bytes mean;
-- what keeps them in order (sizes, counts within them, places and room for what is owed) is `Good` of crates/form_closed, which holds of any memory that
-- passes the form test, whatever it means.
use Rattle.std.specs.Prelude.{◌≡◌, cond, List, [], ◌∷◌, ℕ, zero, suc, ◌+◌, ◌*◌, ◌%◌, ◌≤◌, ◌<◌, eqb, length, take, drop}
use Rattle.grammar.specs.Bytes.{Bytes, byte_values}
use Rattle.grammar.specs.Turns.{Proposal}
use Rattle.grammar.specs.Answers.{Sign, accept, decline, defer, plus_sign, minus_sign}
use Rattle.grammar.specs.Transfers.{byte_sum}
use Rattle.mail.specs.Mail.{Message, accepted}
use Rattle.session.specs.Choices.{Shelf, body_bytes}
use Rattle.session.specs.Session as on_lists
use Rattle.layout.specs.Layout.{entry_at, proposal_bytes, proposal_in, message_kept, body_start, body_length, message_bytes}
use Rattle.transfer_read.specs.Feed.{room_of}
use Rattle.transfer_read.specs.Meaning.{Stands}
use Rattle.session_memory.specs.State.{held}
use Rattle.session_memory.specs.declared.Terms.{Terms}
use Rattle.session_memory.specs.Session.{Await}
use Rattle.session_memory.specs.Session.{Session}
use Rattle.entries.specs.Decoded.{records_of, known_bids, proposals_of, place_count}
use Rattle.marking.specs.States.{states_of, Whole}
use Rattle.waiting.specs.Waiting.{waiting_of}
use Rattle.receive_defined.specs.Receiving.{Cs}
use Rattle.represents.specs.Laid.{bodies_bytes}
use Rattle.represents.specs.Tallies.{Tallies}
use Rattle.form_closed.specs.Fixed.{Fixed}
use Rattle.grammar.specs.Fields.{body_max}
use Rattle.phase.specs.Phase.{phase_called_sid, phase_caller_sid, phase_prompt, phase_turn, phase_fs, phase_transfer, phase_leaving, phase_over}
use Rattle.session_memory.specs.Session.{Keep}
use Rattle.places.specs.Places.{entry_len, proposal_len}

-- ---------------------------------------------------------------- lists in lent memory

-- n messages of the inbox from message i on, with their bodies.
abbrev pub messages_from : Bytes → Bytes → ℕ → ℕ → List Message
messages_from inbox store i zero = []
messages_from inbox store i (suc n) = message_kept store (entry_at entry_len inbox i) ∷ messages_from inbox store (suc i) n

-- The inbox up to its count.
unfoldable pub messages_of : Bytes → Bytes → ℕ → List Message
messages_of inbox store n = messages_from inbox store 0 n

-- "bodies lie one after another in a lent store": the body of message i begins at this place, and so on for n messages
abbrev pub InRow : Bytes → ℕ → ℕ → ℕ → Type 0
InRow inbox i zero place = Unit {0}
InRow inbox i (suc n) place =
    (body_start (entry_at entry_len inbox i) ≡ place) × InRow inbox (suc i) n (place + body_length (entry_at entry_len inbox i))

-- Entries of the inbox from place i on are those of these messages, whose bodies lie in the store from start on.
abbrev pub LaidFrom : Bytes → ℕ → ℕ → List Message → Type 0
LaidFrom inbox i start [] = Unit {0}
LaidFrom inbox i start (m ∷ ms) = (entry_at entry_len inbox i ≡ message_bytes m start) × LaidFrom inbox (suc i) (start + length m.body) ms

-- The entry of a proposal is what is written for the proposal that it is read as.
abbrev pub Written : Bytes → Type 0
Written c = proposal_bytes (proposal_in c) ≡ c

-- The sign that a byte of our FS line is; our lines hold no other.
abbrev pub sign_is : ℕ → Sign
sign_is b = cond (eqb b plus_sign) accept (cond (eqb b minus_sign) decline defer)

abbrev pub signs_in : List ℕ → List Sign
signs_in [] = []
signs_in (b ∷ bs) = sign_is b ∷ signs_in bs

-- The proposals that we accepted from the one under way on.
abbrev pub owed : Session → List Proposal
owed s = accepted (signs_in (drop s.now.current (held s.say.signs))) (drop s.now.current (proposals_of s.now.block s.now.proposals))

-- ---------------------------------------------------------------- the parts of the relation

-- Every proposal of the block lies there as it is written.
abbrev pub BlockWritten : Bytes → ℕ → Type 0
BlockWritten block n = (i : ℕ) → i < n → Written (entry_at proposal_len block i)

-- Table t, inbox i and store st, with the known BIDs, are those of the shelf; buffers of entries hold a whole number of them.
pub record Shelved (F : Fixed) (E : Shelf) (t i st : Bytes) : Type 0 where
  pub records : records_of F.titles F.names F.bodies t ≡ E.table
  pub known : known_bids F.known ≡ E.known
  pub places : place_count i ≡ E.places
  pub bytes : length st ≡ E.bytes
  pub table : Whole t
  pub inbox : length i ≡ E.places * entry_len

-- So many messages are kept, and these they are; their bodies lie in a row at the beginning of the store, use so many bytes of it, and each has 65,535
-- bytes at most.
pub record Boxed (kept used : ℕ) (i st : Bytes) (ms : List Message) : Type 0 where
  pub count : kept ≡ length ms
  pub messages : messages_of i st kept ≡ ms
  pub laid : LaidFrom i 0 0 ms
  pub bodies : take used st ≡ bodies_bytes ms
  pub row : InRow i 0 kept 0
  pub small : used ≤ kept * body_max
  pub bytes : used ≡ body_bytes ms

-- What is settled with the partner. Its column of the table is no part of it: the session on lists is handed that column and knows of no other.
pub record Agreed (t : Terms) (u : on_lists.Terms) : Type 0 where
  pub level : t.level ≡ u.level

-- The session's memory: what is kept k, with table, inbox and store.
pub record Holds (F : Fixed) (E : Shelf) (k : Keep) (t i st : Bytes) (m : on_lists.Memory) : Type 0 where
  pub shelved : Shelved F E t i st
  pub boxed : Boxed k.kept k.used i st m.inbox
  pub framed : k.framed ≡ m.framed
  pub terms : Agreed k.terms m.terms
  pub states : states_of k.terms.partner t ≡ m.states
  pub sending : held k.sending ≡ m.sending
  pub flags : k.deferred ≡ m.deferred

-- What waits is what is still to be given.
abbrev pub StillToGive : Fixed → Cs → Bytes → Type 0
StillToGive F c out = drop c.session.say.pos (waiting_of c.session c.table F.titles F.names F.bodies) ≡ out

-- The number of the line that is awaited, and what is held with it: in the partner's turn its proposals, and the sum of their lines as received.
abbrev pub line_number : on_lists.Awaited → ℕ
line_number (on_lists.awaits_sid caller) = cond caller phase_caller_sid phase_called_sid
line_number on_lists.awaits_prompt = phase_prompt
line_number (on_lists.awaits_turn ff ps raw) = phase_turn
line_number (on_lists.awaits_answer is) = phase_fs

abbrev pub HeldFor : Await → on_lists.Awaited → Type 0
HeldFor w (on_lists.awaits_sid caller) = Unit {0}
HeldFor w on_lists.awaits_prompt = Unit {0}
HeldFor w (on_lists.awaits_turn ff ps raw) = (w.ff ≡ ff) × (proposals_of w.block w.proposals ≡ ps) × (w.sum ≡ byte_sum raw % byte_values)
HeldFor w (on_lists.awaits_answer is) = held w.ours ≡ is

-- What is awaited.
abbrev pub Awaits : Cs → on_lists.Phase → Type 0
Awaits c (on_lists.a_line a) = (c.session.now.phase ≡ line_number a) × HeldFor c.session.now a
Awaits c (on_lists.awaits_transfer p ps sc) =
    (c.session.now.phase ≡ phase_transfer) × (owed c.session ≡ p ∷ ps)
    × Stands (room_of (drop c.session.keep.used c.store)) c.session.reading.reader c.session.reading.heading (drop c.session.keep.used c.store) sc
Awaits c on_lists.leaving = c.session.now.phase ≡ phase_leaving
Awaits c on_lists.over = phase_over ≤ c.session.now.phase

-- ---------------------------------------------------------------- the relation

-- All but what is counted.
pub record Standing (F : Fixed) (E : Shelf) (c : Cs) (s : on_lists.Session) : Type 0 where
  pub entries : BlockWritten c.session.now.block c.session.now.proposals
  pub holds : Holds F E c.session.keep c.table c.inbox c.store s.memory
  pub says : StillToGive F c s.out
  pub awaits : Awaits c s.phase
  pub part : take c.session.line.len c.session.line.bytes ≡ s.part
  pub after_cr : c.session.line.after_cr ≡ s.after_cr

-- With it.
pub record Represents (F : Fixed) (E : Shelf) (c : Cs) (s : on_lists.Session) : Type 0 where
  pub standing : Standing F E c s
  pub tally : Tallies E c.session.tally s.memory
