-- What the form test says of a state and its lent bytes, as facts (`Good`). The facts that are not tested (sizes of arrays, numbers within their
-- bytes) hold of every state that is loaded from bytes, and are needed to save it.
use Rattle.std.specs.Prelude.{◌≡◌, true, ℕ, ◌+◌, ◌≤◌, ◌<◌, length, get_or, drop}
use Rattle.grammar.specs.Bytes.{Bytes, every, is_byte, byte_values, word_values, two_byte_values, four_byte_values}
use Rattle.transfer_step.specs.declared.Reader.{Reader}
use Rattle.session_memory.specs.State.{held}
use Rattle.session_memory.specs.Session.{Await}
use Rattle.session_memory.specs.declared.Say.{Say}
use Rattle.session_memory.specs.declared.Terms.{Terms}
use Rattle.session_memory.specs.declared.Tally.{Tally}
use Rattle.sheet.specs.declared.Sheet.{Sheet}
use Rattle.session_memory.specs.Session.{Keep}
use Rattle.session_memory.specs.Session.{Line}
use Rattle.entries.specs.Decoded.{place_count}
use Rattle.waiting.specs.Waiting.{waiting_of}
use Rattle.pending.specs.Pending.{waits}
use Rattle.form_test.specs.Form.{used_by, pluses, is_last}
use Rattle.receive_defined.specs.Receiving.{Cs}
use Rattle.form_closed.specs.Fixed.{Fixed}
use Rattle.session_memory.specs.declared.Five.{Five}
use Rattle.grammar.specs.Fields.{body_max}
use Rattle.grammar.specs.Turns.{block_limit}
use Rattle.grammar.specs.Answers.{plus_sign}
use Rattle.phase.specs.Phase.{phase_turn, phase_transfer, phase_leaving, piece_none}
use Rattle.places.specs.Places.{deferred_len, heading_len, line_len, block_len, partners}
use Rattle.mail.specs.Mail.{place_limit}

-- Every number of the list is a byte.
pub record Octets (l : Bytes) : Type 0 where
  pub each : every is_byte l ≡ true

-- Up to five numbers in their array.
pub record FiveOk (f : Five) : Type 0 where
  pub few : f.count ≤ block_limit
  pub size : length f.items ≡ block_limit
  pub octets : Octets f.items

pub record AwaitOk (w : Await) : Type 0 where
  pub phase : w.phase < byte_values
  pub current : w.current < byte_values
  pub proposals : w.proposals ≤ block_limit
  pub ours : FiveOk w.ours
  pub sum : w.sum < byte_values
  pub block : length w.block ≡ block_len
  pub octets : Octets w.block

pub record SayOk (y : Say) : Type 0 where
  pub first : y.first < byte_values
  pub then : y.then < byte_values
  pub pos : y.pos < word_values
  pub signs : FiveOk y.signs

-- any byte is a level; the partner has a column
pub record TermsOk (t : Terms) : Type 0 where
  pub level : t.level < byte_values
  pub partner : t.partner < partners

pub record KeepOk (k : Keep) : Type 0 where
  pub terms : TermsOk k.terms
  pub sending : FiveOk k.sending
  pub flags : length k.deferred ≡ deferred_len
  pub octets : Octets k.deferred

pub record ReaderOk (r : Reader) : Type 0 where
  pub place : r.place < byte_values
  pub len : r.len < byte_values
  pub head : r.head ≤ heading_len
  pub off : r.off < byte_values
  pub left : r.left < two_byte_values
  pub sum : r.sum < byte_values
  pub body : r.body < four_byte_values

pub record HeadingOk (h : Bytes) : Type 0 where
  pub size : length h ≡ heading_len
  pub octets : Octets h

pub record LineOk (l : Line) : Type 0 where
  pub len : l.len ≤ line_len
  pub size : length l.bytes ≡ line_len
  pub octets : Octets l.bytes

-- Any bytes are tallies: none is tested.
pub record SheetOk (h : Sheet) : Type 0 where
  pub proposed : h.proposed < byte_values
  pub forwarded : h.forwarded < byte_values
  pub declined : h.declined < byte_values
  pub deferred : h.deferred < byte_values
  pub unsettled : h.unsettled < byte_values

pub record TallyOk (t : Tally) : Type 0 where
  pub waiting : t.waiting < byte_values
  pub sizes : t.sizes < four_byte_values
  pub sheet : SheetOk t.sheet

-- The messages kept have their places, and the store's use is their bodies'.
pub record InboxFits (k : Keep) (inbox store : Bytes) : Type 0 where
  pub limit : place_count inbox ≤ place_limit
  pub placed : k.kept ≤ place_count inbox
  pub used : used_by inbox k.kept ≡ k.used
  pub within : k.used ≤ length store

-- A transfer under way is that of an accepted proposal; it and those after it have their places, and its body lies in the store.
pub record Under (w : Await) (y : Say) (k : Keep) (r : Reader) (inbox store : Bytes) : Type 0 where
  pub current : w.current < w.proposals
  pub signs : y.signs.count ≡ w.proposals
  pub plus : get_or y.signs.items w.current 0 ≡ plus_sign
  pub places : k.kept + pluses (drop w.current (held y.signs)) ≤ place_count inbox
  pub short : r.body ≤ body_max
  pub room : k.used + r.body ≤ length store

-- Nothing waits, or the line that says why we hang up.
abbrev pub Last : ℕ → ℕ → Type 0
Last first then = (then ≡ piece_none) × (is_last first ≡ true)

-- Records are being sent only while the partner's turn, our leaving or nothing is awaited; a session that is closed has only its last line to give.
pub record AwaitedFits (w : Await) (y : Say) (k : Keep) (r : Reader) (inbox store : Bytes) : Type 0 where
  pub quiet : (w.phase ≡ phase_turn → ⊥) → w.phase ≤ phase_transfer → k.sending.count ≡ 0
  pub under : w.phase ≡ phase_transfer → Under w y k r inbox store
  pub closed : phase_leaving < w.phase → Last y.first y.then

-- Lent memory of these sizes, in bytes.
pub record LentSized (nt ni ns : ℕ) (t i s : Bytes) : Type 0 where
  pub table : length t ≡ nt
  pub inbox : length i ≡ ni
  pub store : length s ≡ ns
  pub fits : ns < word_values
  pub table_octets : Octets t
  pub inbox_octets : Octets i
  pub store_octets : Octets s

pub record Good (F : Fixed) (nt ni ns : ℕ) (c : Cs) : Type 0 where
  pub now : AwaitOk c.session.now
  pub say : SayOk c.session.say
  pub keep : KeepOk c.session.keep
  pub reader : ReaderOk c.session.reading.reader
  pub heading : HeadingOk c.session.reading.heading
  pub line : LineOk c.session.line
  pub tally : TallyOk c.session.tally
  pub box : InboxFits c.session.keep c.inbox c.store
  pub awaited : AwaitedFits c.session.now c.session.say c.session.keep c.session.reading.reader c.inbox c.store
  pub waiting : waits c.session.say ≡ true → c.session.say.pos < length (waiting_of c.session c.table F.titles F.names F.bodies)
  pub lent : LentSized nt ni ns c.table c.inbox c.store
