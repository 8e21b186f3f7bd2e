-- 01, "Lent memory": what a record of the table, a known BID, a message of the inbox and a proposal in session memory hold, at the places of
-- crates/places. Entries are bytes of one fixed size, numbers little end first, a field its length and then its bytes.
use Rattle.std.specs.Prelude.{[], ◌∷◌, ◌++◌, ℕ, ◌+◌, ◌*◌, ◌/◌, ◌%◌, min, length, get_or, take, drop, replicate}
use Rattle.grammar.specs.Bytes.{Bytes, byte_values, two_byte_values, three_byte_values, four_byte_values}
use Rattle.grammar.specs.Fields.{Form, form_is, form_number}
use Rattle.grammar.specs.Turns.{Proposal}
use Rattle.grammar.specs.Transfers.{part_of}
use Rattle.mail.specs.Mail.{Record, Message}
use Rattle.places.specs.Places.{call_max, at_max, bid_max, heading_max, form_at, type_at, from_at, at_at, to_at, bid_at, fields_size, proposal_size_at, record_states, record_fields, record_title, record_title_length, record_name, record_name_length, record_body, record_body_length, record_len, entry_heading, entry_body, entry_body_length}

-- ---------------------------------------------------------------- numbers and fields

-- A byte; 0 past the end.
abbrev pub byte_at : Bytes → ℕ → ℕ
byte_at s at = get_or s at 0

abbrev pub le2_at : Bytes → ℕ → ℕ
le2_at s at = byte_at s at + byte_values * byte_at s (at + 1)

abbrev pub le4_at : Bytes → ℕ → ℕ
le4_at s at = byte_at s at + byte_values * byte_at s (at + 1) + two_byte_values * byte_at s (at + 2) + three_byte_values * byte_at s (at + 3)

abbrev pub le8_at : Bytes → ℕ → ℕ
le8_at s at = le4_at s at + four_byte_values * le4_at s (at + 4)

abbrev pub le2 : ℕ → Bytes
le2 x = x % byte_values ∷ x / byte_values % byte_values ∷ []

abbrev pub le4 : ℕ → Bytes
le4 x = x % byte_values ∷ x / byte_values % byte_values ∷ x / two_byte_values % byte_values ∷ x / three_byte_values % byte_values ∷ []

abbrev pub le8 : ℕ → Bytes
le8 x = le4 x ++ le4 (x / four_byte_values)

-- A field of at most n bytes: its length stands at a place, its bytes after it.
abbrev pub field_in : ℕ → ℕ → Bytes → Bytes
field_in n at s = part_of s (at + 1) (min n (byte_at s at))

-- A field as it is written: its length, its bytes, zeros up to n.
abbrev pub field_out : ℕ → Bytes → Bytes
field_out n w = length w % byte_values ∷ take n (w ++ replicate n 0)

-- ---------------------------------------------------------------- a text in a store

-- "Title, name and body are a start and a length in three lent stores."
pub record Extent : Type 0 where
  pub start : ℕ
  pub len : ℕ

abbrev pub extent : ℕ → ℕ → Extent
extent start len = record { start = start; len = len }

-- The bytes of a store there; empty where it runs past the end.
abbrev pub text_in : Bytes → Extent → Bytes
text_in store e = part_of store e.start e.len

-- Written: a start of four bytes, then the length, of a title or name in one byte, of a body in two.
abbrev pub heading_extent_out : Extent → Bytes
heading_extent_out e = le4 e.start ++ (e.len % byte_values ∷ [])

abbrev pub body_extent_out : Extent → Bytes
body_extent_out e = le4 e.start ++ le2 e.len

-- ---------------------------------------------------------------- entries

-- The entry at a place of a buffer of entries of this size, counted from 0; empty past the end.
abbrev pub entry_at : ℕ → Bytes → ℕ → Bytes
entry_at size s i = part_of s (i * size) size

-- ---------------------------------------------------------------- the fields of a message, wherever they begin

pub record Fields : Type 0 where
  pub form : Form
  pub type : ℕ
  pub from : Bytes
  pub at : Bytes
  pub to : Bytes
  pub bid : Bytes

-- Read from a place b on.
abbrev pub fields_at : ℕ → Bytes → Fields
fields_at b c =
    record {
      form = form_is (byte_at c (b + form_at));
      type = byte_at c (b + type_at);
      from = field_in call_max (b + from_at) c;
      at = field_in at_max (b + at_at) c;
      to = field_in call_max (b + to_at) c;
      bid = field_in bid_max (b + bid_at) c;
    }

-- Written.
abbrev pub fields_out : ℕ → ℕ → Bytes → Bytes → Bytes → Bytes → Bytes
fields_out form type from at to bid = form ∷ type ∷ (field_out call_max from ++ (field_out at_max at ++ (field_out call_max to ++ field_out bid_max bid)))

-- ---------------------------------------------------------------- a proposal: the fields, the announced size

abbrev pub proposal_with : Fields → ℕ → Proposal
proposal_with f size = record { form = f.form; type = f.type; from = f.from; at = f.at; to = f.to; bid = f.bid; size = size }

abbrev pub proposal_at : ℕ → Bytes → Proposal
proposal_at b c = proposal_with (fields_at b c) (le4_at c (b + proposal_size_at))

abbrev pub proposal_out : ℕ → ℕ → Bytes → Bytes → Bytes → Bytes → ℕ → Bytes
proposal_out form type from at to bid size = fields_out form type from at to bid ++ le4 size

abbrev pub proposal_bytes : Proposal → Bytes
proposal_bytes p = proposal_out (form_number p.form) p.type p.from p.at p.to p.bid p.size

-- In session memory.
abbrev pub proposal_in : Bytes → Proposal
proposal_in c = proposal_at 0 c

-- ---------------------------------------------------------------- a record: its states, a proposal's parts, where title, name and body lie

-- Where they lie. Nothing else says these places.
abbrev pub title_extent : Bytes → Extent
title_extent c = extent (le4_at c record_title) (byte_at c record_title_length)

abbrev pub name_extent : Bytes → Extent
name_extent c = extent (le4_at c record_name) (byte_at c record_name_length)

abbrev pub body_extent : Bytes → Extent
body_extent c = extent (le4_at c record_body) (le2_at c record_body_length)

abbrev pub record_with : Proposal → Bytes → Bytes → Bytes → Record
record_with p title name body =
    record { form = p.form; type = p.type; from = p.from; at = p.at; to = p.to; bid = p.bid; size = p.size; title = title; name = name; body = body }

abbrev pub record_of : Bytes → Bytes → Bytes → Bytes → Record
record_of titles names bodies c = record_with (proposal_at record_fields c) (text_in titles (title_extent c)) (text_in names (name_extent c)) (text_in bodies (body_extent c))

-- Written: its state for each partner, a proposal's parts, where title, name and body lie.
abbrev pub record_out : Bytes → Proposal → Extent → Extent → Extent → Bytes
record_out states p title name body = states ++ (proposal_bytes p ++ (heading_extent_out title ++ (heading_extent_out name ++ body_extent_out body)))

-- Where it has its state for a partner: a byte a partner, from where its states begin. Nothing else says this place.
abbrev pub state_place : ℕ → ℕ
state_place partner = record_states + partner

-- Its state for a partner; sealed, so that what is said of states holds wherever they stand.
unfoldable pub state_for : ℕ → Bytes → ℕ
state_for partner c = byte_at c (state_place partner)

-- That of record i of the table.
abbrev pub state_of : ℕ → Bytes → ℕ → ℕ
state_of partner table i = state_for partner (drop (i * record_len) table)

-- ---------------------------------------------------------------- a known BID

abbrev pub known_of : Bytes → Bytes
known_of c = field_in bid_max 0 c

-- ---------------------------------------------------------------- an inbox entry: the fields, the heading, the body's start and length

abbrev pub message_with : Fields → Bytes → Bytes → Message
message_with f heading body =
    record { form = f.form; type = f.type; from = f.from; at = f.at; to = f.to; bid = f.bid; heading = heading; body = body }

abbrev pub message_in : Bytes → Bytes → Message
message_in c body = message_with (fields_at 0 c) (field_in heading_max entry_heading c) body

-- Where its body lies in the store.
abbrev pub kept_extent : Bytes → Extent
kept_extent c = extent (le4_at c entry_body) (le2_at c entry_body_length)

abbrev pub body_start : Bytes → ℕ
body_start c = (kept_extent c).start

abbrev pub body_length : Bytes → ℕ
body_length c = (kept_extent c).len

-- All of the message, its body out of the store.
abbrev pub message_kept : Bytes → Bytes → Message
message_kept store c = message_in c (text_in store (kept_extent c))

-- Written: the fields' bytes, the heading, where the body lies.
abbrev pub entry_with : Bytes → Bytes → Extent → Bytes
entry_with fields heading body = fields ++ (field_out heading_max heading ++ body_extent_out body)

-- What is kept of a proposal c with its heading, and a body of n bytes from start on.
abbrev pub entry_out : Bytes → Bytes → ℕ → ℕ → Bytes
entry_out c heading start n = entry_with (part_of c 0 fields_size) heading (extent start n)

-- The same of a message, its body from start on: "form, type, from, at, to, BID, title or name, and body", of which it has the place in the store and the length.
abbrev pub message_bytes : Message → ℕ → Bytes
message_bytes m start =
    entry_with (fields_out (form_number m.form) m.type m.from m.at m.to m.bid) m.heading (extent start (length m.body))
