-- When what open is called with is good: 01, "Open checks role (0 called, 1 caller), sizes and known BIDs first, then records in order; of two records
-- with one BID the later is bad."
use Rattle.std.specs.Prelude.{◌≡◌, ◌⊎◌, ℕ, ◌*◌, ◌≤◌, ◌<◌, length}
use Rattle.grammar.specs.Ascii.{char}
use Rattle.grammar.specs.Bids.{OneBid}
use Rattle.grammar.specs.Bytes.{Bytes}
use Rattle.grammar.specs.Fields.{form_number}
use Rattle.mail.specs.Mail.{Record, record_limit, place_limit}
use Rattle.phase.specs.Phase.{state_waiting, state_forwarded, state_declined}
use Rattle.places.specs.Places.{record_form, record_from, record_at_field, record_to, record_bid, record_len, partners, known_len, entry_len, session_len}
use Rattle.layout.specs.Layout.{byte_at, title_extent, name_extent, body_extent}
use Rattle.open_accepts.specs.Words.{Callsign, AtField, Bid, EntryField, Headed, Bodied, NeedsTitle, NeedsName}
use Rattle.open.specs.Lending.{Lending, role_called, role_caller}
use Rattle.open_accepts.specs.Lent.{records_in, record_in, state_in, record_bytes, known_in, bid_in, known_bytes_in}
use Rattle.entries.specs.Decoded.{known_limit}

-- ---------------------------------------------------------------- before the records

-- "role (0 called, 1 caller)"
abbrev pub IsRole : ℕ → Type 0
IsRole r = (r ≡ role_called) ⊎ (r ≡ role_caller)

-- A buffer of entries: "a limit above" is not passed, and it holds a whole number of them.
pub record Entries (size most : ℕ) (s : Bytes) : Type 0 where
  pub count : ℕ
  pub whole : length s ≡ count * size
  pub limit : count ≤ most

-- All that open checks before the records.
pub record BeforeRecords (L : Lending) : Type 0 where
  -- "partner 8 or more gets 1 with place 255, tested first"
  pub partner : L.partner < partners
  pub role : IsRole L.role
  -- "session memory hasn't its fixed size"
  pub session : length L.session ≡ session_len
  -- "0 to 64 records"
  pub table : Entries record_len record_limit L.table
  -- "Known BIDs: up to 1,024 .. one outside the BID rule below is a bad buffer"
  pub known : Entries known_len known_limit L.known
  pub bids : (j : ℕ) → j < length (known_in L) → EntryField Bid (byte_at (known_bytes_in L j) 0) (bid_in L j)
  -- "Inbox: up to 64 messages"
  pub inbox : Entries entry_len place_limit L.inbox

-- ---------------------------------------------------------------- a record

-- "a type (P or B)"
abbrev pub IsType : ℕ → Type 0
IsType t = (t ≡ char "P") ⊎ (t ≡ char "B")

-- "a state (0 waiting, 1 forwarded, 2 declined)"
abbrev pub IsState : ℕ → Type 0
IsState s = (s ≡ state_waiting) ⊎ ((s ≡ state_forwarded) ⊎ (s ≡ state_declined))

-- "announced size 0 to 999,999"
abbrev pub size_most : ℕ
size_most = 999999

-- r, as read from the bytes c; s, its state for each partner.
pub record GoodRecord (L : Lending) (s : ℕ → ℕ) (c : Bytes) (r : Record) : Type 0 where
  -- "a form (0 plain text, 1 packed message, 2 packed file)": the number there is that of the form read
  pub form : byte_at c record_form ≡ form_number r.form
  pub type : IsType r.type
  -- "one state a partner, 0 to 7": every one of them, whoever the partner is
  pub states : (p : ℕ) → p < partners → IsState (s p)
  pub from : EntryField Callsign (byte_at c record_from) r.from
  pub at : EntryField AtField (byte_at c record_at_field) r.at
  pub to : EntryField Callsign (byte_at c record_to) r.to
  pub bid : EntryField Bid (byte_at c record_bid) r.bid
  pub size : r.size ≤ size_most
  pub title : Headed (NeedsTitle r.form) L.titles (title_extent c) r.title
  pub name : Headed (NeedsName r.form) L.names (name_extent c) r.name
  pub body : Bodied r.form L.bodies (body_extent c) r.body

-- The record at place i, counted from 0.
pub record GoodAt (L : Lending) (i : ℕ) : Type 0 where
  pub good : GoodRecord L (λ (p : ℕ). state_in L p i) (record_bytes L i) (record_in L i)
  -- "of two records with one BID the later is bad"
  pub new : (j : ℕ) → j < i → OneBid (record_in L j).bid (record_in L i).bid → ⊥

-- ---------------------------------------------------------------- all of it

-- Nothing is bad.
pub record Acceptable (L : Lending) : Type 0 where
  pub sound : BeforeRecords L
  pub records : (i : ℕ) → i < length (records_in L) → GoodAt L i

-- "place = first bad record, from 0"
pub record FirstBad (L : Lending) (i : ℕ) : Type 0 where
  pub sound : BeforeRecords L
  pub there : i < length (records_in L)
  pub bad : GoodAt L i → ⊥
  pub before : (j : ℕ) → j < i → GoodAt L j
