-- 01, "Open checks role (0 called, 1 caller), sizes and known BIDs first, then records in order; of two records with one BID the later is
-- bad."
use Rattle.std.specs.Prelude.{◌≡◌, Result, Ok, Err, Bool, true, cond, not, ◌&&◌, ℕ, zero, suc, ◌-◌, ◌/◌, ◌%◌, eqb, leb, ltb, length}
use Rattle.grammar.specs.Bytes.{Bytes}
use Rattle.grammar.specs.Refusals.{bad_memory, no_place}
use Rattle.grammar.specs.Fields.{Form, form_is, is_call, is_at, is_bid, is_heading, is_body}
use Rattle.grammar.specs.Turns.{is_type}
use Rattle.mail.specs.Mail.{record_limit, place_limit}
use Rattle.session.specs.Choices.{among}
use Rattle.phase.specs.Phase.{state_declined}
use Rattle.places.specs.Places.{at_max, bid_max, call_max, partners, record_at_field, record_bid, record_form, record_from, record_size_at, record_to, record_type, entry_len, known_len, record_len, session_len}
use Rattle.layout.specs.Layout.{Extent, byte_at, le4_at, field_in, text_in, entry_at, title_extent, name_extent, body_extent, state_for}
use Rattle.record_text.specs.Texts.{file_form}
use Rattle.session_memory.specs.State.{save_of, save_sizes, fresh_of}
use Rattle.session_memory.specs.Session.{Session}
use Rattle.session_memory.specs.declared.Sizes.{Sizes}
use Rattle.entries.specs.Decoded.{entries, record_count, known_count, known_limit}
use Rattle.sheet.specs.Sheet.{no_sheet}
use Rattle.tally.specs.Tally.{counted}
use Rattle.form_test.specs.Form.{lent_sizes}
use Rattle.give.specs.Giving.{reply}
use Rattle.give.specs.declared.Reply.{Reply}
use Rattle.open.specs.Lending.{Lending, role_caller}

-- ---------------------------------------------------------------- a record

-- The field's length fits its place.
abbrev pub length_ok : Bytes → ℕ → ℕ → Bool
length_ok c at n = leb (byte_at c at) n

-- "a state (0 waiting, 1 forwarded, 2 declined)", now "one state a partner, 0 to 7": n of them from partner p on
abbrev pub states_from : Bytes → ℕ → ℕ → Bool
states_from c p zero = true
states_from c p (suc n) = leb (state_for p c) state_declined && states_from c (suc p) n

unfoldable pub states_ok : Bytes → Bool
states_ok c = states_from c 0 partners

-- "announced size 0 to 999,999"
abbrev pub size_limit : ℕ
size_limit = 999999

-- the states, "a form (0 .., 1 .., 2 ..)", "a type (P or B)", "announced size 0 to 999,999"
unfoldable pub numbers_ok : Bytes → Bool
numbers_ok c = states_ok c && (leb (byte_at c record_form) file_form && (is_type (byte_at c record_type) && leb (le4_at c record_size_at) size_limit))

-- "from, at, to, BID"
unfoldable pub fields_ok : Bytes → Bool
fields_ok c =
    (length_ok c record_from call_max && is_call (field_in call_max record_from c)) && ((length_ok c record_at_field at_max && is_at (field_in at_max record_at_field c))
    && ((length_ok c record_to call_max && is_call (field_in call_max record_to c)) && (length_ok c record_bid bid_max && is_bid (field_in bid_max record_bid c))))

-- "Title, name and body are a start and a length in three lent stores."
unfoldable pub within : Bytes → Extent → Bool
within s e = leb e.start (length s) && leb e.len (length s - e.start)

-- "Forms 0 and 1 need a title, form 2 a name; the unused one may be empty, else the same bytes and length hold."
unfoldable pub heading_ok : Bytes → Extent → Bool → Bool
heading_ok s e needed = within s e && cond (eqb e.len 0) (not needed) (is_heading (text_in s e))

abbrev pub body_ok : Bytes → Extent → Form → Bool
body_ok s e form = within s e && is_body form (text_in s e)

unfoldable pub texts_ok : Bytes → Bytes → Bytes → Bytes → Bool
texts_ok c titles names bodies =
    heading_ok titles (title_extent c) (not (eqb (byte_at c record_form) file_form)) && (heading_ok names (name_extent c) (eqb (byte_at c record_form) file_form)
    && body_ok bodies (body_extent c) (form_is (byte_at c record_form)))

unfoldable pub record_ok : Bytes → Bytes → Bytes → Bytes → Bool
record_ok c titles names bodies = numbers_ok c && (fields_ok c && texts_ok c titles names bodies)

-- The record at this place is good, and no earlier one has its BID.
unfoldable pub place_ok : Bytes → Bytes → Bytes → Bytes → ℕ → Bool
place_ok table titles names bodies i =
    record_ok (entry_at record_len table i) titles names bodies
    && not (among (field_in bid_max record_bid (entry_at record_len table i)) (entries (field_in bid_max record_bid) record_len table i))

-- The first bad one of n records from place i on; `no_place` where there is none.
abbrev pub fault_from : Bytes → Bytes → Bytes → Bytes → ℕ → ℕ → ℕ
fault_from table titles names bodies i zero = no_place
fault_from table titles names bodies i (suc n) =
    cond (place_ok table titles names bodies i) (fault_from table titles names bodies (suc i) n) i

unfoldable pub table_fault : Bytes → Bytes → Bytes → Bytes → ℕ
table_fault table titles names bodies = fault_from table titles names bodies 0 (record_count table)

-- The code's answer to it: every record is good, or the place of the first that isn't.
abbrev pub Faults : Result Unit ℕ → ℕ → Type 0
Faults (Ok u) fault = fault ≡ no_place
Faults (Err place) fault = (place ≡ fault) × (fault ≡ no_place → ⊥)

-- ---------------------------------------------------------------- sizes and known BIDs

-- "one outside the BID rule below is a bad buffer"
abbrev pub bids_ok : Bytes → ℕ → ℕ → Bool
bids_ok known i zero = true
bids_ok known i (suc n) =
    (length_ok (entry_at known_len known i) 0 bid_max && is_bid (field_in bid_max 0 (entry_at known_len known i))) && bids_ok known (suc i) n

unfoldable pub known_ok : Bytes → Bool
known_ok known = bids_ok known 0 (known_count known)

-- "Sizes are bad exactly if a limit above is passed, a buffer of entries holds no whole number of them, or session memory hasn't its fixed
-- size"
abbrev pub entries_ok : ℕ → ℕ → ℕ → Bool
entries_ok len size most = eqb (len % size) 0 && leb (len / size) most

unfoldable pub sizes_ok : Bytes → Bytes → Bytes → Bytes → Bool
sizes_ok sm table known inbox =
    eqb (length sm) session_len && (entries_ok (length table) record_len record_limit && (entries_ok (length known) known_len known_limit && entries_ok (length inbox) entry_len place_limit))

-- ---------------------------------------------------------------- the call

-- The reply, and session memory after an open; nothing else changes.
pub record Opened : Type 0 where
  pub reply : Reply
  pub sm : Bytes

abbrev pub opened_with : Reply → Bytes → Opened
opened_with r sm = record { reply = r; sm = sm }

-- "A refused open changes no lent byte."
abbrev pub refused_at : Lending → ℕ → Opened
refused_at L place = opened_with (reply bad_memory place 0) L.session

abbrev pub sizes_lent : Lending → Sizes
sizes_lent L = lent_sizes L.table L.titles L.names L.bodies L.known L.inbox L.store

abbrev pub fault_in : Lending → ℕ
fault_in L = table_fault L.table L.titles L.names L.bodies

-- The session that begins, and session memory then, with the sizes of what is lent.
abbrev pub begun : Lending → Session
begun L = fresh_of (eqb L.role role_caller) L.partner (counted L.partner L.table no_sheet)

abbrev pub begun_in : Lending → Bytes
begun_in L = save_of (save_sizes L.session (sizes_lent L)) (begun L)

-- What is tested before the records, in this order. Each that fails is answered alike, so one more test is one more conjunct.
abbrev pub before_ok : Lending → Bool
before_ok L =
    -- 02: "partner 8 or more gets 1 with place 255, tested first"
    ltb L.partner partners
    -- 01: "Open checks role (0 called, 1 caller), ..
    && (leb L.role role_caller
    -- .. sizes ..
    && (sizes_ok L.session L.table L.known L.inbox
    -- .. and known BIDs first"
    && known_ok L.known))

-- What the tests come to: those before the records, "then records in order".
abbrev pub open_by : Lending → Bool → Bool → Opened
open_by L before records =
    cond before
    (cond records (opened_with (reply 0 0 0) (begun_in L)) (refused_at L (fault_in L)))
    (refused_at L no_place)

unfoldable pub open_of : Lending → Opened
open_of L = open_by L (before_ok L) (eqb (fault_in L) no_place)
