-- Opens that are accepted, and one of each kind that is refused, with their replies. That open gives these is computed (proofs/Examples), so that the
-- claim can be seen not to be empty.
use Rattle.std.specs.Prelude.{Bool, cond, List, [], ◌∷◌, ◌++◌, map, ℕ, ◌+◌, ◌*◌, eqb, length, replicate, set}
use Rattle.grammar.specs.Bytes.{Bytes, SP, CTRLZ, every}
use Rattle.grammar.specs.Ascii.{text, char}
use Rattle.grammar.specs.Fields.{form_number, plain, file}
use Rattle.grammar.specs.Refusals.{bad_memory, no_place}
use Rattle.phase.specs.Phase.{state_waiting, state_forwarded, state_declined}
use Rattle.places.specs.Places.{record_form, record_type, record_from, record_at_field, record_to, record_bid, record_size_at, record_title, record_title_length, record_name, record_body_length, record_len, entry_len, session_len, bid_max, partners}
use Rattle.layout.specs.Layout.{extent, field_out, record_out, state_place}
use Rattle.marking.specs.States.{states_of}
use Rattle.give.specs.Giving.{reply}
use Rattle.give.specs.declared.Reply.{Reply}
use Rattle.open.specs.Opening.{Opened, open_of}
use Rattle.open_accepts.specs.Words.{point, at_sign}
use Rattle.open.specs.Lending.{Lending, lending, role_called, role_caller}

-- ---------------------------------------------------------------- what is lent

-- A record in this state for every partner, with this BID: a plain text with the first title and the first eight bytes of the body store.
abbrev pub letter_bytes : ℕ → Bytes → Bytes
letter_bytes state bid =
    record_out (replicate partners state) (record { form = plain; type = char "P"; from = text "F0ABC"; at = text "N0SUD.TST.FRA.EU"; to = text "F0XYZ"; bid = bid; size = 160 })
    (extent 0 5) (extent 0 0) (extent 0 8)

abbrev pub first_record : Bytes
first_record = letter_bytes state_waiting (text "101_N0NOR")

abbrev pub second_record : Bytes
second_record = letter_bytes state_forwarded (text "102_N0NOR")

abbrev pub third : Bytes
third = letter_bytes state_declined (text "103_N0NOR")

-- the first one's BID in small letters
abbrev pub small : Bytes
small = letter_bytes state_waiting (text "101_n0nor")

-- two that are two, though the last byte differs as the cases of a letter do
abbrev pub bracket : Bytes
bracket = letter_bytes state_waiting (text "101_N0NO[")

abbrev pub brace : Bytes
brace = letter_bytes state_waiting (text "101_N0NO{")

abbrev pub known : Bytes → Bytes
known bid = field_out bid_max bid

-- A title, a name, and a body store in which a 0x1A follows the first eight bytes.
abbrev pub lent_for : ℕ → ℕ → ℕ → Bytes → Bytes → ℕ → Lending
lent_for partner role session table bids inbox =
    lending role partner (replicate session 0) table (text "Hello") (text "A.BIN") (text "Hi there" ++ (CTRLZ ∷ [])) bids (replicate inbox 0) []

-- One partner, and the last one.
abbrev pub a_partner : ℕ
a_partner = 3

abbrev pub last_partner : ℕ
last_partner = 7

abbrev pub lent_to_open : ℕ → ℕ → Bytes → Bytes → ℕ → Lending
lent_to_open role session table bids inbox = lent_for a_partner role session table bids inbox

-- All good, and only the table differs.
abbrev pub holding : Bytes → Lending
holding table = lent_to_open role_caller session_len table (known (text "7_F6FBB")) entry_len

-- ---------------------------------------------------------------- the examples

pub record OpenExample : Type 0 where
  pub lending : Lending
  pub expected : Reply

abbrev pub gets : Lending → Reply → OpenExample
gets L r = record { lending = L; expected = r }

abbrev pub accepted_reply : Reply
accepted_reply = reply 0 0 0

abbrev pub bad_before : Reply
bad_before = reply bad_memory no_place 0

abbrev pub bad_at : ℕ → Reply
bad_at place = reply bad_memory place 0

-- an empty table; the last partner; one record; records in all three states; BIDs that differ as letters do and in no letter
abbrev pub good_ones : List OpenExample
good_ones =
    gets (lent_to_open role_called session_len [] [] 0) accepted_reply ∷ gets (lent_to_open role_caller session_len [] [] 0) accepted_reply ∷ gets (lent_for last_partner role_called session_len first_record [] 0) accepted_reply ∷ gets (holding first_record) accepted_reply
    ∷ gets (holding (first_record ++ (second_record ++ third))) accepted_reply ∷ gets (holding (bracket ++ brace)) accepted_reply ∷ []

-- a partner too many, also where a record is bad; role; session memory too short; half a record; 65 records; half a known BID; a known BID with a space, one that is longer than its room; 65 inbox places
abbrev pub bad_before_records : List OpenExample
bad_before_records =
    gets (lent_for partners role_called session_len [] [] 0) bad_before ∷ gets (lent_for partners role_called session_len (set first_record record_form 3) [] 0) bad_before
    ∷ gets (lent_to_open 2 session_len [] [] 0) bad_before ∷ gets (lent_to_open role_called 1023 [] [] 0) bad_before ∷ gets (lent_to_open role_called session_len (0 ∷ first_record) [] 0) bad_before
    ∷ gets (lent_to_open role_called session_len (replicate (65 * record_len) 0) [] 0) bad_before ∷ gets (lent_to_open role_called session_len [] (1 ∷ 65 ∷ []) 0) bad_before
    ∷ gets (lent_to_open role_called session_len [] (known (text "A B")) 0) bad_before ∷ gets (lent_to_open role_called session_len [] (known (text "1234567890123")) 0) bad_before
    ∷ gets (lent_to_open role_called session_len [] [] (65 * entry_len)) bad_before ∷ []

-- One byte of a good record changed: the state for partner 0, for the session's, for the last one; form, type, from, at, to, BID, size, title, name and body, each out of its rule or out of its store.
abbrev pub slips : List Bytes
slips =
    set first_record (state_place 0) 3 ∷ set first_record (state_place a_partner) 3 ∷ set first_record (state_place last_partner) 3 ∷ set first_record record_form 3 ∷ set first_record record_type SP ∷ set first_record record_from 0 ∷ set first_record record_from 7 ∷ set first_record (record_at_field + 1) point
    ∷ set first_record record_at_field 39 ∷ set first_record (record_to + 1) at_sign ∷ set first_record (record_bid + 1) SP ∷ set first_record record_bid 13 ∷ set first_record (record_size_at + 2) 16
    ∷ set first_record record_title 1 ∷ set first_record record_title_length 0 ∷ set first_record record_name 6 ∷ set first_record record_form (form_number file)
    ∷ set first_record record_body_length 9 ∷ set first_record record_body_length 10 ∷ []

abbrev pub bad_alone : Bytes → OpenExample
bad_alone table = gets (holding table) (bad_at 0)

-- behind a good one; two of one BID, spelt alike and not; the first of two bad ones
abbrev pub bad_later : List OpenExample
bad_later =
    gets (holding (second_record ++ set first_record record_form 3)) (bad_at 1) ∷ gets (holding (first_record ++ (second_record ++ first_record))) (bad_at 2) ∷ gets (holding (first_record ++ small)) (bad_at 1)
    ∷ gets (holding (first_record ++ (set second_record (state_place 0) 3 ++ set third (state_place 0) 3))) (bad_at 1) ∷ []

abbrev pub open_examples : List OpenExample
open_examples = good_ones ++ (bad_before_records ++ (map bad_alone slips ++ bad_later))

abbrev pub open_answered : OpenExample → Reply
open_answered e = (open_of e.lending).reply

abbrev pub open_expected : OpenExample → Reply
open_expected e = e.expected

-- ---------------------------------------------------------------- wrong opens

-- Three that nothing said after an accepted open can refuse: one that refuses every table with a record, one that refuses every table with a record
-- in state 1 or 2, one that reports place 0 for every bad record. The claim holds of none of them (proofs/Examples).
abbrev pub refusing : Lending → Opened
refusing L = record { reply = bad_at 0; sm = L.session }

abbrev pub without_records : Lending → Opened
without_records L = cond (eqb (length L.table) 0) (open_of L) (refusing L)

abbrev pub is_waiting : ℕ → Bool
is_waiting s = eqb s state_waiting

abbrev pub of_waiting_only : Lending → Opened
of_waiting_only L = cond (every is_waiting (states_of L.partner L.table)) (open_of L) (refusing L)

abbrev pub at_place0 : Lending → Opened
at_place0 L = record { reply = reply (open_of L).reply.answer 0 0; sm = (open_of L).sm }
