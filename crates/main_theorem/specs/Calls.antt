-- A list of calls over lent memory: "Each call is lent the same memory, as the last one left it, and nobody else writes it meanwhile."
use Rattle.std.specs.Prelude.{◌≡◌, true, Bool, not, List, [], ◌∷◌, ◌++◌, map, ℕ, ◌<◌, length, take, drop, eqb}
use Rattle.grammar.specs.Bytes.{Bytes, every, is_byte, word_values}
use Rattle.session_log.specs.Log.{Event, took, gave}
use Rattle.session_memory.specs.State.{load_of}
use Rattle.session_memory.specs.declared.Sizes.{Sizes}
use Rattle.form_test.specs.Form.{same_sizes, lent_sizes, form_of}
use Rattle.give.specs.Giving.{Given, give_of}
use Rattle.give.specs.declared.Reply.{Reply}
use Rattle.marking.specs.States.{states_of}
use Rattle.open.specs.Lending.{Lending, lending, role_caller}
use Rattle.open.specs.Opening.{Opened, open_of}
use Rattle.receive_defined.specs.Receiving.{Received, unchanged, receive_of}
use Rattle.form_closed.specs.Fixed.{Fixed, fixed_of}
use Rattle.form_closed.specs.Columns.{partner_of}
use Rattle.represents.specs.Frame.{reach_of}
use Rattle.places.specs.Places.{session_len}

-- ---------------------------------------------------------------- lent memory

-- A buffer that a host lends: bytes, each below 256, and fewer than 2 ^ 64 of them, since its length is a number of 64 bits. This says what a
-- slice of bytes is, in C and in the language, and nothing of what stands in it.
pub record Buffer : Type 0 where
  pub bytes : Bytes
  pub octets : every is_byte bytes ≡ true
  pub short : length bytes < word_values

-- What open is called with: its role, the partner, and the buffers that it is lent.
pub record OpenCall : Type 0 where
  pub role : ℕ
  pub partner : ℕ
  pub session : Buffer
  pub table : Buffer
  pub titles : Buffer
  pub names : Buffer
  pub bodies : Buffer
  pub known : Buffer
  pub inbox : Buffer
  pub store : Buffer

-- The same as open itself takes it: the bytes alone.
abbrev pub lending_of : OpenCall → Lending
lending_of M =
    lending M.role M.partner M.session.bytes M.table.bytes M.titles.bytes M.names.bytes M.bodies.bytes M.known.bytes M.inbox.bytes
    M.store.bytes

-- The lent bytes that a call may change: session memory, table, inbox and inbox store. The others are Fixed.
pub record Lent : Type 0 where
  pub sm : Bytes
  pub table : Bytes
  pub inbox : Bytes
  pub store : Bytes

abbrev pub fixed_in : OpenCall → Fixed
fixed_in M = fixed_of (lending_of M)

abbrev pub lent_in : OpenCall → Lent
lent_in M = record { sm = M.session.bytes; table = M.table.bytes; inbox = M.inbox.bytes; store = M.store.bytes }

abbrev pub sizes_of : Fixed → Lent → Sizes
sizes_of F m = lent_sizes m.table F.titles F.names F.bodies F.known m.inbox m.store

-- "Inbox: .. Its count stands in session memory"
abbrev pub message_count : Lent → ℕ
message_count m = (load_of m.sm).keep.kept

-- The partner whose column this session memory names.
abbrev pub partner_in : Lent → ℕ
partner_in m = partner_of (load_of m.sm)

-- How far the inbox store is written: kept messages, then the body bytes of the message under way or of one that failed.
abbrev pub store_reach : Lent → ℕ
store_reach m = reach_of (load_of m.sm)

-- ---------------------------------------------------------------- one call

-- The session memory that a call is lent: the session's own, as the last call left it, or other bytes.
pub data SessionLent : Type 0 where
  its_own : SessionLent
  other_bytes : Bytes → SessionLent

-- The bytes lent; sm: the session's own.
abbrev pub lent_session : SessionLent → Bytes → Bytes
lent_session its_own sm = sm
lent_session (other_bytes x) sm = x

-- The session's own after the call, which left y of the bytes lent.
abbrev pub own_after : SessionLent → Bytes → Bytes → Bytes
own_after its_own sm y = y
own_after (other_bytes x) sm y = sm

-- "a lent size isn't the one open kept in session memory", or session memory isn't "bytes of one fixed size". z: the sizes that open kept; y: those lent
abbrev pub another_size : Sizes → SessionLent → Sizes → Bool
another_size z its_own y = not (same_sizes z y)
another_size z (other_bytes x) y = not (eqb (length x) session_len)

-- Other memory than that of the sizes z: at least one size is another, that of session memory included.
pub record Other (z : Sizes) : Type 0 where
  pub session : SessionLent
  pub fixed : Fixed
  pub table : Bytes
  pub inbox : Bytes
  pub store : Bytes
  pub another : another_size z session (lent_sizes table fixed.titles fixed.names fixed.bodies fixed.known inbox store) ≡ true

-- "every list of receive and give calls, refused ones included, with whatever bytes and buffers", after an open that was lent buffers of the
-- sizes z: a receive of these bytes; a give into this buffer from a place on; and the same two lent other memory.
pub data Call (z : Sizes) : Type 0 where
  receives : Buffer → Call z
  gives : Buffer → ℕ → Call z
  receives_other : Other z → Buffer → Call z
  gives_other : Other z → Buffer → ℕ → Call z

abbrev pub is_caller : OpenCall → Bool
is_caller M = eqb M.role role_caller

-- "Take an accepted open"
abbrev pub opened_by : OpenCall → Opened
opened_by M = open_of (lending_of M)

-- The table's states for the partner, as open finds them.
abbrev pub states_in : OpenCall → List ℕ
states_in M = states_of M.partner M.table.bytes

abbrev pub received : Fixed → Lent → Bytes → Received
received F m bs = receive_of m.sm m.table F.titles F.names F.bodies F.known m.inbox m.store bs

abbrev pub given : Fixed → Lent → Bytes → ℕ → Given
given F m buf place = give_of m.sm m.table F.titles F.names F.bodies F.known m.inbox m.store buf place

-- "the lent memory fails a form test. The test is listed in docs/": this memory passes it, and its sizes are those that open kept
abbrev pub passes : Fixed → Lent → Bool
passes F m = form_of m.sm m.table F.titles F.names F.bodies F.known m.inbox m.store

-- The memory that a receive leaves, and one that leaves all but session memory.
abbrev pub left_by : Received → Lent
left_by r = record { sm = r.sm; table = r.table; inbox = r.inbox; store = r.store }

abbrev pub with_session : Lent → Bytes → Lent
with_session m sm = record { sm = sm; table = m.table; inbox = m.inbox; store = m.store }

-- "and change nothing, the session included": a receive with this reply
abbrev pub unchanged_by : Reply → Lent → Received
unchanged_by r m = unchanged r m.sm m.table m.inbox m.store

-- "fed the bytes consumed and given, by the calls' counts": those given are read from the buffer
abbrev pub took_by : Bytes → Received → List Event
took_by bs r = map took (take r.reply.count bs)

abbrev pub gave_by : ℕ → Given → List Event
gave_by place g = map gave (take g.reply.count (drop place g.buf))

-- ---------------------------------------------------------------- a list of calls

-- The lent bytes of a call that is lent other memory; sm: the session's own session memory.
abbrev pub instead : {z : Sizes} → Other z → Bytes → Lent
instead o sm = record { sm = lent_session o.session sm; table = o.table; inbox = o.inbox; store = o.store }

-- The session's memory after such a call, which left y of the session memory that it was lent.
abbrev pub aside : {z : Sizes} → Other z → Lent → Bytes → Lent
aside o m y = with_session m (own_after o.session m.sm y)

-- The memory after the calls, and what they say to the log, in order.
abbrev pub run : {z : Sizes} → Fixed → Lent → List (Call z) → Lent × List Event
run F m [] = (m, [])
run F m (receives b ∷ cs) =
    let r = received F m b.bytes in
    ((run F (left_by r) cs).0, took_by b.bytes r ++ (run F (left_by r) cs).1)
run F m (gives b place ∷ cs) =
    let g = given F m b.bytes place in
    ((run F (with_session m g.sm) cs).0, gave_by place g ++ (run F (with_session m g.sm) cs).1)
run F m (receives_other o b ∷ cs) =
    let r = received o.fixed (instead o m.sm) b.bytes in
    ((run F (aside o m r.sm) cs).0, took_by b.bytes r ++ (run F (aside o m r.sm) cs).1)
run F m (gives_other o b place ∷ cs) =
    let g = given o.fixed (instead o m.sm) b.bytes place in
    ((run F (aside o m g.sm) cs).0, gave_by place g ++ (run F (aside o m g.sm) cs).1)
