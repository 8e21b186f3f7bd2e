-- 02, Q-11: "the called station with an empty table, no known BIDs, partner 0". What the three calls come to there.
use Rattle.std.specs.Prelude.{[], ℕ, ◌+◌}
use Rattle.grammar.specs.Bytes.{Bytes}
use Rattle.give.specs.Giving.{Given, give_of}
use Rattle.open.specs.Lending.{lending, role_called}
use Rattle.open.specs.Opening.{Opened, open_of}
use Rattle.receive_defined.specs.Receiving.{Received, receive_of}

-- The lent memory of the station as far as a call may change it. Its table is empty, and so are titles, names, bodies and the known BIDs.
pub record Station : Type 0 where
  pub session : Bytes
  pub inbox : Bytes
  pub store : Bytes

abbrev pub station : Bytes → Bytes → Bytes → Station
station session inbox store = record { session = session; inbox = inbox; store = store }

abbrev pub first_partner : ℕ
first_partner = 0

abbrev pub opens : Station → Opened
opens s = open_of (lending role_called first_partner s.session [] [] [] [] [] s.inbox s.store)

abbrev pub hears : Station → Bytes → Received
hears s bs = receive_of s.session [] [] [] [] [] s.inbox s.store bs

abbrev pub gives : Station → Bytes → ℕ → Given
gives s buf place = give_of s.session [] [] [] [] [] s.inbox s.store buf place

-- The station after a call.
abbrev pub left_by : Received → Station
left_by r = station r.sm r.inbox r.store

abbrev pub with_session : Bytes → Station → Station
with_session sm s = station sm s.inbox s.store

-- ---------------------------------------------------------------- what the functions answer and leave

-- The answer of a call, and the station after it.
pub record StationReply : Type 0 where
  pub answer : ℕ
  pub station : Station

unfoldable pub opened_of : Station → StationReply
opened_of s = record { answer = (opens s).reply.answer; station = with_session (opens s).sm s }

unfoldable pub heard_of : Station → Bytes → StationReply
heard_of s bs = record { answer = (hears s bs).reply.answer; station = left_by (hears s bs) }

-- How many bytes of a buffer our node has sent after a give, n of them before it, with session memory and the buffer then.
pub record Sent : Type 0 where
  pub count : ℕ
  pub session : Bytes
  pub out : Bytes

unfoldable pub sent_of : Station → Bytes → ℕ → Sent
sent_of s out n = record { count = n + (gives s out n).reply.count; session = (gives s out n).sm; out = (gives s out n).buf }
