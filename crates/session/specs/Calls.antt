-- The calls receive and give, on a session: 01, "The numbers given back" and "What the node's forwarder covers".
use Rattle.std.specs.Prelude.{Bool, cond, not, ◌||◌, [], ◌∷◌, ℕ, suc, eqb, take, drop}
use Rattle.grammar.specs.Bytes.{Bytes}
use Rattle.grammar.specs.Refusals.{session_ended}
use Rattle.session.specs.Choices.{Shelf}
use Rattle.session.specs.Session.{Session, with_out, Stepped, step, ended}

-- The answer, how many bytes were consumed, and the session after it.
pub record Received : Type 0 where
  pub answer : ℕ
  pub count : ℕ
  pub session : Session

abbrev pub one_more : Received → Received
one_more r = record { answer = r.answer; count = suc r.count; session = r.session }

abbrev pub stopped_at : Stepped → Received
stopped_at o = record { answer = o.answer; count = 1; session = o.session }

-- The session is over after this byte: it was refused, or FQ came.
abbrev pub stops : Stepped → Bool
stops o = not (eqb o.answer 0) || ended o.session

-- "Receive consumes every byte lent to it, unless .. the session ends on the way, and reports how many; the refused byte is the last one
-- counted."; "counts up to that CR and reads no further"
abbrev pub receive_on : Shelf → Session → Bytes → Received
receive_on E s [] = record { answer = 0; count = 0; session = s }
receive_on E s (b ∷ bs) = cond (stops (step E s b)) (stopped_at (step E s b)) (one_more (receive_on E (step E s b).session bs))

-- "receive on an ended session": 12, "nothing consumed, nothing changed"
unfoldable pub receive : Shelf → Session → Bytes → Received
receive E s bs = cond (ended s) (record { answer = session_ended; count = 0; session = s }) (receive_on E s bs)

-- The session just before the byte that ended it, of the bytes of one receive; where none ended it, the session after them.
abbrev pub last_byte : Shelf → Session → Bytes → Session
last_byte E s [] = s
last_byte E s (b ∷ bs) = cond (stops (step E s b)) s (last_byte E (step E s b).session bs)

-- What give hands out into a room of so many bytes: "It writes as many waiting bytes as fit".
abbrev pub handed_out : Session → ℕ → Bytes
handed_out s room = take room s.out

-- "Bytes count as taken by the link when give returns them."
unfoldable pub give : Session → ℕ → Session
give s room = with_out (drop room s.out) s
