-- DEMAND 2, PORTIONS AND COUNTS: however the link cuts the bytes, the same comes of them, and a count is the bytes dealt with. The theorems
-- are in proofs/Portions.
use Rattle.std.specs.Prelude.{◌≡◌, Bool, true, cond, not, ◌&&◌, [], ◌∷◌, ◌++◌, ℕ, suc, ◌+◌, min, eqb, length}
use Rattle.grammar.specs.Bytes.{Bytes}
use Rattle.session.specs.Choices.{Shelf}
use Rattle.session.specs.Session.{Session, step, ended}
use Rattle.session.specs.Calls.{Received, receive, give, handed_out}
use Rattle.demand2.specs.Refusals.{Over}

-- ---------------------------------------------------------------- receive

-- A portion of one byte: what the byte's step gives, and it is counted. With `two_portions` this settles receive on every portion.
abbrev pub ByteReceived : Shelf → Session → ℕ → Type 0
ByteReceived E s b = receive E s (b ∷ []) ≡ record { answer = (step E s b).answer; count = 1; session = (step E s b).session }

-- The session goes on after a receive: nothing was refused, and no FQ came.
abbrev pub lives_on : Received → Bool
lives_on r = eqb r.answer 0 && not (ended r.session)

-- Another portion after it, with the counts of both together; none where the session has ended.
abbrev pub and_then : Shelf → Received → Bytes → Received
and_then E r ys =
    cond (lives_on r)
    (record {
      answer = (receive E r.session ys).answer;
      count = r.count + (receive E r.session ys).count;
      session = (receive E r.session ys).session;
    })
    r

-- "unless .. the session ends on the way, and reports how many; the refused byte is the last one counted": where it ended, the bytes before
-- were all consumed and it lived on, and with this one it is over
pub record EndedAt (E : Shelf) (s : Session) (bs : Bytes) (r : Received) : Type 0 where
  pub before : Bytes
  pub byte : ℕ
  pub rest : Bytes
  pub portion : bs ≡ before ++ byte ∷ rest
  pub alive : lives_on (receive E s before) ≡ true
  pub consumed : (receive E s before).count ≡ length before
  pub ends : Over (step E (receive E s before).session byte).session
  pub answer : r.answer ≡ (step E (receive E s before).session byte).answer
  pub session : r.session ≡ (step E (receive E s before).session byte).session
  pub count : r.count ≡ suc (length before)

-- "Receive consumes every byte lent to it", or up to and with the byte that ended the session
pub data Counted (E : Shelf) (s : Session) (bs : Bytes) (r : Received) : Type 0 where
  all_taken : lives_on r ≡ true → r.count ≡ length bs → Counted E s bs r
  up_to : EndedAt E s bs r → Counted E s bs r

-- ---------------------------------------------------------------- give

-- Into a room of a + b bytes goes what goes into one of a and then one of b.
pub record GivenTogether (s : Session) (a b : ℕ) : Type 0 where
  pub bytes : handed_out s (a + b) ≡ handed_out s a ++ handed_out (give s a) b
  pub session : give s (a + b) ≡ give (give s a) b

-- "It writes as many waiting bytes as fit"; "Bytes count as taken by the link when give returns them."; and nothing else changes
pub record GivenOut (s : Session) (room : ℕ) : Type 0 where
  pub count : length (handed_out s room) ≡ min room (length s.out)
  pub order : handed_out s room ++ (give s room).out ≡ s.out
  pub phase : (give s room).phase ≡ s.phase
  pub part : (give s room).part ≡ s.part
  pub after_cr : (give s room).after_cr ≡ s.after_cr
  pub memory : (give s room).memory ≡ s.memory
