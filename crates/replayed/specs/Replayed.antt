-- WHAT OUR NODE WOULD HAVE MADE OF A CAPTURE (02, Q-11), on lists: the session of crates/session, which a capture is fed to.
use Rattle.std.specs.Prelude.{◌≡◌, Bool, true, false, cond, ◌||◌, List, [], ◌∷◌, ◌++◌, ℕ, eqb}
use Rattle.grammar.specs.Bytes.{Bytes}
use Rattle.grammar.specs.Refusals.{line_too_long, not_sid, no_forwarding, line_not_allowed, proposal_count, bad_transfer, bad_checksum, store_full, wrong_block_sum}
use Rattle.session.specs.Choices.{Shelf, shelf_with}
use Rattle.session.specs.Session.{Session, with_out, ended, opened}
use Rattle.session.specs.Calls.{receive}
use Rattle.refusal_line.specs.Line.{refusal_line}

-- "an inbox of 64 places and 32 KiB"
abbrev pub lent_places : ℕ
lent_places = 64

abbrev pub lent_bytes : ℕ
lent_bytes = 32768

-- "with an empty table, no known BIDs", and that inbox
abbrev pub empty_shelf : Shelf
empty_shelf = shelf_with [] [] lent_places lent_bytes

-- What bytes of a capture have come to: what our node has sent, the answer to the last of them, whether the session has ended, and the session then.
pub record CaptureFed : Type 0 where
  pub sent : Bytes
  pub refusal : ℕ
  pub over : Bool
  pub session : Session

-- "takes all waiting bytes"
abbrev pub waiting_taken : ℕ → Session → CaptureFed
waiting_taken answer s = record { sent = s.out; refusal = answer; over = ended (with_out [] s); session = with_out [] s }

-- ".. after open": the called station
unfoldable pub started : CaptureFed
started = waiting_taken 0 (opened false [])

-- ".. and after each byte"
unfoldable pub fed_one : Session → ℕ → CaptureFed
fed_one s b = waiting_taken (receive empty_shelf s (b ∷ [])).answer (receive empty_shelf s (b ∷ [])).session

abbrev pub sent_first : Bytes → CaptureFed → CaptureFed
sent_first o f = record { sent = o ++ f.sent; refusal = f.refusal; over = f.over; session = f.session }

-- "after an end it feeds no more"
unfoldable pub capture_fed : Session → Bytes → CaptureFed
capture_fed s [] = record { sent = []; refusal = 0; over = false; session = s }
capture_fed s (b ∷ bs) =
    let f = fed_one s b in
    let r = capture_fed f.session bs in
    cond f.over f (sent_first f.sent r)

-- "exactly the bytes our node would send", and the number of the refusal, "with 0 if there was none"
pub record Replayed : Type 0 where
  pub sent : Bytes
  pub refusal : ℕ

unfoldable pub replayed : Bytes → Replayed
replayed capture =
    let f = capture_fed started.session capture in
    record { sent = started.sent ++ f.sent; refusal = f.refusal }

-- ALL THAT THE PROGRAM WRITES: "After those bytes it writes a line `refusal N`"
unfoldable pub program_writes : Bytes → Bytes
program_writes capture = (replayed capture).sent ++ refusal_line (replayed capture).refusal

-- ---------------------------------------------------------------- the numbers

abbrev pub one_of : ℕ → List ℕ → Bool
one_of n [] = false
one_of n (x ∷ xs) = eqb n x || one_of n xs

-- The refusals that a capture can get: no bytes ever wait when the next one comes (11), nothing is fed after an end (12), our memory is as open wants it
-- (1), and we propose nothing, so that no FS line is awaited (7).
abbrev pub possible : List ℕ
possible = line_too_long ∷ not_sid ∷ no_forwarding ∷ line_not_allowed ∷ proposal_count ∷ bad_transfer ∷ bad_checksum ∷ store_full ∷ wrong_block_sum ∷ []

-- The claim: 0 or one of these. The proof is proofs/Refusals.
abbrev pub RefusalsClaim : Type 0
RefusalsClaim = (capture : Bytes) → one_of (replayed capture).refusal (0 ∷ possible) ≡ true
