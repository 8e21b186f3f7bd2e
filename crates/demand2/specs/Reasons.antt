-- DEMAND 2, WHAT IS SAID AFTER THE END: 02, Q-1, "Say why before hanging up". Which line, whole and in order in whatever rooms; that bytes arriving meanwhile
-- and later get 12 and change nothing; and that nothing else is ever given after an end. Theorems: proofs/Reasons.
use Rattle.std.specs.Prelude.{◌≡◌, List, [], ◌∷◌, ◌++◌, ℕ}
use Rattle.grammar.specs.Bytes.{Bytes}
use Rattle.grammar.specs.Refusals as number
use Rattle.session.specs.Choices.{Shelf}
use Rattle.session.specs.Session.{Session, step}
use Rattle.session.specs.Calls.{receive, give, handed_out}
use Rattle.demand2.specs.Refusals.{Refusal, reason_for}

-- The session after gives into rooms of these sizes, one after the other, and what they hand out.
abbrev pub given_into : Session → List ℕ → Session
given_into s [] = s
given_into s (n ∷ ns) = given_into (give s n) ns

abbrev pub handed_into : Session → List ℕ → Bytes
handed_into s [] = []
handed_into s (n ∷ ns) = handed_out s n ++ handed_into (give s n) ns

-- The byte b was refused with n in the session s.
pub record SaysWhy (E : Shelf) (s : Session) (b : ℕ) (n : Refusal) : Type 0 where
  -- "give must still hand over one line and CR": what is handed out and what is left are together the line, so it is given once, and nothing after it
  pub line : (rooms : List ℕ) → handed_into (step E s b).session rooms ++ (given_into (step E s b).session rooms).out ≡ reason_for n
  -- "Bytes arriving meanwhile get 12.": nothing consumed, nothing changed, whatever they are and whenever they come
  pub meanwhile : (rooms : List ℕ) (bs : Bytes)
      → receive E (given_into (step E s b).session rooms) bs ≡ record { answer = number.session_ended; count = 0; session = given_into (step E s b).session rooms }
  -- marks and kept messages stand as just before the refused byte, before and after the line is given
  pub memory : (rooms : List ℕ) → (given_into (step E s b).session rooms).memory ≡ s.memory
