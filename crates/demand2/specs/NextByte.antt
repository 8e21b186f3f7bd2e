-- DEMAND 2 ON ONE PAGE: what holds of the next byte, of every portion and of every give in a session that open, receive and give lead to. Each line is
-- a theorem of this crate at that session, and the names lead to 01's words; `next_byte` of proofs/NextByte proves them all at once.
use Rattle.std.specs.Prelude.{◌≡◌, Bool, true, List, [], ◌∷◌, ◌++◌, ℕ, ◌≤◌, length, drop}
use Rattle.std.proofs.Math.Option.{some}
use Rattle.grammar.specs.Bytes.{Bytes, null}
use Rattle.grammar.specs.Turns.{Proposal}
use Rattle.grammar.specs.Answers.{Sign, read_fs}
use Rattle.session.specs.Choices.{Shelf, answers_to}
use Rattle.session.specs.Session.{awaits_answer, a_line, leaving, Memory, Session, moved, step, ended}
use Rattle.session.specs.Calls.{receive, give}
use Rattle.demand2.specs.Limits.{block_limit, level_in_force}
use Rattle.demand2.specs.Refusals.{awaits_line, WholeLine, Refusal, Situation, Exact, Over, Live, LiveExact, Exact12}
use Rattle.demand2.specs.Marks.{AnswerLeaves, TurnLeaves}
use Rattle.demand2.specs.Events.{Happens, proposed}
use Rattle.demand2.specs.OurTurn.{OurBlock, TurnExact}
use Rattle.demand2.specs.OurAnswers.{AnswersExact}
use Rattle.demand2.specs.Portions.{ByteReceived, and_then, Counted, GivenTogether, GivenOut}
use Rattle.demand2.specs.Reasons.{handed_into, SaysWhy}
use Rattle.demand2.specs.Units.{LineWhole, TransferKept}
use Rattle.demand2.specs.Reached.{Sound, AnswerExact}
use Rattle.demand2.specs.ReadBack.{AnswerReadsBack}

-- What a byte does that is not refused: each of the events leaves the session that it names, and there is no other.
pub record EventExact (E : Shelf) (q : Bytes) (s : Session) (b : ℕ) : Type 0 where
  pub given : (t : Session) → Happens E q s b t → step E s b ≡ moved t
  pub only : (step E s b).answer ≡ 0 → (t : Session) × Happens E q s b t × ((step E s b).session ≡ t)

-- E: what the session was opened with; q: the bytes so far of the transfer under way; s: the session just before the byte
pub record NextByte (E : Shelf) (q : Bytes) (s : Session) : Type 0 where
  -- q is what the reading of the transfer has come from; our block is asked for; after the end nothing waits but the rest of one line
  pub sound : Sound E s q
  -- ---------------------------------------------------------------- THE NEXT BYTE
  -- 12: "receive on an ended session", and which sessions have ended
  pub over : LiveExact s
  pub twelve : (bs : Bytes) → Exact12 E s bs
  -- a byte on a live one is consumed, and what comes of it is its step
  pub byte : Live s → (b : ℕ) → ByteReceived E s b
  -- "A refusal comes in the listed situation and in no other.", one situation at a time
  pub refusals : Live s → (b : ℕ) → Exact E q s b
  pub apart : Live s → (b : ℕ) (n m : Refusal) → Situation E q s b n → Situation E q s b m → n ≡ m
  -- every other byte is one of the events
  pub events : Live s → (b : ℕ) → EventExact E q s b
  -- ---------------------------------------------------------------- MARKS
  -- the partner's valid FS line, at its CR
  pub answered : Live s → (b : ℕ) (line : Bytes) (is : List ℕ) (ss : List Sign) → WholeLine s b line → s.phase ≡ a_line (awaits_answer is)
      → read_fs (level_in_force s.memory) (length is) line ≡ some ss → AnswerExact E s is ss (step E s b).session.memory
  -- what an event says of the memory after an FS line or a whole turn leaves nothing open
  pub one_after_fs : (is : List ℕ) (ss : List Sign) (m n : Memory) → AnswerLeaves is ss s.memory m → AnswerLeaves is ss s.memory n → m ≡ n
  pub one_after_turn : (m n : Memory) → TurnLeaves s.memory m → TurnLeaves s.memory n → m ≡ n
  -- ---------------------------------------------------------------- WHAT WE SAY
  -- our turn, in whatever memory the event leaves: "We propose waiting records in table order", and no other block is so
  pub turn : (ff : Bool) (m : Memory) → TurnExact E ff m
  pub block : (m : Memory) (is : List ℕ) → OurBlock E.table m.framed m.states m.deferred is → is ≡ proposed E m
  -- "Our answer, per proposal in order", and it reads back; what we propose and transfer reads back by the record's fields (ReadBack)
  pub answers : (ps : List Proposal) → AnswersExact E s.memory.inbox ps
  pub reads_back : (p : Proposal) (ps : List Proposal) → length (p ∷ ps) ≤ block_limit → AnswerReadsBack (answers_to E s.memory.inbox (p ∷ ps))
  -- ---------------------------------------------------------------- WHOLE LINES, WHOLE TRANSFERS, ANY PORTION
  pub lines : awaits_line s.phase ≡ true → LineWhole E s.phase s.memory
  pub transfers : (p : Proposal) (ps : List Proposal) → TransferKept E p ps s.memory
  pub portions : Live s → (xs ys : Bytes) → receive E s (xs ++ ys) ≡ and_then E (receive E s xs) ys
  pub counted : Live s → (bs : Bytes) → Counted E s bs (receive E s bs)
  -- "Receiving no bytes on a live session answers 0 and changes nothing."
  pub no_bytes : Live s → receive E s [] ≡ record { answer = 0; count = 0; session = s }
  -- ---------------------------------------------------------------- GIVE
  -- "It writes as many waiting bytes as fit", in whatever rooms
  pub gives : (room : ℕ) → GivenOut s room
  pub rooms : (a b : ℕ) → GivenTogether s a b
  -- after a refusal the line that says why, and 12 for all that arrives; "01's silence after an end holds after an end with 0 or 11" (02, Q-1)
  pub why : Live s → (b : ℕ) (n : Refusal) → Situation E q s b n → SaysWhy E s b n
  pub quiet : Live s → (b : ℕ) → (step E s b).answer ≡ 0 → Over (step E s b).session → (rooms : List ℕ) → handed_into (step E s b).session rooms ≡ []
  -- "Our FQ ends it when give has handed out its CR.", and nothing is given after it
  pub nothing : s.phase ≡ leaving → Over s → (rooms : List ℕ) → handed_into s rooms ≡ []
  pub farewell : s.phase ≡ leaving → (room : ℕ) → ended (give s room) ≡ null (drop room s.out)
