-- DEMAND 2, "memory as the last call left it": the sessions that open, receive and give lead to, each with the bytes of the transfer under way that
-- have come since it began. Theorems: proofs/Reached.
use Rattle.std.specs.Prelude.{◌≡◌, Bool, true, cond, not, ◌&&◌, List, [], ◌∷◌, ◌++◌, ℕ, suc, eqb, length, drop}
use Rattle.grammar.specs.Bytes.{Bytes}
use Rattle.grammar.specs.Answers.{Sign}
use Rattle.session.specs.Choices.{Shelf}
use Rattle.session.specs.Session.{awaits_answer, Phase, a_line, awaits_transfer, leaving, over, Memory, Session, opened, ended}
use Rattle.session.specs.Calls.{receive, give}
use Rattle.demand2.specs.Limits.{record_limit}
use Rattle.demand2.specs.Refusals.{is_dropped, SoFar, Refusal, reason_for}
use Rattle.demand2.specs.Marks.{is_in, with_sign, AnswerLeaves}
use Rattle.demand2.specs.OurTurn.{OurBlock}

-- How many transfers are owed to us, the one under way with them.
abbrev pub owed_count : Phase → ℕ
owed_count (a_line a) = 0
owed_count (awaits_transfer p ps sc) = suc (length ps)
owed_count leaving = 0
owed_count over = 0

-- One is under way before and after a byte, and it is the same: as many are owed.
abbrev pub same_transfer : ℕ → ℕ → Bool
same_transfer before after = eqb before after && not (eqb after 0)

-- The bytes so far after the byte b; q: those before it; s and t: the session before and after it. An LF that is dropped is none of them ("an LF that
-- Lines drops is neither"); each other byte is one more, unless none is under way now or the next one begins.
abbrev pub so_far_with : Session → Bytes → ℕ → Session → Bytes
so_far_with s q b t = cond (is_dropped s b) q (cond (same_transfer (owed_count s.phase) (owed_count t.phase)) (q ++ (b ∷ [])) [])

-- After an open in a role (true: caller) that found these states, any receives and gives. A portion is its bytes one by one (`reached_portion`).
pub data Reached (E : Shelf) : Session → Bytes → Type 0 where
  at_open : (caller : Bool) (states : List ℕ) → Reached E (opened caller states) []
  received : {s : Session} {q : Bytes} → Reached E s q → (b : ℕ) → Reached E (receive E s (b ∷ [])).session (so_far_with s q b (receive E s (b ∷ [])).session)
  given : {s : Session} {q : Bytes} → Reached E s q → (room : ℕ) → Reached E (give s room) q

-- What holds of them all.
pub record Sound (E : Shelf) (s : Session) (q : Bytes) : Type 0 where
  -- the reading of the transfer under way has come from these bytes, and where none is under way there are none
  pub so_far : SoFar E s.phase s.memory q
  pub between : owed_count s.phase ≡ 0 → q ≡ []
  -- the records whose FS line is awaited are those of our block: places of the table in order, each waiting and not deferred
  pub asked : (is : List ℕ) → s.phase ≡ a_line (awaits_answer is) → OurBlock E.table s.memory.framed s.memory.states s.memory.deferred is
  -- after the end nothing is ever given but the rest of the one line that says why (02, Q-1)
  pub parting : ended s ≡ true → (n : Refusal) × (k : ℕ) × (s.out ≡ drop k (reason_for n))

-- The partner's valid FS line in such a session: these signs answer our block of the records at `is`, and the memory after it is as Marks says, for all
-- 64 flags; no record is given two signs.
pub record AnswerExact (E : Shelf) (s : Session) (is : List ℕ) (ss : List Sign) (after : Memory) : Type 0 where
  pub leaves : AnswerLeaves is ss s.memory after
  pub block : OurBlock E.table s.memory.framed s.memory.states s.memory.deferred is
  pub flags : length s.memory.deferred ≡ record_limit
  pub once : (x y : Sign) (k : ℕ) → is_in k (with_sign x is ss) ≡ true → is_in k (with_sign y is ss) ≡ true → x ≡ y
