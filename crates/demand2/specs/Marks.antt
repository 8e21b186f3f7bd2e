-- DEMAND 2, MARKS: what the partner's FS line and its whole turn leave of the memory, record by record. Theorems: proofs/Marks.
use Rattle.std.specs.Prelude.{◌≡◌, Bool, false, cond, ◌||◌, List, [], ◌∷◌, ◌++◌, ℕ, ◌+◌, ◌<◌, eqb, length, get_or}
use Rattle.grammar.specs.Answers.{Sign, accept, decline, defer, write_sign}
use Rattle.session.specs.Session.{Memory}
use Rattle.demand2.specs.Limits.{state_forwarded, state_declined, was_deferred}

-- This place is among these.
abbrev pub is_in : ℕ → List ℕ → Bool
is_in i [] = false
is_in i (x ∷ xs) = eqb i x || is_in i xs

abbrev pub is_sign : Sign → Sign → Bool
is_sign x y = eqb (write_sign x) (write_sign y)

-- "one sign a proposal": those of the proposals that were given the sign x, in order; the signs answer them one by one. Ours stand for the places of
-- their records.
abbrev pub with_sign {ℓ} : {A : Type ℓ} → Sign → List A → List Sign → List A
with_sign x [] ss = []
with_sign x (i ∷ is) [] = []
with_sign x (i ∷ is) (s ∷ ss) = cond (is_sign x s) (i ∷ with_sign x is ss) (with_sign x is ss)

-- The memory before and after the partner's valid FS line. state and flag: of the record at any place k
pub record AnswerLeaves (is : List ℕ) (ss : List Sign) (before after : Memory) : Type 0 where
  -- "`-` sets state 2 at the CR of a valid line.", and nothing else is set: "A deferred record stays 0."
  pub state : (k : ℕ) → k < length before.states → get_or after.states k 0 ≡ cond (is_in k (with_sign decline is ss)) state_declined (get_or before.states k 0)
  pub records : length after.states ≡ length before.states
  -- "`=` defer": deferred in this session is what was, and what this line defers
  pub flag : (k : ℕ) → k < length before.deferred → get_or after.deferred k 0 ≡ cond (is_in k (with_sign defer is ss)) was_deferred (get_or before.deferred k 0)
  pub flags : length after.deferred ≡ length before.deferred
  -- "Accepted records are sent in order."
  pub sending : after.sending ≡ before.sending ++ with_sign accept is ss
  -- "deferred at the FS line" (02, Q-3), and declined: as many more as were given that sign
  pub declined : after.counts.declined ≡ before.counts.declined + length (with_sign decline is ss)
  pub deferred : after.counts.deferred ≡ before.counts.deferred + length (with_sign defer is ss)
  pub proposed : after.counts.proposed ≡ before.counts.proposed
  pub forwarded : after.counts.forwarded ≡ before.counts.forwarded
  pub mode : after.framed ≡ before.framed
  pub terms : after.terms ≡ before.terms
  pub inbox : after.inbox ≡ before.inbox

-- The memory before and after the partner's whole valid turn, FF or `F>`.
pub record TurnLeaves (before after : Memory) : Type 0 where
  -- "State 1 is set at the CR that ends the partner's next whole valid turn.": for each record that is being sent, and no other
  pub state : (k : ℕ) → k < length before.states → get_or after.states k 0 ≡ cond (is_in k before.sending) state_forwarded (get_or before.states k 0)
  pub records : length after.states ≡ length before.states
  pub sending : after.sending ≡ []
  -- and they count as forwarded (02, Q-3)
  pub forwarded : after.counts.forwarded ≡ before.counts.forwarded + length before.sending
  pub proposed : after.counts.proposed ≡ before.counts.proposed
  pub declined : after.counts.declined ≡ before.counts.declined
  pub deferred : after.counts.deferred ≡ before.counts.deferred
  pub flags : after.deferred ≡ before.deferred
  pub mode : after.framed ≡ before.framed
  pub terms : after.terms ≡ before.terms
  pub inbox : after.inbox ≡ before.inbox
