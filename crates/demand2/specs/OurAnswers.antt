-- DEMAND 2, OUR ANSWERS, sign by sign: 01, "Our answer, per proposal in order". The theorem is `answers_exact` of proofs/OurAnswers.
use Rattle.std.specs.Prelude.{◌≡◌, List, [], ◌∷◌, ◌++◌, map, ℕ, ◌+◌, ◌-◌, ◌≤◌, ◌<◌, length, get_or}
use Rattle.grammar.specs.Bytes.{Bytes}
use Rattle.grammar.specs.Bids.{OneBid}
use Rattle.grammar.specs.Turns.{Proposal}
use Rattle.grammar.specs.Answers.{Sign, accept, decline, defer}
use Rattle.mail.specs.Mail.{Record, Message}
use Rattle.session.specs.Choices.{Shelf, answers_to}
use Rattle.demand2.specs.Limits.{body_max}
use Rattle.demand2.specs.Room.{kept_bytes}
use Rattle.demand2.specs.Marks.{with_sign}

-- The BID stands in the list, in whichever case its letters are.
pub record Among (b : Bytes) (bids : List Bytes) : Type 0 where
  pub at : ℕ
  pub within : at < length bids
  pub same : OneBid (get_or bids at []) b

-- The announced sizes of these proposals, together.
abbrev pub announced_sizes : List Proposal → ℕ
announced_sizes [] = 0
announced_sizes (p ∷ ps) = p.size + announced_sizes ps

-- "`-` if the BID is in the table, the known list, the inbox, or accepted earlier in this block"; earlier: the proposals so accepted
pub data HaveBid (E : Shelf) (inbox : List Message) (earlier : List Proposal) (b : Bytes) : Type 0 where
  in_table : Among b (map (λ (r : Record). r.bid) E.table) → HaveBid E inbox earlier b
  is_known : Among b E.known → HaveBid E inbox earlier b
  in_inbox : Among b (map (λ (x : Message). x.bid) inbox) → HaveBid E inbox earlier b
  in_block : Among b (map (λ (p : Proposal). p.bid) earlier) → HaveBid E inbox earlier b

-- "else `=` if the size is over 65,535, or over the free store less the sizes accepted in this block, or no inbox place is free for it"
pub data NoRoomFor (E : Shelf) (inbox : List Message) (earlier : List Proposal) (size : ℕ) : Type 0 where
  too_long : body_max < size → NoRoomFor E inbox earlier size
  no_store : E.bytes - kept_bytes inbox - announced_sizes earlier < size → NoRoomFor E inbox earlier size
  no_place : E.places ≤ length inbox + length earlier → NoRoomFor E inbox earlier size

-- "else `+`"
pub record SignExact (E : Shelf) (inbox : List Message) (earlier : List Proposal) (p : Proposal) (sign : Sign) : Type 0 where
  pub declines : sign ≡ decline → HaveBid E inbox earlier p.bid
  pub declined : HaveBid E inbox earlier p.bid → sign ≡ decline
  pub defers : sign ≡ defer → (HaveBid E inbox earlier p.bid → ⊥) × NoRoomFor E inbox earlier p.size
  pub deferred : (HaveBid E inbox earlier p.bid → ⊥) → NoRoomFor E inbox earlier p.size → sign ≡ defer
  pub accepts : sign ≡ accept → (HaveBid E inbox earlier p.bid → ⊥) × (NoRoomFor E inbox earlier p.size → ⊥)
  pub accepted : (HaveBid E inbox earlier p.bid → ⊥) → (NoRoomFor E inbox earlier p.size → ⊥) → sign ≡ accept

-- "FS, one space, one sign a proposal"; the sign of each is decided by what is there and by those accepted before it
pub record AnswersExact (E : Shelf) (inbox : List Message) (ps : List Proposal) : Type 0 where
  pub each : length (answers_to E inbox ps) ≡ length ps
  pub sign : (before : List Proposal) (p : Proposal) (after : List Proposal) → ps ≡ before ++ p ∷ after
      → SignExact E inbox (with_sign accept before (answers_to E inbox before)) p (get_or (answers_to E inbox ps) (length before) defer)
