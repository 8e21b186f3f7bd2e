-- EVERY REPLY, on whatever memory, whoever wrote it: 01, "Receive and give answer 1 with place 255 and count 0 and change nothing, the session included,
-- exactly if a lent size isn't the one open kept in session memory or the lent memory fails a form test."; "Place is 0 in every answer but 1."; a count
-- is never more than the bytes or the room there is. The proof is proofs/Replies.
use Rattle.std.specs.Prelude.{◌≡◌, Bool, true, false, ℕ, ◌-◌, ◌≤◌, ◌<◌, [], length, take, drop}
use Rattle.grammar.specs.Bytes.{Bytes}
use Rattle.grammar.specs.Ascii.{text}
use Rattle.grammar.specs.Refusals.{bad_memory, no_place, session_ended}
use Rattle.buffer.specs.Put.{wrote}
use Rattle.session_memory.specs.State.{load_of}
use Rattle.pending.specs.Pending.{over_of}
use Rattle.give.specs.Giving.{reply}
use Rattle.form_closed.specs.Fixed.{Fixed}
use Rattle.places.specs.Places.{partners}
use Rattle.marking.specs.States.{StatesOnly}
use Rattle.main_theorem.specs.Calls.{Lent, passes, received, given, unchanged_by, partner_in}

-- The session that this memory holds has ended: FQ came, a byte was refused, or our FQ is given.
abbrev pub has_ended : Lent → Bool
has_ended m = over_of (load_of m.sm)

-- What may be given after an end: one of the two lines, or nothing (02, Q-1).
pub data LastLine : Bytes → Type 0 where
  no_line : LastLine []
  protocol_line : LastLine (text "*** Protocol error\r")
  checksum_line : LastLine (text "*** Checksum error\r")

-- Bytes of it, as they follow each other: so many, from this one on.
pub record OfLastLine (bytes : Bytes) : Type 0 where
  pub line : Bytes
  pub last : LastLine line
  pub from : ℕ
  pub count : ℕ
  pub are : bytes ≡ take count (drop from line)

pub record ReceiveReplies (F : Fixed) (m : Lent) (bs : Bytes) : Type 0 where
  -- memory that was changed, or of another size: 1, 255, 0, and nothing changes
  pub changed : passes F m ≡ false → received F m bs ≡ unchanged_by (reply bad_memory no_place 0) m
  -- any other: another answer, place 0
  pub answer : passes F m ≡ true → (received F m bs).reply.answer ≡ bad_memory → ⊥
  pub place : passes F m ≡ true → (received F m bs).reply.place ≡ 0
  pub count : (received F m bs).reply.count ≤ length bs
  -- "receive on an ended session": 12, "nothing consumed, nothing changed"; and no bytes on a live one
  pub ended : passes F m ≡ true → has_ended m ≡ true → received F m bs ≡ unchanged_by (reply session_ended 0 0) m
  pub no_bytes : passes F m ≡ true → has_ended m ≡ false → length bs ≡ 0 → received F m bs ≡ unchanged_by (reply 0 0 0) m
  -- "the other seven columns come out of any session unaltered": session memory names a partner, and no other byte of the table changes than states for
  -- that partner, whoever wrote this memory
  pub named : passes F m ≡ true → partner_in m < partners
  pub column : StatesOnly (partner_in m) m.table (received F m bs).table

pub record GiveReplies (F : Fixed) (m : Lent) (buf : Bytes) (place : ℕ) : Type 0 where
  pub changed : passes F m ≡ false → given F m buf place ≡ record { reply = reply bad_memory no_place 0; sm = m.sm; buf = buf }
  -- any other: give is not refused; these are the bytes it gives, as many as it says, "from a given place to its end at most"
  pub bytes : Bytes
  pub replies : passes F m ≡ true → (given F m buf place).reply ≡ reply 0 0 (length bytes)
  pub room : length bytes ≤ length buf - place
  -- "and no other byte of the buffer changes"
  pub buffer : passes F m ≡ true → (given F m buf place).buf ≡ wrote buf place bytes
  -- on an ended session nothing is given but bytes of the line that says why, in order (02, Q-1); and a place beyond the end writes nothing
  pub ended : passes F m ≡ true → has_ended m ≡ true → OfLastLine bytes
  pub beyond : passes F m ≡ true → length buf ≤ place → given F m buf place ≡ record { reply = reply 0 0 0; sm = m.sm; buf = buf }

-- THE CLAIM
pub record RepliesClaim : Type 0 where
  pub receives : (F : Fixed) (m : Lent) (bs : Bytes) → ReceiveReplies F m bs
  pub gives : (F : Fixed) (m : Lent) (buf : Bytes) (place : ℕ) → GiveReplies F m buf place
