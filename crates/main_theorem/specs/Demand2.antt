-- DEMAND 2 over lent memory. After an accepted open and every list of calls there is the session on lists that the same calls lead to. What holds of its
-- next byte, when each refusal comes, what each other byte does, what we propose, answer and give, stands on one page (`next`: NextByte of crates/demand2).
-- The whole reply of the next call on lent memory, and what it leaves, is what that session does. The proof is proofs/Demand2; what holds of a reply on
-- whatever memory, whoever wrote it, stands in Replies.
use Rattle.std.specs.Prelude.{◌≡◌, true, [], map, ℕ, ◌-◌, ◌<◌, length}
use Rattle.grammar.specs.Bytes.{Bytes}
use Rattle.grammar.specs.Refusals.{session_ended}
use Rattle.mail.specs.Mail.{record_at}
use Rattle.session.specs.Choices.{Shelf, shelf_with}
use Rattle.session.specs.Session.{Session, opened}
use Rattle.session.specs.Calls.{receive, handed_out}
use Rattle.demand2.specs.Refusals.{Over, Live}
use Rattle.demand2.specs.Opening.{OpenExact}
use Rattle.demand2.specs.Reached.{Reached}
use Rattle.demand2.specs.ReadBack.{ReadsBack}
use Rattle.demand2.specs.NextByte.{NextByte}
use Rattle.demand3.specs.Demand as on_lists_run
use Rattle.buffer.specs.Put.{wrote}
use Rattle.give.specs.Giving.{reply}
use Rattle.entries.specs.Decoded.{record_count, records_of, known_bids, place_count}
use Rattle.marking.specs.States.{states_of}
use Rattle.form_closed.specs.Fixed.{Fixed}
use Rattle.represents.specs.Represents.{messages_of}
use Rattle.main_theorem.specs.Calls.{Buffer, OpenCall, Lent, fixed_in, lent_in, message_count, passes, received, given, unchanged_by, Call, receives, gives, receives_other, gives_other, is_caller, states_in, opened_by}
use Rattle.main_theorem.specs.Demand3.{CallsOn, finally}
use Rattle.session_memory.specs.declared.Sizes.{Sizes}

-- What the session is opened with, as lent memory holds it.
abbrev pub shelf_of : Fixed → Lent → Shelf
shelf_of F m = shelf_with (records_of F.titles F.names F.bodies m.table) (known_bids F.known) (place_count m.inbox) (length m.store)

abbrev pub shelf_in : OpenCall → Shelf
shelf_in M = shelf_of (fixed_in M) (lent_in M)

-- The call on lists that a call over lent memory stands for.
abbrev pub call_of : {z : Sizes} → Call z → on_lists_run.Call
call_of (receives b) = on_lists_run.receiving b.bytes
call_of (gives b place) = on_lists_run.giving (length b.bytes - place)
call_of (receives_other o b) = on_lists_run.refused_call
call_of (gives_other o b place) = on_lists_run.refused_call

pub record Demand2 (M : OpenCall) (cs : CallsOn M) : Type 0 where
  -- the session on lists after the same calls, and the bytes so far of the transfer under way
  pub session : Session
  pub transfer : Bytes
  pub same : session ≡ (on_lists_run.run (shelf_in M) (opened (is_caller M) (states_in M)) (map call_of cs)).0
  pub reached : Reached (shelf_in M) session transfer
  -- how it began, and THE PAGE: its next byte, every portion, every give
  pub began : OpenExact (is_caller M) (states_in M) (opened (is_caller M) (states_in M))
  pub next : NextByte (shelf_in M) transfer session
  -- "whatever an accepted open leaves passes it, and so does what a receive or give leaves": no call that is lent this memory answers 1 (Replies)
  pub form : passes (fixed_in M) (finally M cs) ≡ true
  -- "What is read, answered": the whole reply of a receive, which is the number given back, "Place is 0 in every answer but 1.", and how many bytes are
  -- consumed
  pub receives : (b : Buffer)
      → (received (fixed_in M) (finally M cs) b.bytes).reply ≡ reply (receive (shelf_in M) session b.bytes).answer 0 (receive (shelf_in M) session b.bytes).count
  -- "kept": the partner's states and the messages are the session's
  pub states : states_of M.partner (finally M cs).table ≡ session.memory.states
  pub keeps : messages_of (finally M cs).inbox (finally M cs).store (message_count (finally M cs)) ≡ session.memory.inbox
  -- "and sent": the whole reply of a give, answer 0, place 0 and how many bytes are given; which, and "no other byte of the buffer changes"
  pub gives : (b : Buffer) (place : ℕ)
      → (given (fixed_in M) (finally M cs) b.bytes place).reply ≡ reply 0 0 (length (handed_out session (length b.bytes - place)))
  pub writes : (b : Buffer) (place : ℕ)
      → (given (fixed_in M) (finally M cs) b.bytes place).buf ≡ wrote b.bytes place (handed_out session (length b.bytes - place))
  -- after the end: "nothing consumed, nothing changed"; and where nothing waits, at the end "once the line is taken" (02, Q-1), give writes nothing and
  -- answers 0 with count 0. What is given after an end is on the page (`why`, `quiet`, and `parting` of `sound`)
  pub ended_receive : Over session → (b : Buffer)
      → received (fixed_in M) (finally M cs) b.bytes ≡ unchanged_by (reply session_ended 0 0) (finally M cs)
  pub silent_give : session.out ≡ [] → (b : Buffer) (place : ℕ)
      → given (fixed_in M) (finally M cs) b.bytes place ≡ record { reply = reply 0 0 0; sm = (finally M cs).sm; buf = b.bytes }
  -- "Receiving no bytes on a live session answers 0 and changes nothing."
  pub no_bytes : Live session → received (fixed_in M) (finally M cs) [] ≡ unchanged_by (reply 0 0 0) (finally M cs)
  -- "A proposal or transfer that we write reads back as the same fields and the same bytes."
  pub reads_back : (i : ℕ) → i < record_count M.table.bytes → ReadsBack (record_at (shelf_in M).table i)

abbrev pub Claim2 : Type 0
Claim2 = (M : OpenCall) → (opened_by M).reply.answer ≡ 0 → (cs : CallsOn M) → Demand2 M cs
