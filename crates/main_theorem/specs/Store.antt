-- WHAT THE INBOX STORE HOLDS, every byte of it, after every list of calls. 01: "Inbox store bytes past the last kept message hold the body bytes received
-- so far of the message under way, or of one that failed; the rest is untouched". The proof is proofs/Store.
use Rattle.std.specs.Prelude.{◌≡◌, false, cond, List, [], ◌∷◌, ◌++◌, map, length, drop}
use Rattle.grammar.specs.Bytes.{Bytes}
use Rattle.grammar.specs.Scan.{body_of}
use Rattle.session.specs.Choices.{Shelf}
use Rattle.session.specs.Session.{Phase, a_line, awaits_transfer, leaving, over, Session, opened, ended}
use Rattle.session.specs.Calls.{receive, last_byte, give}
use Rattle.demand2.specs.Reached.{Reached}
use Rattle.demand3.specs.Demand as on_lists_run
use Rattle.represents.specs.Laid.{bodies_bytes}
use Rattle.represents.specs.Represents.{messages_of}
use Rattle.main_theorem.specs.Demand2.{call_of, shelf_in}
use Rattle.main_theorem.specs.Calls.{OpenCall, message_count, is_caller, states_in, opened_by}
use Rattle.main_theorem.specs.Demand3.{CallsOn, finally}

-- The session just before the byte, or the give, that ended it; where it goes on, the session after the calls.
abbrev pub last_live : Shelf → Session → List on_lists_run.Call → Session
last_live E s [] = s
last_live E s (on_lists_run.receiving bs ∷ cs) = cond (ended (receive E s bs).session) (last_byte E s bs) (last_live E (receive E s bs).session cs)
last_live E s (on_lists_run.giving room ∷ cs) = cond (ended (give s room)) s (last_live E (give s room) cs)
last_live E s (on_lists_run.refused_call ∷ cs) = last_live E s cs

-- "the body bytes received so far of the message under way"
abbrev pub under_way : Phase → Bytes
under_way (a_line a) = []
under_way (awaits_transfer p ps sc) = body_of sc
under_way leaving = []
under_way over = []

-- The bodies kept, one after another, then that message's.
abbrev pub bodies_written : Session → Bytes
bodies_written s = bodies_bytes s.memory.inbox ++ under_way s.phase

-- The session on lists just before the same calls ended it, or after them.
abbrev pub last_of : (M : OpenCall) → CallsOn M → Session
last_of M cs = last_live (shelf_in M) (opened (is_caller M) (states_in M)) (map call_of cs)

pub record StoreHolds (M : OpenCall) (cs : CallsOn M) : Type 0 where
  -- the bytes so far of the transfer under way; its reading, and so its body, has come from them (`Sound.so_far` of crates/demand2)
  pub transfer : Bytes
  pub reached : Reached (shelf_in M) (last_of M cs) transfer
  pub live : ended (last_of M cs) ≡ false
  -- its messages kept are those of the inbox
  pub kept : messages_of (finally M cs).inbox (finally M cs).store (message_count (finally M cs)) ≡ (last_of M cs).memory.inbox
  -- THE STORE, from its first byte to its last: "the rest is untouched"
  pub store : (finally M cs).store ≡ bodies_written (last_of M cs) ++ drop (length (bodies_written (last_of M cs))) M.store.bytes

abbrev pub StoreClaim : Type 0
StoreClaim = (M : OpenCall) → (opened_by M).reply.answer ≡ 0 → (cs : CallsOn M) → StoreHolds M cs
