-- DEMAND 3 over lent memory. One claim about the list of calls; the proof is proofs/Demand3.
use Rattle.std.specs.Prelude.{◌≡◌, List, ℕ, ◌*◌, length, take, drop}
use Rattle.session_log.specs.Log.{Event, Log, log}
use Rattle.entries.specs.Decoded.{records_of}
use Rattle.grammar.specs.Refusals.{bad_memory, no_place}
use Rattle.give.specs.Giving.{reply}
use Rattle.represents.specs.Laid.{entries_bytes, bodies_bytes}
use Rattle.marking.specs.States.{with_states}
use Rattle.main_theorem.specs.Calls.{Lent, Buffer, OpenCall, fixed_in, lent_in, Other, Call, opened_by, received, given, sizes_of, lent_session, message_count, store_reach, with_session, unchanged_by, instead, run, is_caller, states_in}
use Rattle.places.specs.Places.{entry_len}

-- "and after it every list of receive and give calls, refused ones included, with whatever bytes and buffers"
abbrev pub CallsOn : OpenCall → Type 0
CallsOn M = List (Call (sizes_of (fixed_in M) (lent_in M)))

-- the memory after the list
abbrev pub finally : (M : OpenCall) → CallsOn M → Lent
finally M cs = (run (fixed_in M) (with_session (lent_in M) (opened_by M).sm) cs).0

-- "the bytes consumed and given, .. in whatever portions they went"
abbrev pub traced : (M : OpenCall) → CallsOn M → List Event
traced M cs = (run (fixed_in M) (with_session (lent_in M) (opened_by M).sm) cs).1

-- "All this is read by the log in document 01 from the bytes consumed and given", with "open's role and table with its three stores"
abbrev pub logged : (M : OpenCall) → CallsOn M → Log
logged M cs =
    log (records_of M.titles.bytes M.names.bytes M.bodies.bytes M.table.bytes) (is_caller M) (states_in M) (traced M cs)

pub record Demand3 (M : OpenCall) (cs : CallsOn M) : Type 0 where
  -- "after the list, the table is as open found it but with the log's states": those of the partner, so that no other column has changed
  pub table : (finally M cs).table ≡ with_states M.partner (logged M cs).book.states M.table.bytes
  -- "and the inbox up to its count is the log's messages kept, in order: form, type as a capital, from, at, to, BID, title or name, and
  -- body", byte for byte as docs/MEMORY.md lays them out
  pub count : message_count (finally M cs) ≡ length (logged M cs).book.kept
  pub inbox : take (length (logged M cs).book.kept * entry_len) (finally M cs).inbox ≡ entries_bytes 0 (logged M cs).book.kept
  pub bodies : take (length (bodies_bytes (logged M cs).book.kept)) (finally M cs).store ≡ bodies_bytes (logged M cs).book.kept
  -- Beyond demand 3's words. Of the inbox store: past the bytes written so far, "the rest is untouched"; each byte of it stands in Store
  pub rest : drop (store_reach (finally M cs)) (finally M cs).store ≡ drop (store_reach (finally M cs)) M.store.bytes
  -- and of the inbox, "so are inbox places past the count"
  pub places : drop (message_count (finally M cs) * entry_len) (finally M cs).inbox ≡ drop (message_count (finally M cs) * entry_len) M.inbox.bytes
  -- and a call that is lent memory of another size, session memory or whichever buffer, answers 1 with place 255 and count 0 and changes none of it
  pub others : (o : Other (sizes_of (fixed_in M) (lent_in M))) (b : Buffer) (place : ℕ)
      → (received o.fixed (instead o (finally M cs).sm) b.bytes ≡ unchanged_by (reply bad_memory no_place 0) (instead o (finally M cs).sm))
      × (given o.fixed (instead o (finally M cs).sm) b.bytes place ≡ record { reply = reply bad_memory no_place 0; sm = lent_session o.session (finally M cs).sm; buf = b.bytes })

-- THE CLAIM
abbrev pub Claim : Type 0
Claim = (M : OpenCall) → (opened_by M).reply.answer ≡ 0 → (cs : CallsOn M) → Demand3 M cs
