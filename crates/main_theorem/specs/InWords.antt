-- DEMAND 3 over lent memory, in the mission's words; it follows from Demand3 and the log. The proof is proofs/InWords.
use Rattle.std.specs.Prelude.{◌≡◌, List, [], ℕ, ◌<◌}
use Rattle.layout.specs.Layout.{state_of}
use Rattle.entries.specs.Decoded.{record_count, records_of}
use Rattle.represents.specs.Represents.{messages_of}
use Rattle.marking.specs.States.{StatesOnly}
use Rattle.main_theorem.specs.Calls.{OpenCall, message_count, is_caller, states_in, opened_by}
use Rattle.main_theorem.specs.Demand3.{CallsOn, finally, traced}
use Rattle.main_theorem.specs.Deeds.{Deed, deeds, Fate, messages_brought, transfers_brought, we_accepted, BroughtFor, AsAccepted}

-- What the bytes consumed and given did, unit by unit, as the log cuts them.
abbrev pub done : (M : OpenCall) → CallsOn M → List Deed
done M cs =
    deeds (records_of M.titles.bytes M.names.bytes M.bodies.bytes M.table.bytes) (is_caller M) (states_in M) (traced M cs)

pub record InWords (M : OpenCall) (cs : CallsOn M) : Type 0 where
  -- each record is forwarded, declined or as it was for the partner, as Fate says
  pub each : (i : ℕ) → i < record_count M.table.bytes → Fate i (done M cs) (state_of M.partner M.table.bytes i) (state_of M.partner (finally M cs).table i)
  -- "Nothing else in the table changes.": no field, and no state for another partner
  pub others : StatesOnly M.partner M.table.bytes (finally M cs).table
  -- "The inbox holds exactly the accepted messages received whole, in order, byte for byte."
  pub inbox : messages_of (finally M cs).inbox (finally M cs).store (message_count (finally M cs)) ≡ messages_brought (done M cs)
  -- "exactly the accepted messages": from the first on they are of the proposals to which our FS lines gave `+`, form and fields alike, each with the
  -- heading and the body that the bytes of its transfer bring, none passed over; those of the last ones may not have been received whole
  pub accepted : BroughtFor (transfers_brought (done M cs)) (messages_brought (done M cs)) (we_accepted (done M cs))
  -- and no unit of either side, but the transfers in order, comes between an FS line of ours and the last of those it accepted
  pub owed : AsAccepted [] [] (done M cs)

-- THE CLAIM, in the mission's words
abbrev pub ClaimInWords : Type 0
ClaimInWords = (M : OpenCall) → (opened_by M).reply.answer ≡ 0 → (cs : CallsOn M) → InWords M cs
