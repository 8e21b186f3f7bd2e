-- THE FRONT PANEL'S NUMBERS (02, Q-3) after every list of calls, by the log. The proof is proofs/Tally.
use Rattle.std.specs.Prelude.{◌≡◌, map, ℕ, ◌+◌, ◌≤◌}
use Rattle.mail.specs.Mail.{record_limit}
use Rattle.mail.specs.Tally.{waiting_count, waiting_bytes}
use Rattle.session_log.specs.Effects.{Account}
use Rattle.session_log.specs.Log.{Log, unsettled}
use Rattle.demand3.specs.Tally.{log_told}
use Rattle.places.specs.Places.{tally_waiting_at, tally_sizes_at, tally_proposed_at, tally_forwarded_at, tally_declined_at, tally_deferred_at, tally_unsettled_at}
use Rattle.layout.specs.Layout.{byte_at, le4_at}
use Rattle.marking.specs.States.{states_of}
use Rattle.main_theorem.specs.Demand2.{call_of, shelf_in}
use Rattle.main_theorem.specs.Calls.{OpenCall, is_caller, states_in, opened_by}
use Rattle.main_theorem.specs.Demand3.{CallsOn, finally}

-- "Keep both numbers in session memory, at places written in docs/", and the tally sheet beside them: the number that stands there after the list of calls
abbrev pub shown : (M : OpenCall) → CallsOn M → ℕ → ℕ
shown M cs place = byte_at (finally M cs).sm place

-- The log of what crossed the link up to the last byte that was not refused, and then of what waited then (`told`, crates/demand3): "Proposed counts at
-- the received byte that our turn answers", "After a refusal the numbers stay at their last state".
abbrev pub told_log : (M : OpenCall) → CallsOn M → Log
told_log M cs = log_told (shelf_in M) (is_caller M) (states_in M) (map call_of cs)

abbrev pub account : (M : OpenCall) → CallsOn M → Account
account M cs = (told_log M cs).course.account

pub record Tallied (M : OpenCall) (cs : CallsOn M) : Type 0 where
  -- "how many records wait and the sum of their announced sizes": by the log, and in the partner's column of the table as it stands
  pub waiting : shown M cs tally_waiting_at ≡ waiting_count (told_log M cs).book.states
  pub sizes : le4_at (finally M cs).sm tally_sizes_at ≡ waiting_bytes (shelf_in M).table (told_log M cs).book.states
  pub column : states_of M.partner (finally M cs).table ≡ (told_log M cs).book.states
  -- "records proposed, forwarded, declined, deferred"
  pub proposed : shown M cs tally_proposed_at ≡ (account M cs).proposed
  pub forwarded : shown M cs tally_forwarded_at ≡ (account M cs).forwarded
  pub declined : shown M cs tally_declined_at ≡ (account M cs).declined
  pub deferred : shown M cs tally_deferred_at ≡ (account M cs).deferred
  -- "not settled are those proposed whose FS hasn't come, or which were accepted and aren't forwarded yet"
  pub unsettled : shown M cs tally_unsettled_at ≡ unsettled (told_log M cs).course
  -- "the first is always the sum of the other four"; none of them is over 64, so that no number ever wraps
  pub sum : shown M cs tally_proposed_at ≡ shown M cs tally_forwarded_at + shown M cs tally_declined_at + shown M cs tally_deferred_at + shown M cs tally_unsettled_at
  pub few : shown M cs tally_proposed_at ≤ record_limit

-- THE CLAIM
abbrev pub TallyClaim : Type 0
TallyClaim = (M : OpenCall) → (opened_by M).reply.answer ≡ 0 → (cs : CallsOn M) → Tallied M cs
