-- THE TALLY SHEET of 02, Q-3, for the abstract session: after every list of calls its numbers are the log's, proposed is the sum of the others, and
-- none is over 64. The theorem is proofs/Tally.
use Rattle.std.specs.Prelude.{◌≡◌, Bool, cond, not, ◌&&◌, List, [], ◌∷◌, ◌++◌, map, ℕ, ◌+◌, ◌-◌, ◌≤◌, eqb, take}
use Rattle.grammar.specs.Refusals.{session_ended}
use Rattle.mail.specs.Mail.{record_limit}
use Rattle.mail.specs.Tally.{Counts}
use Rattle.session.specs.Choices.{Shelf}
use Rattle.session.specs.Session.{Memory, Session, opened}
use Rattle.session.specs.Calls.{receive, last_byte, give, handed_out}
use Rattle.session_log.specs.Effects.{Account}
use Rattle.session_log.specs.Log.{Event, took, gave, Log, unsettled, log}
use Rattle.demand3.specs.Demand.{Call, receiving, giving, refused_call, run}

-- ---------------------------------------------------------------- what the tally sheet is told

-- An answer to receive that refuses a byte: 0 takes all, and 12 consumes none.
abbrev pub is_refusal : ℕ → Bool
is_refusal n = not (eqb n 0) && not (eqb n session_ended)

-- "Proposed counts at the received byte that our turn answers", before it is given: so all that crossed the link, and then what waits for give. "After
-- a refusal the numbers stay at their last state": so up to the byte before the refused one, then what waited then, and nothing after it.
abbrev pub told : Shelf → Session → List Call → List Event
told E s [] = map gave s.out
told E s (receiving bs ∷ cs) =
    cond (is_refusal (receive E s bs).answer)
    (map took (take ((receive E s bs).count - 1) bs) ++ map gave (last_byte E s bs).out)
    (map took (take (receive E s bs).count bs) ++ told E (receive E s bs).session cs)
told E s (giving room ∷ cs) = map gave (handed_out s room) ++ told E (give s room) cs
told E s (refused_call ∷ cs) = told E s cs

-- ---------------------------------------------------------------- THE STATEMENT

-- The memory after the calls, and the log of what was told. found: the states that open found
abbrev pub memory_after : Shelf → Bool → List ℕ → List Call → Memory
memory_after E caller found cs = (run E (opened caller found) cs).0.memory

abbrev pub log_told : Shelf → Bool → List ℕ → List Call → Log
log_told E caller found cs = log E.table caller found (told E (opened caller found) cs)

abbrev pub counts_after : Shelf → Bool → List ℕ → List Call → Counts
counts_after E caller found cs = (memory_after E caller found cs).counts

abbrev pub account_told : Shelf → Bool → List ℕ → List Call → Account
account_told E caller found cs = (log_told E caller found cs).course.account

-- The role (true: caller), the states that open found, and a list of calls.
pub record Tallied (E : Shelf) (caller : Bool) (found : List ℕ) (cs : List Call) : Type 0 where
  -- the records that wait are the log's: how many, and their sizes
  pub states : (memory_after E caller found cs).states ≡ (log_told E caller found cs).book.states
  pub proposed : (counts_after E caller found cs).proposed ≡ (account_told E caller found cs).proposed
  pub forwarded : (counts_after E caller found cs).forwarded ≡ (account_told E caller found cs).forwarded
  pub declined : (counts_after E caller found cs).declined ≡ (account_told E caller found cs).declined
  pub deferred : (counts_after E caller found cs).deferred ≡ (account_told E caller found cs).deferred
  -- "the first is always the sum of the other four"
  pub sum : (counts_after E caller found cs).proposed
      ≡ (counts_after E caller found cs).forwarded + (counts_after E caller found cs).declined + (counts_after E caller found cs).deferred
      + unsettled (log_told E caller found cs).course
  -- no record counts twice, so no number is over the table's 64
  pub few : (counts_after E caller found cs).proposed ≤ record_limit
