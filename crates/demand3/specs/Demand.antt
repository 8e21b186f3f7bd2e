-- DEMAND 3 of 01, for the abstract session: "after the list, the table is as open found it but with the log's states, and the inbox up to
-- its count is the log's messages kept, in order". One claim about the list of calls.
use Rattle.std.specs.Prelude.{◌≡◌, Bool, true, not, ◌&&◌, List, [], ◌∷◌, ◌++◌, map, ℕ, leb, length, take}
use Rattle.grammar.specs.Bytes.{Bytes}
use Rattle.grammar.specs.Fields.{same_bid}
use Rattle.grammar.specs.Turns.{proposable}
use Rattle.mail.specs.Mail.{Record, proposal_of, record_limit}
use Rattle.session.specs.Choices.{Shelf}
use Rattle.session.specs.Session.{Session, opened}
use Rattle.session.specs.Calls.{receive, give, handed_out}
use Rattle.session_log.specs.Log.{Event, took, gave, log}

-- ---------------------------------------------------------------- a list of calls

-- A receive of these bytes, a give into a room of so many bytes, and a receive or give that answers 1: "and change nothing, the session
-- included".
pub data Call : Type 0 where
  receiving : Bytes → Call
  giving : ℕ → Call
  refused_call : Call

-- The session after the calls, and "the bytes consumed and given, by the calls' counts, in order".
abbrev pub run : Shelf → Session → List Call → Session × List Event
run E s [] = (s, [])
run E s (receiving bs ∷ cs) =
    ((run E (receive E s bs).session cs).0, map took (take (receive E s bs).count bs) ++ (run E (receive E s bs).session cs).1)
run E s (giving room ∷ cs) = ((run E (give s room) cs).0, map gave (handed_out s room) ++ (run E (give s room) cs).1)
run E s (refused_call ∷ cs) = run E s cs

-- ---------------------------------------------------------------- what an accepted open has found of the table

-- Every record's fields obey their rules, as far as a proposal shows them.
abbrev pub all_proposable : List Record → Bool
all_proposable [] = true
all_proposable (r ∷ T) = proposable (proposal_of r) && all_proposable T

-- "of two records with one BID the later is bad"
abbrev pub none_with : Bytes → List Record → Bool
none_with b [] = true
none_with b (r ∷ T) = not (same_bid b r.bid) && none_with b T

abbrev pub distinct_bids : List Record → Bool
distinct_bids [] = true
distinct_bids (r ∷ T) = none_with r.bid T && distinct_bids T

-- "0 to 64 records"
pub record GoodTable (T : List Record) : Type 0 where
  pub few : leb (length T) record_limit ≡ true
  pub fields : all_proposable T ≡ true
  pub bids : distinct_bids T ≡ true

-- ---------------------------------------------------------------- THE STATEMENT

-- The role (true: caller), the states that open found, and a list of calls.
pub record Demand3 (E : Shelf) (caller : Bool) (states : List ℕ) (cs : List Call) : Type 0 where
  pub table : (run E (opened caller states) cs).0.memory.states ≡ (log E.table caller states (run E (opened caller states) cs).1).book.states
  pub inbox : (run E (opened caller states) cs).0.memory.inbox ≡ (log E.table caller states (run E (opened caller states) cs).1).book.kept
