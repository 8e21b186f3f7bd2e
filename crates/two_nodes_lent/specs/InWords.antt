-- TWO NODES, IN AN OPERATOR'S WORDS: what the mark of a record means after any number of sessions between two nodes, wherever the link dropped. It
-- follows from Boxes; the proof is proofs/InWords.
use Rattle.std.specs.Prelude.{◌≡◌, List, [], ◌∷◌, true, false, ℕ, ◌<◌, ◌≤◌, eqb, length, get_or}
use Rattle.grammar.specs.Bytes.{Bytes}
use Rattle.grammar.specs.Fields.{plain}
use Rattle.mail.specs.Mail.{Record, Message, heading_for, record_at}
use Rattle.session.specs.Choices.{record_bids, message_bids}
use Rattle.demand2.specs.OurAnswers.{Among}
use Rattle.entries.specs.Decoded.{known_bids}
use Rattle.session_memory.specs.State.{load_of}
use Rattle.main_theorem.specs.Demand2.{shelf_in}
use Rattle.main_theorem.specs.Demand3.{finally}
use Rattle.two_nodes.specs.Once.{has_bid}
use Rattle.two_nodes.specs.Series.{copies}
use Rattle.phase.specs.Phase.{state_waiting, state_forwarded, state_declined, not_deferred}
use Rattle.two_nodes_lent.specs.Boxes.{Box, records, states, states_after, Visit, Chain, last, kept_here, kept_there, FqComes}

abbrev pub no_message : Message
no_message = record { form = plain; type = 0; from = []; at = []; to = []; bid = []; heading = []; body = [] }

-- The message at a place of what was kept, counted from 0.
abbrev pub message_at : List Message → ℕ → Message
message_at ms k = get_or ms k no_message

-- A kept message is this record, field by field and byte for byte.
pub record IsCopy (r : Record) (x : Message) : Type 0 where
  pub form : x.form ≡ r.form
  pub type : x.type ≡ r.type
  pub from : x.from ≡ r.from
  pub at : x.at ≡ r.at
  pub to : x.to ≡ r.to
  pub bid : x.bid ≡ r.bid
  -- the title of a message, the name of a file
  pub heading : x.heading ≡ heading_for r.form r
  pub body : x.body ≡ r.body

-- FORWARDED: among all that the other node has kept, in all sessions, one is this record, and it alone has its BID.
pub record Arrived (r : Record) (ms : List Message) : Type 0 where
  pub place : ℕ
  pub within : place < length ms
  pub whole : IsCopy r (message_at ms place)
  pub alone : copies r.bid ms ≡ 1

-- DECLINED: the other node has the BID, letters in either case: in its own table, in its known list at the start, or among what it has kept since, which
-- may be our very copy.
pub data HasIt (b : Bytes) (table : List Record) (known : List Bytes) (ms : List Message) : Type 0 where
  in_table : Among b (record_bids table) → HasIt b table known ms
  in_known : Among b known → HasIt b table known ms
  in_kept : Among b (message_bids ms) → HasIt b table known ms

-- Of the records of one node that waited at the start. x: its end of the first session, z: of the last; y: the other's of the first; ms: all that the
-- other has kept.
pub record Means (x z y : Box) (ms : List Message) : Type 0 where
  pub forwarded : (i : ℕ) → get_or (states x) i 0 ≡ state_waiting → get_or (states_after z) i 0 ≡ state_forwarded → Arrived (record_at (records x) i) ms
  pub declined : (i : ℕ) → get_or (states x) i 0 ≡ state_waiting → get_or (states_after z) i 0 ≡ state_declined
      → HasIt (record_at (records x) i).bid (records y) (known_bids y.opening.known.bytes) ms

-- The deferral flag of a record in session memory.
abbrev pub flag_of : Box → ℕ → ℕ
flag_of x i = get_or (load_of (finally x.opening x.calls).sm).keep.deferred i 0

-- STILL WAITING after FQ: a plain text, which never goes between two of these nodes, or deferred by the other in this very session.
pub data WhyWaiting (x : Box) (i : ℕ) : Type 0 where
  plain_text : (record_at (records x) i).form ≡ plain → WhyWaiting x i
  deferred_now : eqb (flag_of x i) not_deferred ≡ false → WhyWaiting x i

abbrev pub Waiting : Box → Type 0
Waiting x = (i : ℕ) → i < length (records x) → get_or (states_after x) i 0 ≡ state_waiting → WhyWaiting x i

-- FQ came at one end: so it is at both.
pub record Farewell (v : Visit) : Type 0 where
  pub there : FqComes v.there → Waiting v.here × Waiting v.there
  pub here : FqComes v.here → Waiting v.here × Waiting v.there

abbrev pub AllFarewells : Visit → List Visit → Type 0
AllFarewells v [] = Farewell v
AllFarewells v (w ∷ ws) = Farewell v × AllFarewells w ws

-- NEVER TWICE: of any BID a node keeps one message at most, over all sessions, and none of a BID that its table or its known list had at the start.
pub record NeverTwice (x : Box) (ms : List Message) : Type 0 where
  pub once : (b : Bytes) → copies b ms ≤ 1
  pub new : (b : Bytes) → has_bid (shelf_in x.opening) [] b ≡ true → copies b ms ≡ 0

pub record InWords (v : Visit) (ws : List Visit) : Type 0 where
  pub here : Means v.here (last v ws).here v.there (kept_there v ws)
  pub there : Means v.there (last v ws).there v.here (kept_here v ws)
  pub each : AllFarewells v ws
  pub once_here : NeverTwice v.here (kept_here v ws)
  pub once_there : NeverTwice v.there (kept_there v ws)

-- THE CLAIM, in an operator's words
abbrev pub ClaimInWords : Type 0
ClaimInWords = (v : Visit) (ws : List Visit) → Chain v ws → InWords v ws
