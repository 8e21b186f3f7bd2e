-- TWO NODES OVER LENT MEMORY: any number of sessions between two hosts of the library, each dropped at whatever byte. The proof is proofs/Boxes.
use Rattle.std.specs.Prelude.{◌≡◌, true, false, not, List, [], ◌∷◌, ◌++◌, ℕ, get_or}
use Rattle.mail.specs.Mail.{Record, Message, record_at}
use Rattle.session.specs.Choices.{message_bids, have_bid}
use Rattle.session_log.specs.Log.{Event}
use Rattle.entries.specs.Decoded.{records_of, known_bids}
use Rattle.marking.specs.States.{states_of}
use Rattle.represents.specs.Represents.{messages_of}
use Rattle.main_theorem.specs.Calls.{Buffer, OpenCall, fixed_in, receives, received, message_count, opened_by, states_in, is_caller}
use Rattle.grammar.specs.Refusals.{session_ended}
use Rattle.session_memory.specs.State.{load_of}
use Rattle.demand2.specs.OurTurn.{may_propose}
use Rattle.main_theorem.specs.Demand2.{shelf_in}
use Rattle.main_theorem.specs.Demand3.{CallsOn, finally, traced}
use Rattle.two_nodes.specs.Link.{Linked}
use Rattle.two_nodes.specs.Fates.{message_for, Has}
use Rattle.two_nodes.specs.Once.{KeptOnce}
use Rattle.two_nodes.specs.Series.{copies}
use Rattle.phase.specs.Phase.{state_waiting, state_forwarded, state_declined}

-- One end of one session: an accepted open, and the calls after it.
pub record Box : Type 0 where
  pub opening : OpenCall
  pub opens : (opened_by opening).reply.answer ≡ 0
  pub calls : CallsOn opening

-- the table's records and its states for the other node before it, those states after it, and the messages kept in it
abbrev pub records : Box → List Record
records x = records_of x.opening.titles.bytes x.opening.names.bytes x.opening.bodies.bytes x.opening.table.bytes

abbrev pub states : Box → List ℕ
states x = states_in x.opening

abbrev pub states_after : Box → List ℕ
states_after x = states_of x.opening.partner (finally x.opening x.calls).table

abbrev pub kept : Box → List Message
kept x =
    messages_of (finally x.opening x.calls).inbox (finally x.opening x.calls).store
    (message_count (finally x.opening x.calls))

-- the bytes consumed and given
abbrev pub events : Box → List Event
events x = traced x.opening x.calls

-- "The tables and their stores carry over, and only the sessions write them. .. Between sessions kept messages move to the known list, which forgets
-- nothing and has room.": y is the same node's end of the next session
pub record CarriesOver (x y : Box) : Type 0 where
  -- "Under Q-7 this reads for the states they hold for each other.": the other node is the same partner in both
  pub partner : y.opening.partner ≡ x.opening.partner
  pub table : y.opening.table.bytes ≡ (finally x.opening x.calls).table
  pub titles : y.opening.titles.bytes ≡ x.opening.titles.bytes
  pub names : y.opening.names.bytes ≡ x.opening.names.bytes
  pub bodies : y.opening.bodies.bytes ≡ x.opening.bodies.bytes
  pub known : known_bids y.opening.known.bytes ≡ known_bids x.opening.known.bytes ++ message_bids (kept x)

-- One session: "one calling and the other called"; "The link delivers at each end a beginning of what the other gave, unaltered."
pub record Visit : Type 0 where
  pub here : Box
  pub there : Box
  pub roles : is_caller there.opening ≡ not (is_caller here.opening)
  pub linked : Linked (events here) (events there)

-- "one after another"
abbrev pub Chain : Visit → List Visit → Type 0
Chain v [] = Unit {0}
Chain v (w ∷ ws) = CarriesOver v.here w.here × CarriesOver v.there w.there × Chain w ws

abbrev pub last : Visit → List Visit → Visit
last v [] = v
last v (w ∷ ws) = last w ws

-- Every message that was kept at this end, in all of them.
abbrev pub kept_here : Visit → List Visit → List Message
kept_here v [] = kept v.here
kept_here v (w ∷ ws) = kept v.here ++ kept_here w ws

abbrev pub kept_there : Visit → List Visit → List Message
kept_there v [] = kept v.there
kept_there v (w ∷ ws) = kept v.there ++ kept_there w ws

-- "FQ received ends the session at its CR: receive answers 0", as a host sees it: after some of the calls a receive of no bytes answers 0, then a receive
-- answers 0, and then a receive of no bytes answers 12.
pub record FqComes (x : Box) : Type 0 where
  pub before : CallsOn x.opening
  pub bytes : Buffer
  pub rest : CallsOn x.opening
  pub calls : x.calls ≡ before ++ receives bytes ∷ rest
  pub live : (received (fixed_in x.opening) (finally x.opening before) []).reply.answer ≡ 0
  pub answer : (received (fixed_in x.opening) (finally x.opening before) bytes.bytes).reply.answer ≡ 0
  pub over : (received (fixed_in x.opening) (finally x.opening (before ++ receives bytes ∷ [])) []).reply.answer ≡ session_ended

-- Every record that waits after the session is plain, or has its flag in session memory: it was deferred in this session.
abbrev pub NoneLeft : Box → Type 0
NoneLeft x = (i : ℕ) → may_propose (records x) true (states_after x) (load_of (finally x.opening x.calls).sm).keep.deferred i ≡ false

-- "Where FQ arrives whole, only plain records and those deferred in that session still wait, at both ends."
pub record Parted (v : Visit) : Type 0 where
  pub there : FqComes v.there → NoneLeft v.here × NoneLeft v.there
  pub here : FqComes v.here → NoneLeft v.here × NoneLeft v.there

abbrev pub AllParted : Visit → List Visit → Type 0
AllParted v [] = Parted v
AllParted v (w ∷ ws) = Parted v × AllParted w ws

-- Of the records of x, which waited at the start: x is its first end, z its last, y the other's first, ms all that the other has kept.
pub record Settled (x z y : Box) (ms : List Message) : Type 0 where
  pub forwarded : (i : ℕ) → get_or (states x) i 0 ≡ state_waiting → get_or (states_after z) i 0 ≡ state_forwarded
      → Has (message_for (record_at (records x) i)) ms × (copies (record_at (records x) i).bid ms ≡ 1)
  pub declined : (i : ℕ) → get_or (states x) i 0 ≡ state_waiting → get_or (states_after z) i 0 ≡ state_declined
      → have_bid (shelf_in y.opening) ms [] (record_at (records x) i).bid ≡ true

pub record TwoNodes (v : Visit) (ws : List Visit) : Type 0 where
  pub here : Settled v.here (last v ws).here v.there (kept_there v ws)
  pub there : Settled v.there (last v ws).there v.here (kept_here v ws)
  pub each : AllParted v ws
  pub once_here : KeptOnce (shelf_in v.here.opening) (kept_here v ws)
  pub once_there : KeptOnce (shelf_in v.there.opening) (kept_there v ws)

-- THE CLAIM
abbrev pub Claim : Type 0
Claim = (v : Visit) (ws : List Visit) → Chain v ws → TwoNodes v ws
