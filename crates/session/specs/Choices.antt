-- 01, "Turns": which records we propose, and how we answer the partner's proposals.
use Rattle.std.specs.Prelude.{Bool, false, cond, not, ◌&&◌, ◌||◌, List, [], ◌∷◌, ◌++◌, ℕ, suc, ◌+◌, ◌-◌, eqb, ltb, length, get_or}
use Rattle.grammar.specs.Bytes.{Bytes}
use Rattle.grammar.specs.Fields.{same_bid, body_max}
use Rattle.grammar.specs.Turns.{Proposal, in_mode, our_block}
use Rattle.grammar.specs.Answers.{Sign, accept, decline, defer}
use Rattle.mail.specs.Mail.{Record, Message, record_at}
use Rattle.phase.specs.Phase.{state_waiting, not_deferred}

-- What a session is opened with beside its role: the table's records, the known BIDs, how many inbox places and store bytes there are.
pub record Shelf : Type 0 where
  pub table : List Record
  pub known : List Bytes
  pub places : ℕ
  pub bytes : ℕ

abbrev pub shelf_with : List Record → List Bytes → ℕ → ℕ → Shelf
shelf_with table known places bytes = record { table = table; known = known; places = places; bytes = bytes }

-- ---------------------------------------------------------------- our block

-- "waiting records .. form 0 in plain mode, 1 and 2 in framed mode, none deferred in this session"
abbrev pub wanted : Bool → Record → ℕ → ℕ → Bool
wanted framed r state flag = in_mode framed r.form && (eqb state state_waiting && eqb flag not_deferred)

-- "in table order": the places of the wanted records, from place i on
abbrev pub candidates : Bool → List ℕ → List ℕ → ℕ → List Record → List ℕ
candidates framed states flags i [] = []
candidates framed states flags i (r ∷ T) =
    cond (wanted framed r (get_or states i 0) (get_or flags i 0)) (i ∷ candidates framed states flags (suc i) T) (candidates framed states flags (suc i) T)

abbrev pub size_at : List Record → ℕ → ℕ
size_at T i = (record_at T i).size

-- The places of the records that we propose now.
unfoldable pub chosen : List Record → Bool → List ℕ → List ℕ → List ℕ
chosen T framed states flags = our_block (size_at T) 0 0 (candidates framed states flags 0 T)

-- ---------------------------------------------------------------- our answers

abbrev pub among : Bytes → List Bytes → Bool
among b [] = false
among b (x ∷ xs) = same_bid x b || among b xs

abbrev pub record_bids : List Record → List Bytes
record_bids [] = []
record_bids (r ∷ T) = r.bid ∷ record_bids T

abbrev pub message_bids : List Message → List Bytes
message_bids [] = []
message_bids (m ∷ ms) = m.bid ∷ message_bids ms

abbrev pub proposal_bids : List Proposal → List Bytes
proposal_bids [] = []
proposal_bids (p ∷ ps) = p.bid ∷ proposal_bids ps

abbrev pub body_bytes : List Message → ℕ
body_bytes [] = 0
body_bytes (m ∷ ms) = length m.body + body_bytes ms

abbrev pub announced : List Proposal → ℕ
announced [] = 0
announced (p ∷ ps) = p.size + announced ps

-- "`-` if the BID is in the table, the known list, the inbox, or accepted earlier in this block"
abbrev pub have_bid : Shelf → List Message → List Proposal → Bytes → Bool
have_bid E inbox acc b =
    among b (record_bids E.table) || (among b E.known || (among b (message_bids inbox) || among b (proposal_bids acc)))

-- "else `=` if the size is over 65,535, or over the free store less the sizes accepted in this block, or no inbox place is free for it"
abbrev pub no_room_for : Shelf → List Message → List Proposal → ℕ → Bool
no_room_for E inbox acc size =
    ltb body_max size || (ltb (E.bytes - body_bytes inbox - announced acc) size || not (ltb (length inbox + length acc) E.places))

-- "else `+`"; acc: those accepted earlier in this block
abbrev pub sign_for : Shelf → List Message → List Proposal → Proposal → Sign
sign_for E inbox acc p = cond (have_bid E inbox acc p.bid) decline (cond (no_room_for E inbox acc p.size) defer accept)

abbrev pub with_accepted : Sign → Proposal → List Proposal → List Proposal
with_accepted accept p acc = acc ++ (p ∷ [])
with_accepted decline p acc = acc
with_accepted defer p acc = acc

-- "Our answer, per proposal in order"
abbrev pub answers_after : Shelf → List Message → List Proposal → List Proposal → List Sign
answers_after E inbox acc [] = []
answers_after E inbox acc (p ∷ ps) =
    sign_for E inbox acc p ∷ answers_after E inbox (with_accepted (sign_for E inbox acc p) p acc) ps

unfoldable pub answers_to : Shelf → List Message → List Proposal → List Sign
answers_to E inbox ps = answers_after E inbox [] ps
