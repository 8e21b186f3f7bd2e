-- 01, "Lent memory": a record of the table, a message of the inbox, and what we write for a record.
use Rattle.std.specs.Prelude.{cond, List, [], ◌∷◌, ◌++◌, ℕ, zero, suc, get_or, set}
use Rattle.grammar.specs.Bytes.{Bytes, same}
use Rattle.grammar.specs.Fields.{Form, plain, message, file}
use Rattle.grammar.specs.Turns.{Proposal, proposal_line, with_cr, fixed_text, our_end}
use Rattle.grammar.specs.Answers.{Sign, accept, decline, defer}
use Rattle.grammar.specs.Transfers.{kind_of, Content, write_transfer}
use Rattle.phase.specs.Phase.{state_forwarded, state_declined}

-- "Each has a form .., a type (P or B), from, at, to, BID, announced size .., title, file name, body"; states stand beside the records
pub record Record : Type 0 where
  pub form : Form
  pub type : ℕ
  pub from : Bytes
  pub at : Bytes
  pub to : Bytes
  pub bid : Bytes
  pub size : ℕ
  pub title : Bytes
  pub name : Bytes
  pub body : Bytes

-- "0 to 64 records"
abbrev pub record_limit : ℕ
record_limit = 64

abbrev pub no_record : Record
no_record = record { form = plain; type = 0; from = []; at = []; to = []; bid = []; size = 0; title = []; name = []; body = [] }

-- "messages with form, type, from, at, to, BID, title or name, and body"
pub record Message : Type 0 where
  pub form : Form
  pub type : ℕ
  pub from : Bytes
  pub at : Bytes
  pub to : Bytes
  pub bid : Bytes
  pub heading : Bytes
  pub body : Bytes

-- "up to 64 messages"
abbrev pub place_limit : ℕ
place_limit = 64

-- A received transfer with its proposal's form and fields.
abbrev pub message_of : Proposal → Content → Message
message_of p c =
    record { form = p.form; type = p.type; from = p.from; at = p.at; to = p.to; bid = p.bid; heading = c.heading; body = c.body }

-- ---------------------------------------------------------------- what we write for a record

abbrev pub proposal_of : Record → Proposal
proposal_of r = record { form = r.form; type = r.type; from = r.from; at = r.at; to = r.to; bid = r.bid; size = r.size }

-- "the title for a message or the file name for a file"
abbrev pub heading_for : Form → Record → Bytes
heading_for plain r = r.title
heading_for message r = r.title
heading_for file r = r.name

abbrev pub transfer_of : Record → Bytes
transfer_of r = write_transfer (kind_of r.form) (heading_for r.form r) r.body

-- The record at a place of the table, counted from 0.
abbrev pub record_at : List Record → ℕ → Record
record_at T i = get_or T i no_record

abbrev pub proposal_lines : List Proposal → Bytes
proposal_lines [] = []
proposal_lines (p ∷ ps) = with_cr (proposal_line p) ++ proposal_lines ps

-- "one to five proposals and `F>`"
unfoldable pub turn_text : List Proposal → Bytes
turn_text ps = proposal_lines ps ++ with_cr (fixed_text our_end)

-- The transfers of the records at these places, in order.
unfoldable pub transfers_text : List Record → List ℕ → Bytes
transfers_text T [] = []
transfers_text T (i ∷ is) = transfer_of (record_at T i) ++ transfers_text T is

-- The log's "records with those BIDs": the place of the first record with this BID, byte for byte, since we send a record's own spelling; the
-- table's length where there is none.
abbrev pub place_of : List Record → Bytes → ℕ
place_of [] b = zero
place_of (r ∷ T) b = cond (same r.bid b) zero (suc (place_of T b))

-- ---------------------------------------------------------------- proposals with the answers to them

-- Those that were accepted, in order.
abbrev pub accepted {ℓ} : {A : Type ℓ} → List Sign → List A → List A
accepted [] xs = []
accepted (s ∷ ss) [] = []
accepted (accept ∷ ss) (x ∷ xs) = x ∷ accepted ss xs
accepted (decline ∷ ss) (x ∷ xs) = accepted ss xs
accepted (defer ∷ ss) (x ∷ xs) = accepted ss xs

-- "a state (0 waiting, 1 forwarded, 2 declined)": the records at these places are forwarded
abbrev pub marked : List ℕ → List ℕ → List ℕ
marked [] st = st
marked (i ∷ is) st = marked is (set st i state_forwarded)

-- "`-` sets state 2": those of the records at these places that were declined
abbrev pub declined : List ℕ → List Sign → List ℕ → List ℕ
declined [] ss st = st
declined (i ∷ is) [] st = st
declined (i ∷ is) (accept ∷ ss) st = declined is ss st
declined (i ∷ is) (decline ∷ ss) st = declined is ss (set st i state_declined)
declined (i ∷ is) (defer ∷ ss) st = declined is ss st
