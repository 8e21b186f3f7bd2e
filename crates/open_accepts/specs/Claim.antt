-- WHEN OPEN ACCEPTS, what it answers else, and what it leaves: for every role, every partner and whatever is lent. The proof is proofs/Claim; it speaks of the
-- definition in the contract of `fringemole_open`, and of none of its tests.
use Rattle.std.specs.Prelude.{◌≡◌, cond, [], ◌∷◌, ◌++◌, ◌⊎◌, ◌↔◌, ◌≢◌, ℕ, ◌-◌, eqb, length, take, drop, replicate, set}
use Rattle.grammar.specs.Bytes.{Bytes}
use Rattle.grammar.specs.Ascii.{text}
use Rattle.grammar.specs.Refusals.{bad_memory, no_place}
use Rattle.phase.specs.Phase.{phase_caller_sid, piece_sid_and_prompt}
use Rattle.places.specs.Places.{numbers_start, phase_at, first_at, partner_at, tally_waiting_at, tally_proposed_at, numbers_end, free_len, arrays_len, arrays_end}
use Rattle.mail.specs.Tally.{waiting_count, waiting_bytes}
use Rattle.layout.specs.Layout.{le4, le8}
use Rattle.entries.specs.Decoded.{records_of}
use Rattle.marking.specs.States.{states_of}
use Rattle.give.specs.Giving.{reply}
use Rattle.give.specs.declared.Reply.{Reply}
use Rattle.open.specs.Opening.{Opened, open_of}
use Rattle.open.specs.Lending.{Lending, role_called}
use Rattle.open_accepts.specs.Good.{BeforeRecords, Acceptable, FirstBad}

-- ---------------------------------------------------------------- what an accepted open leaves

-- The mark and the lent sizes.
abbrev pub sizes_kept : Lending → Bytes
sizes_kept L =
    text "FM01" ++ (le8 (length L.table) ++ (le8 (length L.titles) ++ (le8 (length L.names) ++ (le8 (length L.bodies)
    ++ (le8 (length L.known) ++ (le8 (length L.inbox) ++ le8 (length L.store)))))))

-- The numbers of a session that begins up to the partner, all 0 but that and one more. Called: "we send it, CR, `>`, CR, and await the caller's SID"; caller: "we await the SID".
abbrev pub numbers_at_first : ℕ → ℕ → Bytes
numbers_at_first role partner =
    set (cond (eqb role role_called)
    (set (replicate (tally_waiting_at - numbers_start) 0) (first_at - numbers_start) piece_sid_and_prompt)
    (set (replicate (tally_waiting_at - numbers_start) 0) (phase_at - numbers_start) phase_caller_sid))
    (partner_at - numbers_start) partner

-- "how many records wait and the sum of their announced sizes", for the partner, in one byte and in four; the tally sheet, "all 0 when open accepts" (02, Q-3)
abbrev pub tally_at_first : ℕ → Bytes → Bytes
tally_at_first partner table =
    waiting_count (states_of partner table) ∷ (le4 (waiting_bytes (records_of [] [] [] table) (states_of partner table)) ++ replicate (numbers_end - tally_proposed_at) 0)

-- Session memory, from its first byte to its last: docs/MEMORY.md has the places. Free bytes stay as they are.
abbrev pub session_at_first : Lending → Bytes
session_at_first L =
    sizes_kept L
    ++ ((numbers_at_first L.role L.partner ++ tally_at_first L.partner L.table)
    ++ (take free_len (drop numbers_end L.session) ++ (replicate arrays_len 0 ++ drop arrays_end L.session)))

-- ---------------------------------------------------------------- the claim

-- Answer 1 with some place.
pub record OpenRefused (r : Reply) : Type 0 where
  pub place : ℕ
  pub is : r ≡ reply bad_memory place 0

-- What is to be said of an open, by its outcome o.
pub record Opens (L : Lending) (o : Opened) : Type 0 where
  -- "0: no refusal"
  pub accepts : (o.reply.answer ≡ 0) ↔ Acceptable L
  -- "1: open: bad table or buffers: place = first bad record, from 0"
  pub bad_record : (i : ℕ) → i ≢ no_place → (o.reply ≡ reply bad_memory i 0) ↔ FirstBad L i
  -- "255 for role, sizes, known BIDs", and for a partner of 8 or more
  pub bad_before : (o.reply ≡ reply bad_memory no_place 0) ↔ (BeforeRecords L → ⊥)
  -- and no other answer; "Place is 0 in every answer but 1", and so is the count
  pub no_other : (o.reply ≡ reply 0 0 0) ⊎ OpenRefused o.reply
  -- "A refused open changes no lent byte."
  pub refused : o.reply.answer ≢ 0 → o.sm ≡ L.session
  -- "Session memory: .. An accepted open changes nothing else."
  pub leaves : o.reply.answer ≡ 0 → o.sm ≡ session_at_first L

-- THE CLAIM
abbrev pub OpenClaim : Type 0
OpenClaim = (L : Lending) → Opens L (open_of L)
