-- 01, "Turns": proposals and the other lines of a turn, read and written; which records go into our turn.
use Rattle.std.specs.Prelude.{Bool, true, false, cond, ◌&&◌, ◌||◌, List, [], ◌∷◌, ◌++◌, map, ℕ, ◌+◌, eqb, ltb}
use Rattle.std.proofs.Math.Option.{Option, none, some}
use Rattle.grammar.specs.Bytes.{Bytes, CR, SP, same}
use Rattle.grammar.specs.Ascii.{text, char}
use Rattle.grammar.specs.Refusals.{line_not_allowed}
use Rattle.grammar.specs.Fields.{Form, plain, message, file, upper, after_capitals, starts, words, is_call, is_at, is_bid, is_size, read_from, two_hex, decimal}

-- ---------------------------------------------------------------- read

-- A proposal as read: its type as a capital, every other field byte for byte.
pub record Proposal : Type 0 where
  pub form : Form
  pub type : ℕ
  pub from : Bytes
  pub at : Bytes
  pub to : Bytes
  pub bid : Bytes
  pub size : ℕ

-- "In plain mode the letter is FB; in framed mode FA is a packed message and FB a packed file."
abbrev pub form_said : Bool → Bytes → Option Form
form_said false w = cond (same w (text "FB")) (some plain) none
form_said true w = cond (same w (text "FA")) (some message) (cond (same w (text "FB")) (some file) none)

-- "a type (P or B)"
abbrev pub type_of : Bytes → Option ℕ
type_of w = cond (same w (text "P")) (some (char "P")) (cond (same w (text "B")) (some (char "B")) none)

abbrev pub fields_read : Option Form → Option ℕ → Bytes → Bytes → Bytes → Bytes → Bytes → Option Proposal
fields_read none t fr at to bid sz = none
fields_read (some f) none fr at to bid sz = none
fields_read (some f) (some t) fr at to bid sz =
    cond ((is_call fr && is_at at) && ((is_call to && is_bid bid) && is_size sz))
    (some (record { form = f; type = t; from = fr; at = at; to = to; bid = bid; size = read_from 0 sz }))
    none

-- "Seven fields .. letters, type, from, at, to, BID, size"; letters and type in either case
abbrev pub seven_read : Bool → List Bytes → Option Proposal
seven_read md [] = none
seven_read md (a ∷ []) = none
seven_read md (a ∷ b ∷ []) = none
seven_read md (a ∷ b ∷ c ∷ []) = none
seven_read md (a ∷ b ∷ c ∷ d ∷ []) = none
seven_read md (a ∷ b ∷ c ∷ d ∷ e ∷ []) = none
seven_read md (a ∷ b ∷ c ∷ d ∷ e ∷ f ∷ []) = none
seven_read md (a ∷ b ∷ c ∷ d ∷ e ∷ f ∷ g ∷ []) = fields_read (form_said md (map upper a)) (type_of (map upper b)) c d e f g
seven_read md (a ∷ b ∷ c ∷ d ∷ e ∷ f ∷ g ∷ h ∷ hs) = none

-- A proposal line, in plain (false) or framed (true) mode. Spaces in front are not removed, so a line that begins with one is none.
unfoldable pub read_proposal : Bool → Bytes → Option Proposal
read_proposal md ln = cond (starts ln) (seven_read md (words ln)) none

-- What a line says in a turn: FF, FQ, F>, a proposal, F> with the block's checksum, or nothing that is allowed.
pub data TurnLine : Type 0 where
  says_ff says_fq ends_block not_allowed : TurnLine
  proposes : Proposal → TurnLine
  ends_summed : ℕ → TurnLine

abbrev pub two_hex_read : Option Bytes → Option ℕ
two_hex_read none = none
two_hex_read (some r) = two_hex r

-- "Many partners end the block with `F> HH`, two hexadecimal digits in either case." (02, Q-5): one space, as it is written there
unfoldable pub read_summed_end : Bytes → Option ℕ
read_summed_end ln = two_hex_read (after_capitals (text "F> ") ln)

abbrev pub or_not_allowed : Option Proposal → TurnLine
or_not_allowed none = not_allowed
or_not_allowed (some p) = proposes p

-- t: what the line says if it is no F> with a checksum
abbrev pub summed_or : Option ℕ → TurnLine → TurnLine
summed_or none t = t
summed_or (some h) t = ends_summed h

-- "Command .. letters are taken in either case"
unfoldable pub read_turn_line : Bool → Bytes → TurnLine
read_turn_line md ln =
    cond (same (map upper ln) (text "FF")) says_ff
    (cond (same (map upper ln) (text "FQ")) says_fq
    (cond (same (map upper ln) (text "F>")) ends_block
    (summed_or (read_summed_end ln) (or_not_allowed (read_proposal md ln)))))

-- 01's number for each case
abbrev pub turn_line_number : TurnLine → ℕ
turn_line_number says_ff = 0
turn_line_number says_fq = 0
turn_line_number ends_block = 0
turn_line_number not_allowed = line_not_allowed
turn_line_number (proposes p) = 0
turn_line_number (ends_summed h) = 0

-- ---------------------------------------------------------------- our block

-- "proposes up to five messages before the direction turns" (00), "while fewer than five are in" (01)
abbrev pub block_limit : ℕ
block_limit = 5

-- "A record is added while fewer than five are in and the announced sizes so far are below 10,240; the one that overruns is still in."
abbrev pub announced_limit : ℕ
announced_limit = 10240

-- n records of s bytes in all are in
abbrev pub our_block {ℓ} : {A : Type ℓ} → (A → ℕ) → ℕ → ℕ → List A → List A
our_block size n s [] = []
our_block size n s (x ∷ xs) = cond (ltb n block_limit && ltb s announced_limit) (x ∷ our_block size (n + 1) (s + size x) xs) []

-- "form 0 in plain mode, 1 and 2 in framed mode"
abbrev pub in_mode : Bool → Form → Bool
in_mode false plain = true
in_mode false message = false
in_mode false file = false
in_mode true plain = false
in_mode true message = true
in_mode true file = true

-- What open checks of a record's fields: "a type (P or B), from, at, to, BID, announced size 0 to 999,999"
abbrev pub is_type : ℕ → Bool
is_type t = eqb t (char "P") || eqb t (char "B")

-- "announced size 0 to 999,999": below this
abbrev pub size_values : ℕ
size_values = 1000000

abbrev pub proposable : Proposal → Bool
proposable p =
    (is_type p.type && ltb p.size size_values) && ((is_call p.from && is_at p.at) && (is_call p.to && is_bid p.bid))

-- ---------------------------------------------------------------- written

abbrev pub form_letter : Form → ℕ
form_letter plain = char "B"
form_letter message = char "A"
form_letter file = char "B"

abbrev pub sp : Bytes → Bytes → Bytes
sp w r = w ++ SP ∷ r

-- "We write one space and no leading zeros."
unfoldable pub proposal_line : Proposal → Bytes
proposal_line p =
    sp (char "F" ∷ form_letter p.form ∷ []) (sp (p.type ∷ []) (sp p.from (sp p.at (sp p.to (sp p.bid (decimal p.size))))))

-- The lines that we write and that never differ. "Our SID becomes `[NOD-1-B1FH$]`" (02, Q-6); "Called: we send it, CR,
-- `>`, CR"; "`*** Checksum error` for 9, `*** Protocol error` for the others" (02, Q-1)
pub data FixedLine : Type 0 where
  our_sid our_prompt our_ff our_fq our_end protocol_error checksum_error : FixedLine

abbrev pub fixed_text : FixedLine → Bytes
fixed_text our_sid = text "[NOD-1-B1FH$]"
fixed_text our_prompt = text ">"
fixed_text our_ff = text "FF"
fixed_text our_fq = text "FQ"
fixed_text our_end = text "F>"
fixed_text protocol_error = text "*** Protocol error"
fixed_text checksum_error = text "*** Checksum error"

-- "A line ends with CR."
abbrev pub with_cr : Bytes → Bytes
with_cr w = w ++ (CR ∷ [])
