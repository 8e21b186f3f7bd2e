-- What is true of the bytes that we write, said without our writers: one space, no leading zeros, capitals, blocks of 256 and a shorter last
-- one, `0` as offset. The proofs, for every input, are in proofs/AsWritten. That they read back stands in OurLines and TransferBack.
use Rattle.std.specs.Prelude.{◌≡◌, Bool, true, false, cond, not, List, [], ◌∷◌, ◌++◌, ℕ, ◌+◌, ◌%◌, ◌≤◌, ◌<◌, eqb, length}
use Rattle.grammar.specs.Bytes.{Bytes, CR, SP, CTRLZ, NUL, SOH, STX, EOT, byte_values, joined}
use Rattle.grammar.specs.Ascii.{text, char}
use Rattle.grammar.specs.Fields.{Form, plain, message, file, to_first, is_size, read_from}
use Rattle.grammar.specs.Turns.{Proposal}
use Rattle.grammar.specs.Transfers.{TransferKind, plain_kind, framed_kind, byte_sum}

-- ---------------------------------------------------------------- a proposal

-- What stands between the spaces of a line, from its beginning to its end. Two spaces side by side have an empty field between them.
abbrev pub between_spaces : Bytes → List Bytes
between_spaces [] = [] ∷ []
between_spaces (x ∷ xs) = cond (eqb x SP) ([] ∷ between_spaces xs) (to_first x (between_spaces xs))

-- "no leading zeros": the first of several digits is another one
abbrev pub no_leading_zero : Bytes → Bool
no_leading_zero [] = false
no_leading_zero (x ∷ []) = true
no_leading_zero (x ∷ y ∷ ys) = not (eqb x (char "0"))

-- "In plain mode the letter is FB; in framed mode FA is a packed message and FB a packed file."; "written as capitals"
abbrev pub letters_for : Form → Bytes
letters_for plain = text "FB"
letters_for message = text "FA"
letters_for file = text "FB"

-- The line ln is the proposal p as we write it.
pub record ProposalWritten (p : Proposal) (ln : Bytes) : Type 0 where
  pub digits : Bytes
  -- "Seven fields .. letters, type, from, at, to, BID, size"; "We write one space"
  pub fields : between_spaces ln ≡ letters_for p.form ∷ (p.type ∷ []) ∷ p.from ∷ p.at ∷ p.to ∷ p.bid ∷ digits ∷ []
  -- "size (1 to 9 digits)"; "We write .. no leading zeros."
  pub decimal : is_size digits ≡ true
  pub size : read_from 0 digits ≡ p.size
  pub shortest : no_leading_zero digits ≡ true

-- ---------------------------------------------------------------- a transfer

-- "blocks of 256"
abbrev pub whole_block : ℕ
whole_block = 256

-- "blocks of 256 and a shorter last one": the data of each block, in order
abbrev pub InBlocks : List Bytes → Type 0
InBlocks [] = Unit {0}
InBlocks (d ∷ []) = (1 ≤ length d) × (length d ≤ whole_block)
InBlocks (d ∷ e ∷ ds) = (length d ≡ whole_block) × InBlocks (e ∷ ds)

-- "n = 00 means 256."
abbrev pub block_number : Bytes → ℕ
block_number d = cond (eqb (length d) whole_block) 0 (length d)

-- "blocks 02, n, data"
abbrev pub blocks_text : List Bytes → Bytes
blocks_text [] = []
blocks_text (d ∷ ds) = STX ∷ block_number d ∷ (d ++ blocks_text ds)

-- "We write offset `0`"
abbrev pub our_offset : Bytes
our_offset = text "0"

-- "L = heading + offset + 2.": the two 00
abbrev pub two_zeros : ℕ
two_zeros = 2

-- The bytes w are the framed transfer of the heading h and the body x as we write it.
pub record FramedWritten (h x w : Bytes) : Type 0 where
  pub blocks : List Bytes
  pub checksum : ℕ
  -- "Framed: 01, L, heading, 00, offset digits, 00; blocks 02, n, data; 04, checksum. L = heading + offset + 2."
  pub bytes : w ≡ SOH ∷ (length h + length our_offset + two_zeros) ∷ (h ++ (NUL ∷ (our_offset ++ (NUL ∷ (blocks_text blocks ++ EOT ∷ checksum ∷ [])))))
  -- "blocks of 256 and a shorter last one; an empty body has no block"
  pub cut : InBlocks blocks
  pub whole : joined blocks ≡ x
  -- "The checksum makes the sum of all data bytes plus itself 0 modulo 256."
  pub zero : (byte_sum x + checksum) % byte_values ≡ 0
  pub byte : checksum < byte_values

-- "Plain: title, CR, body, 0x1A, CR."; no space between the last two
abbrev pub TransferWritten : TransferKind → Bytes → Bytes → Bytes → Type 0
TransferWritten plain_kind h x w = w ≡ h ++ CR ∷ (x ++ CTRLZ ∷ CR ∷ [])
TransferWritten framed_kind h x w = FramedWritten h x w
