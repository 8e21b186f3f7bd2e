-- 01, "Transfers": what a whole transfer is, and how we write ours. Nothing here goes byte by byte: see Scan.
use Rattle.std.specs.Prelude.{Bool, true, false, cond, ◌&&◌, [], ◌∷◌, ◌++◌, ℕ, zero, suc, ◌+◌, ◌-◌, ◌%◌, eqb, leb, length, take, drop}
use Rattle.std.proofs.Math.Option.{Option, none, some}
use Rattle.grammar.specs.Bytes.{Bytes, byte_values, CR, SP, CTRLZ, NUL, SOH, STX, EOT, null, every, split_at}
use Rattle.grammar.specs.Ascii.{char}
use Rattle.grammar.specs.Fields.{Form, plain, message, file, form_number, is_heading, sized, is_body, body_max}
use Rattle.grammar.specs.Answers.{offset_digits}

-- How the bytes of a transfer are read and written: "Plain: title, CR, ..", "Framed: 01, L, ..".
pub data TransferKind : Type 0 where
  plain_kind framed_kind : TransferKind

-- "a form (0 plain text, 1 packed message, 2 packed file)": what is packed goes framed
abbrev pub kind_of : Form → TransferKind
kind_of plain = plain_kind
kind_of message = framed_kind
kind_of file = framed_kind

-- A transfer right in form: its heading, its body, and whether its checksum is right.
pub record Parsed : Type 0 where
  pub heading : Bytes
  pub body : Bytes
  pub right : Bool

-- ---------------------------------------------------------------- plain: "title, CR, body, 0x1A, CR"

-- "Spaces between the last two are skipped on reading."
abbrev pub spaces_cr : Bytes → Bool
spaces_cr [] = false
spaces_cr (x ∷ xs) = cond (eqb x CR) (null xs) (eqb x SP && spaces_cr xs)

abbrev pub body_read : Bytes → Option (Bytes × Bytes) → Option Parsed
body_read t none = none
body_read t (some p) = cond (spaces_cr p.1) (some (record { heading = t; body = p.0; right = true })) none

abbrev pub title_read : Option (Bytes × Bytes) → Option Parsed
title_read none = none
title_read (some p) = cond (is_heading p.0) (body_read p.0 (split_at CTRLZ p.1)) none

-- "A body may begin with LF.": what follows the title's CR is the body, whatever it is
abbrev pub read_plain : Bytes → Option Parsed
read_plain p = title_read (split_at CR p)

-- ---------------------------------------------------------------- framed: "01, L, heading, 00, offset digits, 00; blocks 02, n, data; 04, checksum"

-- "blocks of 256": the data bytes of a block at most
abbrev pub data_max : ℕ
data_max = 256

-- "n = 00 means 256."
abbrev pub block_size : ℕ → ℕ
block_size n = cond (eqb n 0) data_max n

abbrev pub byte_sum : Bytes → ℕ
byte_sum [] = 0
byte_sum (x ∷ xs) = x + byte_sum xs

-- "The checksum makes the sum of all data bytes plus itself 0 modulo 256."
abbrev pub sum_right : Bytes → ℕ → Bool
sum_right x c = eqb ((byte_sum x + c) % byte_values) 0

abbrev pub cons_data : ℕ → Option (Bytes × ℕ) → Option (Bytes × ℕ)
cons_data x none = none
cons_data x (some p) = some (x ∷ p.0, p.1)

-- Blocks, then 04 and the checksum, and nothing after: the data and the checksum. k bytes of a block are still to come.
abbrev pub blocks : ℕ → Bytes → Option (Bytes × ℕ)
blocks (suc k) [] = none
blocks (suc k) (x ∷ xs) = cons_data x (blocks k xs)
blocks zero [] = none
blocks zero (x ∷ []) = none
blocks zero (x ∷ y ∷ ys) = cond (eqb x STX) (blocks (block_size y) ys) (cond (eqb x EOT && null ys) (some ([], y)) none)

abbrev pub blocks_read : Bytes → Option (Bytes × ℕ) → Option Parsed
blocks_read h none = none
blocks_read h (some p) = some (record { heading = h; body = p.0; right = sum_right p.0 p.1 })

-- "Offset has 1 to 6 digits, value 0.": the digit of an offset
abbrev pub offset_digit : ℕ
offset_digit = char "0"

abbrev pub zero_digit : ℕ → Bool
zero_digit b = eqb b offset_digit

-- "L = heading + offset + 2": the 00 behind the heading and the one behind the offset
abbrev pub header_nuls : ℕ
header_nuls = 2

-- "L = heading + offset + 2. Offset has 1 to 6 digits, value 0."
abbrev pub is_header : ℕ → Bytes → Bytes → Bool
is_header len h o = is_heading h && ((every zero_digit o && sized offset_digits o) && eqb len (length h + length o + header_nuls))

abbrev pub off_read : ℕ → Bytes → Option (Bytes × Bytes) → Option Parsed
off_read len h none = none
off_read len h (some p) = cond (is_header len h p.0) (blocks_read h (blocks 0 p.1)) none

abbrev pub head_read : ℕ → Option (Bytes × Bytes) → Option Parsed
head_read len none = none
head_read len (some p) = off_read len p.0 (split_at NUL p.1)

abbrev pub len_read : Bytes → Option Parsed
len_read [] = none
len_read (len ∷ r) = head_read len (split_at NUL r)

abbrev pub read_framed : Bytes → Option Parsed
read_framed [] = none
read_framed (a ∷ r) = cond (eqb a SOH) (len_read r) none

-- ---------------------------------------------------------------- either kind

-- A transfer right in form, "a wrong checksum (9) or lack of room (10) apart".
unfoldable pub parse : TransferKind → Bytes → Option Parsed
parse plain_kind p = read_plain p
parse framed_kind p = read_framed p

-- What a valid transfer brings.
pub record Content : Type 0 where
  pub heading : Bytes
  pub body : Bytes

-- "A body has at most 65,535 bytes"
abbrev pub valid : Option Parsed → Option Content
valid none = none
valid (some p) = cond (p.right && leb (length p.body) body_max) (some (record { heading = p.heading; body = p.body })) none

unfoldable pub read_transfer : TransferKind → Bytes → Option Content
read_transfer kind p = valid (parse kind p)

-- ---------------------------------------------------------------- how we write a transfer

abbrev pub checksum : Bytes → ℕ
checksum x = (byte_values - byte_sum x % byte_values) % byte_values

abbrev pub write_plain : Bytes → Bytes → Bytes
write_plain t x = t ++ CR ∷ (x ++ CTRLZ ∷ CR ∷ [])

-- "blocks of 256 and a shorter last one; an empty body has no block"; f bounds how many
abbrev pub blocks_out : ℕ → Bytes → Bytes
blocks_out zero x = []
blocks_out (suc f) x = cond (null x) [] (STX ∷ (length (take data_max x) % byte_values) ∷ (take data_max x ++ blocks_out f (drop data_max x)))

-- "L = heading + offset + 2", with an offset of one digit: what L is beside the heading at least
abbrev pub beside_least : ℕ
beside_least = 1 + header_nuls

-- "We write offset `0`": L is one byte
abbrev pub header_out : Bytes → Bytes
header_out h = SOH ∷ ((length h + beside_least) % byte_values) ∷ (h ++ NUL ∷ offset_digit ∷ NUL ∷ [])

abbrev pub write_framed : Bytes → Bytes → Bytes
write_framed h x = header_out h ++ (blocks_out (length x) x ++ EOT ∷ checksum x ∷ [])

unfoldable pub write_transfer : TransferKind → Bytes → Bytes → Bytes
write_transfer plain_kind h x = write_plain h x
write_transfer framed_kind h x = write_framed h x

-- What open checks of a record's heading and body.
abbrev pub sendable : Form → Bytes → Bytes → Bool
sendable f h x = is_heading h && is_body f x

-- ---------------------------------------------------------------- where a heading lies

-- The len bytes from start on, or nothing where they run past the end.
abbrev pub part_of : Bytes → ℕ → ℕ → Bytes
part_of s start len = cond (leb start (length s)) (cond (leb len (length s - start)) (take len (drop start s)) []) []

-- "The heading of a transfer is the title for a message or the file name for a file, shown where it lies in its store." (01's term)
abbrev pub heading_of : Bytes → Bytes → ℕ → ℕ → ℕ → Bytes
heading_of titles names form start len = cond (eqb form (form_number file)) (part_of names start len) (part_of titles start len)
