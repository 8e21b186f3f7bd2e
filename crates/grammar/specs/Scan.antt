-- 01, "A transfer byte is refused with 8 as soon as no valid transfer begins with the bytes so far": a transfer read byte by byte,
-- each byte judged at once. That this agrees with the whole readers of Transfers is proved in proofs/Refusal.
use Rattle.std.specs.Prelude.{Bool, true, false, cond, not, ◌&&◌, ◌||◌, [], ◌∷◌, ◌++◌, ℕ, zero, suc, ◌+◌, eqb, ltb, leb, length}
use Rattle.grammar.specs.Bytes.{Bytes, CR, SP, CTRLZ, NUL, SOH, STX, EOT}
use Rattle.grammar.specs.Refusals.{bad_transfer, bad_checksum, store_full}
use Rattle.grammar.specs.Fields.{heading_byte, heading_max}
use Rattle.grammar.specs.Transfers.{TransferKind, plain_kind, framed_kind, block_size, sum_right, beside_least, offset_digit, header_nuls}
use Rattle.grammar.specs.Answers.{offset_digits}

-- Where the reading stands, with what it has read of heading and body.
-- Plain: in_title title; in_body, in_mark (after 0x1A) title body.
-- Framed: before 01; before L; in_head L heading; in_off L heading offset; in_data heading body, and how many bytes of the block are
-- still to come (0: before 02 or 04); at_size (before n) and at_sum (before the checksum) heading body.
pub data Scan : Type 0 where
  in_title : Bytes → Scan
  in_body in_mark : Bytes → Bytes → Scan
  at_start at_len : Scan
  in_head : ℕ → Bytes → Scan
  in_off : ℕ → Bytes → Bytes → Scan
  in_data : Bytes → Bytes → ℕ → Scan
  at_size at_sum : Bytes → Bytes → Scan

-- What one byte more makes of it: it goes on, the transfer is whole (got heading body), or it is refused.
pub data Scanned : Type 0 where
  goes : Scan → Scanned
  got : Bytes → Bytes → Scanned
  malformed wrong_sum no_room : Scanned

-- 01's number for each case
abbrev pub scanned_number : Scanned → ℕ
scanned_number (goes sc) = 0
scanned_number (got h x) = 0
scanned_number malformed = bad_transfer
scanned_number wrong_sum = bad_checksum
scanned_number no_room = store_full

-- "L = heading + offset + 2": with six digits of offset, L is so much more than the heading at most; and L itself at least, with a heading of
-- one byte, and at most.
abbrev pub beside_most : ℕ
beside_most = offset_digits + header_nuls

abbrev pub len_least : ℕ
len_least = 1 + beside_least

abbrev pub len_most : ℕ
len_most = heading_max + beside_most

-- One byte; room is what the store has left for this body, 65,535 at most.
abbrev pub scan_byte : ℕ → Scan → ℕ → Scanned
scan_byte room (in_title t) b =
    cond (eqb b CR)
    (cond (eqb (length t) 0) malformed (goes (in_body t [])))
    (cond (heading_byte b && ltb (length t) heading_max) (goes (in_title (t ++ (b ∷ [])))) malformed)
scan_byte room (in_body t x) b = cond (eqb b CTRLZ) (goes (in_mark t x)) (cond (ltb (length x) room) (goes (in_body t (x ++ (b ∷ [])))) no_room)
scan_byte room (in_mark t x) b = cond (eqb b CR) (got t x) (cond (eqb b SP) (goes (in_mark t x)) malformed)
scan_byte room at_start b = cond (eqb b SOH) (goes at_len) malformed
scan_byte room at_len b = cond (leb len_least b && leb b len_most) (goes (in_head b [])) malformed
scan_byte room (in_head len h) b =
    cond (eqb b NUL)
    (cond (eqb (length h) 0 || ltb (length h + beside_most) len) malformed (goes (in_off len h [])))
    (cond (heading_byte b && (ltb (length h) heading_max && ltb (length h + beside_least) len)) (goes (in_head len (h ++ (b ∷ [])))) malformed)
scan_byte room (in_off len h o) b =
    cond (eqb b NUL)
    (cond (eqb len (length h + length o + header_nuls)) (goes (in_data h [] 0)) malformed)
    (cond (eqb b offset_digit && ltb (length h + length o + header_nuls) len) (goes (in_off len h (o ++ (b ∷ [])))) malformed)
scan_byte room (in_data h x zero) b = cond (eqb b STX) (goes (at_size h x)) (cond (eqb b EOT) (goes (at_sum h x)) malformed)
scan_byte room (in_data h x (suc k)) b = cond (ltb (length x) room) (goes (in_data h (x ++ (b ∷ [])) k)) no_room
scan_byte room (at_size h x) b = goes (in_data h x (block_size b))
scan_byte room (at_sum h x) b = cond (sum_right x b) (got h x) wrong_sum

abbrev pub scan_from : TransferKind → Scan
scan_from plain_kind = in_title []
scan_from framed_kind = at_start

-- The body so far.
abbrev pub body_of : Scan → Bytes
body_of (in_title t) = []
body_of (in_body t x) = x
body_of (in_mark t x) = x
body_of at_start = []
body_of at_len = []
body_of (in_head len h) = []
body_of (in_off len h o) = []
body_of (in_data h x k) = x
body_of (at_size h x) = x
body_of (at_sum h x) = x

-- The byte is one of the body: after a title's CR all up to 0x1A, in a framed transfer the data of a block.
abbrev pub is_body_byte : Scan → ℕ → Bool
is_body_byte (in_title t) b = false
is_body_byte (in_body t x) b = not (eqb b CTRLZ)
is_body_byte (in_mark t x) b = false
is_body_byte at_start b = false
is_body_byte at_len b = false
is_body_byte (in_head len h) b = false
is_body_byte (in_off len h o) b = false
is_body_byte (in_data h x zero) b = false
is_body_byte (in_data h x (suc k)) b = true
is_body_byte (at_size h x) b = false
is_body_byte (at_sum h x) b = false

-- One byte more; what follows an outcome is not read.
abbrev pub onward : ℕ → Scanned → ℕ → Scanned
onward room (goes sc) b = scan_byte room sc b
onward room (got h x) b = got h x
onward room malformed b = malformed
onward room wrong_sum b = wrong_sum
onward room no_room b = no_room

-- A portion more.
abbrev pub scan_on : ℕ → Scanned → Bytes → Scanned
scan_on room s [] = s
scan_on room s (b ∷ bs) = scan_on room (onward room s b) bs

abbrev pub scan : ℕ → TransferKind → Bytes → Scanned
scan room kind bs = scan_on room (goes (scan_from kind)) bs
