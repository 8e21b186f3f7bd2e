-- 01, "Fields" (under Lent memory): byte classes, and the fields that records, lines and transfers are made of.
use Rattle.std.specs.Prelude.{Bool, true, false, cond, not, ◌&&◌, ◌||◌, List, [], ◌∷◌, ◌++◌, map, ℕ, zero, suc, ◌+◌, ◌*◌, ◌-◌, ◌/◌, ◌%◌, eqb, ltb, leb, length}
use Rattle.std.proofs.Math.Option.{Option, none, some}
use Rattle.grammar.specs.Bytes.{Bytes, byte_values, SP, CTRLZ, every, same}
use Rattle.grammar.specs.Ascii.{char}

-- "a form (0 plain text, 1 packed message, 2 packed file)"
pub data Form : Type 0 where
  plain message file : Form

abbrev pub form_number : Form → ℕ
form_number plain = 0
form_number message = 1
form_number file = 2

-- The form that a number in a record stands for; open refuses every other number.
abbrev pub form_is : ℕ → Form
form_is n = cond (eqb n (form_number message)) message (cond (eqb n (form_number file)) file plain)

-- ---------------------------------------------------------------- 1 to n bytes of a class

-- "Field rules that differ only in a length": the length is a parameter.
abbrev pub sized : ℕ → Bytes → Bool
sized n w = leb 1 (length w) && leb (length w) n

abbrev pub field : (ℕ → Bool) → ℕ → Bytes → Bool
field c n w = every c w && sized n w

-- ---------------------------------------------------------------- from, to and at

-- 0x21, the byte after the space
abbrev pub visible_from : ℕ
visible_from = SP + 1

-- the byte after 0x7E, which is `~`
abbrev pub visible_end : ℕ
visible_end = char "~" + 1

-- "bytes in 0x21-0x7E without `@` and `.`"
abbrev pub call_byte : ℕ → Bool
call_byte b = cond (eqb b (char ".") || eqb b (char "@")) false (cond (ltb b visible_from) false (ltb b visible_end))

-- "from and to have 1 to 6 bytes"
abbrev pub call_max : ℕ
call_max = 6

-- a callsign, or a word such as ALL in its place
unfoldable pub is_call : Bytes → Bool
is_call w = field call_byte call_max w

abbrev pub to_first : ℕ → List Bytes → List Bytes
to_first x [] = (x ∷ []) ∷ []
to_first x (w ∷ ws) = (x ∷ w) ∷ ws

-- "parts .. joined by `.`"
abbrev pub parts : Bytes → List Bytes
parts [] = [] ∷ []
parts (x ∷ xs) = cond (eqb x (char ".")) ([] ∷ parts xs) (to_first x (parts xs))

abbrev pub all_calls : List Bytes → Bool
all_calls [] = true
all_calls (w ∷ ws) = is_call w && all_calls ws

-- "after the first `.`"
abbrev pub after_dot : Bytes → Bytes
after_dot [] = []
after_dot (x ∷ xs) = cond (eqb x (char ".")) xs (after_dot xs)

-- "38 bytes in all and 31 after the first `.` at most"
abbrev pub at_max : ℕ
at_max = 38

abbrev pub hierarchy_max : ℕ
hierarchy_max = 31

-- "At is one to several parts of 1 to 6 such bytes joined by `.`"
unfoldable pub is_at : Bytes → Bool
is_at w = all_calls (parts w) && (leb (length w) at_max && leb (length (after_dot w)) hierarchy_max)

-- ---------------------------------------------------------------- BID

-- "bytes in 0x21-0xFF"; "BID bytes from 0x80 are a house rule."
abbrev pub bid_byte : ℕ → Bool
bid_byte b = cond (ltb b visible_from) false (ltb b byte_values)

-- "A BID has 1 to 12 bytes in 0x21-0xFF."
abbrev pub bid_max : ℕ
bid_max = 12

unfoldable pub is_bid : Bytes → Bool
is_bid w = field bid_byte bid_max w

-- ---------------------------------------------------------------- heading and body

-- "bytes in 0x20-0xFF"
abbrev pub heading_byte : ℕ → Bool
heading_byte b = cond (ltb b SP) false (ltb b byte_values)

-- "A title or name has 1 to 80 bytes in 0x20-0xFF." The heading of a transfer (01's term) is one of the two.
abbrev pub heading_max : ℕ
heading_max = 80

abbrev pub is_heading : Bytes → Bool
is_heading w = field heading_byte heading_max w

abbrev pub not_ctrl_z : ℕ → Bool
not_ctrl_z b = not (eqb b CTRLZ)

-- "a plain body holds no 0x1A"
abbrev pub body_fair : Form → Bytes → Bool
body_fair plain x = every not_ctrl_z x
body_fair message x = true
body_fair file x = true

-- "A body has at most 65,535 bytes"
abbrev pub body_max : ℕ
body_max = 65535

abbrev pub is_body : Form → Bytes → Bool
is_body f x = leb (length x) body_max && body_fair f x

-- ---------------------------------------------------------------- letters, words and numbers of a line

-- the byte after `z`
abbrev pub small_end : ℕ
small_end = char "z" + 1

-- A capital stands so much before its small letter.
abbrev pub to_capital : ℕ
to_capital = char "a" - char "A"

-- "Command, type and feature letters are taken in either case and written as capitals": a letter as a capital, any other byte as it is
abbrev pub upper : ℕ → ℕ
upper b = cond (ltb b (char "a")) b (cond (ltb b small_end) (b - to_capital) b)

-- "Two BIDs are now equal when they agree after A-Z and a-z are taken as one. Bytes from 0x80 still compare exactly." It is a comparison and
-- no more: nothing that is stored or sent is made of it.
unfoldable pub same_bid : Bytes → Bytes → Bool
same_bid v w = same (map upper v) (map upper w)

-- What follows the capitals w, taken in either case.
abbrev pub after_capitals : Bytes → Bytes → Option Bytes
after_capitals [] ys = some ys
after_capitals (x ∷ xs) [] = none
after_capitals (x ∷ xs) (y ∷ ys) = cond (eqb (upper y) x) (after_capitals xs ys) none

-- The line begins with a byte other than a space.
abbrev pub starts : Bytes → Bool
starts [] = false
starts (y ∷ ys) = not (eqb y SP)

abbrev pub attach : ℕ → Bool → List Bytes → List Bytes
attach x false ws = (x ∷ []) ∷ ws
attach x true [] = (x ∷ []) ∷ []
attach x true (w ∷ ws) = (x ∷ w) ∷ ws

-- "one or more spaces between": the words of a line
unfoldable pub words : Bytes → List Bytes
words [] = []
words (x ∷ xs) = cond (eqb x SP) (words xs) (attach x (starts xs) (words xs))

-- the byte after `9`
abbrev pub digits_end : ℕ
digits_end = char "9" + 1

abbrev pub digit : ℕ → Bool
digit b = cond (ltb b (char "0")) false (ltb b digits_end)

-- "size (1 to 9 digits)"
abbrev pub size_digits : ℕ
size_digits = 9

unfoldable pub is_size : Bytes → Bool
is_size w = field digit size_digits w

-- A decimal digit is so much more than the one behind it.
abbrev pub decimal_base : ℕ
decimal_base = 10

-- The number that decimal digits stand for, after those that gave a.
unfoldable pub read_from : ℕ → Bytes → ℕ
read_from a [] = a
read_from a (x ∷ xs) = read_from (a * decimal_base + (x - char "0")) xs

-- The size that a word says, where it is one.
abbrev pub read_size : Bytes → Option ℕ
read_size w = cond (is_size w) (some (read_from 0 w)) none

-- the byte after `F`
abbrev pub hex_end : ℕ
hex_end = char "F" + 1

-- `A` stands for ten: what a letter's byte is above its value.
abbrev pub hex_above : ℕ
hex_above = char "A" - decimal_base

-- The value of a hexadecimal digit: 0-9, or a capital A-F.
abbrev pub hex_capital : ℕ → Option ℕ
hex_capital u =
    cond (ltb u (char "0")) none
    (cond (ltb u digits_end) (some (u - char "0"))
    (cond (ltb u (char "A")) none (cond (ltb u hex_end) (some (u - hex_above)) none)))

-- "hexadecimal digits in either case" (02, Q-5)
unfoldable pub hex_digit : ℕ → Option ℕ
hex_digit b = hex_capital (upper b)

abbrev pub hex_base : ℕ
hex_base = 16

abbrev pub hex_pair : Option ℕ → Option ℕ → Option ℕ
hex_pair none y = none
hex_pair (some a) none = none
hex_pair (some a) (some b) = some (a * hex_base + b)

-- "two hexadecimal digits" and nothing more: the number that they stand for
unfoldable pub two_hex : Bytes → Option ℕ
two_hex [] = none
two_hex (a ∷ []) = none
two_hex (a ∷ b ∷ []) = hex_pair (hex_digit a) (hex_digit b)
two_hex (a ∷ b ∷ c ∷ cs) = none

-- The decimal digits of n without leading zeros, f at most.
unfoldable pub write_num : ℕ → ℕ → Bytes
write_num zero n = []
write_num (suc f) n = cond (ltb n decimal_base) ((char "0" + n) ∷ []) (write_num f (n / decimal_base) ++ ((char "0" + n % decimal_base) ∷ []))

-- ten digits hold every 32-bit number
abbrev pub decimal_digits : ℕ
decimal_digits = 10

-- "no leading zeros"
abbrev pub decimal : ℕ → Bytes
decimal n = write_num decimal_digits n
