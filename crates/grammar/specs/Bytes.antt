-- Lists of bytes, and the few tests on them that every rule of 01 is made of.
use Rattle.std.specs.Prelude.{Bool, true, false, cond, ◌&&◌, List, [], ◌∷◌, ◌++◌, ℕ, ◌*◌, eqb, ltb}
use Rattle.std.proofs.Math.Option.{Option, none, some}

abbrev pub Bytes : Type 0
Bytes = List ℕ

-- A byte is a number below this.
abbrev pub byte_values : ℕ
byte_values = 256

abbrev pub is_byte : ℕ → Bool
is_byte b = ltb b byte_values

-- A number in two bytes is below this, one in three, one in four.
abbrev pub two_byte_values : ℕ
two_byte_values = byte_values * byte_values

abbrev pub three_byte_values : ℕ
three_byte_values = byte_values * two_byte_values

abbrev pub four_byte_values : ℕ
four_byte_values = byte_values * three_byte_values

-- A number of 64 bits, such as a buffer's length, is below this.
abbrev pub word_values : ℕ
word_values = 18446744073709551616

-- Carriage return: "A line ends with CR."
abbrev pub CR : ℕ
CR = 13

-- Line feed: "One LF directly after the CR .. is dropped."
abbrev pub LF : ℕ
LF = 10

-- Space: "one or more spaces between".
abbrev pub SP : ℕ
SP = 32

-- The byte 0x1A that ends a plain body; operators call it Ctrl-Z.
abbrev pub CTRLZ : ℕ
CTRLZ = 26

-- The marks of a framed transfer, "01, L, heading, 00, offset digits, 00; blocks 02, n, data; 04, checksum", by their names in ASCII.
abbrev pub NUL : ℕ
NUL = 0

abbrev pub SOH : ℕ
SOH = 1

abbrev pub STX : ℕ
STX = 2

abbrev pub EOT : ℕ
EOT = 4

-- The empty list and a byte in front of a list, by name, for modules in which `[]` and `◌∷◌` belong to strings.
abbrev pub nil : Bytes
nil = []

abbrev pub cons : ℕ → Bytes → Bytes
cons x xs = x ∷ xs

abbrev pub null {ℓ} : {A : Type ℓ} → List A → Bool
null [] = true
null (x ∷ xs) = false

-- Every byte is of the class.
abbrev pub every : (ℕ → Bool) → Bytes → Bool
every c [] = true
every c (x ∷ xs) = c x && every c xs

-- The same bytes in the same order.
abbrev pub same : Bytes → Bytes → Bool
same [] [] = true
same [] (y ∷ ys) = false
same (x ∷ xs) [] = false
same (x ∷ xs) (y ∷ ys) = eqb x y && same xs ys

abbrev pub before : ℕ → Option (Bytes × Bytes) → Option (Bytes × Bytes)
before x none = none
before x (some p) = some (x ∷ p.0, p.1)

-- What stands before the first c, and what after it.
abbrev pub split_at : ℕ → Bytes → Option (Bytes × Bytes)
split_at c [] = none
split_at c (x ∷ xs) = cond (eqb x c) (some ([], xs)) (before x (split_at c xs))

abbrev pub is_some {ℓ} : {A : Type ℓ} → Option A → Bool
is_some none = false
is_some (some x) = true

-- Texts, one after another.
abbrev pub joined : List Bytes → Bytes
joined [] = []
joined (x ∷ xs) = x ++ joined xs

-- A test's answer as a byte: 1 where it holds.
abbrev pub flag : Bool → ℕ
flag true = 1
flag false = 0
