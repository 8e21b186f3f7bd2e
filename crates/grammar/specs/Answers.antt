-- 01, "Turns", and 02, Q-6: the FS line, which answers the proposals of a block.
use Rattle.std.specs.Prelude.{Bool, cond, ◌||◌, List, [], ◌∷◌, ◌++◌, map, ℕ, zero, suc, eqb, ltb, take, drop}
use Rattle.std.proofs.Math.Option.{Option, none, some}
use Rattle.grammar.specs.Bytes.{Bytes, is_some}
use Rattle.grammar.specs.Ascii.{text, char}
use Rattle.grammar.specs.Refusals.{bad_answer, line_not_allowed}
use Rattle.grammar.specs.Fields.{after_capitals, upper, digit, sized, read_from}
use Rattle.grammar.specs.Turns.{FixedLine, fixed_text, Proposal, proposal_line}

-- "`+` accept, `-` decline, `=` defer"
pub data Sign : Type 0 where
  accept decline defer : Sign

abbrev pub plus_sign : ℕ
plus_sign = char "+"

abbrev pub minus_sign : ℕ
minus_sign = char "-"

abbrev pub equal_sign : ℕ
equal_sign = char "="

abbrev pub sign_of : ℕ → Option Sign
sign_of b = cond (eqb b plus_sign) (some accept) (cond (eqb b minus_sign) (some decline) (cond (eqb b equal_sign) (some defer) none))

-- The first where there is one, else the second.
abbrev pub or_else {ℓ} : {A : Type ℓ} → Option A → Option A → Option A
or_else none y = y
or_else (some x) y = some x

abbrev pub cons_o {ℓ} : {A : Type ℓ} → Option A → Option (List A) → Option (List A)
cons_o none xs = none
cons_o (some x) none = none
cons_o (some x) (some xs) = some (x ∷ xs)

-- ---------------------------------------------------------------- 01's FS line

-- "one sign a proposal", as 01 has it: a byte a sign
abbrev pub read_signs01 : ℕ → Bytes → Option (List Sign)
read_signs01 zero [] = some []
read_signs01 zero (x ∷ xs) = none
read_signs01 (suc n) [] = none
read_signs01 (suc n) (x ∷ xs) = cons_o (sign_of x) (read_signs01 n xs)

abbrev pub signs_read01 : ℕ → Option Bytes → Option (List Sign)
signs_read01 n none = none
signs_read01 n (some r) = read_signs01 n r

-- "FS, one space, one sign a proposal", to n proposals: 01's own reader. What is read at level 0 is shown to be this (proofs/Levels).
unfoldable pub read_fs01 : ℕ → Bytes → Option (List Sign)
read_fs01 n ln = signs_read01 n (after_capitals (text "FS ") ln)

-- ---------------------------------------------------------------- the signs of a level

-- Which signs both sides know (02, Q-6): 0 those of 01; 1, and every number above it, also those of 002's version 1.
abbrev pub Level : Type 0
Level = ℕ

abbrev pub level0 : Level
level0 = 0

abbrev pub level1 : Level
level1 = 1

-- "`Y` as `+`, `N` as `-`, `L` as `=`, `H` as accepted though held over there, `R` as declined, and `E` as deferred": a letter as a capital
abbrev pub letter_sign : ℕ → Option Sign
letter_sign u =
    cond (eqb u (char "Y")) (some accept)
    (cond (eqb u (char "H")) (some accept)
    (cond (eqb u (char "N")) (some decline)
    (cond (eqb u (char "R")) (some decline)
    (cond (eqb u (char "L")) (some defer)
    (cond (eqb u (char "E")) (some defer) none)))))

-- A sign of one byte. "Level 0 stays as in 01. At level 1 we also read, in either case, .."
abbrev pub sign_byte : Level → ℕ → Option Sign
sign_byte v b = or_else (sign_of b) (cond (ltb v level1) none (letter_sign (upper b)))

-- "`!` or `A`", in either case: the byte in front of an offset
abbrev pub is_offset : ℕ → Bool
is_offset b = eqb (upper b) (char "!") || eqb (upper b) (char "A")

-- "with 1 to 6 digits"
abbrev pub offset_digits : ℕ
offset_digits = 6

-- How many digits stand in front: all of them belong to the offset.
unfoldable pub digit_count : Bytes → ℕ
digit_count [] = 0
digit_count (x ∷ xs) = cond (digit x) (suc (digit_count xs)) 0

-- "accepted if the number is 0; a greater one counts as deferred"
abbrev pub offset_sign : Bytes → Option Sign
offset_sign w = cond (sized offset_digits w) (some (cond (eqb (read_from 0 w) 0) accept defer)) none

abbrev pub followed : Option Sign → Bytes → Option (Sign × Bytes)
followed none r = none
followed (some s) r = some (s, r)

abbrev pub offset_read : ℕ → Bytes → Option (Sign × Bytes)
offset_read k r = followed (offset_sign (take k r)) (drop k r)

-- o: the sign that the byte b is by itself
abbrev pub or_offset : Option Sign → Level → ℕ → Bytes → Option (Sign × Bytes)
or_offset (some s) v b r = some (s, r)
or_offset none v b r = cond (ltb v level1) none (cond (is_offset b) (offset_read (digit_count r) r) none)

-- The sign in front at the level v, and what follows it.
unfoldable pub sign_at : Level → Bytes → Option (Sign × Bytes)
sign_at v [] = none
sign_at v (b ∷ r) = or_offset (sign_byte v b) v b r

abbrev pub cons_next : Option (Sign × Bytes) → (Bytes → Option (List Sign)) → Option (List Sign)
cons_next none f = none
cons_next (some p) f = cons_o (some p.0) (f p.1)

-- "one sign a proposal"
abbrev pub read_signs : Level → ℕ → Bytes → Option (List Sign)
read_signs v zero [] = some []
read_signs v zero (x ∷ xs) = none
read_signs v (suc n) s = cons_next (sign_at v s) (λ r. read_signs v n r)

abbrev pub signs_read : Level → ℕ → Option Bytes → Option (List Sign)
signs_read v n none = none
signs_read v n (some r) = read_signs v n r

-- "FS, one space, one sign a proposal", to n proposals, at the level v
unfoldable pub read_fs : Level → ℕ → Bytes → Option (List Sign)
read_fs v n ln = signs_read v n (after_capitals (text "FS ") ln)

-- "Where FS is awaited, a wrong line that begins with FS gets 7 and any other 5"; "a seventh digit, or none, gets 7"
abbrev pub fs_number : Level → ℕ → Bytes → ℕ
fs_number v n ln = cond (is_some (read_fs v n ln)) 0 (cond (is_some (after_capitals (text "FS") ln)) bad_answer line_not_allowed)

-- ---------------------------------------------------------------- written

abbrev pub write_sign : Sign → ℕ
write_sign accept = plus_sign
write_sign decline = minus_sign
write_sign defer = equal_sign

unfoldable pub fs_line : List Sign → Bytes
fs_line ss = text "FS " ++ map write_sign ss

-- Every line that we write, without its CR.
pub data OurLine : Type 0 where
  fixed_line : FixedLine → OurLine
  our_proposal : Proposal → OurLine
  our_answer : List Sign → OurLine

abbrev pub written : OurLine → Bytes
written (fixed_line l) = fixed_text l
written (our_proposal p) = proposal_line p
written (our_answer ss) = fs_line ss
