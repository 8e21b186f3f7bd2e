-- What the code says of an FS line, in the words of the grammar.
use Rattle.std.specs.Prelude.{◌≡◌, refl, cond, List, [], ◌∷◌, ◌++◌, map, ℕ, ◌+◌, ◌-◌, eqb, ltb, length, replicate, take, Result, Ok, Err}
use Rattle.std.specs.Prelude as std
use Rattle.std.proofs.Math.Option.{Option, none, some}
use Rattle.grammar.specs.Bytes.{Bytes, is_some}
use Rattle.grammar.specs.Ascii.{text}
use Rattle.grammar.specs.Refusals.{bad_answer, line_not_allowed}
use Rattle.grammar.specs.Fields.{after_capitals, read_from}
use Rattle.grammar.specs.Turns.{block_limit}
use Rattle.grammar.specs.Answers.{Sign, accept, decline, defer, sign_of, write_sign, digit_count, sign_at, read_signs, read_fs, fs_number, Level, level0, level1, plus_sign, minus_sign, equal_sign}
use Rattle.fs_line.specs.declared.NoAnswer.{NoAnswer}
use Rattle.fs_line.specs.declared.Sign as code

-- "`+` accept, `-` decline, `=` defer": the grammar's name for each case
abbrev pub meant : code.Sign → Sign
meant code.Sign.Accept = accept
meant code.Sign.Decline = decline
meant code.Sign.Defer = defer

-- and for a byte, which may be no sign
abbrev pub sign_meant : std.Option code.Sign → Option Sign
sign_meant (std.Some s) = some (meant s)
sign_meant std.None = none

-- 01's number for each case: a line with any other byte in a sign's place is an "FS line wrong in form or count"
abbrev pub sign_number : std.Option code.Sign → ℕ
sign_number (std.Some code.Sign.Accept) = 0
sign_number (std.Some code.Sign.Decline) = 0
sign_number (std.Some code.Sign.Defer) = 0
sign_number std.None = bad_answer

-- and what it is for a byte
abbrev pub byte_number : ℕ → ℕ
byte_number b = cond (is_some (sign_of b)) 0 bad_answer

-- "FS, one space, one sign a proposal": the signs to n proposals, of which a block has five at most, at the level v
unfoldable pub answers_read : Level → ℕ → Bytes → Option (List Sign)
answers_read v n ln = cond (ltb block_limit n) none (read_fs v n ln)

-- "Where FS is awaited, a wrong line that begins with FS gets 7 and any other 5"; to more than five proposals every line is wrong
unfoldable pub answer_number : Level → ℕ → Bytes → ℕ
answer_number v n ln = cond (ltb block_limit n) (cond (is_some (after_capitals (text "FS") ln)) bad_answer line_not_allowed) (fs_number v n ln)

-- 01's number for each refusal
abbrev pub no_answer_number : NoAnswer → ℕ
no_answer_number NoAnswer.OtherLine = line_not_allowed
no_answer_number NoAnswer.WrongAnswer = bad_answer

-- 01's number, 0 where the line is taken
abbrev pub number_given : Result Bytes NoAnswer → ℕ
number_given (Ok signs) = 0
number_given (Err e) = no_answer_number e

-- The signs as `+`, `-` and `=`, whatever stood on the line; none of a line that is refused.
abbrev pub sign_bytes : Option (List Sign) → Bytes
sign_bytes none = []
sign_bytes (some ss) = map write_sign ss

-- A place for each proposal of a block, with zeros after what is there.
abbrev pub zeroed : Bytes → Bytes
zeroed bs = bs ++ replicate (block_limit - length bs) 0

-- What is kept of signs that are read.
abbrev pub signs_kept : Option (List Sign) → Option Bytes
signs_kept none = none
signs_kept (some ss) = some (zeroed (map write_sign ss))

-- "no answer of that line is recorded" where it is refused
unfoldable pub answer_signs : Level → ℕ → Bytes → Bytes
answer_signs v n ln = zeroed (sign_bytes (answers_read v n ln))

three : answer_signs level0 3 (text "FS -+=") ≡ minus_sign ∷ plus_sign ∷ equal_sign ∷ 0 ∷ 0 ∷ []
unfolding answer_signs answers_read read_fs sign_at
three = refl

six : answer_number level1 6 (text "fs ++++++") ≡ bad_answer
unfolding answer_number
six = refl

-- 002's own example of version 1
five : answer_signs level1 5 (text "FS YLA3350RH") ≡ plus_sign ∷ equal_sign ∷ equal_sign ∷ minus_sign ∷ plus_sign ∷ []
unfolding answer_signs answers_read read_fs sign_at digit_count read_from
five = refl

-- The signs to n proposals that an answer of the code holds, which writes `+`, `-` and `=` at every level.
abbrev pub signs_by : ℕ → Result Bytes NoAnswer → Option (List Sign)
signs_by n (Ok signs) = read_signs level0 n (take n signs)
signs_by n (Err e) = none
