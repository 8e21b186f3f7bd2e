-- Every sign of both levels (02, Q-6), and the levels that SIDs give, with one line beside each edge. Proved by computation, as one statement, in
-- proofs/Levels.
use Rattle.std.specs.Prelude.{cond, List, [], ◌∷◌, ◌++◌, ℕ, zero, suc}
use Rattle.grammar.specs.Bytes.{Bytes, byte_values, is_some}
use Rattle.grammar.specs.Ascii.{text}
use Rattle.grammar.specs.Refusals.{bad_answer, line_not_allowed, not_sid}
use Rattle.grammar.specs.Answers.{Sign, accept, decline, defer, Level, level0, level1, read_fs}
use Rattle.grammar.specs.Examples.{Answer, Example, awaited_at, in_force, is_level, number, signs}

-- ---------------------------------------------------------------- which bytes are signs

-- Of the n bytes from b on, those that are one whole answer with r after them.
abbrev pub answers_with : Level → Bytes → ℕ → ℕ → Bytes
answers_with v r zero b = []
answers_with v r (suc n) b = cond (is_some (read_fs v 1 (text "FS " ++ (b ∷ r)))) (b ∷ answers_with v r n (suc b)) (answers_with v r n (suc b))

-- Every byte that is one answer by itself, and every one that is with a digit after it.
abbrev pub answers_alone : Level → Bytes
answers_alone v = answers_with v [] byte_values 0

abbrev pub answers_with_digit : Level → Bytes
answers_with_digit v = answers_with v (text "0") byte_values 0

-- ---------------------------------------------------------------- what each says

-- what stands after FS and a space, to so many proposals
abbrev pub fs : Level → ℕ → Bytes → Answer → Example
fs v n w t = record { asked = awaited_at v n (text "FS " ++ w); told = t }

-- The highest level that a SID can say.
abbrev pub level9 : Level
level9 = 9

-- A sign of 01: the same at every level.
abbrev pub at_both : Bytes → Sign → List Example
at_both w s = fs level0 1 w (signs (s ∷ [])) ∷ fs level1 1 w (signs (s ∷ [])) ∷ fs level9 1 w (signs (s ∷ [])) ∷ []

-- A sign of level 1: 7 at level 0; every level above 1 counts as 1.
abbrev pub from_one : Bytes → Sign → List Example
from_one w s = fs level0 1 w (number bad_answer) ∷ fs level1 1 w (signs (s ∷ [])) ∷ fs level9 1 w (signs (s ∷ [])) ∷ []

-- One answer at no level.
abbrev pub at_none : Bytes → List Example
at_none w = fs level0 1 w (number bad_answer) ∷ fs level1 1 w (number bad_answer) ∷ fs level9 1 w (number bad_answer) ∷ []

abbrev pub sign_edges : List Example
sign_edges =
    at_both (text "+") accept ++ at_both (text "-") decline ++ at_both (text "=") defer
    -- "in either case, `Y` as `+`, `N` as `-`, `L` as `=`, `H` as accepted though held over there, `R` as declined, and `E` as deferred"
    ++ from_one (text "Y") accept ++ from_one (text "y") accept ++ from_one (text "N") decline ++ from_one (text "n") decline
    ++ from_one (text "L") defer ++ from_one (text "l") defer ++ from_one (text "H") accept ++ from_one (text "h") accept
    ++ from_one (text "R") decline ++ from_one (text "r") decline ++ from_one (text "E") defer ++ from_one (text "e") defer
    -- "`!` or `A` with 1 to 6 digits is accepted if the number is 0; a greater one counts as deferred."
    ++ from_one (text "A0") accept ++ from_one (text "a0") accept ++ from_one (text "!0") accept ++ from_one (text "A000000") accept
    ++ from_one (text "!000000") accept ++ from_one (text "A1") defer ++ from_one (text "a1") defer ++ from_one (text "!1") defer
    ++ from_one (text "A000001") defer ++ from_one (text "A100000") defer ++ from_one (text "a999999") defer ++ from_one (text "!1536") defer
    -- "a seventh digit, or none, gets 7"
    ++ at_none (text "A") ++ at_none (text "a") ++ at_none (text "!") ++ at_none (text "A0000000") ++ at_none (text "A0000001") ++ at_none (text "!1234567")
    -- beside the signs and the digits
    ++ at_none (text "A/") ++ at_none (text "A:") ++ at_none (text "A 0") ++ at_none (text "0") ++ at_none (text "Y0") ++ at_none (text "+0") ++ at_none (text "B0")
    ++ at_none (text "\"0") ++ at_none (text "Z") ++ at_none (text "[") ++ at_none (text "") ++ at_none (185 ∷ []) ++ at_none (text "YN")

abbrev pub line_edges : List Example
line_edges =
    -- 002's example, of version 1
    fs level1 5 (text "YLA3350RH") (signs (accept ∷ defer ∷ defer ∷ decline ∷ accept ∷ [])) ∷
    fs level0 5 (text "YLA3350RH") (number bad_answer) ∷
    fs level1 4 (text "YLA3350RH") (number bad_answer) ∷
    fs level1 6 (text "YLA3350RH") (number bad_answer) ∷
    -- digits belong to the sign before them, all of them
    fs level1 2 (text "A123456+") (signs (defer ∷ accept ∷ [])) ∷
    fs level1 2 (text "!0a1") (signs (accept ∷ defer ∷ [])) ∷
    fs level1 2 (text "A1234567") (number bad_answer) ∷
    fs level1 2 (text "A+") (number bad_answer) ∷
    fs level1 2 (text "+A") (number bad_answer) ∷
    fs level1 3 (text "Yx-") (number bad_answer) ∷
    -- both kinds on one line, spaces at the end removed, FS in either case
    record { asked = awaited_at level1 3 (text "fs y-L  "); told = signs (accept ∷ decline ∷ defer ∷ []) } ∷
    record { asked = awaited_at level1 1 (text "FS  Y"); told = number bad_answer } ∷
    record { asked = awaited_at level1 1 (text "FSY"); told = number bad_answer } ∷
    record { asked = awaited_at level1 0 (text "FS "); told = number bad_answer } ∷
    record { asked = awaited_at level1 1 (text "FF"); told = number line_not_allowed } ∷
    []

-- ---------------------------------------------------------------- the level in force

abbrev pub level_with : Bytes → ℕ → Example
level_with w n = record { asked = in_force w; told = is_level n }

-- "the level in force is the lower of the two, 0 without B"
abbrev pub sid_edges : List Example
sid_edges =
    level_with (text "[A-F]") 0 ∷
    level_with (text "[A-BF]") 0 ∷
    level_with (text "[A-B0F]") 0 ∷
    level_with (text "[A-B1F]") 1 ∷
    level_with (text "[A-Fb1$]") 1 ∷
    level_with (text "[A-B2F]") 1 ∷
    level_with (text "[A-B9F]") 1 ∷
    level_with (text "[A-A1C1F1H1$]") 0 ∷
    level_with (text "[BayCom-1.40P-AB1D1FHMRW$]") 1 ∷
    level_with (text "[NOD-1-BFH$]") 0 ∷
    level_with (text "[NOD-1-B1FH$]") 1 ∷
    record { asked = in_force (text "[A-B12F]"); told = number not_sid } ∷
    []
