-- WE SAY WHY (02, Q-1): each refusal of a received byte, the line that give still hands over, whatever the link takes of it at a time, and 12 for all
-- that arrives meanwhile and later. Then the ends that are silent. Proved by computation (proofs/Reasons).
use Rattle.std.specs.Prelude.{true, false, List, [], ◌∷◌, ◌++◌, ℕ, length, replicate}
use Rattle.grammar.specs.Bytes.{Bytes}
use Rattle.grammar.specs.Ascii.{text}
use Rattle.grammar.specs.Fields.{plain}
use Rattle.session.specs.Sessions.{Move, hears, takes, Trial, trial, called, called_framed, greeted, three_proposals, waiting, kept_message}

abbrev pub protocol : Bytes
protocol = text "*** Protocol error\r"

abbrev pub checksum_error_line : Bytes
checksum_error_line = text "*** Checksum error\r"

-- After the end: the link takes seven bytes; a line, an LF and no byte arrive; it takes one byte, then what is left; a line arrives again.
abbrev pub hanging_up : List Move
hanging_up = takes 7 ∷ hears (text "FF\r") ∷ hears (text "\n") ∷ hears [] ∷ takes 0 ∷ takes 1 ∷ takes 99 ∷ takes 99 ∷ hears (text "FF\r") ∷ []

abbrev pub four_twelves : List (ℕ × ℕ)
four_twelves = (12, 0) ∷ (12, 0) ∷ (12, 0) ∷ (12, 0) ∷ []

-- Called, and the partner's first turn is refused with n at its last byte.
abbrev pub in_first : Bytes → ℕ → Bytes → Trial
in_first bs n why = called (hears bs ∷ hanging_up) ((n, length bs) ∷ four_twelves) why waiting [] true

-- Called, and the answer to our three proposals is refused.
abbrev pub in_answer : Bytes → ℕ → Bytes → Trial
in_answer bs n why = called (hears (text "FF\r") ∷ takes 99 ∷ hears bs ∷ hanging_up) ((0, 3) ∷ (n, length bs) ∷ four_twelves) (three_proposals ++ why) waiting [] true

-- Called, and a transfer that we accepted is refused: plain, framed
abbrev pub in_plain : Bytes → ℕ → Bytes → Trial
in_plain bs n why =
    called (hears (text "FB B D E F Y1 1\rF>\r") ∷ takes 99 ∷ hears bs ∷ hanging_up) ((0, 19) ∷ (n, length bs) ∷ four_twelves) (text "FS +\r" ++ why) waiting [] true

abbrev pub in_framed : Bytes → ℕ → Bytes → Trial
in_framed bs n why =
    called_framed (hears (text "FB B D E F Y1 1\rF>\r") ∷ takes 99 ∷ hears bs ∷ hanging_up) ((0, 19) ∷ (n, length bs) ∷ four_twelves) (text "FS +\r" ++ why) waiting [] true

abbrev pub reasons : List Trial
reasons =
    -- 2, 3 (as either end), 4
    in_first (replicate 257 32) 2 protocol
    ∷ trial false (takes 99 ∷ hears (text "[TST-1-FF]\r") ∷ hanging_up) ((3, 11) ∷ four_twelves) (greeted ++ protocol) waiting [] true
    ∷ trial true (hears (text "hello\r") ∷ hanging_up) ((3, 6) ∷ four_twelves) protocol waiting [] true
    ∷ trial true (hears (text "[TST-1-B$]\r") ∷ hanging_up) ((4, 11) ∷ four_twelves) protocol waiting [] true
    -- 5 in a turn and where FS is awaited, 6, 7
    ∷ in_first (text "FX\r") 5 protocol
    ∷ in_answer (text "FF\r") 5 protocol
    ∷ in_first (text "F>\r") 6 protocol
    ∷ in_answer (text "FS -+\r") 7 protocol
    -- 8, plain and framed; 9, the only one with the other line; 10
    ∷ in_plain (text "\r") 8 protocol
    ∷ in_framed (1 ∷ 4 ∷ 85 ∷ 0 ∷ 49 ∷ []) 8 protocol
    ∷ in_framed (1 ∷ 4 ∷ 85 ∷ 0 ∷ 48 ∷ 0 ∷ 2 ∷ 1 ∷ 101 ∷ 4 ∷ 156 ∷ []) 9 checksum_error_line
    ∷ in_plain (text "U\rvwxy") 10 protocol
    -- 13: a wrong sum of a block's lines is a protocol error
    ∷ in_first (text "FB B D E F Y1 1\rF> DE\r") 13 protocol
    -- what was kept before the refused byte is kept, before and after the line is taken
    ∷ called (hears (text "FB B D E F Y1 2\rFB B D E F Y2 1\rF>\r") ∷ takes 99 ∷ hears (text "U\rvw\u{1a}\rU\rxy") ∷ [])
    ((0, 35) ∷ (10, 10) ∷ []) (text "FS ++\r") waiting (kept_message plain (text "Y1") (text "U") (text "vw") ∷ []) true
    ∷ called (hears (text "FB B D E F Y1 2\rFB B D E F Y2 1\rF>\r") ∷ takes 99 ∷ hears (text "U\rvw\u{1a}\rU\rxy") ∷ hanging_up)
    ((0, 35) ∷ (10, 10) ∷ four_twelves) (text "FS ++\r" ++ protocol) waiting (kept_message plain (text "Y1") (text "U") (text "vw") ∷ []) true
    -- the link drops in the middle of the line: what it took is all that was said
    ∷ called (hears (text "FX\r") ∷ takes 12 ∷ []) ((5, 3) ∷ []) (text "*** Protocol") waiting [] true
    ∷ []

-- "01's silence after an end holds after an end with 0 or 11"
abbrev pub silences : List Trial
silences =
    -- 11: a byte while our greeting, our FF and our proposals wait
    trial false (takes 3 ∷ hears (text "[TST-1-F$]\r") ∷ hanging_up) ((11, 1) ∷ four_twelves) (text "[NO") waiting [] true
    ∷ called (hears (text "FF\rFS") ∷ hanging_up) ((11, 4) ∷ four_twelves) [] waiting [] true
    -- 0: the partner's FQ, our FQ
    ∷ called_framed (hears (text "FF\r") ∷ takes 99 ∷ hears (text "FS -\rFF\r") ∷ takes 2 ∷ takes 1 ∷ hanging_up)
    ((0, 3) ∷ (0, 8) ∷ four_twelves) (text "FB P A B C X5 1\rF>\rFQ\r") (0 ∷ 0 ∷ 0 ∷ 0 ∷ 2 ∷ []) [] true
    ∷ called_framed (hears (text "FF\r") ∷ takes 99 ∷ hears (text "FS -\r") ∷ hears (text "FA B D E F K1 1\rF>\r") ∷ takes 99 ∷ hears (text "FQ\r") ∷ hanging_up)
    ((0, 3) ∷ (0, 5) ∷ (0, 19) ∷ (0, 3) ∷ four_twelves) (text "FB P A B C X5 1\rF>\rFS -\rFF\r") (0 ∷ 0 ∷ 0 ∷ 0 ∷ 2 ∷ []) [] true
    ∷ []
