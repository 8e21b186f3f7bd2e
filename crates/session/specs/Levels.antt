-- The level in force in whole sessions (02, Q-6): partners with B at each level and without it, called and calling, every sign and offset, and what each
-- FS line leaves. Proved by computation (proofs/Levels).
use Rattle.std.specs.Prelude.{Bool, true, false, List, [], ◌∷◌, ◌++◌, ℕ, length}
use Rattle.grammar.specs.Bytes.{Bytes}
use Rattle.grammar.specs.Ascii.{text}
use Rattle.grammar.specs.Fields.{plain, message}
use Rattle.session.specs.Choices.{Shelf, shelf_with}
use Rattle.session.specs.Sessions.{Trial, hears, takes, trial, letter, greeted}
use Rattle.session.specs.Reasons.{protocol}

-- ---------------------------------------------------------------- the table

-- five packed messages, which one block proposes, and a plain text
abbrev pub packed_shelf : Shelf
packed_shelf =
    shelf_with
    (letter message (text "M1") 1 (text "a") ∷ letter message (text "M2") 1 (text "b") ∷ letter message (text "M3") 1 (text "c")
    ∷ letter message (text "M4") 1 (text "d") ∷ letter message (text "M5") 1 (text "e") ∷ letter plain (text "P1") 1 (text "f") ∷ [])
    [] 2 3

abbrev pub six_waiting : List ℕ
six_waiting = 0 ∷ 0 ∷ 0 ∷ 0 ∷ 0 ∷ 0 ∷ []

abbrev pub five_packets : Bytes
five_packets = text "FA P A B C M1 1\rFA P A B C M2 1\rFA P A B C M3 1\rFA P A B C M4 1\rFA P A B C M5 1\rF>\r"

-- a transfer of one byte, with the title T
abbrev pub packet : ℕ → ℕ → Bytes
packet b sum = 1 ∷ 4 ∷ 84 ∷ 0 ∷ 48 ∷ 0 ∷ 2 ∷ 1 ∷ b ∷ 4 ∷ sum ∷ []

-- ---------------------------------------------------------------- the sessions

-- Called by a partner with this SID, which comes with its FF: we propose, and it answers with this FS line and then its FF; sent: what we say to the line
abbrev pub answers : Bytes → Bytes → Bytes → List ℕ → Trial
answers sid fs sent states =
    trial false (takes 99 ∷ hears sid ∷ takes 99 ∷ hears fs ∷ takes 99 ∷ hears (text "FF\r") ∷ takes 99 ∷ [])
    ((0, length sid) ∷ (0, length fs) ∷ (0, 3) ∷ []) (greeted ++ (five_packets ++ (sent ++ text "FQ\r"))) states [] true

-- The same, and the line is refused with 7: we say why, and no answer of it is recorded.
abbrev pub refused_trial : Bytes → Bytes → Trial
refused_trial sid fs =
    trial false (takes 99 ∷ hears sid ∷ takes 99 ∷ hears fs ∷ takes 99 ∷ [])
    ((0, length sid) ∷ (7, length fs) ∷ []) (greeted ++ (five_packets ++ protocol)) six_waiting [] true

-- A partner without B is met in plain mode, and at level 0.
abbrev pub plain_with : Bytes → ℕ → Bytes → Bool → Trial
plain_with fs n sent over =
    trial false (takes 99 ∷ hears (text "[TST-1-F$]\rFF\r") ∷ takes 99 ∷ hears fs ∷ takes 99 ∷ [])
    ((0, 14) ∷ (n, length fs) ∷ []) (greeted ++ (text "FB P A B C P1 1\rF>\r" ++ sent)) six_waiting [] over

-- B at level 1: each letter, in either case, beside 01's signs; offsets, of which 0 accepts and a greater one defers; 002's own line
abbrev pub at_level1 : List Trial
at_level1 =
    answers (text "[TST-1-B1F$]\rFF\r") (text "FS YNLHR\r") (packet 97 159 ++ packet 100 156) (1 ∷ 2 ∷ 0 ∷ 1 ∷ 2 ∷ 0 ∷ [])
    ∷ answers (text "[TST-1-fb1]\rFF\r") (text "fs ynlhe\r") (packet 97 159 ++ packet 100 156) (1 ∷ 2 ∷ 0 ∷ 1 ∷ 0 ∷ 0 ∷ [])
    ∷ answers (text "[TST-1-B1F$]\rFF\r") (text "FS rE+-=\r") (packet 99 157) (2 ∷ 0 ∷ 1 ∷ 2 ∷ 0 ∷ 0 ∷ [])
    ∷ answers (text "[TST-1-B1F$]\rFF\r") (text "FS A0!1a000000A123456+\r") (packet 97 159 ++ (packet 99 157 ++ packet 101 155)) (1 ∷ 0 ∷ 1 ∷ 0 ∷ 1 ∷ 0 ∷ [])
    ∷ answers (text "[TST-1-B1F$]\rFF\r") (text "FS YLA3350RH\r") (packet 97 159 ++ packet 101 155) (1 ∷ 0 ∷ 0 ∷ 2 ∷ 1 ∷ 0 ∷ [])
    ∷ []

-- at level 1: a seventh digit, none, a byte that is no sign, one sign too few or too many
abbrev pub refused_at_level1 : List Trial
refused_at_level1 =
    refused_trial (text "[TST-1-B1F$]\rFF\r") (text "FS A0000000----\r")
    ∷ refused_trial (text "[TST-1-B1F$]\rFF\r") (text "FS Y!---\r")
    ∷ refused_trial (text "[TST-1-B1F$]\rFF\r") (text "FS YZ---\r")
    ∷ refused_trial (text "[TST-1-B1F$]\rFF\r") (text "FS YYYY\r")
    ∷ refused_trial (text "[TST-1-B1F$]\rFF\r") (text "FS A1A2A3A4A5Y\r")
    ∷ []

-- B at level 0, said or not, and levels of other letters: 01's signs and no other. Without B the same.
abbrev pub at_level0 : List Trial
at_level0 =
    answers (text "[TST-1-BF$]\rFF\r") (text "FS +-===\r") (packet 97 159) (1 ∷ 2 ∷ 0 ∷ 0 ∷ 0 ∷ 0 ∷ [])
    ∷ refused_trial (text "[TST-1-BF$]\rFF\r") (text "FS Y----\r")
    ∷ refused_trial (text "[TST-1-B0F$]\rFF\r") (text "FS ----h\r")
    ∷ refused_trial (text "[TST-1-BF1$]\rFF\r") (text "FS A0----\r")
    ∷ plain_with (text "FS Y\r") 7 protocol true
    ∷ plain_with (text "FS +\r") 0 (text "T\rf\u{1a}\r") false
    ∷ []

-- B at levels above ours: the lower of the two. And as caller, after our SID.
abbrev pub above_ours : List Trial
above_ours =
    answers (text "[TST-1-B2F$]\rFF\r") (text "FS YN---\r") (packet 97 159) (1 ∷ 2 ∷ 2 ∷ 2 ∷ 2 ∷ 0 ∷ [])
    ∷ answers (text "[TST-1-B9F$]\rFF\r") (text "FS nR-Nr\r") [] (2 ∷ 2 ∷ 2 ∷ 2 ∷ 2 ∷ 0 ∷ [])
    ∷ trial true (hears (text "[TST-1-B1F$]\r>\r") ∷ takes 99 ∷ hears (text "FS HRERN\r") ∷ takes 99 ∷ hears (text "FF\r") ∷ takes 99 ∷ [])
    ((0, 15) ∷ (0, 9) ∷ (0, 3) ∷ []) (text "[NOD-1-B1FH$]\r" ++ (five_packets ++ (packet 97 159 ++ text "FQ\r"))) (1 ∷ 2 ∷ 0 ∷ 2 ∷ 2 ∷ 0 ∷ []) [] true
    ∷ []

abbrev pub level_trials : List Trial
level_trials = at_level1 ++ (refused_at_level1 ++ (at_level0 ++ above_ours))
