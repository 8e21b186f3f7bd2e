-- A BID that was kept in this session is offered again in it, as it was and in capitals: declined. No node of ours does that, so no meeting of two of
-- them shows it. Proved by computation (proofs/Again).
use Rattle.std.specs.Prelude.{false, [], ◌∷◌, ◌++◌}
use Rattle.grammar.specs.Ascii.{text}
use Rattle.grammar.specs.Fields.{plain}
use Rattle.session.specs.Sessions.{Trial, hears, takes, called, three_proposals, kept_message}

-- Y1 comes whole; we propose three, which are declined; then Y1 once more, and our fourth
abbrev pub offered_again : Trial
offered_again =
    called
    (hears (text "FB B D E F Y1 2\rF>\r") ∷ takes 99 ∷ hears (text "U\rv\u{1a}\r") ∷ takes 99 ∷ hears (text "FS ---\r")
    ∷ hears (text "FB B D E F Y1 2\rF>\r") ∷ takes 99 ∷ [])
    ((0, 19) ∷ (0, 5) ∷ (0, 7) ∷ (0, 19) ∷ []) (text "FS +\r" ++ (three_proposals ++ text "FS -\rFB P A B C X4 1\rF>\r")) (2 ∷ 2 ∷ 2 ∷ 0 ∷ 0 ∷ [])
    (kept_message plain (text "Y1") (text "U") (text "v") ∷ []) false

-- y1 comes whole and is kept as it was spelt; then BIDs of the table, the known list, the inbox and this block, each in the other case
abbrev pub in_other_case : Trial
in_other_case =
    called
    (hears (text "FB B D E F y1 2\rF>\r") ∷ takes 99 ∷ hears (text "U\rv\u{1a}\r") ∷ takes 99 ∷ hears (text "FS ---\r")
    ∷ hears (text "FB B D E F x1 1\rFB B D E F k1 1\rFB B D E F Y1 1\rFB B D E F y2 1\rFB B D E F Y2 1\rF>\r") ∷ takes 99 ∷ [])
    ((0, 19) ∷ (0, 5) ∷ (0, 7) ∷ (0, 83) ∷ []) (text "FS +\r" ++ (three_proposals ++ text "FS ---+-\r")) (2 ∷ 2 ∷ 2 ∷ 0 ∷ 0 ∷ [])
    (kept_message plain (text "y1") (text "U") (text "v") ∷ []) false
