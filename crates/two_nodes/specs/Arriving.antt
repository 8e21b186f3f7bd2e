-- THE PARTNER'S LINE THAT SAYS WHY, where it arrives (02, Q-1): where a SID, a text line, a turn, an FS line, a title, a body, a framed transfer or a block of
-- it is awaited, and while bytes of ours wait. Each with its answer, what we say to it, and what it leaves. Proved by computation (proofs/Arriving).
use Rattle.std.specs.Prelude.{true, false, List, [], ◌∷◌, ◌++◌}
use Rattle.grammar.specs.Ascii.{text}
use Rattle.session.specs.Sessions.{hears, takes, Trial, trial, called, called_framed, greeted, three_proposals, waiting}
use Rattle.session.specs.Reasons.{protocol, checksum_error_line}

abbrev pub arriving : List Trial
arriving =
    -- a SID is awaited, at either end: 3
    trial false (takes 99 ∷ hears protocol ∷ takes 99 ∷ []) ((3, 19) ∷ []) (greeted ++ protocol) waiting [] true
    ∷ trial true (hears checksum_error_line ∷ takes 99 ∷ []) ((3, 19) ∷ []) protocol waiting [] true
    -- the prompt is awaited: a text line like any other
    ∷ trial true (hears (text "[TST-1-F$]\r") ∷ hears protocol ∷ hears (text ">\r") ∷ takes 99 ∷ []) ((0, 11) ∷ (0, 19) ∷ (0, 2) ∷ []) (text "[NOD-1-B1FH$]\r" ++ three_proposals) waiting [] false
    -- a turn or the FS line is awaited: 5
    ∷ called (hears protocol ∷ takes 99 ∷ []) ((5, 19) ∷ []) protocol waiting [] true
    ∷ called (hears (text "FF\r") ∷ takes 99 ∷ hears checksum_error_line ∷ takes 99 ∷ []) ((0, 3) ∷ (5, 19) ∷ []) (three_proposals ++ protocol) waiting [] true
    -- a title is awaited: it is one, and the transfer is never whole; a body is under way: body, as far as there is room
    ∷ called (hears (text "FB B D E F Y1 1\rF>\r") ∷ takes 99 ∷ hears protocol ∷ takes 99 ∷ []) ((0, 19) ∷ (0, 19) ∷ []) (text "FS +\r") waiting [] false
    ∷ called (hears (text "FB B D E F Y1 1\rF>\r") ∷ takes 99 ∷ hears (text "U\r") ∷ hears protocol ∷ takes 99 ∷ []) ((0, 19) ∷ (0, 2) ∷ (10, 4) ∷ []) (text "FS +\r" ++ protocol) waiting [] true
    -- a framed transfer is awaited: 8 at its first byte; within a block it is data, and behind one 8
    ∷ called_framed (hears (text "FB B D E F Y1 1\rF>\r") ∷ takes 99 ∷ hears protocol ∷ takes 99 ∷ []) ((0, 19) ∷ (8, 1) ∷ []) (text "FS +\r" ++ protocol) waiting [] true
    ∷ called_framed (hears (text "FB B D E F Y1 1\rF>\r") ∷ takes 99 ∷ hears (1 ∷ 4 ∷ 85 ∷ 0 ∷ 48 ∷ 0 ∷ 2 ∷ 2 ∷ []) ∷ hears protocol ∷ takes 99 ∷ [])
    ((0, 19) ∷ (0, 8) ∷ (8, 3) ∷ []) (text "FS +\r" ++ protocol) waiting [] true
    -- bytes of ours wait: 11, and nothing is said
    ∷ called (hears (text "FF\r") ∷ takes 9 ∷ hears protocol ∷ takes 99 ∷ []) ((0, 3) ∷ (11, 1) ∷ []) (text "FB P A B ") waiting [] true
    ∷ []
