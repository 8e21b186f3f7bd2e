-- The edges of 01's byte classes, one byte within and one without, and what a prompt and an ignored line are. Proved by computation, as one
-- statement, in proofs/Edges.
use Rattle.std.specs.Prelude.{true, false, List, [], ◌∷◌, ◌++◌, ℕ, replicate, set}
use Rattle.std.proofs.Math.Option.{none, some}
use Rattle.grammar.specs.Ascii.{text}
use Rattle.grammar.specs.Fields.{file, message, plain}
use Rattle.grammar.specs.Turns.{not_allowed, proposes}
use Rattle.grammar.specs.Scan.{got, malformed}
use Rattle.grammar.specs.Examples.{Example, heard, number, received, says, sid, sid_is, text_is, text_line, turn_line}

-- no feature at any of the 27 places, and one more at place i: 1 for level 0, 10 for level 9
abbrev pub no_features : List ℕ
no_features = replicate 27 0

abbrev pub feature : ℕ → ℕ → List ℕ → List ℕ
feature i n fs = set fs i n

abbrev pub byte_edges : List Example
byte_edges =
    -- "Author has at least one byte in 0x20-0x7F without `[`, `]`, `-`"
    record { asked = sid (text "[" ++ (127 ∷ []) ++ text "-F]"); told = sid_is 0 false (feature 5 1 no_features) } ∷
    record { asked = sid (text "[" ++ (128 ∷ []) ++ text "-F]"); told = number 3 } ∷
    record { asked = sid (text "[" ++ (31 ∷ []) ++ text "-F]"); told = number 3 } ∷
    record { asked = sid (text "[ -F]"); told = sid_is 0 false (feature 5 1 no_features) } ∷
    record { asked = sid (text "[A[-F]"); told = number 3 } ∷
    record { asked = sid (text "[A]-F]"); told = number 3 } ∷
    -- "data, if its hyphen is there, at least one such byte or hyphen"
    record { asked = sid (text "[A-" ++ (127 ∷ []) ++ text "-F]"); told = sid_is 0 false (feature 5 1 no_features) } ∷
    record { asked = sid (text "[A-" ++ (128 ∷ []) ++ text "-F]"); told = number 3 } ∷
    record { asked = sid (text "[A-" ++ (31 ∷ []) ++ text "-F]"); told = number 3 } ∷
    record { asked = sid (text "[A- -F]"); told = sid_is 0 false (feature 5 1 no_features) } ∷
    record { asked = sid (text "[A-[-F]"); told = number 3 } ∷
    record { asked = sid (text "[A-]-F]"); told = number 3 } ∷
    -- "Letters have fixed places A = 0 to Z = 25, and `$` = 26."; "feature letters are taken in either case"
    record { asked = sid (text "[A-FA]"); told = sid_is 0 false (feature 0 1 (feature 5 1 no_features)) } ∷
    record { asked = sid (text "[A-Fa9]"); told = sid_is 0 false (feature 0 10 (feature 5 1 no_features)) } ∷
    record { asked = sid (text "[A-FZ]"); told = sid_is 0 false (feature 25 1 (feature 5 1 no_features)) } ∷
    record { asked = sid (text "[A-Fz0]"); told = sid_is 0 false (feature 25 1 (feature 5 1 no_features)) } ∷
    record { asked = sid (text "[A-Fz$]"); told = sid_is 0 false (feature 26 1 (feature 25 1 (feature 5 1 no_features))) } ∷
    record { asked = sid (text "[A-@]"); told = number 3 } ∷
    record { asked = sid (text "[A-F@]"); told = number 3 } ∷
    record { asked = sid (text "[A-[]"); told = number 3 } ∷
    record { asked = sid (text "[A-F[]"); told = number 3 } ∷
    record { asked = sid (text "[A-`]"); told = number 3 } ∷
    record { asked = sid (text "[A-F`]"); told = number 3 } ∷
    record { asked = sid (text "[A-{]"); told = number 3 } ∷
    record { asked = sid (text "[A-F{]"); told = number 3 } ∷
    record { asked = sid (text "{A-F]"); told = number 3 } ∷
    -- "each with at most one digit"
    record { asked = sid (text "[A-F/]"); told = number 3 } ∷
    record { asked = sid (text "[A-F:]"); told = number 3 } ∷
    -- "from and to have 1 to 6 bytes in 0x21-0x7E without `@` and `.`"
    record { asked = turn_line false (text "FB P ~ ~.! ! D 1"); told = says 0 (proposes (record { form = plain; type = 80; from = text "~"; at = text "~.!"; to = text "!"; bid = text "D"; size = 1 })) } ∷
    record { asked = turn_line false (text "FB P ABCDEF B !~!~!~ D 1"); told = says 0 (proposes (record { form = plain; type = 80; from = text "ABCDEF"; at = text "B"; to = text "!~!~!~"; bid = text "D"; size = 1 })) } ∷
    record { asked = turn_line false (text "FB P " ++ (31 ∷ []) ++ text " B C D 1"); told = says 5 not_allowed } ∷
    record { asked = turn_line false (text "FB P A B " ++ (31 ∷ []) ++ text " D 1"); told = says 5 not_allowed } ∷
    record { asked = turn_line false (text "FB P A B." ++ (31 ∷ []) ++ text " C D 1"); told = says 5 not_allowed } ∷
    record { asked = turn_line false (text "FB P " ++ (127 ∷ []) ++ text " B C D 1"); told = says 5 not_allowed } ∷
    record { asked = turn_line false (text "FB P A B " ++ (127 ∷ []) ++ text " D 1"); told = says 5 not_allowed } ∷
    record { asked = turn_line false (text "FB P A B." ++ (127 ∷ []) ++ text " C D 1"); told = says 5 not_allowed } ∷
    record { asked = turn_line false (text "FB P " ++ (128 ∷ []) ++ text " B C D 1"); told = says 5 not_allowed } ∷
    record { asked = turn_line false (text "FB P A B " ++ (128 ∷ []) ++ text " D 1"); told = says 5 not_allowed } ∷
    record { asked = turn_line false (text "FB P A B." ++ (128 ∷ []) ++ text " C D 1"); told = says 5 not_allowed } ∷
    record { asked = turn_line false (text "FB P " ++ (255 ∷ []) ++ text " B C D 1"); told = says 5 not_allowed } ∷
    record { asked = turn_line false (text "FB P A B " ++ (255 ∷ []) ++ text " D 1"); told = says 5 not_allowed } ∷
    record { asked = turn_line false (text "FB P A B." ++ (255 ∷ []) ++ text " C D 1"); told = says 5 not_allowed } ∷
    record { asked = turn_line false (text "FB P A@ B C D 1"); told = says 5 not_allowed } ∷
    record { asked = turn_line false (text "FB P A B A@ D 1"); told = says 5 not_allowed } ∷
    record { asked = turn_line false (text "FB P A.B B C D 1"); told = says 5 not_allowed } ∷
    record { asked = turn_line false (text "FB P A B A.B D 1"); told = says 5 not_allowed } ∷
    record { asked = turn_line false (text "FB P A B ABCDEFG D 1"); told = says 5 not_allowed } ∷
    -- "A BID has 1 to 12 bytes in 0x21-0xFF."
    record { asked = turn_line false (text "FB P A B C ! 1"); told = says 0 (proposes (record { form = plain; type = 80; from = text "A"; at = text "B"; to = text "C"; bid = text "!"; size = 1 })) } ∷
    record { asked = turn_line false (text "FB P A B C @23456789.~! 1"); told = says 0 (proposes (record { form = plain; type = 80; from = text "A"; at = text "B"; to = text "C"; bid = text "@23456789.~!"; size = 1 })) } ∷
    record { asked = turn_line false (text "FB P A B C " ++ (127 ∷ 255 ∷ []) ++ text " 1"); told = says 0 (proposes (record { form = plain; type = 80; from = text "A"; at = text "B"; to = text "C"; bid = 127 ∷ 255 ∷ []; size = 1 })) } ∷
    record { asked = turn_line false (text "FB P A B C " ++ (31 ∷ []) ++ text " 1"); told = says 5 not_allowed } ∷
    -- "size (1 to 9 digits)"
    record { asked = turn_line false (text "FB P A B C D 098"); told = says 0 (proposes (record { form = plain; type = 80; from = text "A"; at = text "B"; to = text "C"; bid = text "D"; size = 98 })) } ∷
    record { asked = turn_line false (text "FB P A B C D 1/"); told = says 5 not_allowed } ∷
    record { asked = turn_line false (text "FB P A B C D 1:"); told = says 5 not_allowed } ∷
    -- "A title or name has 1 to 80 bytes in 0x20-0xFF."
    record { asked = received 65535 plain (32 ∷ 13 ∷ 66 ∷ 26 ∷ 13 ∷ []); told = heard (some (record { heading = 32 ∷ []; body = 66 ∷ [] })) (got (32 ∷ []) (66 ∷ [])) } ∷
    record { asked = received 65535 message (1 ∷ 5 ∷ 32 ∷ 255 ∷ 0 ∷ 48 ∷ 0 ∷ 4 ∷ 0 ∷ []); told = heard (some (record { heading = 32 ∷ 255 ∷ []; body = [] })) (got (32 ∷ 255 ∷ []) ([])) } ∷
    record { asked = received 65535 plain (31 ∷ []); told = heard none malformed } ∷
    record { asked = received 65535 file (1 ∷ 4 ∷ 31 ∷ []); told = heard none malformed } ∷
    -- "A prompt is a line whose last byte is its only `>`."; "Spaces at the end are removed before a line is judged."
    record { asked = text_line (text ">"); told = text_is false true } ∷
    record { asked = text_line (text "TST BBS>"); told = text_is false true } ∷
    record { asked = text_line (text "TST>  "); told = text_is false true } ∷
    record { asked = text_line (text ""); told = text_is false false } ∷
    record { asked = text_line (text "TST"); told = text_is false false } ∷
    record { asked = text_line (text ">>"); told = text_is false false } ∷
    record { asked = text_line (text "A>B>"); told = text_is false false } ∷
    record { asked = text_line (text "A>B"); told = text_is false false } ∷
    record { asked = text_line (text "> A"); told = text_is false false } ∷
    record { asked = text_line (text "A?"); told = text_is false false } ∷
    record { asked = text_line (text "A="); told = text_is false false } ∷
    -- "A line that begins with `;` is ignored wherever a line is awaited"
    record { asked = text_line (text ";"); told = text_is true false } ∷
    record { asked = text_line (text "; A>"); told = text_is true true } ∷
    record { asked = text_line (text "A;"); told = text_is false false } ∷
    record { asked = text_line (text " ;"); told = text_is false false } ∷
    record { asked = text_line (text ":"); told = text_is false false } ∷
    record { asked = text_line (text "<"); told = text_is false false } ∷
    []
