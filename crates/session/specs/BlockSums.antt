-- The proposal checksum in whole sessions (02, Q-5): a block of each kind, what is answered to it, and what it leaves. Proved by computation
-- (proofs/BlockSums).
use Rattle.std.specs.Prelude.{Bool, true, false, List, [], ◌∷◌, ◌++◌, ℕ, length}
use Rattle.grammar.specs.Bytes.{Bytes}
use Rattle.grammar.specs.Ascii.{text}
use Rattle.grammar.specs.Fields.{plain}
use Rattle.session.specs.Sessions.{Trial, hears, takes, called, called_framed, three_proposals, kept_message}

-- Called: of our three records the second and third are declined, the first is sent and waits for the partner's turn, which is bs. n: its answer;
-- said: what we say to it.
abbrev pub in_turn : Bytes → ℕ → Bytes → List ℕ → Bool → Trial
in_turn bs n said states over =
    called (hears (text "FF\r") ∷ takes 99 ∷ hears (text "FS +--\r") ∷ takes 99 ∷ hears bs ∷ takes 99 ∷ [])
    ((0, 3) ∷ (0, 7) ∷ (n, length bs) ∷ []) (three_proposals ++ (text "T\ra\u{1a}\r" ++ said)) states [] over

-- The turn is valid: the record is forwarded, and we answer.
abbrev pub valid_turn : Bytes → Bytes → Trial
valid_turn bs fs = in_turn bs 0 fs (1 ∷ 2 ∷ 2 ∷ 0 ∷ 0 ∷ []) false

-- "A turn with a wrong checksum is no valid turn.": nothing is forwarded, and nothing said but why (02, Q-1)
abbrev pub refused_with : ℕ → Bytes → Trial
refused_with n bs = in_turn bs n (text "*** Protocol error\r") (0 ∷ 2 ∷ 2 ∷ 0 ∷ 0 ∷ []) true

abbrev pub block_trials : List Trial
block_trials =
    -- right, in either case, spaces at the end of the F> line; and the bare form
    valid_turn (text "FB B D E F Y1 1\rF> DF\r") (text "FS +\r")
    ∷ valid_turn (text "FB B D E F Y1 1\rf> df  \r") (text "FS +\r")
    ∷ valid_turn (text "FB B D E F Y1 1\rF>\r") (text "FS +\r")
    -- wrong by one; the sum itself; the CR not summed; one letter of the BID changed on the way
    ∷ refused_with 13 (text "FB B D E F Y1 1\rF> DE\r")
    ∷ refused_with 13 (text "FB B D E F Y1 1\rF> 21\r")
    ∷ refused_with 13 (text "FB B D E F Y1 1\rF> EC\r")
    ∷ refused_with 13 (text "FB B D E F Z1 1\rF> DF\r")
    -- doubled spaces, small letters, a zero in front, spaces at the end: as received, not without those at the end, not as we would write it
    ∷ valid_turn (text "fb  b D E F Y1 01   \rF> CF\r") (text "FS +\r")
    ∷ refused_with 13 (text "fb  b D E F Y1 01   \rF> 2F\r")
    ∷ refused_with 13 (text "fb  b D E F Y1 01   \rF> DF\r")
    -- LF after CR is not summed
    ∷ valid_turn (text "FB B D E F Y1 1\r\nF> DF\r\n") (text "FS +\r")
    ∷ refused_with 13 (text "FB B D E F Y1 1\r\nF> D5\r")
    -- a `;` line in it is not summed
    ∷ valid_turn (text ";FB x\rFB B D E F Y1 1\r;FB x\rF> DF\r") (text "FS +\r")
    ∷ refused_with 13 (text "FB B D E F Y1 1\r;FB x\rF> 77\r")
    -- five proposals: all of them, not the last; a sixth gets 6 first
    ∷ valid_turn (text "fb b D E F Y1 2\rFB B D E F K1 1\rFB B D E F Y1 1\rFB B D E F Y2 2\rFB  B D E F Y3 01\rF> B4\r") (text "FS +--=+\r")
    ∷ refused_with 13 (text "fb b D E F Y1 2\rFB B D E F K1 1\rFB B D E F Y1 1\rFB B D E F Y2 2\rFB  B D E F Y3 01\rF> 8D\r")
    ∷ refused_with 6 (text "fb b D E F Y1 2\rFB B D E F K1 1\rFB B D E F Y1 1\rFB B D E F Y2 2\rFB  B D E F Y3 01\rFB B D E F Y1 1\r")
    -- 00 is a checksum like any other
    ∷ valid_turn (text "FB B D E F Y1op 1\rF> 00\r") (text "FS +\r")
    ∷ refused_with 13 (text "FB B D E F Y1 1\rF> 00\r")
    -- 5 for another form, then 6 with no proposal, then 13
    ∷ refused_with 6 (text "F> 00\r")
    ∷ refused_with 6 (text "F> 01\r")
    ∷ refused_with 5 (text "F> 0G\r")
    ∷ refused_with 5 (text "FB B D E F Y1 1\rF> 0DF\r")
    ∷ refused_with 5 (text "FB B D E F Y1 1\rF>DF\r")
    ∷ refused_with 5 (text "FB B D E F Y1 1\rF>  DF\r")
    ∷ refused_with 5 (text "FB B D E F Y1 1\rF> D\r")
    ∷ []

-- Y1 comes whole, we propose three, which are declined, and then the partner's second turn is bs.
abbrev pub in_second : Bytes → ℕ → Bytes → Bool → Trial
in_second bs n said over =
    called
    (hears (text "FB B D E F Y1 1\rF> DF\r") ∷ takes 99 ∷ hears (text "U\rv\u{1a}\r") ∷ takes 99 ∷ hears (text "FS ---\r") ∷ hears bs ∷ takes 99 ∷ [])
    ((0, 22) ∷ (0, 5) ∷ (0, 7) ∷ (n, length bs) ∷ []) (text "FS +\r" ++ (three_proposals ++ said)) (2 ∷ 2 ∷ 2 ∷ 0 ∷ 0 ∷ [])
    (kept_message plain (text "Y1") (text "U") (text "v") ∷ []) over

abbrev pub later_trials : List Trial
later_trials =
    -- each turn begins a new sum
    in_second (text "FB B D E F Y2 1\rF> DE\r") 0 (text "FS +\r") false
    ∷ in_second (text "FB B D E F Y2 1\rF> BD\r") 13 (text "*** Protocol error\r") true
    -- framed
    ∷ called_framed (hears (text "FA B D E F K1 1\rF> EE\r") ∷ takes 99 ∷ []) ((0, 22) ∷ []) (text "FS -\rFB P A B C X5 1\rF>\r") (0 ∷ 0 ∷ 0 ∷ 0 ∷ 0 ∷ []) [] false
    -- no end of a block where another line is awaited
    ∷ called (hears (text "FF\r") ∷ takes 99 ∷ hears (text "F> 00\r") ∷ []) ((0, 3) ∷ (5, 6) ∷ []) three_proposals (0 ∷ 0 ∷ 0 ∷ 0 ∷ 0 ∷ []) [] true
    ∷ []
