-- Whole sessions, move by move, and what they leave: a table of four records, all signs, and each refusal of 01's table. They are proved by
-- computation, as one statement (proofs/Sessions), so that a slip in the definitions of this crate shows here.
use Rattle.std.specs.Prelude.{Bool, true, false, List, [], ◌∷◌, ◌++◌, ℕ, replicate}
use Rattle.grammar.specs.Bytes.{Bytes}
use Rattle.grammar.specs.Ascii.{text}
use Rattle.grammar.specs.Fields.{Form, plain, file}
use Rattle.mail.specs.Mail.{Record, Message}
use Rattle.session.specs.Choices.{Shelf, shelf_with}
use Rattle.session.specs.Session.{Session, ended}
use Rattle.session.specs.Calls.{receive, give, handed_out}

-- ---------------------------------------------------------------- moves

-- The partner's bytes come; the link takes so many of ours.
pub data Move : Type 0 where
  hears : Bytes → Move
  takes : ℕ → Move

-- Answer and count of each receive, our bytes that the link took, and the session at the end.
pub record MovesPlayed : Type 0 where
  pub answers : List (ℕ × ℕ)
  pub said : Bytes
  pub session : Session

abbrev pub played : Shelf → Session → List Move → MovesPlayed
played E s [] = record { answers = []; said = []; session = s }
played E s (hears bs ∷ ms) =
    let r = receive E s bs in
    let p = played E r.session ms in
    record { answers = (r.answer, r.count) ∷ p.answers; said = p.said; session = p.session }
played E s (takes n ∷ ms) =
    let p = played E (give s n) ms in
    record { answers = p.answers; said = handed_out s n ++ p.said; session = p.session }

-- What is left of it: the last receive's answer and count stand first.
pub record TrialLeaves : Type 0 where
  pub answers : List (ℕ × ℕ)
  pub said : Bytes
  pub states : List ℕ
  pub kept : List Message
  pub over : Bool

abbrev pub trial_leaves : MovesPlayed → TrialLeaves
trial_leaves p =
    record { answers = p.answers; said = p.said; states = p.session.memory.states; kept = p.session.memory.inbox; over = ended p.session }

pub record Trial : Type 0 where
  pub caller : Bool
  pub moves : List Move
  pub left : TrialLeaves

-- ---------------------------------------------------------------- the table

abbrev pub letter : Form → Bytes → ℕ → Bytes → Record
letter f bid size body =
    record { form = f; type = 80; from = text "A"; at = text "B"; to = text "C"; bid = bid; size = size; title = text "T"; name = text "N"; body = body }

-- "Announced 1345, 5346, 8548, 1: three proposed"; the store has three bytes, the inbox two places
abbrev pub shelf : Shelf
shelf =
    shelf_with
    (letter plain (text "X1") 1345 (text "a") ∷ letter plain (text "X2") 5346 (text "b") ∷ letter plain (text "X3") 8548 (text "c")
    ∷ letter plain (text "X4") 1 (text "d") ∷ letter file (text "X5") 1 (text "e") ∷ [])
    (text "K1" ∷ []) 2 3

abbrev pub waiting : List ℕ
waiting = 0 ∷ 0 ∷ 0 ∷ 0 ∷ 0 ∷ []

abbrev pub greeted : Bytes
greeted = text "[NOD-1-B1FH$]\r>\r"

abbrev pub three_proposals : Bytes
three_proposals = text "FB P A B C X1 1345\rFB P A B C X2 5346\rFB P A B C X3 8548\rF>\r"

abbrev pub kept_message : Form → Bytes → Bytes → Bytes → Message
kept_message f bid heading body = record { form = f; type = 66; from = text "D"; at = text "E"; to = text "F"; bid = bid; heading = heading; body = body }

-- ---------------------------------------------------------------- the sessions

abbrev pub trial : Bool → List Move → List (ℕ × ℕ) → Bytes → List ℕ → List Message → Bool → Trial
trial caller ms rs said states ks over =
    record { caller = caller; moves = ms; left = record { answers = rs; said = said; states = states; kept = ks; over = over } }

-- Called: our greeting is taken, the caller's SID comes, and these moves from there.
abbrev pub called : List Move → List (ℕ × ℕ) → Bytes → List ℕ → List Message → Bool → Trial
called ms rs said states ks over = trial false (takes 99 ∷ hears (text "[TST-1-F$]\r") ∷ ms) ((0, 11) ∷ rs) (greeted ++ said) states ks over

-- the same where the caller's SID has B, so that we propose the file
abbrev pub called_framed : List Move → List (ℕ × ℕ) → Bytes → List ℕ → List Message → Bool → Trial
called_framed ms rs said states ks over = trial false (takes 99 ∷ hears (text "[TST-1-BF$]\r") ∷ ms) ((0, 12) ∷ rs) (greeted ++ said) states ks over

abbrev pub trials : List Trial
trials =
    -- three are proposed; declined, accepted and deferred; the accepted one is forwarded at the partner's FF, and then the fourth is proposed
    called (hears (text "FF\r") ∷ takes 99 ∷ hears (text "FS -+=\r") ∷ takes 99 ∷ hears (text "FF\r") ∷ takes 99 ∷ [])
    ((0, 3) ∷ (0, 7) ∷ (0, 3) ∷ []) (three_proposals ++ text "T\rb\u{1a}\rFB P A B C X4 1\rF>\r") (2 ∷ 1 ∷ 0 ∷ 0 ∷ 0 ∷ []) [] false
    -- the link has not taken the last byte: 11, and nothing is forwarded
    ∷ called (hears (text "FF\r") ∷ takes 99 ∷ hears (text "FS -+=\r") ∷ takes 4 ∷ hears (text "FF\r") ∷ takes 99 ∷ [])
    ((0, 3) ∷ (0, 7) ∷ (11, 1) ∷ []) (three_proposals ++ text "T\rb\u{1a}") (2 ∷ 0 ∷ 0 ∷ 0 ∷ 0 ∷ []) [] true
    -- FQ straight after our transfers is not allowed, and marks nothing
    ∷ called (hears (text "FF\r") ∷ takes 99 ∷ hears (text "FS +-+\r") ∷ takes 99 ∷ hears (text "FQ\r") ∷ [])
    ((0, 3) ∷ (0, 7) ∷ (5, 3) ∷ []) (three_proposals ++ text "T\ra\u{1a}\rT\rc\u{1a}\r") (0 ∷ 2 ∷ 0 ∷ 0 ∷ 0 ∷ []) [] true
    -- nor does the first FB line of the partner's turn; its F> does, and our answer says what we have, what has no room, and what we take
    ∷ called
    (hears (text "FF\r") ∷ takes 99 ∷ hears (text "FS ++=\r") ∷ takes 99 ∷ hears (text "FB B D E F Y1 2\rFB B D E F K1 1\r") ∷ [])
    ((0, 3) ∷ (0, 7) ∷ (0, 32) ∷ []) (three_proposals ++ text "T\ra\u{1a}\rT\rb\u{1a}\r") waiting [] false
    ∷ called
    (hears (text "FF\r") ∷ takes 99 ∷ hears (text "FS ++=\r") ∷ takes 99
    ∷ hears (text "fb b D E F Y1 2\rFB B D E F K1 1\rFB B D E F Y1 1\rFB B D E F Y2 2\rFB  B D E F Y3 01\r\n;\rf>  \r\n") ∷ takes 99
    ∷ hears (text "U\r\nv\u{1a}  \r\nW\ry\u{1a}\r\n") ∷ takes 99 ∷ hears (text "FF\r") ∷ [])
    ((0, 3) ∷ (0, 7) ∷ (0, 91) ∷ (0, 15) ∷ (5, 3) ∷ [])
    (three_proposals ++ text "T\ra\u{1a}\rT\rb\u{1a}\rFS +--=+\rFB P A B C X4 1\rF>\r") (1 ∷ 1 ∷ 0 ∷ 0 ∷ 0 ∷ [])
    (kept_message plain (text "Y1") (text "U") (text "\nv") ∷ kept_message plain (text "Y3") (text "W") (text "y") ∷ []) true
    -- a body byte without room, and a first body of two bytes that was kept
    ∷ called (hears (text "FB B D E F Y1 2\rFB B D E F Y2 1\rF>\r") ∷ takes 99 ∷ hears (text "U\rvw\u{1a}\rU\rxy") ∷ [])
    ((0, 35) ∷ (10, 10) ∷ []) (text "FS ++\r") waiting (kept_message plain (text "Y1") (text "U") (text "vw") ∷ []) true
    -- as caller: text lines are skipped, then our SID and the file, by its name
    ∷ trial true (hears (text "[TST-1-BF$]\rGood day\r>\r") ∷ takes 99 ∷ hears (text "FS +\r") ∷ takes 99 ∷ hears (text "FF\r") ∷ takes 99 ∷ [])
    ((0, 23) ∷ (0, 5) ∷ (0, 3) ∷ [])
    (text "[NOD-1-B1FH$]\rFB P A B C X5 1\rF>\r" ++ (1 ∷ 4 ∷ 78 ∷ 0 ∷ 48 ∷ 0 ∷ 2 ∷ 1 ∷ 101 ∷ 4 ∷ 155 ∷ []) ++ text "FQ\r") (0 ∷ 0 ∷ 0 ∷ 0 ∷ 1 ∷ []) [] true
    -- the caller has nothing for us and we have nothing: its FQ answers our FF; after it 12
    ∷ called_framed (hears (text "FF\r") ∷ takes 99 ∷ hears (text "FS -\r") ∷ hears (text "FA B D E F K1 1\rF>\r") ∷ takes 99 ∷ hears (text "FQ\r\n") ∷ hears (text "\n") ∷ [])
    ((0, 3) ∷ (0, 5) ∷ (0, 19) ∷ (0, 3) ∷ (12, 0) ∷ []) (text "FB P A B C X5 1\rF>\rFS -\rFF\r") (0 ∷ 0 ∷ 0 ∷ 0 ∷ 2 ∷ []) [] true
    -- 2, 3, 4
    ∷ called (hears (replicate 256 32 ++ text "\r") ∷ []) ((5, 257) ∷ []) [] waiting [] true
    ∷ called (hears (replicate 257 32 ++ text "\r") ∷ []) ((2, 257) ∷ []) [] waiting [] true
    ∷ trial false (takes 99 ∷ hears (text ";\r[TST-1-FF]\r") ∷ []) ((3, 13) ∷ []) greeted waiting [] true
    ∷ trial true (hears (text "[TST-1-B$]\r") ∷ takes 99 ∷ []) ((4, 11) ∷ []) (text "*** Protocol error\r") waiting [] true
    -- 5 before 6, 6, 7
    ∷ called (hears (text "F>\r") ∷ []) ((6, 3) ∷ []) [] waiting [] true
    ∷ called (hears (text "FA B D E F Y1 1\r") ∷ []) ((5, 16) ∷ []) [] waiting [] true
    ∷ called (hears (text "FF\r") ∷ takes 99 ∷ hears (text "FS -+\r") ∷ []) ((0, 3) ∷ (7, 6) ∷ []) three_proposals waiting [] true
    ∷ called (hears (text "FF\r") ∷ takes 99 ∷ hears (text "FF\r") ∷ []) ((0, 3) ∷ (5, 3) ∷ []) three_proposals waiting [] true
    -- 8, 9: the message under way is not kept
    ∷ called (hears (text "FB B D E F Y1 1\rF>\r") ∷ takes 99 ∷ hears (text "\r") ∷ []) ((0, 19) ∷ (8, 1) ∷ []) (text "FS +\r") waiting [] true
    ∷ called_framed (hears (text "FB B D E F Y1 1\rF>\r") ∷ takes 99 ∷ hears (1 ∷ 4 ∷ 85 ∷ 0 ∷ 48 ∷ 0 ∷ 2 ∷ 1 ∷ 101 ∷ 4 ∷ 156 ∷ 4 ∷ []) ∷ [])
    ((0, 19) ∷ (9, 11) ∷ []) (text "FS +\r") waiting [] true
    ∷ []
