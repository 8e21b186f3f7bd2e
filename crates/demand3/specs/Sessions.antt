-- Whole sessions, as lists of calls, and what they leave: 01's example of a whole session, and its "Easy slips to shut out". They are
-- proved by computation, as one statement, in proofs/Sessions.
use Rattle.std.specs.Prelude.{Bool, true, false, List, [], ◌∷◌, ◌++◌, ℕ}
use Rattle.session.specs.Sessions.{greeted}
use Rattle.grammar.specs.Bytes.{Bytes}
use Rattle.grammar.specs.Ascii.{text}
use Rattle.grammar.specs.Fields.{Form, plain, message}
use Rattle.mail.specs.Mail.{Record, Message}
use Rattle.session.specs.Choices.{Shelf, shelf_with}
use Rattle.session.specs.Session.{Session, opened, ended}
use Rattle.session_log.specs.Log.{Event, took, gave, log}
use Rattle.demand3.specs.Demand.{Call, receiving, giving, refused_call, run}

-- A table and the states that open found, a role (true: caller), and calls.
pub record CallsTrial : Type 0 where
  pub table : List Record
  pub states : List ℕ
  pub caller : Bool
  pub calls : List Call

-- What they leave: the states, the messages kept, the bytes given in all, and whether the session has ended.
pub record CallsLeave : Type 0 where
  pub states : List ℕ
  pub kept : List Message
  pub said : Bytes
  pub over : Bool

abbrev pub trial_shelf : CallsTrial → Shelf
trial_shelf t = shelf_with t.table [] 2 100

abbrev pub trial_ran : CallsTrial → Session × List Event
trial_ran t = run (trial_shelf t) (opened t.caller t.states) t.calls

abbrev pub bytes_given : List Event → Bytes
bytes_given [] = []
bytes_given (took b ∷ es) = bytes_given es
bytes_given (gave b ∷ es) = b ∷ bytes_given es

-- by the session
abbrev pub left : CallsTrial → CallsLeave
left t =
    record {
      states = (trial_ran t).0.memory.states;
      kept = (trial_ran t).0.memory.inbox;
      said = bytes_given (trial_ran t).1;
      over = ended (trial_ran t).0;
    }

-- by the log
abbrev pub left_by_log : CallsTrial → CallsLeave
left_by_log t =
    record {
      states = (log t.table t.caller t.states (trial_ran t).1).book.states;
      kept = (log t.table t.caller t.states (trial_ran t).1).book.kept;
      said = bytes_given (trial_ran t).1;
      over = ended (trial_ran t).0;
    }

-- ---------------------------------------------------------------- the sessions

abbrev pub short_letter : Form → Record
short_letter f =
    record {
      form = f;
      type = 80;
      from = text "A";
      at = text "B";
      to = text "C";
      bid = text "X1";
      size = 2;
      title = text "T";
      name = [];
      body = text "hi";
    }

-- Called, with one plain record that waits: the partner's FF, our proposal, and these calls from there.
abbrev pub proposed_trial : List Call → CallsTrial
proposed_trial cs =
    record {
      table = short_letter plain ∷ [];
      states = 0 ∷ [];
      caller = false;
      calls = giving 7 ∷ giving 99 ∷ receiving (text "[TST-1-F$]\r\nF") ∷ refused_call ∷ receiving (text "F\r") ∷ giving 20 ∷ receiving (text "\n") ∷ giving 99 ∷ cs;
    }

-- The partner accepts, our transfer is taken whole, and these calls from there.
abbrev pub sent : List Call → CallsTrial
sent cs = proposed_trial (receiving (text "FS +\r") ∷ giving 3 ∷ receiving (text "\n") ∷ giving 99 ∷ cs)

-- Caller, with one packed message that waits: the partner's SID and its prompt.
abbrev pub calling : Bytes → List Call → CallsTrial
calling sid cs = record { table = short_letter message ∷ []; states = 0 ∷ []; caller = true; calls = receiving sid ∷ receiving (text "Good day\rTST>\r") ∷ giving 99 ∷ cs }

-- its SID has B at level 0; at level 1
abbrev pub framed_trial : List Call → CallsTrial
framed_trial cs = calling (text "[TST-1-BF$]\r") cs

abbrev pub framed_at1 : List Call → CallsTrial
framed_at1 cs = calling (text "[TST-1-B1F$]\r") cs

abbrev pub theirs : Form → Message
theirs f =
    record {
      form = f;
      type = 66;
      from = text "D";
      at = text "E";
      to = text "F";
      bid = text "Y1";
      heading = text "U";
      body = text "\nyo";
    }

-- what we say in a plain session up to F>, and in a framed one; and the framed transfer
abbrev pub our_plain_block : Bytes
our_plain_block = text "FB P A B C X1 2\rF>\r"

abbrev pub framed_ours : Bytes
framed_ours = text "[NOD-1-B1FH$]\rFA P A B C X1 2\rF>\r"

abbrev pub framed_text : Bytes
framed_text = 1 ∷ 4 ∷ 84 ∷ 0 ∷ 48 ∷ 0 ∷ 2 ∷ 2 ∷ 104 ∷ 105 ∷ 4 ∷ 47 ∷ []

abbrev pub example : CallsTrial → List ℕ → List Message → Bytes → Bool → CallsTrial × CallsLeave
example t st ms bs over = (t, record { states = st; kept = ms; said = bs; over = over })

abbrev pub sessions : List (CallsTrial × CallsLeave)
sessions =
    -- 01: "Whole session, called, empty table."
    example (record { table = []; states = []; caller = false; calls = giving 100 ∷ receiving (text "[TST-1-F$]\rFF\r") ∷ giving 100 ∷ [] })
    [] [] (greeted ++ text "FQ\r") true
    -- not marked at the last byte sent
    ∷ example (sent []) (0 ∷ []) [] (greeted ++ (our_plain_block ++ text "T\rhi\u{1a}\r")) false
    -- nor at the partner's first FB line
    ∷ example (sent (receiving (text "FB B D E F Y1 3\r") ∷ [])) (0 ∷ []) [] (greeted ++ (our_plain_block ++ text "T\rhi\u{1a}\r")) false
    -- but at its F>
    ∷ example (sent (receiving (text "FB B D E F Y1 3\rF>\r") ∷ giving 99 ∷ [])) (1 ∷ []) [] (greeted ++ (our_plain_block ++ text "T\rhi\u{1a}\rFS +\r")) false
    -- or at its F> with the right checksum (02, Q-5); with a wrong one nothing is marked, and we say why (02, Q-1)
    ∷ example (sent (receiving (text ";\rFB B D E F Y1 3\r\nF> DD\r") ∷ giving 99 ∷ [])) (1 ∷ []) [] (greeted ++ (our_plain_block ++ text "T\rhi\u{1a}\rFS +\r")) false
    ∷ example (sent (receiving (text "FB B D E F Y1 3\rF> DE\r") ∷ giving 99 ∷ receiving (text "FF\r") ∷ [])) (0 ∷ []) [] (greeted ++ (our_plain_block ++ text "T\rhi\u{1a}\r*** Protocol error\r")) true
    -- the link drops in the middle of the line, and bytes arrive meanwhile: the same marks and messages
    ∷ example (sent (receiving (text "FB B D E F Y1 3\rF>\r") ∷ giving 99 ∷ receiving (text "U\r\nyo\u{1a}\r") ∷ giving 99 ∷ receiving (text "FB") ∷ receiving (text "\r") ∷ giving 5 ∷ receiving (text "FF\r") ∷ giving 4 ∷ []))
    (1 ∷ []) (theirs plain ∷ []) (greeted ++ (our_plain_block ++ text "T\rhi\u{1a}\rFS +\rFF\r*** Proto")) true
    -- a body's first LF is kept, one after the transfer is dropped; then our turn, with nothing to propose
    ∷ example (sent (receiving (text "FB B D E F Y1 3\rF>\r") ∷ giving 99 ∷ receiving (text "U\r\nyo\u{1a} \r\n") ∷ giving 99 ∷ receiving (text "FQ\rFF\r") ∷ []))
    (1 ∷ []) (theirs plain ∷ []) (greeted ++ (our_plain_block ++ text "T\rhi\u{1a}\rFS +\rFF\r")) true
    -- declined, deferred
    ∷ example (proposed_trial (receiving (text "FS -\r") ∷ [])) (2 ∷ []) [] (greeted ++ our_plain_block) false
    ∷ example (proposed_trial (receiving (text "FS =\rFF\r") ∷ giving 99 ∷ [])) (0 ∷ []) [] (greeted ++ (our_plain_block ++ text "FQ\r")) true
    -- a byte while bytes wait: nothing is marked and nothing more is said
    ∷ example (proposed_trial (receiving (text "FS +\r") ∷ giving 5 ∷ receiving (text "FF\r") ∷ giving 99 ∷ receiving (text "FF\r") ∷ [])) (0 ∷ []) [] (greeted ++ (our_plain_block ++ text "T\rhi\u{1a}")) true
    ∷ example (framed_trial (receiving (text "FS +\rFF\r") ∷ giving 99 ∷ [])) (0 ∷ []) [] framed_ours true
    -- framed, and marked at the partner's FF, before our FQ
    ∷ example (framed_trial (receiving (text "FS +\r") ∷ giving 99 ∷ receiving (text "FF\r") ∷ giving 99 ∷ [])) (1 ∷ []) [] (framed_ours ++ (framed_text ++ text "FQ\r")) true
    -- a packed message of the partner's, then our FF
    ∷ example (framed_trial (receiving (text "fs +\r") ∷ giving 99 ∷ receiving (text "; hi\rfa b D E F Y1 3\rf>\r") ∷ giving 99 ∷ receiving (1 ∷ 4 ∷ 85 ∷ 0 ∷ 48 ∷ 0 ∷ 2 ∷ 3 ∷ 10 ∷ 121 ∷ 111 ∷ 4 ∷ 14 ∷ []) ∷ giving 99 ∷ []))
    (1 ∷ []) (theirs message ∷ []) (framed_ours ++ (framed_text ++ text "FS +\rFF\r")) false
    -- the signs of level 1 (02, Q-6): accepted, with an offset of 0 too; declined; deferred. At level 0 they are no signs, and we say why
    ∷ example (framed_at1 (receiving (text "FS h\r") ∷ giving 99 ∷ receiving (text "FF\r") ∷ giving 99 ∷ [])) (1 ∷ []) [] (framed_ours ++ (framed_text ++ text "FQ\r")) true
    ∷ example (framed_at1 (receiving (text "FS !00\r") ∷ giving 99 ∷ receiving (text "FF\r") ∷ giving 99 ∷ [])) (1 ∷ []) [] (framed_ours ++ (framed_text ++ text "FQ\r")) true
    ∷ example (framed_at1 (receiving (text "FS R\rFF\r") ∷ giving 99 ∷ [])) (2 ∷ []) [] (framed_ours ++ text "FQ\r") true
    ∷ example (framed_at1 (receiving (text "FS A1536\rFF\r") ∷ giving 99 ∷ [])) (0 ∷ []) [] (framed_ours ++ text "FQ\r") true
    ∷ example (framed_trial (receiving (text "FS R\rFF\r") ∷ giving 99 ∷ [])) (0 ∷ []) [] (framed_ours ++ text "*** Protocol error\r") true
    ∷ []
