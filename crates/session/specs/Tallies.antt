-- THE PANEL'S NUMBERS in whole sessions (02, Q-3), step by step: how many records wait and their sizes together; records proposed, forwarded, declined,
-- deferred and not settled yet. Proved by computation (proofs/Tallies); crates/demand3 has the same numbers of the same sessions by the log.
use Rattle.std.specs.Prelude.{Bool, true, false, List, [], ◌∷◌, ◌++◌, ℕ, ◌-◌}
use Rattle.grammar.specs.Ascii.{text}
use Rattle.grammar.specs.Fields.{plain}
use Rattle.mail.specs.Mail.{Record}
use Rattle.mail.specs.Tally.{waiting_count, waiting_bytes}
use Rattle.session.specs.Choices.{Shelf, shelf_with}
use Rattle.session.specs.Session.{Memory, opened}
use Rattle.session.specs.Sessions.{Move, hears, takes, MovesPlayed, played, letter, shelf, waiting}
use Rattle.session.specs.Levels.{packed_shelf, six_waiting}

-- The answer of the last receive, and the numbers; unsettled: what the others leave of proposed.
pub record Panel : Type 0 where
  pub answer : ℕ
  pub waits : ℕ
  pub bytes : ℕ
  pub proposed : ℕ
  pub forwarded : ℕ
  pub declined : ℕ
  pub deferred : ℕ
  pub unsettled : ℕ

-- A shelf and the states that open found, a role (true: caller), moves, and what is shown after them.
pub record Sample : Type 0 where
  pub shelf : Shelf
  pub found : List ℕ
  pub caller : Bool
  pub moves : List Move
  pub shows : Panel

-- 0 before the first
abbrev pub last_answer : List (ℕ × ℕ) → ℕ
last_answer [] = 0
last_answer (r ∷ []) = r.0
last_answer (r ∷ q ∷ rs) = last_answer (q ∷ rs)

abbrev pub panel_of : List Record → ℕ → Memory → Panel
panel_of T answer m =
    record {
      answer = answer;
      waits = waiting_count m.states;
      bytes = waiting_bytes T m.states;
      proposed = m.counts.proposed;
      forwarded = m.counts.forwarded;
      declined = m.counts.declined;
      deferred = m.counts.deferred;
      unsettled = m.counts.proposed - m.counts.forwarded - m.counts.declined - m.counts.deferred;
    }

abbrev pub played_of : Sample → MovesPlayed
played_of t = played t.shelf (opened t.caller t.found) t.moves

abbrev pub panel_after : Sample → Panel
panel_after t = panel_of t.shelf.table (last_answer (played_of t).answers) (played_of t).session.memory

-- ---------------------------------------------------------------- three records

-- one block proposes them all
abbrev pub three_shelf : Shelf
three_shelf =
    shelf_with
    (letter plain (text "X1") 1345 (text "a") ∷ letter plain (text "X2") 5346 (text "b") ∷ letter plain (text "X3") 8548 (text "c") ∷ [])
    (text "K1" ∷ []) 2 3

abbrev pub panel : ℕ → ℕ → ℕ → ℕ → ℕ → ℕ → ℕ → ℕ → Panel
panel n w b p f d e u = record { answer = n; waits = w; bytes = b; proposed = p; forwarded = f; declined = d; deferred = e; unsettled = u }

abbrev pub sample_of : Shelf → List ℕ → Bool → List Move → Panel → Sample
sample_of E found caller ms x = record { shelf = E; found = found; caller = caller; moves = ms; shows = x }

-- Called, with all three waiting: the caller's SID has come.
abbrev pub three : List Move → Panel → Sample
three ms x = sample_of three_shelf (0 ∷ 0 ∷ 0 ∷ []) false (takes 99 ∷ hears (text "[TST-1-F$]\r") ∷ ms) x

-- The partner's FF, our proposals taken, its FS line: the first declined, the second accepted, the third deferred; our transfer waits
abbrev pub proposed_and_answered : List Move → List Move
proposed_and_answered ms = hears (text "FF\r") ∷ takes 99 ∷ hears (text "FS -+=\r") ∷ ms

abbrev pub three_samples : List Sample
three_samples =
    -- nothing is proposed yet; then with the CR of FF, before our turn is given, and after it
    three [] (panel 0 3 15239 0 0 0 0 0)
    ∷ three (hears (text "FF") ∷ []) (panel 0 3 15239 0 0 0 0 0)
    ∷ three (hears (text "FF\r") ∷ []) (panel 0 3 15239 3 0 0 0 3)
    ∷ three (hears (text "FF\r") ∷ takes 5 ∷ takes 99 ∷ hears (text ";\rFS -+=") ∷ []) (panel 0 3 15239 3 0 0 0 3)
    -- at the FS line; while our transfer waits, and given; the deferred one waits and counts no more
    ∷ three (proposed_and_answered []) (panel 0 2 13894 3 0 1 1 1)
    ∷ three (proposed_and_answered (takes 99 ∷ [])) (panel 0 2 13894 3 0 1 1 1)
    -- at the partner's FF, or its F>, and not at the first line of its turn
    ∷ three (proposed_and_answered (takes 99 ∷ hears (text "FF\r") ∷ [])) (panel 0 1 8548 3 1 1 1 0)
    ∷ three (proposed_and_answered (takes 99 ∷ hears (text "FB B D E F K1 1\r") ∷ [])) (panel 0 2 13894 3 0 1 1 1)
    ∷ three (proposed_and_answered (takes 99 ∷ hears (text "FB B D E F K1 1\rF>\r") ∷ [])) (panel 0 1 8548 3 1 1 1 0)
    -- our FF and FQ count nothing, nor does the partner's FQ
    ∷ three (proposed_and_answered (takes 99 ∷ hears (text "FB B D E F K1 1\rF>\r") ∷ takes 99 ∷ hears (text "FQ\r") ∷ [])) (panel 0 1 8548 3 1 1 1 0)
    ∷ three (proposed_and_answered (takes 99 ∷ hears (text "FF\r") ∷ takes 99 ∷ hears (text "FF\r") ∷ [])) (panel 12 1 8548 3 1 1 1 0)
    -- "After a refusal the numbers stay at their last state.": 11 while our transfer waits, while our turn does; the line that says why is given
    ∷ three (proposed_and_answered (takes 4 ∷ hears (text "F") ∷ takes 99 ∷ hears (text "FF\r") ∷ [])) (panel 12 2 13894 3 0 1 1 1)
    ∷ three (proposed_and_answered (takes 4 ∷ hears (text "F") ∷ [])) (panel 11 2 13894 3 0 1 1 1)
    ∷ three (hears (text "FF\rF") ∷ []) (panel 11 3 15239 3 0 0 0 3)
    -- 5, 6 and 13 in a turn after our transfers; FQ where it isn't allowed; 7 and 5 where FS is awaited
    ∷ three (proposed_and_answered (takes 99 ∷ hears (text "FB B D E F Y1 2\rFX\r") ∷ takes 99 ∷ [])) (panel 5 2 13894 3 0 1 1 1)
    ∷ three (proposed_and_answered (takes 99 ∷ hears (text "F>\r") ∷ [])) (panel 6 2 13894 3 0 1 1 1)
    ∷ three (proposed_and_answered (takes 99 ∷ hears (text "FB B D E F Y1 1\rF> DE\r") ∷ takes 99 ∷ [])) (panel 13 2 13894 3 0 1 1 1)
    ∷ three (proposed_and_answered (takes 99 ∷ hears (text "FQ\r") ∷ [])) (panel 5 2 13894 3 0 1 1 1)
    ∷ three (hears (text "FF\r") ∷ takes 99 ∷ hears (text "FS -+\r") ∷ []) (panel 7 3 15239 3 0 0 0 3)
    ∷ three (hears (text "FF\r") ∷ takes 99 ∷ hears (text "FF\r") ∷ []) (panel 5 3 15239 3 0 0 0 3)
    -- our turn with the CR of an F> of which we accept nothing, with the last byte of the partner's transfer, and as caller with the prompt's CR
    ∷ three (hears (text "FB B D E F K1 1\rF>") ∷ []) (panel 0 3 15239 0 0 0 0 0)
    ∷ three (hears (text "FB B D E F K1 1\rF>\r") ∷ []) (panel 0 3 15239 3 0 0 0 3)
    ∷ three (hears (text "FB B D E F Y1 1\rF>\r") ∷ takes 99 ∷ hears (text "U\rv\u{1a}") ∷ []) (panel 0 3 15239 0 0 0 0 0)
    ∷ three (hears (text "FB B D E F Y1 1\rF>\r") ∷ takes 99 ∷ hears (text "U\rv\u{1a}\r") ∷ []) (panel 0 3 15239 3 0 0 0 3)
    ∷ sample_of three_shelf (0 ∷ 0 ∷ 0 ∷ []) true (hears (text "[TST-1-F$]\rhello\r>") ∷ []) (panel 0 3 15239 0 0 0 0 0)
    ∷ sample_of three_shelf (0 ∷ 0 ∷ 0 ∷ []) true (hears (text "[TST-1-F$]\rhello\r>\r") ∷ []) (panel 0 3 15239 3 0 0 0 3)
    -- what is forwarded or declined at open is none of this session's
    ∷ sample_of three_shelf (1 ∷ 0 ∷ 2 ∷ []) true (hears (text "[TST-1-F$]\r>\r") ∷ []) (panel 0 1 5346 1 0 0 0 1)
    ∷ sample_of three_shelf (1 ∷ 1 ∷ 2 ∷ []) true (hears (text "[TST-1-F$]\r>\r") ∷ takes 99 ∷ hears (text "FQ\r") ∷ []) (panel 0 0 0 0 0 0 0 0)
    ∷ []

-- ---------------------------------------------------------------- more than one block, and other signs

abbrev pub other_samples : List Sample
other_samples =
    -- a fourth record, proposed with the same byte that forwards the second; the file waits too, and plain mode never sends it
    sample_of shelf waiting false (takes 99 ∷ hears (text "[TST-1-F$]\r") ∷ proposed_and_answered (takes 99 ∷ hears (text "FF\r") ∷ [])) (panel 0 3 8550 4 1 1 1 1)
    ∷ sample_of shelf waiting false (takes 99 ∷ hears (text "[TST-1-F$]\r") ∷ proposed_and_answered (takes 99 ∷ hears (text "FF\r") ∷ takes 99 ∷ hears (text "FS -\r") ∷ []))
    (panel 0 2 8549 4 1 2 1 0)
    -- 02, Q-6: H accepts, R declines, E and an offset over 0 defer, an offset of 0 accepts
    ∷ sample_of packed_shelf six_waiting false (takes 99 ∷ hears (text "[TST-1-B1F$]\rFF\r") ∷ takes 99 ∷ hears (text "FS HRE!5A0\r") ∷ []) (panel 0 5 5 5 0 1 2 2)
    ∷ sample_of packed_shelf six_waiting false (takes 99 ∷ hears (text "[TST-1-B1F$]\rFF\r") ∷ takes 99 ∷ hears (text "FS HRE!5A0\r") ∷ takes 99 ∷ hears (text "FF\r") ∷ [])
    (panel 0 3 3 5 2 1 2 0)
    ∷ []

abbrev pub samples : List Sample
samples = three_samples ++ other_samples
