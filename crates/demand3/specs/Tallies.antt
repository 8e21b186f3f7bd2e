-- The panel's numbers in whole sessions (02, Q-3), by the log of what it is told; the sessions and their numbers are those of crates/session. Proved by
-- computation (proofs/Tallies).
use Rattle.std.specs.Prelude.{List, [], ◌∷◌, map, ℕ}
use Rattle.mail.specs.Tally.{waiting_count, waiting_bytes}
use Rattle.session.specs.Sessions.{Move, hears, takes}
use Rattle.session.specs.Tallies.{Panel, Sample}
use Rattle.session_log.specs.Log.{Log, unsettled}
use Rattle.demand3.specs.Demand.{Call, receiving, giving}
use Rattle.demand3.specs.Tally.{log_told}

abbrev pub move_call : Move → Call
move_call (hears bs) = receiving bs
move_call (takes n) = giving n

abbrev pub log_of : Sample → Log
log_of t = log_told t.shelf t.caller t.found (map move_call t.moves)

-- waiting and their sizes; proposed, forwarded, declined, deferred, not settled
abbrev pub sample_logged : Sample → List ℕ
sample_logged t =
    let l = log_of t in
    waiting_count l.book.states ∷ waiting_bytes t.shelf.table l.book.states ∷ l.course.account.proposed ∷ l.course.account.forwarded
    ∷ l.course.account.declined ∷ l.course.account.deferred ∷ unsettled l.course ∷ []

abbrev pub panel_shown : Panel → List ℕ
panel_shown x = x.waits ∷ x.bytes ∷ x.proposed ∷ x.forwarded ∷ x.declined ∷ x.deferred ∷ x.unsettled ∷ []
