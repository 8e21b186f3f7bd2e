-- DEMAND 2, WHOLE LINES AND TRANSFERS: what receive makes of them, whatever was there before. Theorems: proofs/Units.
use Rattle.std.specs.Prelude.{◌≡◌, Bool, true, not, ◌&&◌, List, [], ◌∷◌, ◌++◌, ℕ, suc, ◌+◌, ◌≤◌, eqb, length}
use Rattle.std.proofs.Math.Option.{some}
use Rattle.grammar.specs.Bytes.{Bytes, CR, LF, null, every}
use Rattle.grammar.specs.Lines.{drop_lf}
use Rattle.grammar.specs.Turns.{Proposal}
use Rattle.grammar.specs.Transfers.{parse}
use Rattle.grammar.specs.Scan.{scan_from}
use Rattle.session.specs.Choices.{Shelf}
use Rattle.session.specs.Session.{Phase, awaits_transfer, Memory, Session, with_part, between, step}
use Rattle.session.specs.Calls.{Received, receive}
use Rattle.demand2.specs.Limits.{kind_due, line_limit}
use Rattle.demand2.specs.Room.{Fits}
use Rattle.demand2.specs.Events.{message_from, with_message, ends_with_cr, transfers_or}

-- A session where a line is awaited and these bytes of it have come; after_cr: an LF now is dropped
abbrev pub line_begun : Phase → Memory → Bool → Bytes → Session
line_begun p m after_cr w = with_part w (between p after_cr [] m)

-- "A line ends with CR.": none of these bytes is one
abbrev pub has_no_cr : Bytes → Bool
has_no_cr u = every (λ (b : ℕ). not (eqb b CR)) u

-- Bytes of a line of at most 256 in all. None of them is refused (`taken`), and with its CR the line is judged as it stands then (`judged`; what the
-- step of that CR is, Refusals and Events say). "One LF directly after the CR that ended a line .. is dropped" and is no byte of the line.
pub record LineWhole (E : Shelf) (p : Phase) (m : Memory) : Type 0 where
  pub taken : (after_cr : Bool) (w u : Bytes) → has_no_cr u ≡ true → length w + length (drop_lf after_cr u) ≤ line_limit
      → receive E (line_begun p m after_cr w) u
      ≡ record { answer = 0; count = length u; session = line_begun p m (after_cr && null u) (w ++ drop_lf after_cr u) }
  pub judged : (after_cr : Bool) (w u : Bytes) → has_no_cr u ≡ true → length w + length (drop_lf after_cr u) ≤ line_limit
      → receive E (line_begun p m after_cr w) (u ++ (CR ∷ []))
      ≡ record {
        answer = (step E (line_begun p m (after_cr && null u) (w ++ drop_lf after_cr u)) CR).answer;
        count = suc (length u);
        session = (step E (line_begun p m (after_cr && null u) (w ++ drop_lf after_cr u)) CR).session;
      }

-- Where the transfer of p is awaited, then those of ps, and none of its bytes has come.
abbrev pub transfer_due : Proposal → List Proposal → Memory → Bool → Session
transfer_due p ps m after_cr = between (awaits_transfer p ps (scan_from (kind_due m p))) after_cr [] m

-- The message is kept, n bytes were consumed, and the next transfer or our turn follows.
abbrev pub kept_with : Shelf → Proposal → List Proposal → Memory → ℕ → Bytes → Bytes → Received
kept_with E p ps m n heading body =
    record { answer = 0; count = n; session = transfers_or E (ends_with_cr (kind_due m p)) [] ps (with_message m (message_from p heading body)) }

-- "A message is kept at its last byte.": a transfer that is right and fits, also directly after the CR of `F>` or of the transfer before it, and
-- also if an LF that is dropped comes between
pub record TransferKept (E : Shelf) (p : Proposal) (ps : List Proposal) (m : Memory) : Type 0 where
  pub kept : (after_cr : Bool) (u heading body : Bytes) → parse (kind_due m p) u ≡ some (record { heading = heading; body = body; right = true })
      → Fits E m.inbox body → receive E (transfer_due p ps m after_cr) u ≡ kept_with E p ps m (length u) heading body
  pub after_lf : (u heading body : Bytes) → parse (kind_due m p) u ≡ some (record { heading = heading; body = body; right = true })
      → Fits E m.inbox body → receive E (transfer_due p ps m true) (LF ∷ u) ≡ kept_with E p ps m (suc (length u)) heading body
