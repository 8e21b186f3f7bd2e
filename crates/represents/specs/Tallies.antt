-- 02, Q-3: how the seven numbers in session memory stand for what waits on lists, and for the session's counts. A number of the sheet has one byte, so it
-- is a count modulo 256; that no count comes that far is proved over the log.
use Rattle.std.specs.Prelude.{◌≡◌, cond, ◌+◌, ◌%◌, eqb}
use Rattle.grammar.specs.Bytes.{byte_values, four_byte_values}
use Rattle.mail.specs.Tally.{Counts, more_forwarded, more_declined, more_deferred, waiting_count, waiting_bytes}
use Rattle.session.specs.Choices.{Shelf}
use Rattle.session.specs.Session.{Memory}
use Rattle.phase.specs.Phase.{state_forwarded, state_declined}
use Rattle.sheet.specs.declared.Sheet.{Sheet}
use Rattle.session_memory.specs.declared.Tally.{Tally}
use Rattle.line_effect.specs.declared.Marks.{Marks}

-- The sheet stands for these counts; with those not settled it balances.
pub record SheetIs (h : Sheet) (c : Counts) : Type 0 where
  pub proposed : h.proposed ≡ c.proposed % byte_values
  pub forwarded : h.forwarded ≡ c.forwarded % byte_values
  pub declined : h.declined ≡ c.declined % byte_values
  pub deferred : h.deferred ≡ c.deferred % byte_values
  pub balance : (h.forwarded + h.declined + h.deferred + h.unsettled) % byte_values ≡ h.proposed

-- What waits for the partner, by the session's states, and the sheet.
pub record Tallies (E : Shelf) (t : Tally) (m : Memory) : Type 0 where
  pub waiting : t.waiting ≡ waiting_count m.states
  pub sizes : t.sizes ≡ waiting_bytes E.table m.states % four_byte_values
  pub sheet : SheetIs t.sheet m.counts

-- What marks count, on lists.
abbrev pub counts_marked : Marks → Counts → Counts
counts_marked m c =
    cond (eqb m.state state_forwarded) (more_forwarded m.places.count c)
    (cond (eqb m.state state_declined) (more_deferred m.deferred (more_declined m.places.count c)) c)
