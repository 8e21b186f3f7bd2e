-- What a receive leaves alone of the lent bytes.
use Rattle.std.specs.Prelude.{cond, ℕ, ◌+◌, ◌*◌, eqb, ltb}
use Rattle.transfer_read.specs.Meaning.{SameOutside}
use Rattle.session_memory.specs.Session.{Session}
use Rattle.receive_defined.specs.Receiving.{Cs}
use Rattle.phase.specs.Phase.{phase_transfer, phase_leaving}
use Rattle.places.specs.Places.{entry_len}

-- How far the inbox store is written: kept messages, then "the body bytes received so far of the message under way, or of one that
-- failed" (a transfer is awaited, or the session is over).
abbrev pub reach_of : Session → ℕ
reach_of s = s.keep.used + cond (ltb s.now.phase phase_transfer) 0 (cond (eqb s.now.phase phase_leaving) 0 s.reading.reader.body)

-- From c to d only inbox entries from c's count up to d's, and store bytes from where c's reached to where d's reach have changed: "the rest is
-- untouched, and so are inbox places past the count". What changes of the table is OneColumn (crates/form_closed)
pub record Spared (c d : Cs) : Type 0 where
  pub inbox : SameOutside (c.session.keep.kept * entry_len) (d.session.keep.kept * entry_len) c.inbox d.inbox
  pub store : SameOutside (reach_of c.session) (reach_of d.session) c.store d.store
