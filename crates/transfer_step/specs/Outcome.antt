-- What one byte of a transfer comes to, on plain values: how far the reading is, the reading after it, and where the byte goes.
use Rattle.std.specs.Prelude.{ℕ}
use Rattle.transfer_step.specs.declared.Reader.{Reader}

-- What the bytes so far are: the beginning of a transfer, a whole one, or refused.
pub data ReadOutcome : Type 0 where
  More Whole Malformed WrongSum NoRoom : ReadOutcome

-- One byte's outcome, the reading after it (before it, unless it goes on), and where the byte goes (Names).
pub record ReadStep : Type 0 where
  pub outcome : ReadOutcome
  pub reader : Reader
  pub put : ℕ
